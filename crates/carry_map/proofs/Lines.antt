-- The line from the end of one reduced word, back along it, and on along another.
--
-- Let back = h b and front = h g be reduced, where b and g begin with different letters or one is empty. The line is
-- the reduction of the inverse of back, and front. The inverse of h meets h and falls away, and what is left, inverse b
-- and then g, is reduced.
--
-- A letter of the line stands in inverse b or in g. In inverse b the walk from where both words begin to where the
-- letter starts is a prefix of back that ends with the inverse of the letter, which stands in b; in g it is a prefix of
-- front, and the letter comes next. Either walk is reduced, as a part of a reduced word. In the first case the walk and
-- the letter cancel, and in the second they don't, so no walk and letter are of both kinds, not even for other words.
use Rattle.std.proofs.Common.{ℕ, ℤ, List, [], ◌∷◌, ◌++◌, ◌≡◌, ◌≤◌, ◌⊎◌, inl, inr, sym}
use Rattle.std.proofs.Common.{◌∙◌, ap, subst, arith, length, append_assoc, length-append}
use Rattle.std.specs.Prelude.{take, drop}
use Rattle.std.specs.List.{flat_map}
use Rattle.std.proofs.lemmas.List.{append-nil, append_cancel_left}
use Rattle.ideal_tri.specs.LabelLaws.{LabelLaws}
use Rattle.ideal_tri.specs.WordLaws.{WordLaws}
use Rattle.ideal_tri.specs.Labels.{inverse}
use Rattle.ideal_tri.specs.Words.{inverse_word, IsReduced, reduce}
use Rattle.carry_map.specs.Anchors.{Place, back_ray, front_ray, line, IsBehind, IsOnLine, IsBefore}
use Rattle.carry_map.specs.inside.Rays.{common_prefix}
use Rattle.carry_map.proofs.CommonPrefixes.{Begins, AreApart, front_of_front, letter_in_parts, behind_common}

-- ---- the two kinds of places

-- the walk is a prefix of the word, and the letter comes next
pub record IsAhead (front : List ℤ) (n : ℕ) (p : Place) : Type 0 where
  pub after : List ℤ
  pub letters : front ≡ p.connect ++ (p.label ∷ after)
  pub far : n ≤ length p.connect

-- the walk is a prefix of the word, and ends with the inverse of the letter
pub record IsReturning (back : List ℤ) (n : ℕ) (p : Place) : Type 0 where
  pub to : List ℤ
  pub beyond : List ℤ
  pub walk : p.connect ≡ to ++ (inverse p.label ∷ [])
  pub letters : back ≡ p.connect ++ beyond
  pub far : n ≤ length to

-- the letters of a word to somewhere, on and back again
module _ (labels : LabelLaws) (words : WordLaws) where
  pub not_both : (back front : List ℤ) (n m : ℕ) (p : Place) → IsReduced front → IsReturning back n p
      → IsAhead front m p → ⊥
  not_both back front n m p reduced returning ahead =
      let is : front ≡ returning.to ++ (inverse p.label ∷ (p.label ∷ ahead.after))
      = ahead.letters ∙ ap (λ (w : List ℤ). w ++ (p.label ∷ ahead.after)) returning.walk
      ∙ append_assoc returning.to (inverse p.label ∷ []) (p.label ∷ ahead.after) in
      let pair = words.reduction.back returning.to (inverse p.label ∷ (p.label ∷ ahead.after))
      (subst IsReduced is reduced) in
      pair.0 (sym (labels.twice p.label))

  reduced_apart : (b g : List ℤ) → IsReduced b → IsReduced g → AreApart b g → IsReduced (inverse_word b ++ g)
  reduced_apart [] g hb hg apart = hg
  reduced_apart (x ∷ b) g hb hg apart =
      subst IsReduced (sym (append_assoc (inverse_word b) (inverse x ∷ []) g))
      (words.reduction.glue (inverse_word b) (inverse x) g (words.reduction.turned (x ∷ b) hb) (front g hg apart))
    where
      front : (k : List ℤ) → IsReduced k → AreApart (x ∷ b) k → IsReduced (inverse x ∷ k)
      front [] hk a = tt
      front (y ∷ k) hk a = ((λ e. a (sym (e ∙ labels.twice x))), hk)

  -- a word taken back again at its end
  pub taken_back : (q s : List ℤ) → IsReduced (q ++ inverse_word s) → reduce ((q ++ inverse_word s) ++ s) ≡ q
  taken_back q s h =
      ap reduce
      (append_assoc q (inverse_word s) s
      ∙ ap (λ (w : List ℤ). q ++ (inverse_word s ++ w)) (sym (words.inverses.twice s) ∙ sym (append-nil _)))
      ∙ words.reduction.cancel q (inverse_word s) []
      ∙ ap reduce (append-nil q)
      ∙ words.reduction.fixed q (words.reduction.front q (inverse_word s) h)

module _ (words : WordLaws) (f : ℤ → List ℤ) (w : List ℤ) where
  pub back_ray_reduced : IsReduced (back_ray f w)
  back_ray_reduced = words.reduction.is_reduced (flat_map f (inverse_word (take 3 w)))

  pub front_ray_reduced : IsReduced (front_ray f w)
  front_ray_reduced = words.reduction.is_reduced (flat_map f (drop 3 w))

-- the rays of a window, taken apart behind their common part
pub record AreRays (f : ℤ → List ℤ) (w h b g : List ℤ) : Type 0 where
  pub back : back_ray f w ≡ h ++ b
  pub front : front_ray f w ≡ h ++ g
  pub apart : AreApart b g

module _ (labels : LabelLaws) (words : WordLaws) (f : ℤ → List ℤ) (w : List ℤ) where
  pub rays : (b : List ℤ) × (g : List ℤ) × AreRays f w (common_prefix (back_ray f w) (front_ray f w)) b g
  rays =
      let (b, g, is_back, is_front, apart) = behind_common labels (back_ray f w) (front_ray f w) in
      (b, g, record { back = is_back; front = is_front; apart = apart })

module _ (labels : LabelLaws) (words : WordLaws) (f : ℤ → List ℤ) (w h b g : List ℤ) (r : AreRays f w h b g) where
  reduced_back : IsReduced (h ++ b)
  reduced_back = subst IsReduced r.back (back_ray_reduced words f w)

  reduced_front : IsReduced (h ++ g)
  reduced_front = subst IsReduced r.front (front_ray_reduced words f w)

  -- the line
  pub line_letters : line f w ≡ inverse_word b ++ g
  line_letters =
      ap reduce
      (ap (λ (k : List ℤ). inverse_word k ++ front_ray f w) r.back
      ∙ ap (λ (k : List ℤ). inverse_word (h ++ b) ++ k) r.front
      ∙ ap (λ (k : List ℤ). k ++ (h ++ g)) (words.inverses.append h b)
      ∙ append_assoc (inverse_word b) (inverse_word h) (h ++ g)
      ∙ ap (λ (k : List ℤ). inverse_word b ++ (inverse_word h ++ (k ++ g))) (sym (words.inverses.twice h)))
      ∙ words.reduction.cancel (inverse_word b) (inverse_word h) g
      ∙ words.reduction.fixed (inverse_word b ++ g)
      (reduced_apart labels words b g (words.reduction.back h b reduced_back) (words.reduction.back h g reduced_front)
      r.apart)

  -- ---- from the line to the kinds

  ahead_from_line : (p : Place) (m after : List ℤ) → p.connect ≡ reduce ((h ++ b) ++ (inverse_word b ++ m))
      → g ≡ m ++ (p.label ∷ after) → IsAhead (front_ray f w) (length h) p
  ahead_from_line p m after reached is =
      let e : front_ray f w ≡ (h ++ m) ++ (p.label ∷ after)
      = r.front ∙ ap (λ (k : List ℤ). h ++ k) is ∙ sym (append_assoc h m (p.label ∷ after)) in
      let part : IsReduced (h ++ m)
      = words.reduction.front (h ++ m) (p.label ∷ after) (subst IsReduced e (front_ray_reduced words f w)) in
      let walk : p.connect ≡ h ++ m
      = reached ∙ ap reduce (append_assoc h b (inverse_word b ++ m)) ∙ words.reduction.cancel h b m
      ∙ words.reduction.fixed (h ++ m) part in
      record {
        after = after;
        letters = e ∙ ap (λ (k : List ℤ). k ++ (p.label ∷ after)) (sym walk);
        far = subst (λ (k : List ℤ). length h ≤ length k) (sym walk) (omega (arith, length-append h m));
      }

  returning_from_line : (p : Place) (before m : List ℤ) → p.connect ≡ reduce ((h ++ b) ++ before)
      → inverse_word b ≡ before ++ (p.label ∷ m) → IsReturning (back_ray f w) (length h) p
  returning_from_line p before m reached is =
      let b_is : b ≡ (inverse_word m ++ (inverse p.label ∷ [])) ++ inverse_word before
      = sym (words.inverses.twice b) ∙ ap inverse_word is ∙ words.inverses.append before (p.label ∷ m) in
      let q : List ℤ = (h ++ inverse_word m) ++ (inverse p.label ∷ []) in
      let hb_is : h ++ b ≡ q ++ inverse_word before
      = ap (λ (k : List ℤ). h ++ k) b_is
      ∙ sym (append_assoc h (inverse_word m ++ (inverse p.label ∷ [])) (inverse_word before))
      ∙ ap (λ (k : List ℤ). k ++ inverse_word before)
      (sym (append_assoc h (inverse_word m) (inverse p.label ∷ []))) in
      let walk : p.connect ≡ q
      = reached ∙ ap (λ (k : List ℤ). reduce (k ++ before)) hb_is
      ∙ taken_back labels words q before (subst IsReduced hb_is reduced_back) in
      record {
        to = h ++ inverse_word m;
        beyond = inverse_word before;
        walk = walk;
        letters = r.back ∙ hb_is ∙ ap (λ (k : List ℤ). k ++ inverse_word before) (sym walk);
        far = omega (arith, length-append h (inverse_word m));
      }

  pub kind_from_line : (p : Place) → IsOnLine f w p
      → IsReturning (back_ray f w) (length h) p ⊎ IsAhead (front_ray f w) (length h) p
  kind_from_line p (before, behind) =
      let reached : p.connect ≡ reduce ((h ++ b) ++ before)
      = behind.reached ∙ ap (λ (k : List ℤ). reduce (k ++ before)) r.back in
      elim (letter_in_parts (inverse_word b) g before p.label behind.after (sym line_letters ∙ behind.letters)) [
        | inl (m, is, rest) ↦ inl (returning_from_line p before m reached is)
        | inr (m, is, rest) ↦
            inr (ahead_from_line p m behind.after
            (reached ∙ ap (λ (k : List ℤ). reduce ((h ++ b) ++ k)) is) rest)
      ]

  -- ---- from the kinds to the line

  -- the part of the walk behind h
  ahead_part : (p : Place) → IsAhead (front_ray f w) (length h) p
      → (m : List ℤ) × (p.connect ≡ h ++ m) × (after : List ℤ) × (g ≡ m ++ (p.label ∷ after))
  ahead_part p k =
      let (m, is, rest) = front_of_front h g p.connect (p.label ∷ k.after) (sym r.front ∙ k.letters) k.far in
      (m, is, k.after, rest)

  behind_ahead : (p : Place) (m after : List ℤ) → p.connect ≡ h ++ m → g ≡ m ++ (p.label ∷ after)
      → IsBehind f w (inverse_word b ++ m) p
  behind_ahead p m after walk is =
      let part : IsReduced (h ++ m)
      = words.reduction.front (h ++ m) (p.label ∷ after)
      (subst IsReduced (ap (λ (k : List ℤ). h ++ k) is ∙ sym (append_assoc h m (p.label ∷ after))) reduced_front) in
      record {
        after = after;
        letters =
            line_letters ∙ ap (λ (k : List ℤ). inverse_word b ++ k) is
            ∙ sym (append_assoc (inverse_word b) m (p.label ∷ after));
        reached =
            walk ∙ sym (words.reduction.fixed (h ++ m) part) ∙ sym (words.reduction.cancel h b m)
            ∙ ap reduce (sym (append_assoc h b (inverse_word b ++ m)))
            ∙ ap (λ (k : List ℤ). reduce (k ++ (inverse_word b ++ m))) (sym r.back);
      }

  -- the part of the way there behind h
  returning_part : (p : Place) (k : IsReturning (back_ray f w) (length h) p)
      → (m : List ℤ) × (b ≡ m ++ (inverse p.label ∷ k.beyond))
  returning_part p k =
      let e : h ++ b ≡ k.to ++ (inverse p.label ∷ k.beyond)
      = sym r.back ∙ k.letters ∙ ap (λ (v : List ℤ). v ++ k.beyond) k.walk
      ∙ append_assoc k.to (inverse p.label ∷ []) k.beyond in
      let (m, is, rest) = front_of_front h b k.to (inverse p.label ∷ k.beyond) e k.far in
      (m, rest)

  -- the line up to the letter and on from it
  returning_line : (p : Place) (m d : List ℤ) → b ≡ m ++ (inverse p.label ∷ d)
      → inverse_word b ≡ inverse_word d ++ (p.label ∷ inverse_word m)
  returning_line p m d is =
      ap inverse_word is ∙ words.inverses.append m (inverse p.label ∷ d)
      ∙ append_assoc (inverse_word d) (inverse (inverse p.label) ∷ []) (inverse_word m)
      ∙ ap (λ (z : ℤ). inverse_word d ++ (z ∷ inverse_word m)) (labels.twice p.label)

  behind_returning : (p : Place) (k : IsReturning (back_ray f w) (length h) p)
      → IsBehind f w (inverse_word k.beyond) p
  behind_returning p k =
      let (m, is) = returning_part p k in
      record {
        after = inverse_word m ++ g;
        letters =
            line_letters ∙ ap (λ (v : List ℤ). v ++ g) (returning_line p m k.beyond is)
            ∙ append_assoc (inverse_word k.beyond) (p.label ∷ inverse_word m) g;
        reached =
            sym (taken_back labels words p.connect (inverse_word k.beyond)
            (subst (λ (v : List ℤ). IsReduced (p.connect ++ v)) (sym (words.inverses.twice k.beyond))
            (subst IsReduced k.letters (back_ray_reduced words f w))))
            ∙ ap (λ (v : List ℤ). reduce ((p.connect ++ v) ++ inverse_word k.beyond)) (words.inverses.twice k.beyond)
            ∙ ap (λ (v : List ℤ). reduce (v ++ inverse_word k.beyond)) (sym k.letters);
      }

  pub line_from_ahead : (p : Place) → IsAhead (front_ray f w) (length h) p → IsOnLine f w p
  line_from_ahead p k =
      let (m, walk, after, is) = ahead_part p k in
      (inverse_word b ++ m, behind_ahead p m after walk is)

  pub line_from_returning : (p : Place) → IsReturning (back_ray f w) (length h) p → IsOnLine f w p
  line_from_returning p k = (inverse_word k.beyond, behind_returning p k)

  -- ---- the order on the line

  pub before_ahead : (p q : Place) → IsAhead (front_ray f w) (length h) p → IsAhead (front_ray f w) (length h) q
      → Begins q.connect (p.connect ++ (p.label ∷ [])) → IsBefore f w p q
  before_ahead p q kp kq (e, on) =
      let (m, walk, after, is) = ahead_part p kp in
      let (n, walk_q, after_q, is_q) = ahead_part q kq in
      let n_is : n ≡ m ++ (p.label ∷ e)
      = append_cancel_left h n (m ++ (p.label ∷ e))
      (sym walk_q ∙ on ∙ append_assoc p.connect (p.label ∷ []) e
      ∙ ap (λ (v : List ℤ). v ++ (p.label ∷ e)) walk ∙ append_assoc h m (p.label ∷ e)) in
      let place : inverse_word b ++ n ≡ (inverse_word b ++ m) ++ (p.label ∷ e)
      = ap (λ (v : List ℤ). inverse_word b ++ v) n_is ∙ sym (append_assoc (inverse_word b) m (p.label ∷ e)) in (
        inverse_word b ++ m,
        e,
        behind_ahead p m after walk is,
        subst (λ (v : List ℤ). IsBehind f w v q) place (behind_ahead q n after_q walk_q is_q),
      )

  pub before_returning : (p q : Place) → IsReturning (back_ray f w) (length h) p
      → IsReturning (back_ray f w) (length h) q
      → (e : List ℤ) × (p.connect ≡ q.connect ++ (e ++ (inverse p.label ∷ []))) → IsBefore f w p q
  before_returning p q kp kq (e, on) =
      let last : List ℤ = e ++ (inverse p.label ∷ []) in
      let beyond : kq.beyond ≡ last ++ kp.beyond
      = append_cancel_left q.connect kq.beyond (last ++ kp.beyond)
      (sym kq.letters ∙ kp.letters ∙ ap (λ (v : List ℤ). v ++ kp.beyond) on
      ∙ append_assoc q.connect last kp.beyond) in
      let place : inverse_word kq.beyond ≡ inverse_word kp.beyond ++ (p.label ∷ inverse_word e)
      = ap inverse_word beyond ∙ words.inverses.append last kp.beyond
      ∙ ap (λ (v : List ℤ). inverse_word kp.beyond ++ v) (words.inverses.append e (inverse p.label ∷ []))
      ∙ ap (λ (z : ℤ). inverse_word kp.beyond ++ (z ∷ inverse_word e)) (labels.twice p.label) in (
        inverse_word kp.beyond,
        inverse_word e,
        behind_returning p kp,
        subst (λ (v : List ℤ). IsBehind f w v q) place (behind_returning q kq),
      )

  pub before_across : (p q : Place) → IsReturning (back_ray f w) (length h) p
      → IsAhead (front_ray f w) (length h) q → IsBefore f w p q
  before_across p q kp kq =
      let (m, is) = returning_part p kp in
      let (n, walk_q, after_q, is_q) = ahead_part q kq in
      let place : inverse_word b ++ n ≡ inverse_word kp.beyond ++ (p.label ∷ (inverse_word m ++ n))
      = ap (λ (v : List ℤ). v ++ n) (returning_line p m kp.beyond is)
      ∙ append_assoc (inverse_word kp.beyond) (p.label ∷ inverse_word m) n in (
        inverse_word kp.beyond,
        inverse_word m ++ n,
        behind_returning p kp,
        subst (λ (v : List ℤ). IsBehind f w v q) place (behind_ahead q n after_q walk_q is_q),
      )
