-- Closed walks that visit no triangle twice: each closed walk with nothing to reduce has one that is no longer.
--
-- If the letters x and y start at one triangle, the piece from x to just before y is a closed walk. It is reduced and
-- not empty, so its cyclic reduction is not empty either, and it is shorter than the whole.
use Rattle.std.proofs.Common.{ℕ, zero, suc, ℤ, List, [], ◌∷◌, ◌++◌, ◌≡◌, ◌≢◌, ◌⊎◌, ◌<◌, ◌≤◌, inl, inr, refl, sym, ◌∙◌, ap}
use Rattle.std.proofs.Common.{subst, arith, length, length-append, map}
use Rattle.std.proofs.lemmas.Bool.{cases_eq}
use Rattle.std.proofs.lemmas.List.{map-append}
use Rattle.ideal_tri.specs.Labels.{inverse}
use Rattle.ideal_tri.specs.Words.{inverse_word, IsReduced, IsRotation, cyclic_reduce}
use Rattle.ideal_tri.specs.Curves.{IsSameCurve}
use Rattle.ideal_tri.specs.Triangulations.{IsWalk, triangle_of}
use Rattle.free_groupoid.specs.InnerLaws.{IsReducedLoop}
use Rattle.multicurve_cert.proofs.Distinct.{Each, Each-append, Each-weaken, Distinct, Distinct-push}
use Rattle.multicurve_cert.proofs.Distinct.{Distinct-step, Distinct-turned}
use Rattle.multicurve_cert.proofs.Known.{Known}
use Rattle.multicurve_cert.proofs.ClosedWalks.{loop_walk, loop_cyclic}
use Rattle.multicurve_cert.proofs.ClosedWalks.{loop-rotation, loop-inverse_word, core_loop}

-- the triangles where the letters start, and where they end
abbrev pub starts : List (List ℤ) → List ℤ → List ℕ
starts triples w = map (triangle_of triples) w

abbrev ends : List (List ℤ) → List ℤ → List ℕ
ends triples w = map (λ x. triangle_of triples (inverse x)) w

-- a closed walk with nothing to reduce that visits no triangle twice
pub record IsSimple (triples : List (List ℤ)) (w : List ℤ) : Type 0 where
  pub loop : IsReducedLoop triples w
  pub once : Distinct (starts triples w)

-- ---- a shorter walk

-- the letters x and y of the word start at one triangle
record Revisits (triples : List (List ℤ)) (w : List ℤ) : Type 0 where
  front : List ℤ
  x : ℤ
  between : List ℤ
  y : ℤ
  rest : List ℤ
  parts : w ≡ front ++ (x ∷ (between ++ (y ∷ rest)))
  same : triangle_of triples x ≡ triangle_of triples y

-- the letter y of the word starts where x does
record Meets (triples : List (List ℤ)) (x : ℤ) (w : List ℤ) : Type 0 where
  before : List ℤ
  y : ℤ
  rest : List ℤ
  parts : w ≡ before ++ (y ∷ rest)
  same : triangle_of triples x ≡ triangle_of triples y

meets_or_not : (triples : List (List ℤ)) (x : ℤ) (w : List ℤ)
    → Meets triples x w ⊎ Each (λ t. triangle_of triples x ≢ t) (starts triples w)
meets_or_not triples x [] = inr tt
meets_or_not triples x (y ∷ w) =
    elim (cases_eq (triangle_of triples x) (triangle_of triples y)) [
      | inl e ↦ inl (record { before = []; y = y; rest = w; parts = refl; same = e })
      | inr n ↦
          elim (meets_or_not triples x w) [
            | inl m ↦
                inl (record {
                  before = y ∷ m.before;
                  y = m.y;
                  rest = m.rest;
                  parts = ap (λ (z : List ℤ). y ∷ z) m.parts;
                  same = m.same;
                })
            | inr none ↦ inr (n, none)
          ]
    ]

revisits_or_once : (triples : List (List ℤ)) (w : List ℤ) → Revisits triples w ⊎ Distinct (starts triples w)
revisits_or_once triples [] = inr tt
revisits_or_once triples (x ∷ w) =
    elim (meets_or_not triples x w) [
      | inl m ↦
          inl (record {
            front = [];
            x = x;
            between = m.before;
            y = m.y;
            rest = m.rest;
            parts = ap (λ (z : List ℤ). x ∷ z) m.parts;
            same = m.same;
          })
      | inr none ↦
          elim (revisits_or_once triples w) [
            | inl r ↦
                inl (record {
                  front = x ∷ r.front;
                  x = r.x;
                  between = r.between;
                  y = r.y;
                  rest = r.rest;
                  parts = ap (λ (z : List ℤ). x ∷ z) r.parts;
                  same = r.same;
                })
            | inr once ↦ inr (none, once)
          ]
    ]

module _ (triples : List (List ℤ)) (k : Known triples) where
  -- a closed walk with nothing to reduce, with fewer letters than w
  record Shorter (w : List ℤ) : Type 0 where
    word : List ℤ
    loop : IsReducedLoop triples word
    short : length word < length w

  -- from the piece between two letters that start at one triangle
  shorter : (w : List ℤ) → IsReducedLoop triples w → Revisits triples w → Shorter w
  shorter w h r =
      let (t, walk) = loop_walk triples w h in
      let (s, front, tail) =
      k.walks.parts t t r.front piece_on (subst (λ (u : List ℤ). IsWalk triples t u t) r.parts walk) in
      let (q, along, rest) = k.walks.parts s t piece (r.y ∷ r.rest) tail in
      let back : q ≡ s = sym rest.1 ∙ sym r.same ∙ along.1 in record {
        word = cyclic_reduce piece;
        loop =
            core_loop triples k s piece (subst (λ (i : ℕ). IsWalk triples s piece i) back along)
            (λ e. let none : piece ≡ [] = sym (k.words.reduction.fixed piece reduced) ∙ e in absurd (cc));
        short = omega (
          arith,
          k.words.cyclic.no_longer piece,
          ap length r.parts,
          length-append r.front piece_on,
          length-append piece (r.y ∷ r.rest),
        );
      }
    where
      piece : List ℤ
      piece = r.x ∷ r.between

      piece_on : List ℤ
      piece_on = r.x ∷ (r.between ++ (r.y ∷ r.rest))

      reduced : IsReduced piece
      reduced =
          k.words.reduction.front piece (r.y ∷ r.rest)
          (k.words.reduction.back r.front piece_on
          (subst IsReduced r.parts (k.words.cyclic.word w (loop_cyclic triples w h))))

  -- a closed walk with nothing to reduce that visits no triangle twice, with no more letters than w
  pub record Simple (w : List ℤ) : Type 0 where
    pub word : List ℤ
    pub simple : IsSimple triples word
    pub short : length word ≤ length w

  simple_within : (n : ℕ) (w : List ℤ) → IsReducedLoop triples w → length w ≤ n → Simple w
  simple_within zero w h few =
      elim (revisits_or_once triples w) [
        | inr once ↦ record { word = w; simple = record { loop = h; once = once }; short = omega arith }
        | inl r ↦ absurd (let s : length (shorter w h r).word < length w = (shorter w h r).short in omega arith)
      ]
  simple_within (suc n) w h few =
      elim (revisits_or_once triples w) [
        | inr once ↦ record { word = w; simple = record { loop = h; once = once }; short = omega arith }
        | inl r ↦
            (let s : Shorter w = shorter w h r in
            let less : length s.word < length w = s.short in
            let found : Simple s.word = simple_within n s.word s.loop (omega arith) in
            let as_short : length found.word ≤ length s.word = found.short in
            record { word = found.word; simple = found.simple; short = omega arith })
      ]

  -- each closed walk with nothing to reduce has such a walk
  pub simple_walk : (w : List ℤ) → IsReducedLoop triples w → Simple w
  simple_walk w h = simple_within (length w) w h (omega arith)

  -- ---- rotations and inverses of simple walks

  simple-rotation : (u v : List ℤ) → IsRotation u v → IsSimple triples u → IsSimple triples v
  simple-rotation u v (a, b, e, f) h = record {
    loop = loop-rotation triples k u v (a, b, e, f) h.loop;
    once = subst Distinct (sym (ap (starts triples) f ∙ map-append (triangle_of triples) b a))
        (Distinct-turned (starts triples a) (starts triples b)
        (subst Distinct (ap (starts triples) e ∙ map-append (triangle_of triples) a b) h.once));
  }

  -- each letter starts where the one before it ends
  ends-starts : (s t : ℕ) (w : List ℤ) → IsWalk triples s w t → s ∷ ends triples w ≡ starts triples w ++ (t ∷ [])
  ends-starts s t [] h = ap (λ (i : ℕ). i ∷ []) h
  ends-starts s t (x ∷ w) h =
      ap (λ (i : ℕ). i ∷ ends triples (x ∷ w)) (sym h.1)
      ∙ ap (λ (is : List ℕ). triangle_of triples x ∷ is) (ends-starts (triangle_of triples (inverse x)) t w h.2)

  each-back : (P : ℕ → Type 0) (w : List ℤ) → Each P (ends triples w) → Each P (starts triples (inverse_word w))
  each-back P [] h = tt
  each-back P (x ∷ w) h =
      subst (Each P) (sym (map-append (triangle_of triples) (inverse_word w) (inverse x ∷ [])))
      (Each-append P (starts triples (inverse_word w)) (triangle_of triples (inverse x) ∷ []) (each-back P w h.1)
      (h.0, tt))

  -- the inverse starts where the letters end
  once-back : (w : List ℤ) → Distinct (ends triples w) → Distinct (starts triples (inverse_word w))
  once-back [] h = tt
  once-back (x ∷ w) h =
      subst Distinct (sym (map-append (triangle_of triples) (inverse_word w) (inverse x ∷ [])))
      (Distinct-push (starts triples (inverse_word w)) (triangle_of triples (inverse x)) (once-back w h.1)
      (each-back (λ t. t ≢ triangle_of triples (inverse x)) w
      (Each-weaken (λ (t : ℕ). triangle_of triples (inverse x) ≢ t) (λ (t : ℕ). t ≢ triangle_of triples (inverse x))
      (λ t n e. n (sym e)) (ends triples w) h.0)))

  once-inverse_word : (w : List ℤ) → IsReducedLoop triples w → Distinct (starts triples w)
      → Distinct (starts triples (inverse_word w))
  once-inverse_word [] h once = tt
  once-inverse_word (x ∷ w) h once =
      let t : ℕ = triangle_of triples x in
      let round : t ∷ ends triples (x ∷ w) ≡ t ∷ (starts triples w ++ (t ∷ [])) = ends-starts t t (x ∷ w) h.0 in
      let turned : ends triples (x ∷ w) ≡ starts triples w ++ (t ∷ []) = cc in
      once-back (x ∷ w) (subst Distinct (sym turned) (Distinct-step t (starts triples w) once))

  -- all words of the curve of a simple walk are simple walks
  pub simple-same_curve : (u v : List ℤ) → IsSameCurve u v → IsSimple triples u → IsSimple triples v
  simple-same_curve u v (inl r) h = simple-rotation u v r h
  simple-same_curve u v (inr r) h =
      simple-rotation (inverse_word u) v r (record {
        loop = loop-inverse_word triples k u h.loop;
        once = once-inverse_word u h.loop h.once;
      })
