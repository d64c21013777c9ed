-- Legal walks from a switch to a switch, and the passes that they are cut into.
--
-- The letters of a pass are a branch: a legal walk of at least two letters from a switch to a switch. So what is glued
-- from passes is legal and ends at a switch, and passes are split where their walks are.
use Rattle.std.proofs.Common.{ℕ, ℤ, Bool, true, false, List, [], ◌∷◌, ◌++◌, ◌≡◌, ◌<◌, inl, inr}
use Rattle.std.proofs.Common.{refl, sym, ◌∙◌, ap, subst, append_assoc, length}
use Rattle.std.proofs.Common.{get_or, if◌then◌else◌}
use Rattle.std.specs.List.{All}
use Rattle.std.proofs.lemmas.List.Elements.{All-nil, All-cons, All-head, All-tail, All-append}
use Rattle.ideal_tri.specs.Labels.{inverse}
use Rattle.ideal_tri.specs.Words.{inverse_word, last_of}
use Rattle.ideal_tri.specs.Triangulations.{IsLabel, IsWalk, triangle_of}
use Rattle.ideal_tri.specs.SurfaceLaws.{SurfaceLaws}
use Rattle.free_groupoid.specs.Walks.{DualWalk, IsWalkOn}
use Rattle.train_track.specs.Tracks.{IsLegal, IsLegalPair, is_switch}
use Rattle.train_track.specs.Branches.{IsBranch, letter_at}
use Rattle.train_track.specs.Passes.{Pass, letters_of, AreGlued, IsFromSwitchToSwitch}
use Rattle.carry_map.proofs.TrackKnown.{TrackKnown}
use Rattle.carry_map.proofs.WordParts.{last_of-append, last_read, all_last, neighbours_joined}

-- a legal walk from a switch to a switch
pub record IsBetween (ts : List (List ℤ)) (out : List ℤ) (x : ℤ) (u : List ℤ) : Type 0 where
  pub labels : All (IsLabel ts) (x ∷ u)
  pub legal : IsLegal ts out (x ∷ u)
  pub begins : is_switch ts out x ≡ true
  pub ends : is_switch ts out (last_of x u) ≡ true

branch_between : SurfaceLaws → (ts : List (List ℤ)) (out : List ℤ) (x : ℤ) (u : List ℤ) → IsBranch ts out (x ∷ u)
    → IsBetween ts out x u
branch_between surfaces ts out x u h = record {
  labels = surfaces.letters ts (triangle_of ts h.first) (triangle_of ts (inverse h.last)) (x ∷ u) h.walk;
  legal = h.legal;
  begins =
      subst (λ (y : ℤ). is_switch ts out y ≡ true)
      (sym (ap (λ (w : List ℤ). letter_at w 0) h.letters)) h.begins;
  ends =
      subst (λ (y : ℤ). is_switch ts out y ≡ true)
      (sym (last_read x u (h.first ∷ h.between) h.last h.letters)) h.ends;
}

module _ (ts : List (List ℤ)) (out : List ℤ) (bs : List (List ℤ)) (k : TrackKnown ts out bs) where
  -- ---- one pass

  -- its letters are a branch
  pass_branch : (p : Pass) → p.branch < length bs → IsBranch ts out (letters_of bs p)
  pass_branch p within = go p.forwards
    where
      go : (b : Bool) → IsBranch ts out (if b then get_or bs p.branch [] else inverse_word (get_or bs p.branch []))
      go true = k.list.branch p.branch [] within
      go false = k.branch_laws.back (get_or bs p.branch []) (k.list.branch p.branch [] within)

  pub pass_between : (p : Pass) (x : ℤ) (u : List ℤ) → p.branch < length bs → letters_of bs p ≡ x ∷ u
      → IsBetween ts out x u
  pass_between p x u within is =
      branch_between k.surfaces ts out x u (subst (IsBranch ts out) is (pass_branch p within))

  -- ---- passes one after another

  pub labels : (x : ℤ) (passes : List Pass) (w : List ℤ) → IsLabel ts x → AreGlued bs x passes w
      → All (IsLabel ts) (x ∷ w)
  labels x [] w l h =
      subst (λ (z : List ℤ). All (IsLabel ts) (x ∷ z)) (sym h) (All-cons (IsLabel ts) x [] l (All-nil (IsLabel ts)))
  labels x (p ∷ passes) w l (u, v, within, is, split, rest) =
      let all : All (IsLabel ts) (x ∷ u) = (pass_between p x u within is).labels in
      subst (λ (z : List ℤ). All (IsLabel ts) (x ∷ z)) (sym split)
      (All-append (IsLabel ts) (x ∷ u) v all
      (All-tail (IsLabel ts) (last_of x u) v (labels (last_of x u) passes v (all_last (IsLabel ts) x u all) rest)))

  pub legal : (x : ℤ) (passes : List Pass) (w : List ℤ) → AreGlued bs x passes w → IsLegal ts out (x ∷ w)
  legal x [] w h = subst (λ (z : List ℤ). IsLegal ts out (x ∷ z)) (sym h) tt
  legal x (p ∷ passes) w (u, v, within, is, split, rest) =
      subst (λ (z : List ℤ). IsLegal ts out (x ∷ z)) (sym split)
      (neighbours_joined (IsLegalPair ts out) x u v (pass_between p x u within is).legal
      (legal (last_of x u) passes v rest))

  pub end : (x : ℤ) (passes : List Pass) (w : List ℤ) → is_switch ts out x ≡ true → AreGlued bs x passes w
      → is_switch ts out (last_of x w) ≡ true
  end x [] w s h = subst (λ (z : List ℤ). is_switch ts out (last_of x z) ≡ true) (sym h) s
  end x (p ∷ passes) w s (u, v, within, is, split, rest) =
      subst (λ (z : ℤ). is_switch ts out z ≡ true) (sym (ap (last_of x) split ∙ last_of-append x u v))
      (end (last_of x u) passes v (pass_between p x u within is).ends rest)

  pub split : (x : ℤ) (first second : List Pass) (w : List ℤ) → AreGlued bs x (first ++ second) w
      → (u : List ℤ) × (v : List ℤ) × (w ≡ u ++ v) × AreGlued bs x first u × AreGlued bs (last_of x u) second v
  split x [] second w h = ([], w, refl, refl, h)
  split x (p ∷ first) second w (a, b, within, is, parts, rest) =
      let (u, v, e, front, back) = split (last_of x a) first second b rest in (
        a ++ u,
        v,
        parts ∙ ap (λ (z : List ℤ). a ++ z) e ∙ sym (append_assoc a u v),
        (a, u, within, is, refl, front),
        subst (λ (y : ℤ). AreGlued bs y second v) (sym (last_of-append x a u)) back,
      )

  -- ---- the passes of a legal walk

  pair_triangle : (u v : ℤ) → IsLabel ts u → IsLabel ts v → IsLegalPair ts out u v
      → triangle_of ts (inverse u) ≡ triangle_of ts v
  pair_triangle u v l m h = elim h.used [
    | inl (e, at) ↦ sym (ap (triangle_of ts) e ∙ k.triangles.stays (inverse u) (k.labels.label ts u l))
    | inr (e, at) ↦ ap (triangle_of ts) e ∙ k.triangles.stays v m
  ]

  legal_walk : (x : ℤ) (w : List ℤ) → All (IsLabel ts) (x ∷ w) → IsLegal ts out (x ∷ w)
      → IsWalk ts (triangle_of ts x) (x ∷ w) (triangle_of ts (inverse (last_of x w)))
  legal_walk x [] are h = (All-head (IsLabel ts) x [] are, refl, refl)
  legal_walk x (y ∷ w) are h =
      let l : IsLabel ts x = All-head (IsLabel ts) x (y ∷ w) are in
      let rest : All (IsLabel ts) (y ∷ w) = All-tail (IsLabel ts) x (y ∷ w) are in (
        l,
        refl,
        subst (λ (t : ℕ). IsWalk ts t (y ∷ w) (triangle_of ts (inverse (last_of y w))))
            (sym (pair_triangle x y l (All-head (IsLabel ts) y w rest) h.0)) (legal_walk y w rest h.1),
      )

  pub cut : (x : ℤ) (w : List ℤ) → All (IsLabel ts) (x ∷ w) → IsLegal ts out (x ∷ w) → is_switch ts out x ≡ true
      → is_switch ts out (last_of x w) ≡ true
      → (passes : List Pass) × AreGlued bs x passes w
  cut x [] are h s e = ([], refl)
  cut x (y ∷ w) are h s e = k.list_laws.passes walk here
    where
      walk : DualWalk
      walk = record { start = triangle_of ts x; letters = x ∷ (y ∷ w) }

      on : IsWalkOn ts walk
      on = record {
        start_in = k.triangles.triangle x (All-head (IsLabel ts) x (y ∷ w) are);
        end = triangle_of ts (inverse (last_of y w));
        leads = legal_walk x (y ∷ w) are h;
      }

      here : IsFromSwitchToSwitch ts out walk
      here = record {
        walk = on;
        legal = h;
        first = x;
        second = y;
        rest = w;
        letters = refl;
        begins = s;
        ends = e;
      }
