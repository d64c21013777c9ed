-- Closed walks with nothing to reduce: their rotations, their inverses, and the cyclic reduction of a closed walk, which
-- is empty only where it reduces to nothing.
use Rattle.std.proofs.Common.{ℕ, ℤ, List, [], ◌∷◌, ◌++◌, ◌≡◌, ◌≢◌, refl, sym, ◌∙◌, ap}
use Rattle.std.proofs.Common.{◌<◌, subst, arith, length, length-append}
use Rattle.std.proofs.lemmas.List.{append-nil}
use Rattle.ideal_tri.specs.Labels.{inverse}
use Rattle.ideal_tri.specs.Words.{inverse_word, reduce, IsRotation, IsCyclicallyReduced}
use Rattle.ideal_tri.specs.Words.{cyclic_reduce}
use Rattle.ideal_tri.specs.Triangulations.{IsWalk, triangle_of}
use Rattle.free_groupoid.specs.InnerLaws.{IsReducedLoop}
use Rattle.multicurve_cert.proofs.Known.{Known}

not_empty : (w : List ℤ) (x : ℤ) → w ++ (x ∷ []) ≢ []
not_empty w x e = let long : length (w ++ (x ∷ [])) ≡ 0 = ap length e in omega (arith, length-append w (x ∷ []))

-- ---- loops

pub loop_walk : (triples : List (List ℤ)) (w : List ℤ) → IsReducedLoop triples w → (t : ℕ) × IsWalk triples t w t
loop_walk triples [] h = absurd h
loop_walk triples (x ∷ w) h = (triangle_of triples x, h.0)

pub loop_cyclic : (triples : List (List ℤ)) (w : List ℤ) → IsReducedLoop triples w → IsCyclicallyReduced w
loop_cyclic triples [] h = absurd h
loop_cyclic triples (x ∷ w) h = h.1

-- a closed walk with nothing to reduce, from any triangle, is one from the triangle of its first letter
loop_of : (triples : List (List ℤ)) (t : ℕ) (w : List ℤ) → IsWalk triples t w t → w ≢ [] → IsCyclicallyReduced w
    → IsReducedLoop triples w
loop_of triples t [] h some c = absurd (some refl)
loop_of triples t (x ∷ w) h some c = (subst (λ (i : ℕ). IsWalk triples i (x ∷ w) i) (sym h.1) h, c)

loop_letters : (triples : List (List ℤ)) (w : List ℤ) → IsReducedLoop triples w → 0 < length w
loop_letters triples [] h = absurd h
loop_letters triples (x ∷ w) h = omega arith

module _ (triples : List (List ℤ)) (k : Known triples) where
  -- a loop may begin at any of its places
  pub loop-rotation : (u v : List ℤ) → IsRotation u v → IsReducedLoop triples u → IsReducedLoop triples v
  loop-rotation u v (a, b, e, f) h =
      let (t, walk) = loop_walk triples u h in
      let (r, front, back) = k.walks.parts t t a b (subst (λ (w : List ℤ). IsWalk triples t w t) e walk) in
      loop_of triples r v
      (subst (λ (w : List ℤ). IsWalk triples r w r) (sym f) (k.walks.join r t r b a back front))
      (λ none. omega (arith, loop_letters triples u h, k.words.rotations.as_long u v (a, b, e, f), ap length none))
      (k.words.cyclic.rotated u v (a, b, e, f) (loop_cyclic triples u h))

  -- the inverse of a loop is a loop
  pub loop-inverse_word : (w : List ℤ) → IsReducedLoop triples w → IsReducedLoop triples (inverse_word w)
  loop-inverse_word [] h = absurd h
  loop-inverse_word (x ∷ w) h =
      let t : ℕ = triangle_of triples x in
      loop_of triples t (inverse_word (x ∷ w)) (k.walks.back t t (x ∷ w) h.0) (not_empty (inverse_word w) (inverse x))
      (k.words.cyclic.turned (x ∷ w) h.1)

  -- ---- the cyclic reduction of a closed walk

  -- it is empty only where the walk reduces to nothing
  core_some : (w : List ℤ) → reduce w ≢ [] → cyclic_reduce w ≢ []
  core_some w some e =
      let (p, shape) = k.words.cyclic.shape w in
      some
      (sym (k.words.reduction.twice w)
      ∙ ap reduce (shape ∙ ap (λ (z : List ℤ). p ++ (z ++ inverse_word p)) e
      ∙ ap (λ (z : List ℤ). p ++ z) (sym (append-nil (inverse_word p))))
      ∙ k.words.reduction.cancel [] p [])

  -- the cyclic reduction of a closed walk that doesn't reduce to nothing
  pub core_loop : (s : ℕ) (w : List ℤ) → IsWalk triples s w s → reduce w ≢ []
      → IsReducedLoop triples (cyclic_reduce w)
  core_loop s w h some =
      let (r, closed) = k.walks.core s w h in
      loop_of triples r (cyclic_reduce w) closed (core_some w some) (k.words.cyclic.is_reduced w)
