-- Maps given by walks, by tests that compute.
use Rattle.std.proofs.Common.{ℕ, ℤ, pos, negsuc, Bool, true, List, [], ◌∷◌, ◌≡◌, ◌<◌, ◌∙◌, ◌&&◌, sym, ap}
use Rattle.std.proofs.Common.{refl, subst, arith, length, map, get_or, nat_eq, nat_lt}
use Rattle.std.specs.List.{All, list_all, range_with_len, slice_index, slice_index_or}
use Rattle.std.proofs.lemmas.Bool.{and_parts, ltb-true, eqb-true}
use Rattle.std.proofs.lemmas.List.{get_or-map, length-map}
use Rattle.std.proofs.lemmas.List.Sums.{AllPass-from_list_all}
use Rattle.std.proofs.lemmas.List.FromFn.{length-range_with_len, get_or-range_with_len}
use Rattle.ideal_tri.specs.Labels.{edge_of, inverse}
use Rattle.ideal_tri.specs.Words.{reduce, IsReduced}
use Rattle.ideal_tri.specs.Triangulations.{edge_count, triangle_of, IsLabel, IsWalk}
use Rattle.ideal_tri.specs.SurfaceLaws.{WalkLaws}
use Rattle.tri_atlas.specs.Maps.{IsOdd, IsMap}
use Rattle.tri_atlas.specs.Arena.{Arena, IsTriIn, triangulation}
use Rattle.free_groupoid.specs.Walks.{DualWalk}
use Rattle.free_groupoid.specs.GroupoidMaps.{substitution, AreImages}

abbrev is_walk : List (List ℤ) → ℕ → List ℤ → ℕ → Bool
is_walk triples s [] t = nat_eq s t
is_walk triples s (x ∷ w) t =
    nat_lt (edge_of x) (edge_count triples)
    && (nat_eq (triangle_of triples x) s && is_walk triples (triangle_of triples (inverse x)) w t)

walked : (triples : List (List ℤ)) (s : ℕ) (w : List ℤ) (t : ℕ) → is_walk triples s w t ≡ true
    → IsWalk triples s w t
walked triples s [] t h = eqb-true s t h
walked triples s (x ∷ w) t h =
    let (label, rest) = and_parts (nat_lt (edge_of x) (edge_count triples)) _ h in
    let (here, on) = and_parts (nat_eq (triangle_of triples x) s) _ rest in
    (ltb-true _ _ label, eqb-true _ _ here, walked triples (triangle_of triples (inverse x)) w t on)

module _ (triples : List (List ℤ)) (walks : List DualWalk) (triangles : List ℕ) where
  -- the walk of the label n runs between the images of its two triangles
  abbrev is_image : ℕ → Bool
  is_image n =
      is_walk triples (slice_index triangles (triangle_of triples (pos n)))
      (slice_index_or (map (λ (w : DualWalk). w.letters) walks) n [])
      (slice_index triangles (triangle_of triples (negsuc n)))

  abbrev is_start : ℕ → Bool
  is_start n =
      nat_eq (slice_index (map (λ (w : DualWalk). w.start) walks) n)
      (slice_index triangles (triangle_of triples (pos n)))

  -- the walks make a map with these images of the triangles
  abbrev pub make_map : Bool
  make_map =
      nat_eq (length walks) (edge_count triples)
      && (nat_eq (length triangles) (length triples)
      && (list_all (λ t. nat_lt t (length triples)) triangles
      && (list_all is_image (range_with_len 0 (edge_count triples))
      && list_all is_start (range_with_len 0 (edge_count triples)))))

  -- a test of each number below n
  at_each : (p : ℕ → Bool) (n k : ℕ) → list_all p (range_with_len 0 n) ≡ true → k < n → p k ≡ true
  at_each p n k h inside =
      let is_k : get_or (range_with_len 0 n) k 0 ≡ k = get_or-range_with_len 0 n k 0 inside ∙ omega arith in
      ap p (sym is_k)
      ∙ AllPass-from_list_all p (range_with_len 0 n) h k 0 (omega (arith, length-range_with_len 0 n))

  abbrev words : List (List ℤ)
  words = map (λ (w : DualWalk). w.letters) walks

  image_walk : list_all is_image (range_with_len 0 (edge_count triples)) ≡ true → (n : ℕ) → n < edge_count triples
      → IsWalk triples (slice_index triangles (triangle_of triples (pos n))) (get_or words n [])
      (slice_index triangles (triangle_of triples (negsuc n)))
  image_walk h n inside =
      walked triples (slice_index triangles (triangle_of triples (pos n))) (get_or words n [])
      (slice_index triangles (triangle_of triples (negsuc n)))
      (at_each is_image (edge_count triples) n h inside)

  image_walks : WalkLaws triples → list_all is_image (range_with_len 0 (edge_count triples)) ≡ true
      → (x : ℤ) → IsLabel triples x
      → IsWalk triples (slice_index triangles (triangle_of triples x)) (substitution words x)
      (slice_index triangles (triangle_of triples (inverse x)))
  image_walks laws h (pos n) label = image_walk h n label
  image_walks laws h (negsuc n) label =
      laws.back (slice_index triangles (triangle_of triples (pos n))) (slice_index triangles (triangle_of triples (negsuc
      n))) (get_or words n []) (image_walk h n label)

  reduced_words : ((w : List ℤ) → IsReduced (reduce w)) → map reduce words ≡ words → All IsReduced words
  reduced_words laws h k d inside =
      subst IsReduced
      (sym (get_or-map reduce words k d d inside) ∙ ap (λ (ws : List (List ℤ)). get_or ws k d) h)
      (laws (get_or words k d))

  pub made : (arena : Arena) (t : ℕ) → IsTriIn arena t → triangulation arena t ≡ triples → WalkLaws triples
      → ((w : List ℤ) → IsReduced (reduce w)) → ((images : List (List ℤ)) → IsOdd (substitution images))
      → make_map ≡ true → map reduce words ≡ words
      → AreImages arena t t walks triangles
  made arena t here is laws reduced odd h stay =
      let (edges, h1) = and_parts (nat_eq (length walks) (edge_count triples)) _ h in
      let (many, h2) = and_parts (nat_eq (length triangles) (length triples)) _ h1 in
      let (within, h3) = and_parts (list_all (λ u. nat_lt u (length triples)) triangles) _ h2 in
      let (images, starts) = and_parts (list_all is_image (range_with_len 0 (edge_count triples))) _ h3 in
      let per_edge : length walks ≡ edge_count triples = eqb-true _ _ edges in
      let per_triangle : length triangles ≡ length triples = eqb-true _ _ many in
      record {
        maps = record {
          source_in = here;
          target_in = here;
          one_per_edge = length-map walks (λ (w : DualWalk). w.letters) ∙ per_edge
              ∙ ap edge_count (sym is);
          one_per_triangle = per_triangle ∙ ap (λ (ts : List (List ℤ)). length ts) (sym is);
          reduced = reduced_words reduced stay;
          maps = subst (λ (ts : List (List ℤ)). IsMap ts ts (substitution words) (λ u. slice_index triangles u)) (sym is)
              (record {
                odd = odd words;
                within = λ u inside.
                    ltb-true _ (length triples)
                    (AllPass-from_list_all (λ v. nat_lt v (length triples)) triangles within u 0 (omega (arith, per_triangle)));
                walks = image_walks laws images;
              });
        };
        starts = λ n inside.
            subst (λ (ts : List (List ℤ)). slice_index (map (λ (w : DualWalk). w.start) walks) n
            ≡ slice_index triangles (triangle_of ts (pos n))) (sym is)
            (eqb-true _ _ (at_each is_start (edge_count triples) n starts (omega (arith, per_edge))));
      }

-- ---- a conjugation on the once-punctured torus

abbrev pub torus : List (List ℤ)
torus = (pos 0 ∷ pos 1 ∷ pos 2 ∷ []) ∷ (negsuc 0 ∷ negsuc 1 ∷ negsuc 2 ∷ []) ∷ []

abbrev pub from_zero : List ℤ → DualWalk
from_zero w = record { start = 0; letters = w }

-- by 1 -3 at triangle 0, and no step at triangle 1
abbrev conjugates : List DualWalk
conjugates =
    from_zero (pos 2 ∷ negsuc 1 ∷ pos 0 ∷ []) ∷ from_zero (pos 2 ∷ []) ∷ from_zero (pos 2 ∷ negsuc 1 ∷ pos 2 ∷ [])
    ∷ []

conjugation_there : (arena : Arena) → IsTriIn arena 0 → triangulation arena 0 ≡ torus → WalkLaws torus
    → ((w : List ℤ) → IsReduced (reduce w)) → ((images : List (List ℤ)) → IsOdd (substitution images))
    → AreImages arena 0 0 conjugates (0 ∷ 1 ∷ [])
conjugation_there arena here is laws reduced odd =
    made torus conjugates (0 ∷ 1 ∷ []) arena 0 here is laws reduced odd refl refl

-- the same of walks that are made one by one
pub conjugation : (arena : Arena) (s t : ℕ) (walks : List DualWalk) (first second third : DualWalk) (a b c : ℤ)
    → IsTriIn arena 0 → triangulation arena 0 ≡ torus → WalkLaws torus
    → ((w : List ℤ) → IsReduced (reduce w)) → ((images : List (List ℤ)) → IsOdd (substitution images))
    → s ≡ 0 → t ≡ 0 → a ≡ pos 0 → b ≡ negsuc 1 → c ≡ pos 2 → walks ≡ first ∷ second ∷ third ∷ []
    → first ≡ from_zero (c ∷ b ∷ a ∷ []) → second ≡ from_zero (c ∷ []) → third ≡ from_zero (c ∷ b ∷ c ∷ [])
    → AreImages arena s t walks (0 ∷ 1 ∷ [])
conjugation arena s t walks first second third a b c here is laws reduced odd s_is t_is a_is b_is c_is all one two three =
    let is_first : first ≡ from_zero (pos 2 ∷ negsuc 1 ∷ pos 0 ∷ []) =
    one ∙ ap (λ (z : ℤ). from_zero (z ∷ b ∷ a ∷ [])) c_is ∙ ap (λ (z : ℤ). from_zero (pos 2 ∷ z ∷ a ∷ [])) b_is
    ∙ ap (λ (z : ℤ). from_zero (pos 2 ∷ negsuc 1 ∷ z ∷ [])) a_is in
    let is_second : second ≡ from_zero (pos 2 ∷ []) = two ∙ ap (λ (z : ℤ). from_zero (z ∷ [])) c_is in
    let is_third : third ≡ from_zero (pos 2 ∷ negsuc 1 ∷ pos 2 ∷ []) =
    three ∙ ap (λ (z : ℤ). from_zero (z ∷ b ∷ z ∷ [])) c_is
    ∙ ap (λ (z : ℤ). from_zero (pos 2 ∷ z ∷ pos 2 ∷ [])) b_is in
    let is_all : walks ≡ conjugates =
    all ∙ ap (λ (w : DualWalk). w ∷ second ∷ third ∷ []) is_first
    ∙ ap (λ (w : DualWalk). from_zero (pos 2 ∷ negsuc 1 ∷ pos 0 ∷ []) ∷ w ∷ third ∷ []) is_second
    ∙ ap (λ (w : DualWalk). from_zero (pos 2 ∷ negsuc 1 ∷ pos 0 ∷ []) ∷ from_zero (pos 2 ∷ []) ∷ w ∷ []) is_third in
    subst (λ (n : ℕ). AreImages arena n t walks (0 ∷ 1 ∷ [])) (sym s_is)
    (subst (λ (n : ℕ). AreImages arena 0 n walks (0 ∷ 1 ∷ [])) (sym t_is)
    (subst (λ (ws : List DualWalk). AreImages arena 0 0 ws (0 ∷ 1 ∷ [])) (sym is_all)
    (conjugation_there arena here is laws reduced odd)))
