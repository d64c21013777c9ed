-- The map of a word taken several times, in an arena: what is tested of its substitution holds of the map of the moves,
-- and the equations at the edges make it inner.
use Rattle.std.proofs.Common.{ℕ, ℤ, pos, negsuc, List, [], ◌∷◌, ◌++◌, ◌≡◌, ◌<◌, ◌↔◌, sym, ◌∙◌, ap, subst, append_assoc}
use Rattle.std.proofs.Common.{length, get_or}
use Rattle.std.specs.List.{All, flat_map, repeat}
use Rattle.std.proofs.lemmas.List.{append-nil}
use Rattle.ideal_tri.specs.Labels.{inverse}
use Rattle.ideal_tri.specs.SurfaceLaws.{SurfaceLaws}
use Rattle.ideal_tri.specs.Triangulations.{IsLabel, IsWalk, edge_count, triangle_of}
use Rattle.ideal_tri.specs.WordLaws.{ReductionLaws}
use Rattle.ideal_tri.specs.Words.{IsRotation, cyclic_reduce, inverse_word, reduce}
use Rattle.tri_atlas.specs.Arena.{Arena, triangulation}
use Rattle.tri_atlas.specs.MapLaws.{MapLaws, SubstitutionLaws}
use Rattle.tri_atlas.specs.Maps.{IsMap, IsOdd, path_map}
use Rattle.tri_atlas.specs.Moves.{Move}
use Rattle.free_groupoid.specs.GroupoidMaps.{GroupoidMap, substitution, vertex_image}
use Rattle.free_groupoid.specs.Inner.{IsKept}
use Rattle.free_groupoid.specs.InnerLaws.{IsReducedLoop}
use Rattle.free_groupoid.specs.Periodic.{AreInnerWalks}
use Rattle.cert_checker.specs.FirstFailing.{IsFirstFailing, AllPass}
use Rattle.cert_checker.specs.PeriodicRules.{HasOnePathEach, IsPathFrom, IsEquation}
use Rattle.cert_checker.specs.inside.PeriodicParts.{IsPower}
use Rattle.cert_checker.proofs.FirstTests.{all_same, first_same}

-- ---- the other direction of an equation

-- from  p f(x) ~ x q  comes  q f(~x) ~ ~x p, where f(~x) is the way back along f(x)
turned_equation : ReductionLaws → (e : ℕ) (p q image : List ℤ) → reduce (p ++ image) ≡ reduce (pos e ∷ q)
    → reduce (q ++ inverse_word image) ≡ reduce (negsuc e ∷ p)
turned_equation laws e p q image equation =
    let back = inverse_word image in
    let across : List ℤ = negsuc e ∷ [] in
    sym (laws.cancel [] across (q ++ back))
    ∙ laws.right across ((pos e ∷ q) ++ back) ((p ++ image) ++ back)
    (laws.left (pos e ∷ q) (p ++ image) back (sym equation))
    ∙ ap (λ (w : List ℤ). reduce (negsuc e ∷ w)) (append_assoc p image back)
    ∙ ap (λ (w : List ℤ). reduce (negsuc e ∷ (p ++ (image ++ w)))) (sym (append-nil back))
    ∙ laws.cancel (negsuc e ∷ p) image []
    ∙ ap reduce (append-nil (negsuc e ∷ p))

module _ (laws : ReductionLaws) (triples : List (List ℤ)) (f : ℤ → List ℤ) (odd : IsOdd f) (paths : List (List ℤ))
    (at_edges : AllPass (edge_count triples) (IsEquation triples f paths)) where
  equations : (x : ℤ) → IsLabel triples x
      → reduce (get_or paths (triangle_of triples x) [] ++ f x)
      ≡ reduce (x ∷ get_or paths (triangle_of triples (inverse x)) [])
  equations (pos e) label = at_edges e label
  equations (negsuc e) label =
      ap (λ (w : List ℤ). reduce (get_or paths (triangle_of triples (negsuc e)) [] ++ w)) (odd (pos e))
      ∙ turned_equation laws e (get_or paths (triangle_of triples (pos e)) [])
      (get_or paths (triangle_of triples (negsuc e)) []) (f (pos e)) (at_edges e label)

-- ---- maps that agree at labels

pub kept_same : SurfaceLaws → SubstitutionLaws → (triples : List (List ℤ)) (f g : ℤ → List ℤ) (w : List ℤ)
    → ((x : ℤ) → IsLabel triples x → f x ≡ g x) → IsReducedLoop triples w → IsKept f w ↔ IsKept g w
kept_same surface laws triples f g [] same loop = absurd loop
kept_same surface laws triples f g (y ∷ w) same loop =
    let labelled : All (IsLabel triples) (y ∷ w) =
    surface.letters triples (triangle_of triples y) (triangle_of triples y) (y ∷ w) loop.0 in
    let images : flat_map f (y ∷ w) ≡ flat_map g (y ∷ w) =
    laws.agree f g (y ∷ w) (λ k d below. same (get_or (y ∷ w) k d) (labelled k d below)) in (
      λ kept. subst (λ (u : List ℤ). IsRotation (cyclic_reduce u) (y ∷ w)) images kept,
      λ kept. subst (λ (u : List ℤ). IsRotation (cyclic_reduce u) (y ∷ w)) (sym images) kept,
    )

module _ (maps : MapLaws) (arena : Arena) (moves : List Move) (n : ℕ) (f : GroupoidMap)
    (power : IsPower arena moves n f) where
  abbrev base : List (List ℤ)
  base = triangulation arena 0

  abbrev along : ℤ → List ℤ
  along = path_map (repeat n moves)

  of_base : IsMap base base (substitution f.images) (vertex_image f)
  of_base =
      subst (λ (t : ℕ). IsMap base (triangulation arena t) (substitution f.images) (vertex_image f)) power.target
      (subst (λ (s : ℕ). IsMap (triangulation arena s) (triangulation arena f.target) (substitution f.images)
      (vertex_image f)) power.source power.here.maps)

  pub map_of_moves : IsMap base base along (vertex_image f)
  map_of_moves = record {
    odd = maps.paths.odd (repeat n moves);
    within = of_base.within;
    walks = λ x label.
        subst (λ (w : List ℤ). IsWalk base (vertex_image f (triangle_of base x)) w (vertex_image f (triangle_of base
        (inverse x)))) (power.agrees x label) (of_base.walks x label);
  }

  module _ (paths : List (List ℤ)) where
    equation_there : (e : ℕ) → e < edge_count base → IsEquation base (substitution f.images) paths e
        → IsEquation base along paths e
    equation_there e inside equation =
        subst (λ (w : List ℤ). reduce (get_or paths (triangle_of base (pos e)) [] ++ w)
        ≡ reduce (pos e ∷ get_or paths (triangle_of base (negsuc e)) [])) (power.agrees (pos e) inside) equation

    equation_back : (e : ℕ) → e < edge_count base → IsEquation base along paths e
        → IsEquation base (substitution f.images) paths e
    equation_back e inside equation =
        subst (λ (w : List ℤ). reduce (get_or paths (triangle_of base (pos e)) [] ++ w)
        ≡ reduce (pos e ∷ get_or paths (triangle_of base (negsuc e)) [])) (sym (power.agrees (pos e) inside)) equation

    pub first_equation : (place : ℕ)
        → IsFirstFailing (edge_count base) (IsEquation base (substitution f.images) paths) place
        → IsFirstFailing (edge_count base) (IsEquation base along paths) place
    first_equation place =
        first_same (edge_count base) (IsEquation base (substitution f.images) paths) (IsEquation base along paths)
        equation_there equation_back place

    -- the map is inner by the paths
    pub inner_by : ReductionLaws → HasOnePathEach base paths
        → AllPass (length base) (IsPathFrom base (vertex_image f) paths)
        → AllPass (edge_count base) (IsEquation base (substitution f.images) paths)
        → AreInnerWalks base (repeat n moves) paths
    inner_by laws one_each walks at_edges = record {
      one_per_triangle = one_each;
      reduced = λ t below. (walks t below).1;
      inner = record {
        triangles = vertex_image f;
        map = map_of_moves;
        inner = record {
          walks = λ t below. (walks t below).0;
          equations = equations laws base along (maps.paths.odd (repeat n moves)) paths
              (all_same (edge_count base) (IsEquation base (substitution f.images) paths) (IsEquation base along paths)
              equation_there at_edges);
        };
      };
    }
