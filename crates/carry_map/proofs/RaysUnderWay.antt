-- Rays, made one by one from the walks whose images they are.
use Rattle.std.proofs.Common.{ℕ, suc, ℤ, List, [], ◌∷◌, ◌++◌, ◌≡◌, sym, ◌∙◌, ap, subst, append_assoc, arith, map}
use Rattle.std.specs.Prelude.{Vec}
use Rattle.std.specs.Global.{Global}
use Rattle.std.specs.List.{All}
use Rattle.std.proofs.lemmas.List.{append-nil, map-append}
use Rattle.std.proofs.lemmas.List.Elements.{All-nil, All-push}
use Rattle.free_groupoid.specs.Walks.{DualWalk, IsWalkOn}
use Rattle.free_groupoid.specs.GroupoidMaps.{reduced_image}
use Rattle.train_track.specs.Branches.{words_of}
use Rattle.carry_map.specs.inside.Rays.{words_in}

abbrev pub walk_from : ℕ → List ℤ → DualWalk
walk_from start w = record { start = start; letters = w }

-- these rays are made, and those of the words that are left are still to come
pub record AreUnderWay (before after : List (List ℤ)) (f : ℤ → List ℤ) (start image : ℕ) (words : List (List ℤ))
    (rays : List DualWalk) (left : List (Vec ℤ Global)) : Type 0 where
  pub walks : All (λ w. IsWalkOn before (walk_from start w)) (words_in left)
  pub value : words_of rays ++ map (reduced_image f) (words_in left) ≡ map (reduced_image f) words
  pub starts : All (λ w. w.start ≡ image) rays
  pub lead : All (IsWalkOn after) rays

module _ (before after : List (List ℤ)) (f : ℤ → List ℤ) (start image : ℕ) (words : List (List ℤ))
    (rays : List DualWalk) (left : List (Vec ℤ Global)) where
  pub first_ray : rays ≡ [] → words_in left ≡ words → All (λ w. IsWalkOn before (walk_from start w)) words
      → AreUnderWay before after f start image words rays left
  first_ray none is walks = record {
    walks = subst (All (λ w. IsWalkOn before (walk_from start w))) (sym is) walks;
    value = ap (λ (rs : List DualWalk). words_of rs ++ map (reduced_image f) (words_in left)) none
        ∙ ap (map (reduced_image f)) is;
    starts = subst (All (λ (w : DualWalk). w.start ≡ image)) (sym none) (All-nil (λ (w : DualWalk). w.start ≡ image));
    lead = subst (All (IsWalkOn after)) (sym none) (All-nil (IsWalkOn after));
  }

  pub walk_next : (word : Vec ℤ Global) (rest : List (Vec ℤ Global))
      → AreUnderWay before after f start image words rays left → left ≡ word ∷ rest
      → IsWalkOn before (walk_from start word.items)
  walk_next word rest h is =
      subst (λ (vs : List (Vec ℤ Global)). All (λ w. IsWalkOn before (walk_from start w)) (words_in vs)) is h.walks
      0 [] (omega arith)

  pub ray_more : (word : Vec ℤ Global) (rest : List (Vec ℤ Global)) (ray : DualWalk) (new : List DualWalk)
      → AreUnderWay before after f start image words rays left → left ≡ word ∷ rest
      → ray ≡ record { start = image; letters = reduced_image f word.items } → IsWalkOn after ray
      → new ≡ rays ++ (ray ∷ []) → AreUnderWay before after f start image words new rest
  ray_more word rest ray new h is is_ray leads is_new =
      let now = subst (λ (vs : List (Vec ℤ Global)). AreUnderWay before after f start image words rays vs) is h in
      record {
        walks = λ k d inside. now.walks (suc k) d (omega arith);
        value =
            ap (λ (rs : List DualWalk). words_of rs ++ map (reduced_image f) (words_in rest)) is_new
            ∙ ap (λ (ws : List (List ℤ)). ws ++ map (reduced_image f) (words_in rest))
            (map-append (λ (w : DualWalk). w.letters) rays (ray ∷ [])
            ∙ ap (λ (w : DualWalk). words_of rays ++ (w.letters ∷ [])) is_ray)
            ∙ append_assoc (words_of rays) (reduced_image f word.items ∷ []) (map (reduced_image f) (words_in rest))
            ∙ now.value;
        starts =
            subst (All (λ (w : DualWalk). w.start ≡ image)) (sym is_new)
            (All-push (λ (w : DualWalk). w.start ≡ image) rays ray now.starts (ap (λ (w : DualWalk). w.start) is_ray));
        lead = subst (All (IsWalkOn after)) (sym is_new) (All-push (IsWalkOn after) rays ray now.lead leads);
      }

  pub rays_all : AreUnderWay before after f start image words rays left → left ≡ []
      → words_of rays ≡ map (reduced_image f) words
  rays_all h none =
      let now = subst (λ (vs : List (Vec ℤ Global)). AreUnderWay before after f start image words rays vs) none h in
      sym (append-nil (words_of rays)) ∙ now.value
