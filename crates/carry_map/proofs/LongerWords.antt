-- The words that are made longer end with labels.
use Rattle.std.proofs.Common.{ℤ, List, [], ◌∷◌, ◌++◌, ◌≡◌, sym, subst, length}
use Rattle.std.specs.Prelude.{Vec}
use Rattle.std.specs.Global.{Global}
use Rattle.std.specs.List.{All, flat_map}
use Rattle.std.proofs.lemmas.List.{length-map}
use Rattle.std.proofs.lemmas.List.Elements.{All-contains}
use Rattle.ideal_tri.specs.LabelLaws.{LabelLaws}
use Rattle.ideal_tri.specs.SurfaceLaws.{TriangleLaws}
use Rattle.ideal_tri.specs.Words.{last_of}
use Rattle.ideal_tri.specs.Triangulations.{IsLabel}
use Rattle.carry_map.specs.inside.Rays.{words_in, followers, longer}
use Rattle.carry_map.proofs.ElementsAndPairs.{map_contains, joined_contains, all_from_contains}
use Rattle.carry_map.proofs.WordParts.{last_of-append}
use Rattle.carry_map.proofs.LegalWalks.{follower_is_label}

pub as_many : (vectors : List (Vec ℤ Global)) → length (words_in vectors) ≡ length vectors
as_many vectors = length-map vectors (λ (k : Vec ℤ Global). k.items)

module _ (ts : List (List ℤ)) (out : List ℤ) (labels : LabelLaws) (triangles : TriangleLaws ts) (u : ℤ) where
  abbrev pub EndsWithLabel : List ℤ → Type 0
  EndsWithLabel w = IsLabel ts (last_of u w)

  pub longer_ends : (w : List ℤ) → EndsWithLabel w → All EndsWithLabel (longer ts out u w)
  longer_ends w label =
      all_from_contains EndsWithLabel (longer ts out u w)
      (λ v has.
      let (y, follows, is) = map_contains (λ y. w ++ (y ∷ [])) (followers ts out (last_of u w)) v has in
      subst (λ (k : List ℤ). IsLabel ts (last_of u k)) is
      (subst (IsLabel ts) (sym (last_of-append u w (y ∷ [])))
      (follower_is_label ts out labels triangles (last_of u w) y label follows)))

  pub all_longer_end : (words : List (List ℤ)) → All EndsWithLabel words
      → All EndsWithLabel (flat_map (longer ts out u) words)
  all_longer_end words labels_end =
      all_from_contains EndsWithLabel (flat_map (longer ts out u) words)
      (λ v has.
      let (w, has_w, at) = joined_contains (longer ts out u) words v has in
      All-contains EndsWithLabel (longer ts out u w) v
      (longer_ends w (All-contains EndsWithLabel words w labels_end has_w)) at)
