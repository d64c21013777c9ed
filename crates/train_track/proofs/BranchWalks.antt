-- The listed branches as walks.
use Rattle.std.proofs.Common.{ℕ, ℤ, List, [], ◌∷◌, ◌≡◌, ◌<◌, refl, sym, ap, subst, map, length}
use Rattle.std.specs.List.{All}
use Rattle.std.proofs.lemmas.List.Elements.{All-map, All-weaker}
use Rattle.ideal_tri.specs.Labels.{inverse}
use Rattle.ideal_tri.specs.LabelLaws.{LabelLaws}
use Rattle.ideal_tri.specs.SurfaceLaws.{TriangleLaws}
use Rattle.ideal_tri.specs.Triangulations.{IsWalk, triangle_of}
use Rattle.free_groupoid.specs.Walks.{IsWalkOn, start_of, walk_of_letters}
use Rattle.train_track.specs.Tracks.{IsSingleInTriangles}
use Rattle.train_track.specs.Branches.{IsBranch, IsBranchList, words_of}
use Rattle.train_track.specs.inside.Growing.{branch_words}
use Rattle.train_track.proofs.Listed.{branch_list}

words_of_walks : (ts : List (List ℤ)) (bs : List (List ℤ)) → words_of (map (walk_of_letters ts) bs) ≡ bs
words_of_walks ts [] = refl
words_of_walks ts (b ∷ bs) = ap (λ (cs : List (List ℤ)). b ∷ cs) (words_of_walks ts bs)

module _ (ts : List (List ℤ)) (out : List ℤ) (labels : LabelLaws) (triangles : TriangleLaws ts)
    (single : IsSingleInTriangles ts out) where
  branch_walk : (b : List ℤ) → IsBranch ts out b → IsWalkOn ts (walk_of_letters ts b)
  branch_walk b h =
      let begins : start_of ts 0 b ≡ triangle_of ts h.first = ap (start_of ts 0) h.letters in
      let t : ℕ = triangle_of ts (inverse h.last) in
      record {
        start_in = subst (λ (n : ℕ). n < length ts) (sym begins)
            (triangles.triangle h.first
            (subst (λ (w : List ℤ). IsWalk ts (triangle_of ts h.first) w t) h.letters h.walk).0);
        end = t;
        leads = subst (λ (n : ℕ). IsWalk ts n b t) (sym begins) h.walk;
      }

  pub walks : All (IsWalkOn ts) (map (walk_of_letters ts) (branch_words ts out))
  walks =
      All-map (IsWalkOn ts) (walk_of_letters ts) (branch_words ts out)
      (All-weaker (IsBranch ts out) (λ b. IsWalkOn ts (walk_of_letters ts b)) branch_walk (branch_words ts out)
      (branch_list ts out labels triangles single).branch)

  pub words : IsBranchList ts out (words_of (map (walk_of_letters ts) (branch_words ts out)))
  words =
      subst (IsBranchList ts out) (sym (words_of_walks ts (branch_words ts out)))
      (branch_list ts out labels triangles single)
