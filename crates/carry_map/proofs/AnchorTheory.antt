-- Any choice of where the switches go carries the track, where each branch has its one path.
--
-- Let a branch b lead from x to y, with the walks c_x and c_y to where σ(x) and σ(y) start. A train path p of b
-- satisfies f(b without y) = c_x (p without σ(y)) ~c_y up to reduction, so p = ~c_x f(b without y) c_y σ(y), the one
-- word that can be it; p is reduced, as it is legal and a legal walk never turns back. So a train path is that word,
-- and it has two letters, the right ends, and is legal. Conversely the word is a walk from where σ(x) starts to the
-- end of σ(y), as the walks at x and y are, so where it has these three it is a train path. Where each branch has
-- one, the labels, walks and paths together carry the track.
use Rattle.std.proofs.Common.{ℕ, ℤ, List, [], ◌∷◌, ◌++◌, ◌≡◌, ◌≤◌, sym, ◌∙◌, ap, subst, arith, length}
use Rattle.std.proofs.Common.{get_or}
use Rattle.std.specs.List.{flat_map}
use Rattle.ideal_tri.specs.Labels.{inverse}
use Rattle.ideal_tri.specs.LabelLaws.{LabelLaws}
use Rattle.ideal_tri.specs.SurfaceLaws.{SurfaceLaws}
use Rattle.ideal_tri.specs.WordLaws.{WordLaws}
use Rattle.ideal_tri.specs.Words.{inverse_word, reduce, but_last}
use Rattle.ideal_tri.specs.Triangulations.{IsTriangulation, IsWalk, triangle_of}
use Rattle.tri_atlas.specs.MapLaws.{MapLaws}
use Rattle.tri_atlas.specs.Maps.{IsMap}
use Rattle.train_track.specs.TrackLaws.{TrackLaws}
use Rattle.train_track.specs.Tracks.{IsSingleInTriangles, switches_of}
use Rattle.train_track.specs.Branches.{IsBranch, IsBranchList, letter_at}
use Rattle.carry_map.specs.CarriedMaps.{Carrying, IsTrainPath, IsCarried, goes_to, connection, final}
use Rattle.carry_map.specs.AnchorAnswers.{Fits, train_path}
use Rattle.carry_map.specs.AnchorLaws.{AreConnected, HavePaths, AllAnchorLaws}
use Rattle.carry_map.proofs.SwitchWalks.{path_walk}
use Rattle.carry_map.proofs.TrainPaths.{legal_reduced, solved_for_path, solved_for_image}
use Rattle.carry_map.proofs.WordEnds.{ends_in_final}

module _ (labels : LabelLaws) (surface : SurfaceLaws) (words : WordLaws) (maps : MapLaws) (tracks : TrackLaws)
    (ts : List (List ℤ)) (out : List ℤ) (f : ℤ → List ℤ) (triangles : ℕ → ℕ) (c : Carrying)
    (tri : IsTriangulation ts) (single : IsSingleInTriangles ts out) (map : IsMap ts ts f triangles)
    (connected : AreConnected ts out triangles c) where
  abbrev pub switches : List ℤ
  switches = switches_of ts out

  module _ (b path : List ℤ) where
    -- the walks at the ends of the branch, and the label that its last letter goes to
    abbrev from : List ℤ
    from = connection f switches c (letter_at b 0)

    abbrev to : List ℤ
    to = connection f switches c (final b)

    abbrev last : ℤ
    last = goes_to switches c (final b)

    -- the path as what is before its last letter, and that letter
    ended : (2 ≤ length path) → final path ≡ last → path ≡ but_last path ++ (last ∷ [])
    ended long e =
        ends_in_final path (omega arith) ∙ ap (λ (x : ℤ). but_last path ++ (x ∷ [])) e

    computed : IsTrainPath ts out f c b path → path ≡ train_path switches f c b
    computed is =
        sym (words.reduction.fixed path
        (legal_reduced ts out (tracks.turns ts out tri single).apart (triangle_of ts (letter_at path 0))
        (triangle_of ts (inverse (final path))) path is.walk is.legal))
        ∙ ap reduce (ended is.long is.ends)
        ∙ sym (solved_for_path words (flat_map f (but_last b)) from to (but_last path) (last ∷ []) is.along)

    fitting : IsTrainPath ts out f c b path → Fits ts out c b path
    fitting is = record { long = is.long; begins = is.begins; ends = is.ends; legal = is.legal }

    pub fitted : IsBranch ts out b → path ≡ train_path switches f c b → Fits ts out c b path
        → IsTrainPath ts out f c b path
    fitted is e fits = record {
      long = fits.long;
      walk = walk;
      legal = fits.legal;
      begins = fits.begins;
      ends = fits.ends;
      along =
          solved_for_image words (flat_map f (but_last b)) from to (but_last path) (last ∷ [])
          (sym (words.reduction.twice (inverse_word from ++ (flat_map f (but_last b) ++ (to ++ (last ∷ [])))))
          ∙ ap reduce (sym e ∙ ended fits.long fits.ends));
    }
      where
        walk : IsWalk ts (triangle_of ts (letter_at path 0)) path (triangle_of ts (inverse (final path)))
        walk =
            subst (λ (x : ℤ). IsWalk ts (triangle_of ts x) path (triangle_of ts (inverse (final path))))
            (sym fits.begins)
            (subst (λ (x : ℤ). IsWalk ts (triangle_of ts (goes_to switches c (letter_at b 0))) path
            (triangle_of ts (inverse x))) (sym fits.ends)
            (subst (λ (w : List ℤ). IsWalk ts (triangle_of ts (goes_to switches c (letter_at b 0))) w
            (triangle_of ts (inverse last))) (sym e)
            (path_walk labels ts (surface.walks ts tri) out f triangles c map connected maps.walks tri b is)))

  carried_by : (branches : List (List ℤ)) → IsBranchList ts out branches → HavePaths ts out branches f c
      → IsCarried ts out branches f triangles c
  carried_by branches list have = record {
    one_label_each = connected.one_label_each;
    one_walk_each = connected.one_walk_each;
    one_path_each = have.one_path_each;
    labels = connected.labels;
    switches = connected.switches;
    walks = connected.walks;
    reduced = connected.reduced;
    paths =
        λ j within. fitted (get_or branches j []) (get_or c.images j []) (list.branch j [] within)
        (have.paths j within) (have.fit j within);
  }

pub anchor_theory : LabelLaws → SurfaceLaws → WordLaws → MapLaws → TrackLaws → AllAnchorLaws
anchor_theory labels surface words maps tracks ts out f triangles c tri single map connected = record {
  path = λ b path is. (
    λ h. (
      computed labels surface words maps tracks ts out f triangles c tri single map connected b path h,
      fitting labels surface words maps tracks ts out f triangles c tri single map connected b path h,
    ),
    λ (e, fits). fitted labels surface words maps tracks ts out f triangles c tri single map connected b path is e
        fits,
  );
  carried = carried_by labels surface words maps tracks ts out f triangles c tri single map connected;
}
