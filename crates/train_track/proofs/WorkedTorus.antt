-- A worked track on the once-punctured torus. With the corners 2 and -3 left out, one in each triangle, its one switch
-- is 1, and its branches are 1 -1 1 and 1 -3 1. The walk 1 -3 1 -1 1 passes both.
use Rattle.std.proofs.Common.{ℤ, pos, negsuc, true, List, [], ◌∷◌, ◌≡◌, refl, ◌∙◌, ap}
use Rattle.free_groupoid.specs.Walks.{DualWalk, IsWalkOn}
use Rattle.train_track.specs.Tracks.{is_left_out, is_fork, is_switch, switches_of}
use Rattle.train_track.specs.Branches.{are_before}
use Rattle.train_track.specs.inside.Growing.{is_legal_pair, continuation, grow, is_found, is_listed, listed}
use Rattle.train_track.specs.inside.Growing.{listed_from, branch_words}
use Rattle.train_track.specs.Tracks.{IsLegal}
use Rattle.train_track.specs.Passes.{IsFromSwitchToSwitch}

abbrev pub torus : List (List ℤ)
torus = (pos 0 ∷ (pos 1 ∷ (pos 2 ∷ []))) ∷ ((negsuc 0 ∷ (negsuc 1 ∷ (negsuc 2 ∷ []))) ∷ [])

abbrev pub corners : List ℤ
corners = pos 2 ∷ (negsuc 2 ∷ [])

one_switch : switches_of torus corners ≡ pos 1 ∷ []
unfolding is_left_out is_fork is_switch
one_switch = refl

two_branches : branch_words torus corners
    ≡ (pos 1 ∷ (negsuc 0 ∷ (pos 1 ∷ []))) ∷ ((pos 1 ∷ (negsuc 2 ∷ (pos 1 ∷ []))) ∷ [])
unfolding is_left_out is_fork is_switch are_before is_legal_pair continuation grow is_found is_listed listed listed_from
two_branches = refl

-- ---- a walk

abbrev pub letters : List ℤ
letters = pos 1 ∷ (negsuc 2 ∷ (pos 1 ∷ (negsuc 0 ∷ (pos 1 ∷ []))))

switch : is_switch torus corners (pos 1) ≡ true
unfolding is_left_out is_fork is_switch
switch = refl

pub from_switch_to_switch : (triples : List (List ℤ)) (left_out : List ℤ) (w : DualWalk) → triples ≡ torus
    → left_out ≡ corners → w.letters ≡ letters → IsWalkOn triples w → IsLegal triples left_out w.letters
    → IsFromSwitchToSwitch triples left_out w
from_switch_to_switch triples left_out w is_torus are_corners are_letters on legal =
    let at_one : is_switch triples left_out (pos 1) ≡ true =
    ap (λ (ts : List (List ℤ)). is_switch ts left_out (pos 1)) is_torus
    ∙ ap (λ (out : List ℤ). is_switch torus out (pos 1)) are_corners
    ∙ switch in
    record {
      walk = on;
      legal = legal;
      first = pos 1;
      second = negsuc 2;
      rest = pos 1 ∷ (negsuc 0 ∷ (pos 1 ∷ []));
      letters = are_letters;
      begins = at_one;
      ends = at_one;
    }
