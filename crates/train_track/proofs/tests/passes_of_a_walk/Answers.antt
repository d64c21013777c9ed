use Rattle.std.proofs.Common.{rules, ◌≡◌, ℕ, ℤ, List, [], sym, ◌∙◌, ap, subst, slice_index_or}
use Rattle.ideal_tri.specs.Triangulations.{IsTriangulation}
use Rattle.free_groupoid.specs.Walks.{IsWalkOn}
use Rattle.tri_atlas.specs.Arena.{triangulation}
use Rattle.train_track.proofs.WorkedTorus.{torus, corners, letters, from_switch_to_switch}
use Rattle.train_track.proofs.tests.passes_of_a_walk.Goals as goal

pub decompose-requires : goal.decompose-requires
decompose-requires g c =
    let triples : List (List ℤ) = triangulation c.in_ok-atlas.atlas c.in_ok-track.track.tri in
    let is_tri : triples ≡ c.in_ok-tri.tri =
    ap (λ (n : ℕ). triangulation c.in_ok-atlas.atlas n) (c.in_ok-track.ensures.accepted.0 ∙ c.base.ensures.number)
    ∙ ap (λ (ts : List (List (List ℤ))). slice_index_or ts 0 []) c.in_ok-atlas.ensures.triangulations in
    let is_torus : triples ≡ torus = is_tri ∙ c.in_ok-tri.ensures.accepted.1 in
    let are_corners : c.in_ok-track.track.left_out ≡ corners = search rules in
    let are_letters : c.in_ok-walk.walk.letters ≡ letters = search rules in
    record {
      triples = triples;
      sound = subst IsTriangulation (sym is_torus) c.in_ok-tri.ensures.accepted.0;
      on = c.in_ok-track.ensures.here.on;
      walk = from_switch_to_switch triples c.in_ok-track.track.left_out c.in_ok-walk.walk is_torus are_corners
          are_letters (subst (λ (ts : List (List ℤ)). IsWalkOn ts c.in_ok-walk.walk) (sym is_tri)
          c.in_ok-walk.ensures.accepted.0) (c.legal.ensures.0 c.if-legal.true);
    }
