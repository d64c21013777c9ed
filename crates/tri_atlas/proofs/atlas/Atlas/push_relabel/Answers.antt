use Rattle.std.proofs.Common.{arith, ◌≡◌, ◌∙◌, ◌++◌, ◌∷◌, [], ℕ, sym, ap, subst, take, map, refl}
use Rattle.ideal_tri.specs.Triangulations.{edge_count}
use Rattle.tri_atlas.specs.Moves.{relabel}
use Rattle.tri_atlas.specs.Arena.{Arena, IsArena, triangulation, relabel_entry, images_kept}
use Rattle.tri_atlas.specs.inside.Fields.{entry_of}
use Rattle.tri_atlas.proofs.Arenas.{IsArena-relabel, grows_by, no_more, entry_equal}
use Rattle.tri_atlas.proofs.Kept.{moves_pushed}
use Rattle.tri_atlas.proofs.atlas.Atlas.push_relabel.Goals as goal

arena_now : (c : goal.After-push_reserved) → IsArena c.args.self.now
arena_now c = subst IsArena c.self.view_is c.self.invariant.arena

moves_now : (c : goal.After-push_reserved)
    → map (entry_of c.self.inside.edges) c.push_reserved.new.self.items
    ≡ c.args.self.now.moves ++ relabel_entry c.args.self.now c.args.from c.args.to c.args.images ∷ []
moves_now c =
    let edges : c.self.inside.edges ≡ edge_count (triangulation c.args.self.now c.args.from) =
    c.self.invariant.edges ∙ ap (λ (a : Arena). edge_count (triangulation a 0)) c.self.view_is
    ∙ sym ((arena_now c).edges c.args.from c.requires.from) in
    moves_pushed c.self.inside.edges _ _ _ _ _ c.push_reserved.ensures.items
    (ap (λ (a : Arena). a.moves) c.self.view_is)
    (entry_equal _ _ _ _ _ _ refl refl (ap (λ (n : ℕ). relabel (take n c.args.images)) edges))

pub invariant_of-self : goal.invariant_of-self
invariant_of-self c = record {
  arena = IsArena-relabel c.args.self.now _ c.args.from c.args.to
      (images_kept c.args.self.now c.args.from c.args.images) (arena_now c)
      c.requires.from c.requires.to c.requires.carries (ap (λ (a : Arena). a.triangulations) c.self.view_is)
      (moves_now c);
  room = omega arith;
  edges = c.self.invariant.edges;
}

pub returns-clause-grows : goal.returns-clause-grows
returns-clause-grows c =
    grows_by c.args.self.now _ [] (relabel_entry c.args.self.now c.args.from c.args.to c.args.images ∷ [])
    (no_more _ _ (ap (λ (a : Arena). a.triangulations) c.self.view_is)) (moves_now c)
