use Rattle.std.proofs.Common.{arith, ◌≡◌, ◌∙◌, ◌++◌, ◌∷◌, [], ℕ, ℤ, List, sym, ap, subst, length, map}
use Rattle.std.proofs.lemmas.List.{length-map}
use Rattle.ideal_tri.specs.Triangulations.{edge_count}
use Rattle.tri_atlas.specs.Arena.{Arena, Entry, IsArena, triangulation, flip_of, flip_entry}
use Rattle.tri_atlas.specs.inside.Fields.{entry_of}
use Rattle.tri_atlas.specs.Steps.{move_of}
use Rattle.tri_atlas.proofs.Arenas.{IsArena-flip, grows_by, entry_equal, triangulation_stays, newest_entry}
use Rattle.tri_atlas.proofs.Kept.{moves_pushed}
use Rattle.tri_atlas.proofs.atlas.Atlas.push_flip.Goals as goal

arena_now : (c : goal.After-push_reserved-2) → IsArena c.args.self.now
arena_now c = subst IsArena c.self.view_is c.self.invariant.arena

triangulations_now : (c : goal.After-push_reserved-2)
    → c.push_reserved.new.self.items ≡ c.args.self.now.triangulations ++ c.args.after ∷ []
triangulations_now c =
    c.push_reserved.ensures.items
    ∙ ap (λ (a : Arena). a.triangulations ++ c.args.after ∷ []) c.self.view_is

does : (c : goal.After-push_reserved-2) (n : ℕ)
    → move_of n c.flip_step-step.result ≡ flip_of (triangulation c.args.self.now c.args.e.tri) c.args.e.label
does c n =
    let tri : c.tri.result.now ≡ triangulation c.args.self.now c.args.e.tri =
    c.tri.ensures.value ∙ ap (triangulation c.args.self.now) c.tri-source.ensures in
    c.flip_step-step.ensures n
    ∙ ap (λ (t : List (List ℤ)). flip_of t c.label.result) tri
    ∙ ap (λ (x : ℤ). flip_of (triangulation c.args.self.now c.args.e.tri) x) c.label.ensures

moves_now : (c : goal.After-push_reserved-2)
    → map (entry_of c.self.inside.edges) c.push_reserved-2.new.self.items
    ≡ c.args.self.now.moves ++ flip_entry c.args.self.now c.args.e ∷ []
moves_now c =
    let count : c.len.result ≡ length c.args.self.now.triangulations =
    c.len.ensures ∙ c.self.inside.triangulations.ok.0 ∙ ap (λ (a : Arena). length a.triangulations) c.self.view_is in
    moves_pushed c.self.inside.edges _ _ _ _ _ c.push_reserved-2.ensures.items
    (ap (λ (a : Arena). a.moves) c.self.view_is)
    (entry_equal _ _ _ _ _ _ c.tri-source.ensures count (does c c.self.inside.edges))

pub invariant_of-self : goal.invariant_of-self
invariant_of-self c = record {
  arena = IsArena-flip c.args.self.now _ c.args.e c.args.after c.flip_laws.ensures (arena_now c)
      c.requires.here c.requires.flippable c.requires.flipped (triangulations_now c) (moves_now c);
  room = omega arith;
  edges =
      c.self.invariant.edges ∙ ap (λ (a : Arena). edge_count (triangulation a 0)) c.self.view_is
      ∙ sym (ap edge_count
      (triangulation_stays c.args.self.now.triangulations _ (c.args.after ∷ []) 0 (arena_now c).base
      (triangulations_now c)));
}

pub returns-clause-moves : goal.returns-clause-moves
returns-clause-moves c = moves_now c

pub returns-clause-grows : goal.returns-clause-grows
returns-clause-grows c =
    grows_by c.args.self.now _ (c.args.after ∷ []) (flip_entry c.args.self.now c.args.e ∷ []) (triangulations_now c)
    (moves_now c)

pub returns-clause-step : goal.returns-clause-step
returns-clause-step c =
    let number : c.len-number.result ≡ length c.args.self.now.moves =
    c.len-number.ensures ∙ c.self.inside.moves.ok.0
    ∙ sym (length-map c.self.inside.moves.items (entry_of c.self.inside.edges))
    ∙ ap (λ (a : Arena). length a.moves) c.self.view_is in
    ap (λ (e : Entry). e.move) (newest_entry c.args.self.now.moves _ _ _ (moves_now c) number)
