use Rattle.std.proofs.Common.{ℕ, List, ◌++◌, length, drop, replicate, sym, subst}
use Rattle.ideal_tri.specs.declared.tri.TheConstants.{EDGES}
use Rattle.edge_coords.specs.inside.LaidOut.{IsLaidOut}
use Rattle.edge_coords.proofs.Kept.{laid_out}
use Rattle.edge_coords.proofs.coords.Coords.keep.Goals as goal

pub invariant_of-result : goal.invariant_of-result
invariant_of-result c =
    subst
    (λ (ys : List ℕ). IsLaidOut (length c.args.values.now) (ys ++ drop (length c.args.values.now) (replicate EDGES 0)))
    (sym c.copy_from_slice.ensures.after)
    (laid_out c.args.values.now c.requires.few c.requires.small)
