use Rattle.std.proofs.Common.{◌≡◌, ◌∷◌, All}
use Rattle.surface_lib.specs.Words.{moves_of}
use Rattle.surface_lib.specs.Surfaces.{generators_in, generators_of, IsGenerator}
use Rattle.surface_lib.proofs.names.find.Given as goal

abbrev pub invariant-loop-name : goal.invariant-loop-name
invariant-loop-name l = record {
  next : (goal.iterator-loop-name).can_next l.name-iterator;
  finite : (goal.iterator-loop-name).is_finite l.name-iterator;
  loops : All (IsGenerator l.s.atlas) l.name-iterator;
  left : moves_of (l.first ∷ l.rest) (generators_in l.name-iterator) ≡ moves_of (l.first ∷ l.rest) (generators_of l.s);
}
