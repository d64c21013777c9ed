use Rattle.std.proofs.Common.{◌≡◌, ◌++◌, codes}
use Rattle.std.specs.String.{string_bytes}
use Rattle.std.specs.Map.{keys_of}
use Rattle.flipper_cli.proofs.Shown.{spaced}
use Rattle.flipper_cli.proofs.show.push_generators.Given as goal

abbrev pub invariant-loop-name : goal.invariant-loop-name
invariant-loop-name l = record {
  next : (goal.iterator-loop-name).can_next l.name-iterator;
  finite : (goal.iterator-loop-name).is_finite l.name-iterator;
  left : string_bytes l.lines ++ spaced string_bytes l.name-iterator
      ≡ (string_bytes l.fn.lines ++ codes "generators") ++ spaced string_bytes (keys_of l.s.generators.entries);
}
