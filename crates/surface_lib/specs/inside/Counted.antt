-- Counting a word's names, flips and moves in 128 bits.
use Rattle.std.specs.Prelude.{ℕ, ◌+◌, ◌*◌, ◌-◌, ◌^◌, min, List, length}
use Rattle.tri_atlas.specs.Arena.{Arena, MoveHandle}
use Rattle.surface_lib.specs.Words.{Target}
use Rattle.surface_lib.specs.Refusals.{handles_kind, flips_among}
use Rattle.surface_lib.specs.declared.counts.Counts.{Counts}
use Rattle.surface_lib.specs.declared.power.Power.{Power}

-- the largest number of 128 bits stands for itself and all larger ones
abbrev pub capped : ℕ → ℕ
capped n = min n (2 ^ 128 - 1)

abbrev pub no_counts : Counts
no_counts = record { names = 0; flips = 0; moves = 0 }

abbrev pub both : Counts → Counts → Counts
both a b = record {
  names = capped (a.names + b.names);
  flips = capped (a.flips + b.flips);
  moves = capped (a.moves + b.moves);
}

abbrev pub times : Power → Counts → Counts
times k a = record {
  names = capped (k.times * a.names);
  flips = capped (k.times * a.flips);
  moves = capped (k.times * a.moves);
}

abbrev pub of_name : Arena → List MoveHandle → Counts
of_name arena moves = record {
  names = 1;
  flips = capped (flips_among (handles_kind arena) moves);
  moves = capped (length moves);
}

abbrev pub counted : Arena → Target MoveHandle Counts
counted arena = record { none = no_counts; joined = both; taken = times; named = of_name arena }
