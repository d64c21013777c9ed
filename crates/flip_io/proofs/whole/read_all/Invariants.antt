use Rattle.std.proofs.Common.{◌≡◌, ◌≤◌, ℕ, List, Some, length, take, ◌-◌}
use Rattle.flip_io.specs.Counts.{SameCounts}
use Rattle.flip_io.specs.Files.{Files}
use Rattle.flip_io.specs.Reads.{AfterReads}
use Rattle.flip_io.proofs.whole.read_all.Given as goal

abbrev pub invariant-loop-bytes : goal.invariant-loop-bytes
invariant-loop-bytes g l = record {
  within : length l.bytes.items ≤ l.limit;
  told : g.S.Shelf.told l.shelf ≡ g.S.Shelf.told l.fn.shelf;
  uncounted : SameCounts (g.S.Shelf.faults l.fn.shelf) (g.S.Shelf.faults l.shelf);
  reads : AfterReads g.S.Shelf.after_read (λ read. read ≡ l.name) l.fn.shelf l.shelf;
  start : (files : Files) (file : List ℕ) → g.S.Shelf.told l.fn.shelf ≡ Some files
      → files l.name ≡ Some file → l.bytes.items ≡ take (length l.bytes.items) file;
}

abbrev pub decreases-loop-bytes : goal.decreases-loop-bytes
decreases-loop-bytes g l = l.limit - length l.bytes.items
