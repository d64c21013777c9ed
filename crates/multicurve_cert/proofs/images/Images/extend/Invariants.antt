use Rattle.std.proofs.Common.{◌≡◌, ◌≤◌, ◌⊎◌, true, length}
use Rattle.tri_atlas.specs.Paths.{moves_of}
use Rattle.multicurve_cert.specs.inside.Images.{AreImages, first_of}
use Rattle.multicurve_cert.proofs.images.Images.extend.Given as goal

abbrev pub invariant-loop : goal.invariant-loop
invariant-loop l = record {
  images : AreImages l.atlas (moves_of l.atlas l.word) l.self.ended l.self.list.items;
  first : first_of l.self.list.items ≡ first_of l.initial.self.list.items;
  far : (l.self.ended ≡ true) ⊎ (l.counter ≤ length l.self.list.items);
}
