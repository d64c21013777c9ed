use Rattle.tri_atlas.specs.Maps.{flip_image}
use Rattle.free_groupoid.proofs.Flipping.{IsRewrittenUpTo}
use Rattle.free_groupoid.proofs.images.flipped_word.Given as goal

abbrev pub invariant-loop-i : goal.invariant-loop-i
invariant-loop-i l = IsRewrittenUpTo (flip_image l.e l.b l.d) l.word l.moved.items l.start l.i
