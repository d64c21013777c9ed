use Rattle.ideal_tri.specs.WordLaws.{InverseLaws, RotationLaws, ReductionLaws, CyclicLaws, CurveLaws}
use Rattle.ideal_tri.proofs.Reduction.{inverse_word-append, inverse_word-inverse_word, length-inverse_word}
use Rattle.ideal_tri.proofs.Reduction.{All-inverse_word, IsReduced-reduce, reduce-fixed, reduce-reduce, reduce-append}
use Rattle.ideal_tri.proofs.Reduction.{reduce-left, reduce-right, reduce-cancel, reduce-inverse_word, reduce-deletion}
use Rattle.ideal_tri.proofs.Reduction.{reduce-reached, reduce-only, IsReduced-front, IsReduced-back}
use Rattle.ideal_tri.proofs.Reduction.{IsReduced-glue, IsReduced-inverse_word}
use Rattle.ideal_tri.proofs.Rotations.{Rotation-refl, Rotation-sym, Rotation-trans, Rotation-length}
use Rattle.ideal_tri.proofs.Rotations.{Rotation-inverse_word, Rotation-map, is_rotation-test, is_same_curve-test}
use Rattle.ideal_tri.proofs.Rotations.{SameCurve-refl, SameCurve-sym, SameCurve-trans}
use Rattle.ideal_tri.proofs.Cyclic.{cyclic_reduce-cyclic, cyclic_reduce-fixed, cyclic_reduce-shape}
use Rattle.ideal_tri.proofs.Cyclic.{cyclic_reduce-conjugate, conjugate_of_rotation, cyclic_reduce-rotation}
use Rattle.ideal_tri.proofs.Cyclic.{cyclic_reduce-inverse_word, cyclic_reduce-same_curve, last_of-read}
use Rattle.ideal_tri.proofs.Cyclic.{cyclic-reduced, cyclic-rotate, cyclic-inverse_word, length-cyclic_reduce}
use Rattle.ideal_tri.proofs.laws.word_laws.Goals as goal

inverses : InverseLaws
inverses = record {
  append = inverse_word-append;
  twice = inverse_word-inverse_word;
  as_long = length-inverse_word;
  labels = All-inverse_word;
}

rotations : RotationLaws
rotations = record {
  same = Rotation-refl;
  back = Rotation-sym;
  along = Rotation-trans;
  as_long = Rotation-length;
  inverse = Rotation-inverse_word;
  mapped = Rotation-map;
}

reduction : ReductionLaws
reduction = record {
  is_reduced = IsReduced-reduce;
  fixed = reduce-fixed;
  front = IsReduced-front;
  back = IsReduced-back;
  glue = IsReduced-glue;
  turned = IsReduced-inverse_word;
  twice = reduce-reduce;
  append = reduce-append;
  left = reduce-left;
  right = reduce-right;
  cancel = reduce-cancel;
  inverse = reduce-inverse_word;
  deletion = reduce-deletion;
  reached = reduce-reached;
  only = reduce-only;
}

cyclic : CyclicLaws
cyclic = record {
  is_reduced = cyclic_reduce-cyclic;
  word = cyclic-reduced;
  rotated = cyclic-rotate;
  turned = cyclic-inverse_word;
  no_longer = length-cyclic_reduce;
  fixed = cyclic_reduce-fixed;
  shape = cyclic_reduce-shape;
  conjugate = cyclic_reduce-conjugate;
  conjugator = conjugate_of_rotation;
  rotation = cyclic_reduce-rotation;
  inverse = cyclic_reduce-inverse_word;
}

curves : CurveLaws
curves = record {
  rotation_test = is_rotation-test;
  curve_test = is_same_curve-test;
  same = SameCurve-refl;
  back = SameCurve-sym;
  along = SameCurve-trans;
  reduced = cyclic_reduce-same_curve;
}

pub returns : goal.returns
returns c =
    record {
      inverses = inverses;
      rotations = rotations;
      reduction = reduction;
      cyclic = cyclic;
      curves = curves;
      last = last_of-read;
    }
