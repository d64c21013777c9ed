use Rattle.std.proofs.Common.{◌-◌, ◌∙◌, ap, List, ℕ, arith}
use Rattle.surface_lib.specs.Words.{test_pieces, test_text}
use Rattle.surface_lib.specs.Surfaces.{names_of}
use Rattle.surface_lib.proofs.Levels.{test_of_level}
use Rattle.surface_lib.proofs.tested.+tested.Goals as goal

pub test_text-loop-rest-init : goal.test_text-loop-rest-init
test_text-loop-rest-init t c =
    let g = names_of c.args.s.now in
    record {
      left = ap (λ (z : List (List ℕ)). test_pieces g (λ n u. test_text g (c.args.levels - 1) n u) c.args.number z)
          c.pieces-rest.ensures.parts
          ∙ test_of_level g c.args.levels c.args.number c.args.text.now c.if-levels-eq0.false;
      room = omega (arith, c.pieces-rest.ensures.size);
    }
