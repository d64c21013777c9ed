use Rattle.std.proofs.Common.{codes, string_bytes, sym, append_assoc}
use Rattle.flipper_cli.specs.RefusalLines.{coordinates_text}
use Rattle.flipper_cli.proofs.refusal.push_refusal.Goals as goal

pub returns-in_ok-push_text-in-Coordinates : goal.returns-in_ok-push_text-in-Coordinates
returns-in_ok-push_text-in-Coordinates c =
    rw (
      c.in-Coordinates.is,
      sym (append_assoc (string_bytes c.args.line.now) (codes "coordinates ") (coordinates_text c.in-Coordinates.error)),
      sym c.in_ok-push_text-in-Coordinates.ensures,
    ) c.push_coordinates.ensures
