use Rattle.std.proofs.Common.{◌∙◌}
use Rattle.surface_lib.proofs.NewNames.{name_found}
use Rattle.surface_lib.proofs.new_name.is_taken.Goals as goal

pub returns : goal.returns
returns c =
    c.contains_key.ensures ∙ name_found c.args.s.now.atlas c.args.s.now.generators.entries c.args.name.now
