use Rattle.std.proofs.Common.{◌∙◌, ap, sym, subst, All}
use Rattle.surface_lib.specs.Spelling.{is_generator_name}
use Rattle.surface_lib.specs.Surfaces.{IsGenerator}
use Rattle.surface_lib.proofs.Insertion.{inserted}
use Rattle.surface_lib.proofs.NewNames.{stands_last}
use Rattle.surface_lib.proofs.surface.Surface.insert.Goals as goal

pub returns-clause-surface : goal.returns-clause-surface
returns-clause-surface c =
    subst (All (IsGenerator c.args.self.now.atlas)) (sym c.in_ok-insert.ensures.entries)
    (inserted _ c.args.self.now.atlas c.args.self.now.generators.entries c.in_ok-name.name c.args.path
    c.requires.surface (record {
      spelt = ap is_generator_name c.in_ok-name.ensures.ok ∙ c.requires.spelt;
      loop = c.requires.closed;
      short = c.requires.short;
    }))

pub returns-clause-behind : goal.returns-clause-behind
returns-clause-behind c fresh =
    stands_last c.args.self.now.atlas c.args.self.now.generators c.in_ok-name.name c.args.path c.args.name.now _
    c.in_ok-name.ensures.ok c.in_ok-insert.ensures.entries fresh
