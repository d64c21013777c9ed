use Rattle.std.proofs.Common.{◌≤◌, ◌∙◌, ℕ, List, inl, ap, subst, length, IfErr, rules}
use Rattle.tri_atlas.specs.Arena.{triangulation}
use Rattle.tri_atlas.specs.Paths.{moves_of}
use Rattle.multicurve_cert.specs.Candidates.{IsLineOf}
use Rattle.multicurve_cert.specs.inside.Images.{first_of}
use Rattle.multicurve_cert.proofs.Outcomes.{too_large}
use Rattle.multicurve_cert.proofs.candidates.candidate.Goals as goal

pub returns-then-len-number-clause-line : goal.returns-then-len-number-clause-line
returns-then-len-number-clause-line c =
    let wanting : length c.extend.new.self.list.items ≤ c.needed-number.result = search rules in
    inl (too_large c.args.atlas.now _ c.power_laws.ensures _ _ c.in_ok-extend.ensures.images c.needed-number.result
    wanting c.in_ok-extend.ensures.enough c.args.kind c.needed-number.ensures.value _ c.in_ok-extend.ensures.first)

pub returns-clause-line : goal.returns-clause-line
returns-clause-line c =
    subst (λ (w : List ℕ). IfErr c.outcome.result (IsLineOf (triangulation c.args.atlas.now 0)
    (moves_of c.args.atlas.now c.args.word.now) w c.args.kind))
    (ap first_of c.deref.ensures.value ∙ c.in_ok-extend.ensures.first) c.outcome.ensures.line
