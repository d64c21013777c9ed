use Rattle.std.proofs.Common.{◌≡◌, ◌≢◌, ℤ, sym, ◌∙◌, subst, rules}
use Rattle.std.specs.List.{Contains}
use Rattle.carry_map.specs.inside.Switches.{IsFirstAt}
use Rattle.carry_map.proofs.Anchored.{backwards}
use Rattle.carry_map.proofs.SwitchNumbers.{number_on, number_off}
use Rattle.carry_map.proofs.steps.number_of.Goals as goal

pub place_of-i-requires : goal.place_of-i-requires
place_of-i-requires c = subst (Contains c.args.switches.now) (sym c.forwards-s.ensures) c.requires

pub returns-then-eq : goal.returns-then-eq
returns-then-eq c =
    let same : c.args.x ≡ c.forwards-s.result = search rules in
    number_on c.label_laws.ensures c.args.switches.now c.args.x c.place_of-i.result (same ∙ c.forwards-s.ensures)
    (subst (λ (s : ℤ). IsFirstAt c.args.switches.now s c.place_of-i.result) c.forwards-s.ensures c.place_of-i.ensures)

pub returns-else-eq : goal.returns-else-eq
returns-else-eq c =
    let other : c.args.x ≢ c.forwards-s.result = search rules in
    number_off c.label_laws.ensures c.args.switches.now c.args.x c.place_of-i.result
    (backwards c.args.x (λ e. other (e ∙ sym c.forwards-s.ensures)))
    (subst (λ (s : ℤ). IsFirstAt c.args.switches.now s c.place_of-i.result) c.forwards-s.ensures c.place_of-i.ensures)
