use Rattle.std.proofs.Common.{rules, arith, ◌≡◌, Bool, true, false}
use Rattle.std.proofs.Math.Path.{fun_ext}
use Rattle.std.proofs.lemmas.Map.Text.{text_keys}
use Rattle.std.specs.List.{list_any}
use Rattle.std.specs.Prelude.{nat_eq}
use Rattle.flip_io.proofs.boxed.BoxShelfShelf.read.Goals as goal

not_both : {A : Type 0} (b : Bool) → b ≡ true → b ≡ false → A
not_both b t f = cc

pub returns-then-fails-clause-told : goal.returns-then-fails-clause-told
returns-then-fails-clause-told c = fun_ext (λ other. grind (arith, text_keys))

pub returns-then-fails-clause-later : goal.returns-then-fails-clause-later
returns-then-fails-clause-later c = λ other. grind (arith, text_keys)

pub returns-then-fails-clause-others : goal.returns-then-fails-clause-others
returns-then-fails-clause-others c = λ other differs. grind (arith, text_keys)

pub returns-else-fails-clause-told : goal.returns-else-fails-clause-told
returns-else-fails-clause-told c = fun_ext (λ other. grind (arith, text_keys))

pub returns-else-fails-clause-later : goal.returns-else-fails-clause-later
returns-else-fails-clause-later c = λ other. grind (arith, text_keys)

pub returns-else-fails-clause-fails : goal.returns-else-fails-clause-fails
returns-else-fails-clause-fails c =
    let unlisted : list_any (λ k. nat_eq k c.saturating_add-self.result) c.args.self.now.fails.items ≡ false =
    search rules in
    (λ e. cc, λ listed. not_both _ listed.0 unlisted)

pub returns-else-fails-clause-others : goal.returns-else-fails-clause-others
returns-else-fails-clause-others c = λ other _. grind (arith, text_keys)

pub returns-else-fails-clause-uncounted : goal.returns-else-fails-clause-uncounted
returns-else-fails-clause-uncounted c = λ other. grind (arith, text_keys)
