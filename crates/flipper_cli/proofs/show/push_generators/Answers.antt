use Rattle.std.proofs.Common.{◌∙◌, ◌++◌, ℕ, List, codes, ap, sym, lit<}
use Rattle.std.specs.Prelude.{String, string_bytes}
use Rattle.std.specs.declared.alloc.Global.{Global}
use Rattle.flipper_cli.proofs.Shown.{spaced, spaced_on, spaced_keys, line_written}
use Rattle.flipper_cli.proofs.show.push_generators.Goals as goal

pub loop-name-init : goal.loop-name-init
loop-name-init c = record {
  next = tt;
  finite = tt;
  left =
      ap (λ (z : List ℕ). z ++ spaced string_bytes c.into_iter-name-iterator.result) c.in_ok-push_str.ensures.bytes
      ∙ ap (λ (z : List (String Global)). (string_bytes c.args.lines.now ++ codes "generators") ++ spaced string_bytes z)
      (c.into_iter-name-iterator.ensures.into_iter_gives ∙ c.keys-name-items.ensures.rest);
}

pub loop-name-preserved : goal.loop-name-preserved
loop-name-preserved c = record {
  next = tt;
  finite = tt;
  left =
      spaced_on string_bytes _ _ _ _ _ c.in-Some.ensures.steps c.in_ok-write.ensures.bytes
      ∙ c.loop-name.invariant.left;
}

pub returns : goal.returns
returns c =
    let pushed = c.in_ok-push.ensures in
    let start = string_bytes c.args.lines.now in
    let text = string_bytes c.loop-name.lines in
    let ended = sym (ap (λ (z : List (String Global)). text ++ spaced string_bytes z) c.in-None.ensures.steps.0)
    ∙ c.loop-name.invariant.left
    ∙ ap (λ (z : List ℕ). (start ++ codes "generators") ++ z)
    (spaced_keys c.args.s.now.atlas c.args.s.now.generators.entries) in
    line_written start (codes "generators") _ text _ ended
    (pushed.bytes ∙ ap (λ (z : List ℕ). text ++ z) (pushed.ascii (lit< tt)))
