use Rattle.std.proofs.Common.{rules, ◌≡◌, ◌≤◌, ℕ, Some, length, ◌∙◌, sym, ap, subst, refl}
use Rattle.flip_io.specs.Reads.{no_read, next_read}
use Rattle.flip_io.proofs.Pieces.{has_some, not_err, next_bytes, piece-IsLonger, whole_file}
use Rattle.flip_io.proofs.whole.read_all.Goals as goal

pub loop-bytes-init : goal.loop-bytes-init
loop-bytes-init g c = record {
  within = search rules;
  told = search rules;
  uncounted = λ other. refl;
  reads = no_read _;
  start = λ files file told there. search rules;
}

pub returns-then-n-eq0-clause-whole : goal.returns-then-n-eq0-clause-whole
returns-then-n-eq0-clause-whole g c = λ files told.
    let here = c.loop-bytes.invariant.told ∙ told in
    let there = has_some (files c.args.name.now)
    (λ e. not_err _ _ _ refl ((c.in_ok-n.ensures.lacks files here).1 e)) in
    let got = c.loop-bytes.invariant.start files there.0 told there.1 in
    let end : length there.0 ≤ length c.loop-bytes.bytes.items =
    let same : c.len-at.result ≡ length c.loop-bytes.bytes.items = search rules in
    let P : ℕ → Type 0 = λ k. length there.0 ≤ k in
    subst P same (c.in_ok-n.ensures.end files there.0 here there.1 c.if-n-eq0.true) in
    let small : length c.loop-bytes.bytes.items ≤ c.args.limit = c.loop-bytes.invariant.within in
    (there.1 ∙ ap Some (sym (whole_file _ there.0 _ got end)), small)

pub returns-then-n-limit-clause-whole : goal.returns-then-n-limit-clause-whole
returns-then-n-limit-clause-whole g c = λ files told.
    let here = c.loop-bytes.invariant.told ∙ told in
    piece-IsLonger (files c.args.name.now) _ _ _ _
    (λ e. not_err _ _ _ refl ((c.in_ok-n.ensures.lacks files here).1 e))
    (λ file there. c.in_ok-n.ensures.bytes files file here there)
    c.in_ok-n.ensures.count (search rules) (search rules)

pub returns-then-n-limit-clause-too_long : goal.returns-then-n-limit-clause-too_long
returns-then-n-limit-clause-too_long g c = λ files told.
    let here = c.loop-bytes.invariant.told ∙ told in
    let longer = piece-IsLonger (files c.args.name.now) _ _ _ _
    (λ e. not_err _ _ _ refl ((c.in_ok-n.ensures.lacks files here).1 e))
    (λ file there. c.in_ok-n.ensures.bytes files file here there)
    c.in_ok-n.ensures.count (search rules) (search rules) in
    (λ _. (longer, (λ e. cc), (λ e. cc)), λ _. refl)

pub returns-in_err-n-clause-reads : goal.returns-in_err-n-clause-reads
returns-in_err-n-clause-reads g c = next_read _ c.loop-bytes.invariant.reads refl c.in_err-n.ensures.read

pub returns-then-n-eq0-clause-reads : goal.returns-then-n-eq0-clause-reads
returns-then-n-eq0-clause-reads g c = next_read _ c.loop-bytes.invariant.reads refl c.in_ok-n.ensures.read

pub returns-then-n-limit-clause-reads : goal.returns-then-n-limit-clause-reads
returns-then-n-limit-clause-reads g c = next_read _ c.loop-bytes.invariant.reads refl c.in_ok-n.ensures.read

pub returns-in_err-extend_from_slice-clause-reads : goal.returns-in_err-extend_from_slice-clause-reads
returns-in_err-extend_from_slice-clause-reads g c = next_read _ c.loop-bytes.invariant.reads refl c.in_ok-n.ensures.read

pub loop-bytes-preserved : goal.loop-bytes-preserved
loop-bytes-preserved g c = record {
  within = search rules;
  told = search rules;
  uncounted = search rules;
  reads = next_read _ c.loop-bytes.invariant.reads refl c.in_ok-n.ensures.read;
  start = λ files file told there.
      let here = c.loop-bytes.invariant.told ∙ told in
      let piece = c.in_ok-n.ensures.bytes files file here there in
      let got = c.loop-bytes.invariant.start files file told there in
      let same : c.len-at.result ≡ length c.loop-bytes.bytes.items = search rules in
      let room : c.in_ok-n.n ≤ length c.read.new.buf = c.in_ok-n.ensures.count in
      next_bytes _ _ _ _ _ _ same room c.in_ok-extend_from_slice.ensures.items got piece;
}
