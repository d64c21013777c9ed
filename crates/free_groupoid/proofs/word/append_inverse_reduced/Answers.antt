use Rattle.std.proofs.Common.{◌≡◌, ◌∙◌, ◌-◌, ◌++◌, ◌∷◌, [], ℤ, ap, arith, length, take}
use Rattle.std.proofs.lemmas.List.{length_push}
use Rattle.ideal_tri.specs.Labels.{inverse}
use Rattle.free_groupoid.proofs.Joining.{one_back}
use Rattle.free_groupoid.proofs.word.append_inverse_reduced.Goals as goal

pub loop-k-preserved : goal.loop-k-preserved
loop-k-preserved c =
    let pushed : c.push_reserved.new.self.items ≡ c.loop-k.word.items ++ (inverse c.index-more-kept.result ∷ []) =
    c.push_reserved.ensures.items ∙ ap (λ (z : ℤ). c.loop-k.word.items ++ (z ∷ [])) c.inverse.ensures in
    record {
      letters = one_back (take (length c.args.word.now.items - c.common_letters-cancelled.result) c.args.word.now.items)
          c.args.more.now (length c.args.more.now - c.common_letters-cancelled.result) c.loop-k.word.items
          c.push_reserved.new.self.items c.loop-k.k c.index-more-kept.result (omega arith) c.loop-k-test.true
          c.index-more-kept.is c.loop-k.invariant.letters pushed;
      room = omega (
        arith,
        ap length pushed,
        length_push c.loop-k.word.items (inverse c.index-more-kept.result),
        c.push_reserved.ensures.capacity,
        c.loop-k.invariant.room,
        c.loop-k-test.true,
      );
    }
