use Rattle.std.proofs.Common.{rules, ◌≡◌, inl, inr, refl}
use Rattle.flip_io.specs.Held.{IsListed}
use Rattle.flip_io.specs.Sure.{room_of}
use Rattle.flip_io.proofs.boxed.VecSinkSink.write.Goals as goal
use Rattle.flip_io.proofs.boxed.VecSinkSink.write.Goals.{then-fails-via-then-fails}
use Rattle.flip_io.proofs.boxed.VecSinkSink.write.Goals.{then-fails-via-else-fails+then-room-eq0}

pub returns-then-fails-clause-fails : goal.returns-then-fails-clause-fails
returns-then-fails-clause-fails c = (
  λ _. elim c.then-fails.branch [
    | then-fails-via-then-fails w ↦
        let listed : IsListed c.saturating_add-self.result c.args.self.now.fails.items = search rules in
        inl listed
    | then-fails-via-else-fails+then-room-eq0 w ↦
        let full : room_of c.args.self.now.bytes ≡ 0 = search rules in
        inr full
  ],
  λ _. refl,
)
