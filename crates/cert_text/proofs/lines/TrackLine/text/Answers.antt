use Rattle.std.proofs.Common.{◌<◌, ◌^◌, rules, arith}
use Rattle.cert_text.specs.declared.lines.TrackLine.TheVariants as track
use Rattle.cert_text.proofs.ReadBack.{track_back_as}
use Rattle.cert_text.proofs.lines.TrackLine.text.Goals as goal

pub returns-in-TwoLeftOut-clause-read_back : goal.returns-in-TwoLeftOut-clause-read_back
returns-in-TwoLeftOut-clause-read_back c =
    let small : c.in-TwoLeftOut.n < 2 ^ 64 = search (rules, arith) in
    track_back_as c.args.self (track.TwoLeftOut c.in-TwoLeftOut.n) c.in-TwoLeftOut.is small

pub returns-in-VertexClosed-clause-read_back : goal.returns-in-VertexClosed-clause-read_back
returns-in-VertexClosed-clause-read_back c =
    let small : c.in-VertexClosed.n < 2 ^ 64 = search (rules, arith) in
    track_back_as c.args.self (track.VertexClosed c.in-VertexClosed.n) c.in-VertexClosed.is small

pub returns-in-Cap-clause-read_back : goal.returns-in-Cap-clause-read_back
returns-in-Cap-clause-read_back c =
    let small : c.in-Cap.n < 2 ^ 64 = search (rules, arith) in
    track_back_as c.args.self (track.Cap c.in-Cap.n) c.in-Cap.is small

pub returns-in-NoCommon-clause-read_back : goal.returns-in-NoCommon-clause-read_back
returns-in-NoCommon-clause-read_back c =
    let small : c.in-NoCommon.n < 2 ^ 64 = search (rules, arith) in
    track_back_as c.args.self (track.NoCommon c.in-NoCommon.n) c.in-NoCommon.is small

pub returns-in-Illegal-clause-read_back : goal.returns-in-Illegal-clause-read_back
returns-in-Illegal-clause-read_back c =
    let small : c.in-Illegal.n < 2 ^ 64 = search (rules, arith) in
    track_back_as c.args.self (track.Illegal c.in-Illegal.n) c.in-Illegal.is small

pub returns-in-PathsCap-clause-read_back : goal.returns-in-PathsCap-clause-read_back
returns-in-PathsCap-clause-read_back c =
    let small : c.in-PathsCap.n < 2 ^ 64 = search (rules, arith) in
    track_back_as c.args.self (track.PathsCap c.in-PathsCap.n) c.in-PathsCap.is small
