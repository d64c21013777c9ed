use Rattle.std.proofs.Common.{◌≤◌, length, arith}
use Rattle.multicurve_cert.proofs.ShortCycles.{has_cycle}
use Rattle.multicurve_cert.proofs.cycle_law.cycle_law.Goals as goal

-- src/cycle_law.rt:8:1
pub returns : goal.returns
returns c =
    let few : length c.args.tri.now ≤ 32 =
    omega (arith, c.triangles-triangles.ensures.size.few, c.triangles-triangles.ensures.sound.edges) in
    has_cycle c.label_laws.ensures c.word_laws.ensures c.surface_laws.ensures c.args.tri.now
    c.triangles-triangles.ensures.sound few
