use Rattle.tri_atlas.specs.Arena.{triangulation}
use Rattle.tri_atlas.specs.Paths.{moves_of}
use Rattle.cert_text.specs.Certificates.{seen}
use Rattle.cert_checker.proofs.Known.{known}
use Rattle.cert_checker.proofs.LoopPaths.{loop_path, sound_base}
use Rattle.cert_checker.proofs.VerdictMeanings.{answers_exact, answers_mean, answers_never_inner}
use Rattle.cert_checker.proofs.checker.check.Goals as goal

pub returns-clause-exact : goal.returns-clause-exact
returns-clause-exact c =
    answers_exact
    (known c.label_laws.ensures c.word_laws.ensures c.surface_laws.ensures c.vertex_laws.ensures c.map_laws.ensures
    c.inner_laws.ensures.maps c.matrix_laws.ensures.sums c.iterate_laws.ensures c.certificate_laws.ensures)
    (triangulation c.args.s.now.atlas 0) (moves_of c.args.s.now.atlas c.args.word.now)
    (sound_base c.args.s.now.atlas c.base.ensures.sound)
    (loop_path c.atlas_laws.ensures.ways c.args.s.now.atlas c.args.word.now c.base.ensures.sound c.requires.closed)
    (seen c.args.c.now) c.check_kind.result c.check_kind.ensures.verdict

pub returns-clause-means : goal.returns-clause-means
returns-clause-means c =
    answers_mean
    (known c.label_laws.ensures c.word_laws.ensures c.surface_laws.ensures c.vertex_laws.ensures c.map_laws.ensures
    c.inner_laws.ensures.maps c.matrix_laws.ensures.sums c.iterate_laws.ensures c.certificate_laws.ensures)
    (triangulation c.args.s.now.atlas 0) (moves_of c.args.s.now.atlas c.args.word.now)
    (sound_base c.args.s.now.atlas c.base.ensures.sound)
    (loop_path c.atlas_laws.ensures.ways c.args.s.now.atlas c.args.word.now c.base.ensures.sound c.requires.closed)
    (seen c.args.c.now) c.check_kind.result c.check_kind.ensures.verdict

pub returns-clause-never_inner : goal.returns-clause-never_inner
returns-clause-never_inner c =
    answers_never_inner
    (known c.label_laws.ensures c.word_laws.ensures c.surface_laws.ensures c.vertex_laws.ensures c.map_laws.ensures
    c.inner_laws.ensures.maps c.matrix_laws.ensures.sums c.iterate_laws.ensures c.certificate_laws.ensures)
    (triangulation c.args.s.now.atlas 0) (moves_of c.args.s.now.atlas c.args.word.now)
    (sound_base c.args.s.now.atlas c.base.ensures.sound)
    (loop_path c.atlas_laws.ensures.ways c.args.s.now.atlas c.args.word.now c.base.ensures.sound c.requires.closed)
    (seen c.args.c.now) c.check_kind.result c.check_kind.ensures.verdict
