use Rattle.std.proofs.Common.{inl, ◌∙◌}
use Rattle.surface_lib.specs.Described.{described}
use Rattle.flipper_cli.specs.inside.SeenCommand.{seen}
use Rattle.flipper_cli.proofs.Answered.{answer_refused, answer_told, found_ok, handed_on, headline_some, headline_told}
use Rattle.flipper_cli.proofs.Answered.{over_certificate, over_source, some_found}
use Rattle.flipper_cli.proofs.FileReads.{lacks_behind, lacks_source, lacks_surface, raised_behind, raised_source}
use Rattle.flipper_cli.proofs.FileReads.{reads_behind, reads_of_source}
use Rattle.flipper_cli.proofs.work.answer.Goals as goal

-- ---- no surface was found

pub returns-in_err-surface-clause-report : goal.returns-in_err-surface-clause-report
returns-in_err-surface-clause-report g c = λ files over.
    let found = rw c.source_of.ensures at (c.find.ensures.found files) in
    answer_refused (seen c.args.command) files _ _ _ c.in_err-surface.was (found (over_source _ _ files over))
    c.from_residual.ensures.1

pub returns-in_err-surface-clause-reads : goal.returns-in_err-surface-clause-reads
returns-in_err-surface-clause-reads g c =
    reads_of_source _ (seen c.args.command) _ (rw c.source_of.ensures at c.find.ensures.reads)

pub returns-in_err-surface-clause-failed : goal.returns-in_err-surface-clause-failed
returns-in_err-surface-clause-failed g c = λ h.
    let handed = handed_on _ _ _ _ c.in_err-surface.was c.from_residual.ensures.1 in
    raised_source (seen c.args.command) _ _ _ (rw c.source_of.ensures at (c.find.ensures.failed (handed.0 h)))

pub returns-in_err-surface-clause-lacks : goal.returns-in_err-surface-clause-lacks
returns-in_err-surface-clause-lacks g c = λ files told h.
    let handed = handed_on _ _ _ _ c.in_err-surface.was c.from_residual.ensures.1 in
    let lacks = rw c.source_of.ensures at (c.find.ensures.lacks files told) in
    lacks_source (seen c.args.command) files (lacks.0 (handed.0 h))

pub returns-in_err-surface-clause-lacking : goal.returns-in_err-surface-clause-lacking
returns-in_err-surface-clause-lacking g c = λ files told l.
    let handed = handed_on _ _ _ _ c.in_err-surface.was c.from_residual.ensures.1 in
    let lacks = rw c.source_of.ensures at (c.find.ensures.lacks files told) in
    handed.1 (lacks.1 (lacks_surface (seen c.args.command) files l))

pub returns-in_err-surface-clause-absent : goal.returns-in_err-surface-clause-absent
returns-in_err-surface-clause-absent g c = λ none h.
    let handed = handed_on _ _ _ _ c.in_err-surface.was c.from_residual.ensures.1 in
    raised_source (seen c.args.command) _ _ _ (rw c.source_of.ensures at (c.find.ensures.absent none (handed.0 h)))

-- ---- a surface was found

pub returns-clause-report : goal.returns-clause-report
returns-clause-report g c = λ files over.
    let found = rw c.source_of.ensures at (c.find.ensures.found files) in
    answer_told (seen c.args.command) files _ _ _ c.in_ok-surface.was (found (over_source _ _ files over))
    (c.about.ensures.report files (over_certificate _ _ _ files c.find.ensures.told over))

pub returns-clause-reads : goal.returns-clause-reads
returns-clause-reads g c =
    let found = rw c.source_of.ensures at c.find.ensures.found in
    reads_behind _ (seen c.args.command) _ (described c.in_ok-surface.surface)
    (some_found (seen c.args.command) _ _ _ c.in_ok-surface.was found)
    (rw c.source_of.ensures at c.find.ensures.reads) c.about.ensures.reads

pub returns-clause-failed : goal.returns-clause-failed
returns-clause-failed g c = λ h.
    let found = rw c.source_of.ensures at c.find.ensures.found in
    raised_behind (seen c.args.command) _ (described c.in_ok-surface.surface) _ _ _
    (some_found (seen c.args.command) _ _ _ c.in_ok-surface.was found)
    (c.find.ensures.uncounted (found_ok _ _ _ c.in_ok-surface.was) (found_ok _ _ _ c.in_ok-surface.was))
    (c.about.ensures.failed h)

pub returns-clause-lacks : goal.returns-clause-lacks
returns-clause-lacks g c = λ files told h.
    let found = rw c.source_of.ensures at c.find.ensures.found in
    lacks_behind (seen c.args.command) files (described c.in_ok-surface.surface)
    (λ others same. some_found (seen c.args.command) _ _ _ c.in_ok-surface.was found others (told ∙ same))
    (c.about.ensures.lacks files (c.find.ensures.told ∙ told) h)

pub returns-clause-lacking : goal.returns-clause-lacking
returns-clause-lacking g c = λ files told l.
    let lacks = rw c.source_of.ensures at (c.find.ensures.lacks files told) in
    absurd (found_ok _ _ _ c.in_ok-surface.was (lacks.1 (lacks_surface (seen c.args.command) files l)))

pub returns-clause-absent : goal.returns-clause-absent
returns-clause-absent g c = λ none h.
    let found = rw c.source_of.ensures at c.find.ensures.found in
    raised_behind (seen c.args.command) _ (described c.in_ok-surface.surface) _ _ _
    (some_found (seen c.args.command) _ _ _ c.in_ok-surface.was found)
    (c.find.ensures.uncounted (found_ok _ _ _ c.in_ok-surface.was) (found_ok _ _ _ c.in_ok-surface.was))
    (c.about.ensures.absent (c.find.ensures.told ∙ none) h)

pub returns-clause-uncounted : goal.returns-clause-uncounted
returns-clause-uncounted g c = λ not_failed not_absent name.
    c.about.ensures.uncounted not_failed not_absent name
    ∙ c.find.ensures.uncounted (found_ok _ _ _ c.in_ok-surface.was) (found_ok _ _ _ c.in_ok-surface.was) name

pub returns-clause-missed : goal.returns-clause-missed
returns-clause-missed g c = λ files told h name.
    c.about.ensures.missed files (c.find.ensures.told ∙ told) h name
    ∙ c.find.ensures.uncounted (found_ok _ _ _ c.in_ok-surface.was) (found_ok _ _ _ c.in_ok-surface.was) name

pub returns-clause-headline : goal.returns-clause-headline
returns-clause-headline g c = λ files told.
    let found = rw c.source_of.ensures at (c.find.ensures.found files) in
    headline_told (seen c.args.command) files _ _ _ c.in_ok-surface.was (found (inl told))
    (c.about.ensures.output files (c.find.ensures.told ∙ told))

pub returns-clause-some_files : goal.returns-clause-some_files
returns-clause-some_files g c =
    headline_some (seen c.args.command) c.in_ok-surface.surface c.about.result (rw c.source_of.ensures at c.in_ok-surface.ensures.some_files)
    c.about.ensures.some_files
