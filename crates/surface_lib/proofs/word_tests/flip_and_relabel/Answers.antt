use Rattle.surface_lib.proofs.word_tests.flip_and_relabel.Goals as goal

pub returns-clause-kept : goal.returns-clause-kept
returns-clause-kept c p closed =
    let growth = c.atlas_laws.ensures.growth in
    record {
      within = growth.path_in _ _ p (growth.further _ _ _ c.in-Ok.ensures.grows c.in_ok-second.ensures.grows)
          closed.within;
      start = closed.start;
      end = closed.end;
    }
