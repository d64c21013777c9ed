use Rattle.free_groupoid.proofs.walk.is_peripheral.Goals as goal

pub turns-requires : goal.turns-requires
turns-requires c = rw (c.deref.ensures.value) (c.surface_laws.ensures.letters _ _ _ _ (rw (← c.w.view_is) at c.requires.closed))

pub turns-requires-else-turns : goal.turns-requires-else-turns
turns-requires-else-turns c = rw (c.deref-else-turns.ensures.value) (c.surface_laws.ensures.letters _ _ _ _ (rw (← c.w.view_is) at
    c.requires.closed))
