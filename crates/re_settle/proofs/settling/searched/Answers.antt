use Rattle.re_settle.proofs.settling.searched.Goals as goal

pub unclosed-requires-clause-unclosed : goal.unclosed-requires-clause-unclosed
unclosed-requires-clause-unclosed c = c.in_ok-way.ensures.none c.in-None.is
