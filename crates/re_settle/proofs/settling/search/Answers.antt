use Rattle.std.proofs.Common.{sym, ◌∙◌}
use Rattle.re_settle.proofs.Together.{at_once_settled}
use Rattle.re_settle.proofs.settling.search.Goals as goal

pub returns-in-Some : goal.returns-in-Some
returns-in-Some c = at_once_settled c.args.times c.args.problem.now c.in-Some._place c.names-names.ensures.problem.problem (sym c.zero_round.ensures.place ∙ c.in-Some.is)

pub settled-requires-clause-unfixed : goal.settled-requires-clause-unfixed
settled-requires-clause-unfixed c = c.in_ok-way.ensures.none c.in-None.is
