use Rattle.re_closure.proofs.OneOutcome.{one_outcome}
use Rattle.re_closure.proofs.OneRaisedOutcome.{one_raised_outcome}
use Rattle.re_closure.proofs.one_outcome_law.Goals as goal

pub returns-clause-plain : goal.returns-clause-plain
returns-clause-plain c = one_outcome

pub returns-clause-raised : goal.returns-clause-raised
returns-clause-raised c = one_raised_outcome
