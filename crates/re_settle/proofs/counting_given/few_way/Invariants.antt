use Rattle.re_evidence.specs.declared.types.Claim.TheVariants.{MoreThan}
use Rattle.re_settle.specs.GivenWays.{IsKnownGiven}
use Rattle.re_settle.proofs.counting_given.few_way.Given as goal

abbrev pub invariant-loop-most : goal.invariant-loop-most
invariant-loop-most l = IsKnownGiven l.times l.problem l.input (MoreThan l.few.rounds) l.few.way
