-- What is claimed where a solution of an input problem is given.
use Rattle.std.specs.Prelude.{None, Some}
use Rattle.re_evidence.specs.Claims.{within}
use Rattle.re_evidence.specs.declared.types.Claim.{Claim}
use Rattle.re_evidence.specs.declared.types.Claim.TheVariants.{AtMost, Exactly, MoreThan, Never}
use Rattle.re_settle.specs.declared.given_types.SettledGiven.{SettledGiven}
use Rattle.re_settle.specs.declared.given_types.SettledGiven.TheVariants as settled

-- what is claimed where so much is known
abbrev pub claim_given : SettledGiven → Claim
claim_given (settled.Exactly shown) = Exactly shown.rounds
claim_given (settled.Never way) = Never
claim_given (settled.Within more None) = MoreThan more.rounds
claim_given (settled.Within more (Some most)) = within more.rounds most.rounds
claim_given (settled.Beyond rounds shown None) = MoreThan rounds
claim_given (settled.Beyond rounds shown (Some most)) = within rounds most.rounds
claim_given (settled.AtMost most) = AtMost most.rounds
