-- What is claimed where so much is known.
use Rattle.std.specs.Prelude.{None, Some}
use Rattle.re_evidence.specs.Claims.{within}
use Rattle.re_evidence.specs.declared.types.Claim.{Claim}
use Rattle.re_evidence.specs.declared.types.Claim.TheVariants.{Exactly, MoreThan, Never}
use Rattle.re_settle.specs.declared.types.Settled.{Settled}
use Rattle.re_settle.specs.declared.types.Settled.TheVariants as settled

-- what is claimed where so much is known
abbrev pub claim_of : Settled → Claim
claim_of settled.Unsolvable = Never
claim_of (settled.Exactly shown) = Exactly shown.rounds
claim_of (settled.Never way) = Never
claim_of (settled.Within more None) = MoreThan more.rounds
claim_of (settled.Within more (Some most)) = within more.rounds most.rounds
