use Rattle.std.proofs.Common.{ap, eqb}
use Rattle.std.specs.Int.{w8}
use Rattle.std.proofs.lemmas.Nat.Bits.{bit_at_clear_other, bit_at_clear_same}
use Rattle.re_net.proofs.port_sets.PortSet.without.Goals as goal

pub returns-clause-gone : goal.returns-clause-gone
returns-clause-gone c = ap (λ b. eqb b 1) (bit_at_clear_same w8 c.args.self.bits c.args.port c.requires)

pub returns-clause-others : goal.returns-clause-others
returns-clause-others c = λ i l other. ap (λ b. eqb b 1) (bit_at_clear_other w8 c.args.self.bits c.args.port c.requires i l other)
