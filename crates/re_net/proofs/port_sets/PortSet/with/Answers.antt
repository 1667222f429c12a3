use Rattle.std.proofs.Common.{ap, eqb}
use Rattle.std.specs.Int.{w8}
use Rattle.std.proofs.lemmas.Nat.Bits.{bit_at_set_other, bit_at_set_same}
use Rattle.re_net.proofs.port_sets.PortSet.with.Goals as goal

pub returns-clause-held : goal.returns-clause-held
returns-clause-held c = ap (λ b. eqb b 1) (bit_at_set_same w8 c.args.self.bits c.args.port c.requires)

pub returns-clause-others : goal.returns-clause-others
returns-clause-others c = λ i l other. ap (λ b. eqb b 1) (bit_at_set_other w8 c.args.self.bits c.args.port c.requires i other)
