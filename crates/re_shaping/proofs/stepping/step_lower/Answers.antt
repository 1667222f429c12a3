use Rattle.std.proofs.Common.{ap, ◌∙◌}
use Rattle.re_cert.specs.Bounds.{Bound}
use Rattle.re_chains.specs.Chains.{chain_kind}
use Rattle.re_shaping.proofs.stepping.step_lower.Goals as goal

pub new-requires-clause-lower : goal.new-requires-clause-lower
new-requires-clause-lower c = ap (λ (b : Bound). b.kind) c.in-Ok.ensures.stepped ∙ ap chain_kind c.args.chain.now.chain.lower

pub new-requires-clause-sound : goal.new-requires-clause-sound
new-requires-clause-sound c = (c.in-Ok.ensures.sound c.args.chain.now.chain.sound).sound
