use Rattle.std.proofs.Common.{ap, subst, sym, ◌∙◌}
use Rattle.re_cert.specs.Bounds.{Bound}
use Rattle.re_chains.specs.Chains.{IsSound, chain_kind}
use Rattle.re_relaxed.proofs.relaxing.copied.Goals as goal

pub new-requires-clause-lower : goal.new-requires-clause-lower
new-requires-clause-lower c = ap (λ (b : Bound). b.kind) c.in_ok-copied.ensures ∙ ap chain_kind c.args.chain.now.chain.lower

pub new-requires-clause-sound : goal.new-requires-clause-sound
new-requires-clause-sound c = subst IsSound (sym c.in_ok-copied.ensures) c.args.chain.now.chain.sound
