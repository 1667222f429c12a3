use Rattle.std.proofs.Common.{ap, subst, sym, ◌∙◌}
use Rattle.re_cert.specs.Bounds.{Bound}
use Rattle.re_chains.specs.Chains.{IsSound, IsSoundChain, chain_kind}
use Rattle.re_shaping.proofs.Laws.{merged-kind}
use Rattle.re_shaping.proofs.merging.merge_lower.Goals as goal

pub new-requires-clause-lower : goal.new-requires-clause-lower
new-requires-clause-lower c =
    ap (λ (b : Bound). b.kind) c.in-Ok.ensures.merged ∙ merged-kind c.args.from c.args.to c.args.chain.now.certificate ∙ ap chain_kind c.args.chain.now.chain.lower

pub new-requires-clause-sound : goal.new-requires-clause-sound
new-requires-clause-sound c =
    let given : IsSoundChain c.args.chain.now.certificate = record { bound = c.kind-kind.ensures.bound; problems = c.over_problems.ensures; sound = c.args.chain.now.chain.sound } in
    subst IsSound (sym c.in-Ok.ensures.merged) (c.merge_law.ensures c.args.chain.now.certificate c.args.from c.args.to given c.in-Ok.ensures.may c.in-Ok.ensures.within).sound
