use Rattle.std.proofs.Common.{◌≡◌, [], None, Some, ap, sym, ◌∙◌}
use Rattle.re_shaping.proofs.NewNames.{first-made}
use Rattle.re_chains.specs.Chains.{chain_kind, chain_with}
use Rattle.re_shaping.specs.Naming.{named_problem}
use Rattle.re_shaping.proofs.naming.named_first.Goals as goal

pub unreachable-requires : goal.unreachable-requires
unreachable-requires c =
    let some : None ≡ Some (chain_with c.args.certificate.now.kind (named_problem c.args.label c.args.name.now c.args.certificate.now.first) []) =
    sym c.in-None.is ∙ c.build.ensures ∙ first-made c.args.certificate.now.kind c.chain_kind-kind.result c.in_ok-named.named (named_problem c.args.label c.args.name.now c.args.certificate.now.first) c.new.result.items c.new-2.result.items
    (c.chain_kind-kind.ensures ∙ ap chain_kind c.kind.ensures.kind) (c.in_ok-named.ensures ∙ ap (named_problem c.args.label c.args.name.now) c.first-first.ensures.first) c.new.ensures.items c.new-2.ensures.items in
    cc

pub returns : goal.returns
returns c =
    let some : Some c.in-Some.chain ≡ Some (chain_with c.args.certificate.now.kind (named_problem c.args.label c.args.name.now c.args.certificate.now.first) []) =
    sym c.in-Some.is ∙ c.build.ensures ∙ first-made c.args.certificate.now.kind c.chain_kind-kind.result c.in_ok-named.named (named_problem c.args.label c.args.name.now c.args.certificate.now.first) c.new.result.items c.new-2.result.items
    (c.chain_kind-kind.ensures ∙ ap chain_kind c.kind.ensures.kind) (c.in_ok-named.ensures ∙ ap (named_problem c.args.label c.args.name.now) c.first-first.ensures.first) c.new.ensures.items c.new-2.ensures.items in
    cc
