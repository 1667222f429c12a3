use Rattle.std.proofs.Common.{◌≡◌, ◌-◌, None, Some, length, sym, take, ap, ◌∙◌}
use Rattle.std.proofs.lemmas.List.{take_all}
use Rattle.re_cert.specs.Bounds.{built}
use Rattle.re_shaping.proofs.ChangedLast.{built-some, with_last-is}
use Rattle.re_chains.specs.Chains.{chain_kind}
use Rattle.re_shaping.specs.Chains.{with_last}
use Rattle.re_shaping.proofs.last_step.with_last.Goals as goal

pub unreachable-requires : goal.unreachable-requires
unreachable-requires c =
    let before : c.loop-step.steps.items ≡ take (length c.steps-given.result.now - 1) c.steps-given.result.now = c.loop-step.invariant ∙ take_all c.loop-step.step-index (take (length c.steps-given.result.now - 1) c.steps-given.result.now) c.loop-step-test.false in
    let whole = with_last-is c.args.certificate.now c.args.last c.chain_kind-kind.result c.in_ok-first.first c.steps-given.result.now c.loop-step.steps.items c.push-2.new.self.items c.new.result.items
    c.requires.some (c.chain_kind-kind.ensures ∙ ap chain_kind c.kind.ensures.kind) (c.in_ok-first.ensures ∙ c.first.ensures.first) c.steps-given.ensures.steps before c.in_ok-push-2.ensures.items c.new.ensures.items in
    let some : None ≡ Some (with_last (λ _. c.args.last) c.args.certificate.now) =
    sym c.in-None.is ∙ c.build.ensures ∙ ap built whole ∙ built-some (with_last (λ _. c.args.last) c.args.certificate.now) c.requires.bound in
    cc

pub returns : goal.returns
returns c =
    let before : c.loop-step.steps.items ≡ take (length c.steps-given.result.now - 1) c.steps-given.result.now = c.loop-step.invariant ∙ take_all c.loop-step.step-index (take (length c.steps-given.result.now - 1) c.steps-given.result.now) c.loop-step-test.false in
    let whole = with_last-is c.args.certificate.now c.args.last c.chain_kind-kind.result c.in_ok-first.first c.steps-given.result.now c.loop-step.steps.items c.push-2.new.self.items c.new.result.items
    c.requires.some (c.chain_kind-kind.ensures ∙ ap chain_kind c.kind.ensures.kind) (c.in_ok-first.ensures ∙ c.first.ensures.first) c.steps-given.ensures.steps before c.in_ok-push-2.ensures.items c.new.ensures.items in
    let some : Some c.in-Some.chain ≡ Some (with_last (λ _. c.args.last) c.args.certificate.now) =
    sym c.in-Some.is ∙ c.build.ensures ∙ ap built whole ∙ built-some (with_last (λ _. c.args.last) c.args.certificate.now) c.requires.bound in
    cc
