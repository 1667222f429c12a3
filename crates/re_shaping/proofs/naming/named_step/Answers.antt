use Rattle.std.proofs.Common.{◌≡◌, [], ap, false, length, subst, sym, true, ◌∙◌}
use Rattle.std.specs.Prelude.{IfOk}
use Rattle.re_problem.specs.NamedProblems.{NamedProblem}
use Rattle.re_problem.specs.Steps.LowerMap.{by_set}
use Rattle.re_cert.specs.Bounds.{BoundStep, step_with}
use Rattle.re_shaping.proofs.NewNames.{count-numbers, lower-is, numbers-read, upper-is, upper-known}
use Rattle.re_shaping.specs.Chains.{HasLabelsBelow}
use Rattle.re_shaping.specs.Naming.{is_taken, named_problem}
use Rattle.re_shaping.proofs.naming.named_step.Goals as goal

pub named_problem-requires-clause-free : goal.named_problem-requires-clause-free
named_problem-requires-clause-free c = ap (is_taken c.args.label c.args.name.now) c.next-2.ensures ∙ c.requires.free

pub step_along-requires : goal.step_along-requires
step_along-requires c =
    subst (λ n. HasLabelsBelow n c.args.step.now.map)
    (sym (ap length (numbers-read c.args.label c.args.name.now c.args.step.now.next c.names-names.result.now c.as_slice-in-Lower.result.now (c.names-names.ensures.names ∙ ap (λ (p : NamedProblem). p.names) c.next.ensures) (c.as_slice-in-Lower.ensures.value ∙ c.name_numbers-numbers.ensures)) ∙ count-numbers c.args.label c.args.name.now c.args.step.now.next)) c.requires.below

pub returns-in-Lower : goal.returns-in-Lower
returns-in-Lower c =
    let low : c.args.step.now.lower ≡ true = (λ i. (sym c.step.view_is i).lower) ∙ ap (λ p. (step_with c.step.inside.next p).lower) c.in-Lower.is in
    subst (λ (t : BoundStep). IfOk c.step_along.result (λ s. s ≡ t))
    (lower-is c.args.label c.args.name.now c.args.step.now c.as_slice-in-Lower.result.now c.in_ok-next.next low (numbers-read c.args.label c.args.name.now c.args.step.now.next c.names-names.result.now c.as_slice-in-Lower.result.now (c.names-names.ensures.names ∙ ap (λ (p : NamedProblem). p.names) c.next.ensures) (c.as_slice-in-Lower.ensures.value ∙ c.name_numbers-numbers.ensures)) (c.in_ok-next.ensures ∙ ap (named_problem c.args.label c.args.name.now) c.next-2.ensures))
    c.step_along.ensures

pub sent_entries-requires : goal.sent_entries-requires
sent_entries-requires c =
    let shape : c.args.step.now ≡ record { lower = false; next = c.step.inside.next; rows = []; map = by_set c.in-Upper.map.items } = sym c.step.view_is ∙ ap (step_with c.step.inside.next) c.in-Upper.is in
    upper-known c.args.label c.args.name.now c.args.step.now c.step.inside.next c.in-Upper.map.items c.as_slice-in-Upper.result.now c.as_slice-in-Upper-2.result.now shape c.as_slice-in-Upper.ensures.value
    (numbers-read c.args.label c.args.name.now c.args.step.now.next c.names-names.result.now c.as_slice-in-Upper-2.result.now (c.names-names.ensures.names ∙ ap (λ (p : NamedProblem). p.names) c.next.ensures) (c.as_slice-in-Upper-2.ensures.value ∙ c.name_numbers-numbers.ensures)) c.requires.below

pub returns-in_ok-map-in-Upper : goal.returns-in_ok-map-in-Upper
returns-in_ok-map-in-Upper c =
    let shape : c.args.step.now ≡ record { lower = false; next = c.step.inside.next; rows = []; map = by_set c.in-Upper.map.items } = sym c.step.view_is ∙ ap (step_with c.step.inside.next) c.in-Upper.is in
    upper-is c.args.label c.args.name.now c.args.step.now c.step.inside.next c.in-Upper.map.items c.as_slice-in-Upper.result.now c.as_slice-in-Upper-2.result.now shape c.as_slice-in-Upper.ensures.value
    (numbers-read c.args.label c.args.name.now c.args.step.now.next c.names-names.result.now c.as_slice-in-Upper-2.result.now (c.names-names.ensures.names ∙ ap (λ (p : NamedProblem). p.names) c.next.ensures) (c.as_slice-in-Upper-2.ensures.value ∙ c.name_numbers-numbers.ensures))
    c.in_ok-next.next c.len.result c.in_ok-sent-in-Upper.sent.items c.as_slice-in-Upper-3.result.now c.in_ok-map-in-Upper.map.items
    (c.in_ok-next.ensures ∙ ap (named_problem c.args.label c.args.name.now) c.next-2.ensures)
    (c.len.ensures.len ∙ ap length (c.names-names.ensures.names ∙ ap (λ (p : NamedProblem). p.names) c.next.ensures)) c.in_ok-sent-in-Upper.ensures c.as_slice-in-Upper-3.ensures.value c.in_ok-map-in-Upper.ensures
