use Rattle.std.proofs.Common.{◌≡◌, ap, length, subst, sym, ◌∙◌}
use Rattle.std.specs.Prelude.{IfOk}
use Rattle.re_labels.specs.Configs.{image_at}
use Rattle.re_problem.specs.NamedProblems.{NamedProblem}
use Rattle.re_cert.specs.Bounds.{BoundStep}
use Rattle.re_shaping.proofs.MergedSteps.{count-numbers}
use Rattle.re_shaping.specs.Chains.{HasLabelsBelow, step_along}
use Rattle.re_shaping.specs.Merging.{merge_numbers, merged_problem, merged_step}
use Rattle.re_shaping.proofs.merging.merged_step.Goals as goal

pub step_along-requires : goal.step_along-requires
step_along-requires c =
    subst (λ n. HasLabelsBelow n c.args.step.now.map)
    (sym (ap length (c.as_slice-2.ensures.value ∙ c.merge_numbers-numbers.ensures) ∙ count-numbers c.args.from c.args.to c.next.result.now ∙ ap (λ (p : NamedProblem). length p.names) c.next.ensures)) c.requires.below

pub returns : goal.returns
returns c =
    let numbers : c.as_slice-2.result.now ≡ merge_numbers c.args.from c.args.to c.args.step.now.next = c.as_slice-2.ensures.value ∙ c.merge_numbers-numbers.ensures ∙ ap (merge_numbers c.args.from c.args.to) c.next.ensures in
    let next : c.in_ok-next.next ≡ merged_problem c.args.from c.args.to c.args.step.now.next = c.in_ok-next.ensures ∙ ap (merged_problem c.args.from c.args.to) c.next-2.ensures in
    let whole : step_along (image_at c.as_slice-2.result.now) c.in_ok-next.next c.args.step.now ≡ merged_step c.args.from c.args.to c.args.step.now = (λ i. step_along (image_at (numbers i)) (next i) c.args.step.now) in
    subst (λ (t : BoundStep). IfOk c.step_along.result (λ s. s ≡ t)) whole c.step_along.ensures
