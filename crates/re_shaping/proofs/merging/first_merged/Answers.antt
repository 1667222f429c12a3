use Rattle.std.proofs.Common.{◌≡◌, ◌<◌, ℕ, None, ap, length, subst, sym, ◌∙◌}
use Rattle.std.specs.Prelude.{IfOk}
use Rattle.re_cert.specs.Bounds.{BoundStep}
use Rattle.re_changes.proofs.Merges.{merge-relaxed}
use Rattle.re_labels.specs.Configs.{image_at}
use Rattle.re_problem.specs.NamedProblems.{NamedProblem, unnamed}
use Rattle.re_problem.specs.Steps.{IsRelaxed}
use Rattle.re_shaping.proofs.Laws.{number-fits}
use Rattle.re_shaping.proofs.MergedSteps.{count-numbers}
use Rattle.re_shaping.specs.Merging.{first_merged, merge_numbers}
use Rattle.re_shaping.specs.Relaxing.{relaxed_limit, relaxed_step}
use Rattle.re_shaping.proofs.merging.first_merged.Goals as goal

pub relaxed_step-requires-clause-count : goal.relaxed_step-requires-clause-count
relaxed_step-requires-clause-count c = ap length (c.as_slice-2.ensures.value ∙ c.merge_numbers-numbers.ensures) ∙ count-numbers c.args.from c.args.to c.args.problem.now

pub relaxed_step-requires-clause-below : goal.relaxed_step-requires-clause-below
relaxed_step-requires-clause-below c =
    let numbers : c.as_slice-2.result.now ≡ merge_numbers c.args.from c.args.to c.args.problem.now = c.as_slice-2.ensures.value ∙ c.merge_numbers-numbers.ensures in
    subst (λ images. (label : ℕ) → label < length c.args.problem.now.names → image_at images label < length c.in_ok-merged.merged.names) (sym numbers)
    (subst (λ (p : NamedProblem). (label : ℕ) → label < length c.args.problem.now.names → image_at (merge_numbers c.args.from c.args.to c.args.problem.now) label < length p.names) (sym c.in_ok-merged.ensures)
    (number-fits c.args.from c.args.to c.args.problem.now c.requires.to c.requires.apart))

pub relaxed_step-requires-clause-relaxed : goal.relaxed_step-requires-clause-relaxed
relaxed_step-requires-clause-relaxed c =
    let numbers : c.as_slice-2.result.now ≡ merge_numbers c.args.from c.args.to c.args.problem.now = c.as_slice-2.ensures.value ∙ c.merge_numbers-numbers.ensures in
    subst (λ images. IsRelaxed (unnamed c.args.problem.now) (unnamed c.in_ok-merged.merged) (image_at images)) (sym numbers)
    (subst (λ (p : NamedProblem). IsRelaxed (unnamed c.args.problem.now) (unnamed p) (image_at (merge_numbers c.args.from c.args.to c.args.problem.now))) (sym c.in_ok-merged.ensures)
    (merge-relaxed c.args.to c.args.from c.args.problem.now))

pub returns-clause-step : goal.returns-clause-step
returns-clause-step c =
    let numbers : c.as_slice-2.result.now ≡ merge_numbers c.args.from c.args.to c.args.problem.now = c.as_slice-2.ensures.value ∙ c.merge_numbers-numbers.ensures in
    let whole : relaxed_step (image_at c.as_slice-2.result.now) c.args.problem.now c.in_ok-merged.merged ≡ first_merged c.args.from c.args.to c.args.problem.now =
    (λ i. relaxed_step (image_at (numbers i)) c.args.problem.now (c.in_ok-merged.ensures i)) in
    subst (λ (t : BoundStep). IfOk c.relaxed_step.result (λ s. s ≡ t)) whole c.relaxed_step.ensures.step

pub returns-clause-none : goal.returns-clause-none
returns-clause-none c = subst (λ (p : NamedProblem). IfOk c.relaxed_step.result (λ _. relaxed_limit c.args.problem.now p ≡ None)) c.in_ok-merged.ensures c.relaxed_step.ensures.none

pub returns-clause-limit : goal.returns-clause-limit
returns-clause-limit c = λ limit e. ap (relaxed_limit c.args.problem.now) (sym c.in_ok-merged.ensures) ∙ c.relaxed_step.ensures.limit limit e
