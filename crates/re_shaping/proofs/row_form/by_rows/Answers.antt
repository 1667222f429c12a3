use Rattle.std.proofs.Common.{◌≡◌, map, true, sym, ap, ◌∙◌, subst}
use Rattle.std.specs.List.{AllByRecursion}
use Rattle.re_cert.specs.Bounds.{Bound, is_bound}
use Rattle.re_chains.specs.Chains.{IsSoundChain}
use Rattle.re_shaping.specs.RowForms.{HasStepSets, step_by_rows}
use Rattle.re_shaping.proofs.RowForms.{bound-by_rows, by_rows_holds, held-by_rows, steps-sets}
use Rattle.re_shaping.proofs.row_form.by_rows.Goals as goal

pub steps_by_rows-requires : goal.steps_by_rows-requires
steps_by_rows-requires c =
    subst (AllByRecursion HasStepSets) (sym c.steps.ensures.steps) (steps-sets 1 c.args.certificate.now.first c.args.certificate.now.steps c.requires)

pub built-requires : goal.built-requires
built-requires c =
    subst (λ (b : Bound). is_bound b ≡ true)
    (sym (held-by_rows c.args.certificate.now c.kind.result c.back-back.result c.in_ok-first.first c.in_ok-steps.steps.items c.in_ok-renaming.renaming.items
    c.kind.ensures.kind c.back-back.ensures.back (c.in_ok-first.ensures ∙ c.first.ensures.first) (c.in_ok-steps.ensures ∙ ap (map step_by_rows) c.steps.ensures.steps) (c.in_ok-renaming.ensures ∙ c.renaming.ensures.renaming)))
    (bound-by_rows c.args.certificate.now c.kind.ensures.bound c.requires)

pub returns-clause-sound : goal.returns-clause-sound
returns-clause-sound c =
    subst IsSoundChain
    (sym (c.built.ensures
    ∙ held-by_rows c.args.certificate.now c.kind.result c.back-back.result c.in_ok-first.first c.in_ok-steps.steps.items c.in_ok-renaming.renaming.items
    c.kind.ensures.kind c.back-back.ensures.back (c.in_ok-first.ensures ∙ c.first.ensures.first) (c.in_ok-steps.ensures ∙ ap (map step_by_rows) c.steps.ensures.steps) (c.in_ok-renaming.ensures ∙ c.renaming.ensures.renaming)))
    (by_rows_holds c.args.certificate.now (record { bound = c.kind.ensures.bound; problems = c.over_problems.ensures; sound = c.requires }))
