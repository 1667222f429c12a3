use Rattle.re_words.proofs.WorkingLemmas.{sets_below}
use Rattle.re_problem.specs.NamedProblems.{unnamed}
use Rattle.re_step.specs.Derivations.{Derivation}
use Rattle.re_step.proofs.NameLemmas.{length-label_names}
use Rattle.re_labels.specs.GoodRows.{max_sets}
use Rattle.std.proofs.Common.{ap, length, sym, ◌∙◌}
use Rattle.re_words.proofs.working.derived_output.Goals as goal

pub print_meanings-requires-clause-labels : goal.print_meanings-requires-clause-labels
print_meanings-requires-clause-labels c =
    let P = unnamed c.args.problem.now in
    ap length (c.as_slice.ensures.value ∙ ap (λ (d : Derivation). d.sets) (c.derived.view_is ∙ c.requires)) ∙ sym (length-label_names (length (max_sets P.passive P.labels)))
    ∙ sym (ap (λ (d : Derivation). length d.problem.names) (c.derived.view_is ∙ c.requires)) ∙ sym (ap length c.names.ensures.names)

pub print_meanings-requires-clause-named : goal.print_meanings-requires-clause-named
print_meanings-requires-clause-named c =
    let P = unnamed c.args.problem.now in
    sets_below P.passive P.labels _ c.as_slice.result.now (sym (ap length c.names-2.ensures.names)) (c.as_slice.ensures.value ∙ ap (λ (d : Derivation). d.sets) (c.derived.view_is ∙ c.requires))
