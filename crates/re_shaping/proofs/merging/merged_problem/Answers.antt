use Rattle.std.proofs.Common.{◌≡◌, ap, length, subst, ◌∙◌}
use Rattle.std.specs.Prelude.{IfOk}
use Rattle.re_problem.specs.NamedProblems.{NamedProblem}
use Rattle.re_labels.specs.Lists.{count_from}
use Rattle.re_labels.specs.Sets.{without_label}
use Rattle.re_shaping.proofs.MergedSteps.{active-known, images-below, is-built, made, passive-known, stay-set}
use Rattle.re_shaping.proofs.merging.merged_problem.Goals as goal

pub renumbered-requires-clause-stay : goal.renumbered-requires-clause-stay
renumbered-requires-clause-stay c = stay-set c.args.from c.args.to c.args.problem.now c.requires.to c.requires.apart c.names-names.ensures.problem c.as_slice.result.now c.args.numbers.now c.names-names.result.now c.active.result.now c.passive.result.now
    (c.as_slice.ensures.value ∙ c.all_but-stay.ensures ∙ ap (λ n. without_label (count_from 0 n) c.args.from) (c.len.ensures.len ∙ ap length c.names-names.ensures.names)) c.requires.numbers c.names-names.ensures.names c.active.ensures.active c.passive.ensures.passive

pub renumbered-requires-clause-active_known : goal.renumbered-requires-clause-active_known
renumbered-requires-clause-active_known c = active-known c.args.from c.args.to c.args.problem.now c.requires.to c.requires.apart c.names-names.ensures.problem c.as_slice.result.now c.args.numbers.now c.names-names.result.now c.active.result.now c.passive.result.now
    (c.as_slice.ensures.value ∙ c.all_but-stay.ensures ∙ ap (λ n. without_label (count_from 0 n) c.args.from) (c.len.ensures.len ∙ ap length c.names-names.ensures.names)) c.requires.numbers c.names-names.ensures.names c.active.ensures.active c.passive.ensures.passive

pub renumbered-requires-clause-passive_known : goal.renumbered-requires-clause-passive_known
renumbered-requires-clause-passive_known c = passive-known c.args.from c.args.to c.args.problem.now c.requires.to c.requires.apart c.names-names.ensures.problem c.as_slice.result.now c.args.numbers.now c.names-names.result.now c.active.result.now c.passive.result.now
    (c.as_slice.ensures.value ∙ c.all_but-stay.ensures ∙ ap (λ n. without_label (count_from 0 n) c.args.from) (c.len.ensures.len ∙ ap length c.names-names.ensures.names)) c.requires.numbers c.names-names.ensures.names c.active.ensures.active c.passive.ensures.passive

pub renumbered-requires-clause-below : goal.renumbered-requires-clause-below
renumbered-requires-clause-below c = images-below c.args.from c.args.to c.args.problem.now c.requires.to c.requires.apart c.names-names.ensures.problem c.as_slice.result.now c.args.numbers.now c.names-names.result.now c.active.result.now c.passive.result.now
    (c.as_slice.ensures.value ∙ c.all_but-stay.ensures ∙ ap (λ n. without_label (count_from 0 n) c.args.from) (c.len.ensures.len ∙ ap length c.names-names.ensures.names)) c.requires.numbers c.names-names.ensures.names c.active.ensures.active c.passive.ensures.passive

pub renumbered-requires-clause-built : goal.renumbered-requires-clause-built
renumbered-requires-clause-built c = is-built c.args.from c.args.to c.args.problem.now c.requires.to c.requires.apart c.names-names.ensures.problem c.as_slice.result.now c.args.numbers.now c.names-names.result.now c.active.result.now c.passive.result.now
    (c.as_slice.ensures.value ∙ c.all_but-stay.ensures ∙ ap (λ n. without_label (count_from 0 n) c.args.from) (c.len.ensures.len ∙ ap length c.names-names.ensures.names)) c.requires.numbers c.names-names.ensures.names c.active.ensures.active c.passive.ensures.passive

pub returns : goal.returns
returns c = subst (λ (p : NamedProblem). IfOk c.renumbered.result (λ problem. problem ≡ p)) (made c.args.from c.args.to c.args.problem.now c.requires.to c.requires.apart c.names-names.ensures.problem c.as_slice.result.now c.args.numbers.now c.names-names.result.now c.active.result.now c.passive.result.now
    (c.as_slice.ensures.value ∙ c.all_but-stay.ensures ∙ ap (λ n. without_label (count_from 0 n) c.args.from) (c.len.ensures.len ∙ ap length c.names-names.ensures.names)) c.requires.numbers c.names-names.ensures.names c.active.ensures.active c.passive.ensures.passive) c.renumbered.ensures
