use Rattle.std.proofs.Common.{sym, subst, ◌∙◌}
use Rattle.std.specs.Prelude.{option_map}
use Rattle.re_cert.specs.Bounds.{last_problem}
use Rattle.re_settings.specs.Laws.{IsLeading}
use Rattle.re_problem.specs.NamedProblems.{unnamed}
use Rattle.re_bridge_words.proofs.UpperSteps.{few-sets, leads}
use Rattle.re_bridge_words.proofs.upper.bridge_upper.Goals as goal
use Rattle.re_check.proofs.StepMeaning.{exchanged-degrees}

pub find_upper-requires-clause-active : goal.find_upper-requires-clause-active
find_upper-requires-clause-active c = (exchanged-degrees c.last-last.result.now c.args.next.now (sym c.are_exchanged.ensures ∙ c.if-not-are_exchanged.false)).0

pub find_upper-requires-clause-passive : goal.find_upper-requires-clause-passive
find_upper-requires-clause-passive c = (exchanged-degrees c.last-last.result.now c.args.next.now (sym c.are_exchanged.ensures ∙ c.if-not-are_exchanged.false)).1

pub over-requires-clause-few : goal.over-requires-clause-few
over-requires-clause-few c =
    few-sets c.last-last.result.now c.args.next.now c.as_slice.result.now c.names-next.ensures.problem
    (leads c.last-last.result.now c.last-last.result.now c.args.next.now c.as_slice.result.now c.in-Some.sets.items (λ i. c.last-last.result.now) c.as_slice.ensures.value
    (subst (λ o. IsLeading (unnamed c.last-last.result.now) (unnamed c.args.next.now) (option_map (λ sets. sets.items) o)) c.in-Some.is c.in_ok-sets.ensures.leading))

pub over-requires-clause-leads : goal.over-requires-clause-leads
over-requires-clause-leads c =
    leads (last_problem c.args.chain.now.certificate) c.last-last.result.now c.args.next.now c.as_slice.result.now c.in-Some.sets.items c.last-last.ensures c.as_slice.ensures.value
    (subst (λ o. IsLeading (unnamed c.last-last.result.now) (unnamed c.args.next.now) (option_map (λ sets. sets.items) o)) c.in-Some.is c.in_ok-sets.ensures.leading)
