use Rattle.std.proofs.Common.{subst, List}
use Rattle.std.specs.List.{AllByRecursion}
use Rattle.re_problem.specs.NamedProblems.{IsNamedProblem}
use Rattle.re_why.proofs.Bounds.{fault_of_all, first_of_all, refused_at, shown_of_all}
use Rattle.re_why.proofs.Naming.{named_of_all}
use Rattle.re_why.specs.Witnesses.{IsSoundStep}
use Rattle.re_why.proofs.finding.why_refused.Goals as goal

pub returns-in-Refused-clause-first : goal.returns-in-Refused-clause-first
returns-in-Refused-clause-first c =
    let bound = c.args.certificate.now in
    let same = refused_at bound c.in-Refused.step c.in-Refused.clause c.check.result c.check.ensures.verdict c.in-Refused.is in
    let first = first_of_all bound c.in-Refused.step c.in-Refused.clause c.refutation_at.result same c.refutation_at.ensures in
    first

pub returns-in-Refused-clause-fault : goal.returns-in-Refused-clause-fault
returns-in-Refused-clause-fault c =
    let bound = c.args.certificate.now in
    let same = refused_at bound c.in-Refused.step c.in-Refused.clause c.check.result c.check.ensures.verdict c.in-Refused.is in
    let first = first_of_all bound c.in-Refused.step c.in-Refused.clause c.refutation_at.result same c.refutation_at.ensures in
    let named : IsNamedProblem bound.first = subst IsNamedProblem c.first.ensures.first c.names-first.ensures.problem in
    let sound : AllByRecursion IsSoundStep bound.steps = subst (AllByRecursion IsSoundStep) c.steps.ensures.steps c.are_sound.ensures in
    fault_of_all bound c.refutation_at.result c.first.ensures.bound named sound first

pub returns-in-Refused-clause-shown : goal.returns-in-Refused-clause-shown
returns-in-Refused-clause-shown c =
    let bound = c.args.certificate.now in
    let same = refused_at bound c.in-Refused.step c.in-Refused.clause c.check.result c.check.ensures.verdict c.in-Refused.is in
    let first = first_of_all bound c.in-Refused.step c.in-Refused.clause c.refutation_at.result same c.refutation_at.ensures in
    let named : IsNamedProblem bound.first = subst IsNamedProblem c.first.ensures.first c.names-first.ensures.problem in
    let sound : AllByRecursion IsSoundStep bound.steps = subst (AllByRecursion IsSoundStep) c.steps.ensures.steps c.are_sound.ensures in
    shown_of_all bound c.refutation_at.result c.first.ensures.bound named sound first

pub returns-in-Refused-clause-named : goal.returns-in-Refused-clause-named
returns-in-Refused-clause-named c =
    let bound = c.args.certificate.now in
    let same = refused_at bound c.in-Refused.step c.in-Refused.clause c.check.result c.check.ensures.verdict c.in-Refused.is in
    let first = first_of_all bound c.in-Refused.step c.in-Refused.clause c.refutation_at.result same c.refutation_at.ensures in
    let named : IsNamedProblem bound.first = subst IsNamedProblem c.first.ensures.first c.names-first.ensures.problem in
    let sound : AllByRecursion IsSoundStep bound.steps = subst (AllByRecursion IsSoundStep) c.steps.ensures.steps c.are_sound.ensures in
    named_of_all bound c.refutation_at.result c.first.ensures.bound named sound first
