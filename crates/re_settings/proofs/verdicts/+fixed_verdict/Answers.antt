use Rattle.std.proofs.Common.{subst}
use Rattle.re_cert.specs.Bounds.{problem_at}
use Rattle.re_chains.proofs.WordsGiven.{none_fails}
use Rattle.re_bounds.specs.GivenBounds.{IsOver}
use Rattle.re_problem.specs.NamedProblems.{unnamed}
use Rattle.re_settings.proofs.GivenMeans.{none_there}
use Rattle.re_settings.specs.Walks.{IsFitAnswer, input_at}
use Rattle.re_settings.proofs.verdicts.+fixed_verdict.Goals as goal

pub back_verdict-requires-clause-ends : goal.back_verdict-requires-clause-ends
back_verdict-requires-clause-ends t c =
    let over : IsOver c.args.bound.now = record { fits = c.kind-kind.ensures.bound; first = c.over_problems.ensures.first; next = c.over_problems.ensures.next } in
    none_there c.args.input.now c.args.bound.now over c.requires.input (none_fails _ c.requires.sound) c.args.number c.requires.few
    (subst (IsFitAnswer (unnamed (problem_at c.args.bound.now c.args.number)) (input_at c.args.input.now c.args.number)) c.in-Missing.is c.in_ok-sets.ensures)
