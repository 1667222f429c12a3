use Rattle.std.proofs.Common.{subst, sym}
use Rattle.re_chains.proofs.WordsGiven.{none_fails}
use Rattle.re_given.specs.Inputs.{IsInput}
use Rattle.re_bounds.specs.GivenBounds.{IsOver}
use Rattle.re_problem.specs.NamedProblems.{NamedProblem, unnamed}
use Rattle.re_settings.proofs.Held.{input_there}
use Rattle.re_settings.specs.Walks.{input_at}
use Rattle.re_settings.proofs.fitting.fit_at.Goals as goal

pub fit_answer-requires : goal.fit_answer-requires
fit_answer-requires c =
    let over : IsOver c.args.bound.now = record { fits = c.kind-kind.ensures.bound; first = c.over_problems.ensures.first; next = c.over_problems.ensures.next } in
    subst (λ (p : NamedProblem). IsInput (unnamed p) (input_at c.args.input.now c.args.number)) (sym c.problem_at.ensures)
    (input_there c.args.bound.now c.args.input.now c.args.number over c.requires.few (none_fails _ c.requires.sound) c.requires.input)
