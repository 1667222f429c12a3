use Rattle.std.proofs.Common.{length, subst}
use Rattle.re_cert.specs.Bounds.{problem_at}
use Rattle.re_problem.specs.NamedProblems.{unnamed}
use Rattle.re_settings.proofs.Answered.{set_count, sets_below}
use Rattle.re_settings.specs.Walks.{AreFirst, IsFitAnswer, input_at}
use Rattle.re_settings.proofs.judging.fit_output.Goals as goal

pub push_fit-requires-clause-count : goal.push_fit-requires-clause-count
push_fit-requires-clause-count c =
    let number = length c.steps-steps.result.now in
    let problem = problem_at c.args.bound.now number in
    let are : AreFirst (unnamed problem) (input_at c.args.input.now number) c.in-Sets.sets.items = subst (IsFitAnswer (unnamed problem) (input_at c.args.input.now number)) c.in-Sets.is c.in_ok-sets.ensures in
    set_count (unnamed problem) c.args.input.now number c.in-Sets.sets.items c.as_slice.result.now are c.as_slice.ensures.value

pub push_fit-requires-clause-below : goal.push_fit-requires-clause-below
push_fit-requires-clause-below c =
    let number = length c.steps-steps.result.now in
    let problem = problem_at c.args.bound.now number in
    let are : AreFirst (unnamed problem) (input_at c.args.input.now number) c.in-Sets.sets.items = subst (IsFitAnswer (unnamed problem) (input_at c.args.input.now number)) c.in-Sets.is c.in_ok-sets.ensures in
    sets_below problem c.problem_at.result.now (input_at c.args.input.now number) c.in-Sets.sets.items c.as_slice.result.now are c.as_slice.ensures.value c.problem_at.ensures
