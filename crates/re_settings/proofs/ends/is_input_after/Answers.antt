use Rattle.re_problem.specs.NamedProblems.{unnamed}
use Rattle.re_settings.proofs.EndsAfter.{is_input, is_own, no_fault}
use Rattle.re_settings.proofs.ends.is_input_after.Goals as goal

pub returns-then-has_degrees : goal.returns-then-has_degrees
returns-then-has_degrees c =
    let own = no_fault c.args.input.now c.input_fault.result c.is_none.result c.input_fault.ensures.judged c.is_none.ensures in (
      λ none. is_input (unnamed c.args.problem.now) (unnamed c.args.input.now) c.args.steps (c.has_degrees.ensures.0 c.if-has_degrees.true) (own.0 none),
      λ is. own.1 (is_own (unnamed c.args.problem.now) (unnamed c.args.input.now) c.args.steps is),
    )
