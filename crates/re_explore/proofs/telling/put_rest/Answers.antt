use Rattle.std.proofs.Common.{subst}
use Rattle.re_frame.specs.Runs.{Answers}
use Rattle.re_explore.proofs.telling.put_rest.Goals as goal

pub returns-in-Ok-clause-answer : goal.returns-in-Ok-clause-answer
returns-in-Ok-clause-answer g c answers =
    (c.in-Ok.rest.text.items, c.in-Ok.ensures.follows, subst (Answers c.put_output.result _ _) c.in-Ok.ensures.answer (c.put_output.ensures.answer answers))

pub returns-in-Ok-clause-partly : goal.returns-in-Ok-clause-partly
returns-in-Ok-clause-partly g c failed = (c.in-Ok.rest.text.items, c.in-Ok.ensures.follows, (c.put_output.ensures.partly failed).front)
