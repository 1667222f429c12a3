use Rattle.std.proofs.Common.{refl}
use Rattle.re_cert.specs.Bounds.{problem_at}
use Rattle.re_problem.specs.NamedProblems.{unnamed}
use Rattle.re_settings.proofs.Answered.{set_count, sets_below}
use Rattle.re_settings.specs.Walks.{input_at}
use Rattle.re_settings.proofs.verdict_lines.shown_end.Goals as goal

pub push_fit-requires-clause-count : goal.push_fit-requires-clause-count
push_fit-requires-clause-count c = set_count (unnamed (problem_at c.args.bound.now c.args.number)) c.args.input.now c.args.number c.args.sets.now c.args.sets.now c.requires.sets refl

pub push_fit-requires-clause-below : goal.push_fit-requires-clause-below
push_fit-requires-clause-below c =
    sets_below (problem_at c.args.bound.now c.args.number) c.problem_at.result.now (input_at c.args.input.now c.args.number) c.args.sets.now c.args.sets.now c.requires.sets refl c.problem_at.ensures
