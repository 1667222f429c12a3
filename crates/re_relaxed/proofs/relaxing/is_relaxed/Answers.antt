use Rattle.std.proofs.Common.{sym, ◌∙◌}
use Rattle.re_problem.specs.NamedProblems.{unnamed}
use Rattle.re_relaxed.proofs.relaxing.is_relaxed.Goals as goal

pub returns-in-Yes : goal.returns-in-Yes
returns-in-Yes c = λ _. (c.relaxes_law.ensures (unnamed c.args.problem.now) (unnamed c.args.relaxed.now) c.args.map.now).0 (sym c.relaxes.ensures ∙ c.in-Yes.is)
