use Rattle.std.proofs.Common.{◌++◌, ◌∙◌}
use Rattle.re_describe.specs.Heads.{problem_text}
use Rattle.re_describe.proofs.reporting.problem_block.Goals as goal

pub returns : goal.returns
returns c = c.in_ok-push_problem.ensures ∙ (λ i. c.new-text.ensures.items i ++ problem_text c.args.number (c.problem_of.ensures i))
