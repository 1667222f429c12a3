use Rattle.std.proofs.Common.{◌++◌, ap, ◌∙◌}
use Rattle.std.specs.Prelude.{codes}
use Rattle.re_explore.specs.Commands.{chain_lines, problem_lines, word_lines}
use Rattle.re_explore.proofs.Said.{joined_four}
use Rattle.re_explore.proofs.command.push_word_lines.Goals as goal

pub returns : goal.returns
unfolding word_lines
returns c =
    let help = codes "help: reads nothing, gives these lines\n" in
    let chains = c.in_ok-push_chain_lines.ensures ∙ ap (λ t. t ++ chain_lines) c.in_ok-push_words.ensures in
    let problems = c.in_ok-push_problem_lines.ensures ∙ ap (λ t. t ++ problem_lines) chains in
    problems ∙ joined_four c.args.text.now.items help chain_lines problem_lines
