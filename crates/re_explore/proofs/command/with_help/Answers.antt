use Rattle.std.proofs.Common.{◌++◌, append_assoc, ap, ◌∙◌}
use Rattle.re_explore.specs.Commands.{help_text, lines_of_re, word_lines}
use Rattle.re_explore.proofs.command.with_help.Goals as goal

pub returns : goal.returns
unfolding help_text
returns c =
    let words = c.in_ok-push_word_lines.ensures ∙ ap (λ t. t ++ word_lines) c.in_ok-text.ensures in
    let others = c.in_ok-push_words.ensures ∙ ap (λ t. c.push_word_lines.new.text.items ++ t) c.help_of_re.ensures ∙ ap (λ t. t ++ lines_of_re) words in
    others ∙ append_assoc c.args.words.now word_lines lines_of_re
