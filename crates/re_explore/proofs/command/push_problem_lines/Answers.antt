use Rattle.std.proofs.Common.{◌++◌, ap, ◌∙◌}
use Rattle.re_forest_words.specs.Words.{forest_help}
use Rattle.re_given_words.specs.Words.{given_help}
use Rattle.re_graph_words.specs.Words.{graph_help}
use Rattle.re_inputs.specs.InputWords.{input_help}
use Rattle.re_settle.specs.Words.{settle_help}
use Rattle.re_explore.specs.EvidenceWords.{evidence_help}
use Rattle.re_explore.specs.Commands.{problem_lines}
use Rattle.re_explore.proofs.Said.{joined_seven}
use Rattle.re_explore.proofs.command.push_problem_lines.Goals as goal

pub returns : goal.returns
unfolding problem_lines evidence_help forest_help given_help graph_help input_help settle_help
returns c =
    let first = c.in_ok-push_words.ensures ∙ ap (λ t. c.args.text.now.items ++ t) c.settle_help.ensures in
    let evidence_part = c.in_ok-push_words-2.ensures ∙ ap (λ t. c.push_words.new.text.items ++ t) c.evidence_help.ensures ∙ ap (λ t. t ++ evidence_help) first in
    let forest_part = c.in_ok-push_words-3.ensures ∙ ap (λ t. c.push_words-2.new.text.items ++ t) c.forest_help.ensures ∙ ap (λ t. t ++ forest_help) evidence_part in
    let graph_part = c.in_ok-push_words-4.ensures ∙ ap (λ t. c.push_words-3.new.text.items ++ t) c.graph_help.ensures ∙ ap (λ t. t ++ graph_help) forest_part in
    let given_part = c.in_ok-push_words-5.ensures ∙ ap (λ t. c.push_words-4.new.text.items ++ t) c.given_help.ensures ∙ ap (λ t. t ++ given_help) graph_part in
    let input_part = c.in_ok-push_words-6.ensures ∙ ap (λ t. c.push_words-5.new.text.items ++ t) c.input_help.ensures ∙ ap (λ t. t ++ input_help) given_part in
    input_part ∙ joined_seven c.args.text.now.items settle_help evidence_help forest_help graph_help given_help input_help
