use Rattle.std.proofs.Common.{◌++◌, ap, ◌∙◌}
use Rattle.re_bridge_words.specs.Answers.{bridge_help}
use Rattle.re_chain_words.specs.ChainWords.{chain_help}
use Rattle.re_closure.specs.ClosureWords.{closure_help}
use Rattle.re_describe.specs.DescribeWords.{describe_help}
use Rattle.re_judging.specs.Words.{judge_help}
use Rattle.re_search_words.specs.RelaxedWords.{relaxed_help}
use Rattle.re_search_words.specs.Words.{search_help}
use Rattle.re_why.specs.Explaining.{why_help}
use Rattle.re_explore.specs.Commands.{chain_lines}
use Rattle.re_explore.proofs.Said.{joined_nine}
use Rattle.re_explore.proofs.command.push_chain_lines.Goals as goal

pub returns : goal.returns
unfolding chain_lines bridge_help chain_help closure_help describe_help judge_help relaxed_help search_help why_help
returns c =
    let first = c.in_ok-push_words.ensures ∙ ap (λ t. c.args.text.now.items ++ t) c.chain_help.ensures in
    let why_part = c.in_ok-push_words-2.ensures ∙ ap (λ t. c.push_words.new.text.items ++ t) c.why_help.ensures ∙ ap (λ t. t ++ why_help) first in
    let search_part = c.in_ok-push_words-3.ensures ∙ ap (λ t. c.push_words-2.new.text.items ++ t) c.search_help.ensures ∙ ap (λ t. t ++ search_help) why_part in
    let closure_part = c.in_ok-push_words-4.ensures ∙ ap (λ t. c.push_words-3.new.text.items ++ t) c.closure_help.ensures ∙ ap (λ t. t ++ closure_help) search_part in
    let relaxed_part = c.in_ok-push_words-5.ensures ∙ ap (λ t. c.push_words-4.new.text.items ++ t) c.relaxed_help.ensures ∙ ap (λ t. t ++ relaxed_help) closure_part in
    let bridge_part = c.in_ok-push_words-6.ensures ∙ ap (λ t. c.push_words-5.new.text.items ++ t) c.bridge_help.ensures ∙ ap (λ t. t ++ bridge_help) relaxed_part in
    let describe_part = c.in_ok-push_words-7.ensures ∙ ap (λ t. c.push_words-6.new.text.items ++ t) c.describe_help.ensures ∙ ap (λ t. t ++ describe_help) bridge_part in
    let judge_part = c.in_ok-push_words-8.ensures ∙ ap (λ t. c.push_words-7.new.text.items ++ t) c.judge_help.ensures ∙ ap (λ t. t ++ judge_help) describe_part in
    judge_part ∙ joined_nine c.args.text.now.items chain_help why_help search_help closure_help relaxed_help bridge_help describe_help judge_help
