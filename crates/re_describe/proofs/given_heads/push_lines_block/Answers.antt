use Rattle.std.proofs.Common.{◌++◌, ap, ◌∙◌}
use Rattle.std.proofs.lemmas.Result.{on_ok_weaker}
use Rattle.re_describe.specs.GivenHeads.{indented}
use Rattle.re_describe.proofs.Growing.{more3}
use Rattle.re_describe.proofs.given_heads.push_lines_block.Goals as goal

pub returns : goal.returns
returns c = on_ok_weaker c.push_words-2.result
    (λ f. more3 c.args.text.now.items c.push_words.new.text.items c.push_indented.new.text.items c.push_words-2.new.text.items _ _ _ c.in_ok-push_words.ensures
    (c.in_ok-push_indented.ensures ∙ ap (λ w. c.push_words.new.text.items ++ indented w) c.without_last.ensures) f)
    c.push_words-2.ensures
