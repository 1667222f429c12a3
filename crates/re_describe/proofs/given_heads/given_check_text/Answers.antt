use Rattle.std.proofs.Common.{[], ◌++◌, ap, ◌∙◌}
use Rattle.re_describe.proofs.Growing.{more3}
use Rattle.re_describe.proofs.given_heads.given_check_text.Goals as goal

pub returns : goal.returns
returns c =
    more3 [] c.in_ok-text.text.items c.push_words.new.text.items c.push_words-2.new.text.items _ _ _ c.in_ok-text.ensures
    (c.in_ok-push_words.ensures ∙ ap (λ w. c.in_ok-text.text.items ++ w) c.given_exit_code.ensures) c.in_ok-push_words-2.ensures
