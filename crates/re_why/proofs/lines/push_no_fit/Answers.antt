use Rattle.std.proofs.Common.{◌≡◌, ◌++◌, ◌∙◌, ap}
use Rattle.re_texts.proofs.Appending.{then, then_ok}
use Rattle.re_why.specs.WitnessTexts.{choice_text, config_text_of}
use Rattle.std.specs.Prelude.{codes}
use Rattle.re_why.proofs.lines.push_no_fit.Goals as goal

pub returns : goal.returns
returns c =
    let e0 : c.push_words.new.text.items ≡ c.args.text.now.items ++ codes "not solvable without communication: from each active configuration labels can be chosen that are no passive one, as " = c.in_ok-push_words.ensures in
    let e1 = then c.args.text.now.items c.push_words.new.text.items c.push_choice.new.text.items _ _ e0 (c.in_ok-push_choice.ensures ∙ ap (λ l. c.push_words.new.text.items ++ choice_text c.args.names.now l) c.labels.ensures.labels) in
    let e2 = then c.args.text.now.items c.push_choice.new.text.items c.push_words-2.new.text.items _ _ e1 (c.in_ok-push_words-2.ensures) in
    then_ok c.push_config_of.result c.args.text.now.items c.push_words-2.new.text.items c.push_config_of.new.text.items _ _ e2 c.push_config_of.ensures
