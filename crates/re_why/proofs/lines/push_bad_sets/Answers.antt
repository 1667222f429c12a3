use Rattle.std.proofs.Common.{◌≡◌, ◌++◌, ◌∙◌, ap}
use Rattle.re_texts.proofs.Appending.{then, then2_ok}
use Rattle.re_why.specs.WitnessTexts.{choice_text, config_text_of, sets_text}
use Rattle.re_why.proofs.lines.push_bad_sets.Goals as goal

pub returns : goal.returns
returns c =
    let e0 : c.push_choice.new.text.items ≡ c.args.text.now.items ++ choice_text c.args.before.now c.args.labels.now = c.in_ok-push_choice.ensures ∙ ap (λ l. c.args.text.now.items ++ choice_text c.args.before.now l) c.labels.ensures.labels in
    let e1 = then c.args.text.now.items c.push_choice.new.text.items c.push_words.new.text.items _ _ e0 (c.in_ok-push_words.ensures) in
    let e2 = then c.args.text.now.items c.push_words.new.text.items c.push_sets.new.text.items _ _ e1 (c.in_ok-push_sets.ensures ∙ ap (λ l. c.push_words.new.text.items ++ sets_text c.args.before.now l) c.sets.ensures) in
    let e3 = then c.args.text.now.items c.push_sets.new.text.items c.push_words-2.new.text.items _ _ e2 (c.in_ok-push_words-2.ensures) in
    let e4 = then c.args.text.now.items c.push_words-2.new.text.items c.push_config_of.new.text.items _ _ e3 (c.in_ok-push_config_of.ensures) in
    then2_ok c.push_count.result c.args.text.now.items c.push_config_of.new.text.items c.push_count.new.text.items _ _ _ e4 c.push_count.ensures
