use Rattle.std.proofs.Common.{◌≡◌, ◌++◌, ◌∙◌, ap}
use Rattle.re_texts.proofs.Appending.{then_ok}
use Rattle.std.specs.Prelude.{codes}
use Rattle.re_why.proofs.lines.push_missing_set.Goals as goal

pub returns : goal.returns
returns c =
    let e0 : c.push_words.new.text.items ≡ c.args.text.now.items ++ codes "no entry has the set " = c.in_ok-push_words.ensures in
    then_ok c.push_set_of.result c.args.text.now.items c.push_words.new.text.items c.push_set_of.new.text.items _ _ e0 c.push_set_of.ensures
