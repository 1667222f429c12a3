use Rattle.std.proofs.Common.{◌≡◌, ◌++◌, ◌∙◌, ap}
use Rattle.re_texts.proofs.Appending.{first2, then, then_ok}
use Rattle.re_why.proofs.lines.push_order.Goals as goal

pub returns : goal.returns
returns c =
    let e0 = first2 c.args.text.now.items c.push_place.new.text.items _ _ c.in_ok-push_place.ensures in
    let e1 = then c.args.text.now.items c.push_place.new.text.items c.push_words.new.text.items _ _ e0 (c.in_ok-push_words.ensures) in
    let e2 = then c.args.text.now.items c.push_words.new.text.items c.push_number.new.text.items _ _ e1 (c.in_ok-push_number.ensures) in
    then_ok c.push_words-2.result c.args.text.now.items c.push_number.new.text.items c.push_words-2.new.text.items _ _ e2 c.push_words-2.ensures
