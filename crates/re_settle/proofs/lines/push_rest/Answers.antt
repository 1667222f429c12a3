use Rattle.std.proofs.Common.{◌≡◌, ◌++◌, OnOk, subst, sym}
use Rattle.re_texts.proofs.Appending.{then, then_ok}
use Rattle.re_settle.specs.Lines.{way_rest}
use Rattle.re_settle.specs.declared.types.Way.{Way}
use Rattle.re_settle.proofs.lines.push_rest.Goals as goal

pub returns-in_ok-push_words-in-Raised-2 : goal.returns-in_ok-push_words-in-Raised-2
returns-in_ok-push_words-in-Raised-2 c =
    let old = c.args.text.now.items in
    let one = then old c.push_words-in-Raised.new.text.items c.push_name-in-Raised.new.text.items _ _ c.in_ok-push_words-in-Raised.ensures c.in_ok-push_name-in-Raised.ensures in
    let two = then old c.push_name-in-Raised.new.text.items c.push_words-in-Raised-2.new.text.items _ _ one c.in_ok-push_words-in-Raised-2.ensures in
    subst (λ (w : Way). OnOk c.push_name-in-Raised-2.result (c.push_name-in-Raised-2.new.text.items ≡ old ++ way_rest c.args.names.now w)) (sym c.in-Raised.is)
    (then_ok c.push_name-in-Raised-2.result old c.push_words-in-Raised-2.new.text.items c.push_name-in-Raised-2.new.text.items _ _ two c.push_name-in-Raised-2.ensures)
