use Rattle.std.proofs.lemmas.Result.{on_ok_weaker}
use Rattle.re_describe.proofs.Growing.{more5}
use Rattle.re_describe.proofs.pictures.push_line.Goals as goal

pub returns : goal.returns
returns c = on_ok_weaker c.push_between.result
    (λ f. more5 c.args.text.now.items c.push_count.new.text.items c.push_count-2.new.text.items c.push_count-3.new.text.items c.push_count-4.new.text.items c.push_between.new.text.items _ _ _ _ _
    c.in_ok-push_count.ensures c.in_ok-push_count-2.ensures c.in_ok-push_count-3.ensures c.in_ok-push_count-4.ensures f)
    c.push_between.ensures
