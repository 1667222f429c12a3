use Rattle.std.proofs.lemmas.Result.{on_ok_weaker}
use Rattle.re_describe.proofs.Growing.{more5}
use Rattle.re_describe.proofs.heads.push_fewer_claim.Goals as goal

pub returns : goal.returns
returns c = on_ok_weaker c.push_words-2.result
    (λ f. more5 c.args.text.now.items c.push_words.new.text.items c.push_up_to.new.text.items c.push_between.new.text.items c.push_up_to-2.new.text.items c.push_words-2.new.text.items _ _ _ _ _
    c.in_ok-push_words.ensures c.in_ok-push_up_to.ensures c.in_ok-push_between.ensures c.in_ok-push_up_to-2.ensures f)
    c.push_words-2.ensures
