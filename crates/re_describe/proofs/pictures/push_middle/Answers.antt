use Rattle.std.proofs.lemmas.Result.{on_ok_weaker}
use Rattle.re_describe.proofs.Growing.{more3}
use Rattle.re_describe.proofs.pictures.push_middle.Goals as goal

pub returns : goal.returns
returns c = on_ok_weaker c.push_words-2.result
    (λ f. more3 c.args.text.now.items c.push_words.new.text.items c.push_weights.new.text.items c.push_words-2.new.text.items _ _ _ c.in_ok-push_words.ensures c.in_ok-push_weights.ensures f)
    c.push_words-2.ensures
