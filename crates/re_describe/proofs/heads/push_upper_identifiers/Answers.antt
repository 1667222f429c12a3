use Rattle.std.proofs.lemmas.Result.{on_ok_weaker}
use Rattle.re_describe.proofs.Growing.{more3}
use Rattle.re_describe.proofs.heads.push_upper_identifiers.Goals as goal

pub returns : goal.returns
returns c = on_ok_weaker c.push_words.result
    (λ f. more3 c.args.text.now.items c.push_rounds.new.text.items c.push_in_all.new.text.items c.push_words.new.text.items _ _ _ c.in_ok-push_rounds.ensures c.in_ok-push_in_all.ensures f)
    c.push_words.ensures
