use Rattle.std.proofs.Common.{drop, refl}
use Rattle.std.proofs.lemmas.Result.{on_ok_weaker}
use Rattle.re_labels.proofs.Patterns.{others-are, parted}
use Rattle.re_describe.proofs.Drawn.{drawn_all}
use Rattle.re_describe.proofs.pictures.+push_all.Goals as goal

pub returns : goal.returns
returns t c = on_ok_weaker c.push_all.result
    (λ grown. drawn_all c.args.places c.args.place c.args.passive.now (drop 1 c.args.passive.now) c.ends-item.result c.args.text.now.items c.push_joined.new.text.items c.push_all.new.text.items
    (parted c.args.passive.now _ c.ends-item.result c.in-len1-up.len_at_least c.ends-item.is refl)
    c.in_ok-push_joined.ensures grown (others-are c.args.passive.now))
    c.push_all.ensures
