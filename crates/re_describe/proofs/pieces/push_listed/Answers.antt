use Rattle.re_texts.proofs.PrintLemmas.{rest_is}
use Rattle.std.proofs.Common.{sym}
use Rattle.std.proofs.lemmas.Result.{on_ok_weaker}
use Rattle.re_describe.proofs.Growing.{listed_made}
use Rattle.re_describe.proofs.pieces.push_listed.Goals as goal

pub push_behind-requires : goal.push_behind-requires
push_behind-requires c = rest_is c.args.set c.remove.result c.in-Some.label c.count-count.ensures.set (sym c.in-Some.ensures) c.remove.ensures

pub returns : goal.returns
returns c = on_ok_weaker c.push_behind.result
    (λ f. listed_made c.args.names.now c.args.index.now c.args.between.now c.args.set c.remove.result c.in-Some.label c.args.text.now.items c.push_shown.new.text.items c.push_behind.new.text.items c.count-count.ensures.set.0 (sym c.in-Some.ensures) c.remove.ensures
    c.in_ok-push_shown.ensures f)
    c.push_behind.ensures
