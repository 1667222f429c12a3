use Rattle.std.proofs.Common.{◌≡◌, ◌<◌, arith, get_or, length, subst}
use Rattle.re_labels.proofs.Placing.{read_at}
use Rattle.re_flexible.proofs.Building.{row_is}
use Rattle.re_flexible.proofs.walking.row.Goals as goal

pub returns : goal.returns
returns c =
    let low : c.args.label < length c.args.table.now.items = (let below = c.requires.label in let same = c.requires.table in omega (arith, below, same)) in
    row_is c.args.table.now.items c.args.label c.index-deref-label.result (read_at c.args.table.now.items c.args.label c.index-deref-label.result low
    (subst (λ t. c.index-deref-label.result ≡ get_or t c.args.label c.index-deref-label.result) c.deref.ensures.0 c.index-deref-label.is))
