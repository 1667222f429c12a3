use Rattle.std.proofs.Common.{◌≡◌, ◌∙◌, ◌<◌, arith, length, sym}
use Rattle.re_labels.specs.declared.TheConstants.{MAX_LABELS}
use Rattle.re_labels.proofs.Placing.{read_at}
use Rattle.re_flexible.proofs.Building.{led_all, led_more, led_none, led_past}
use Rattle.re_flexible.proofs.tables.image.Goals as goal
use Rattle.re_flexible.proofs.tables.image.Goals.{else-has, then-has}

pub loop-label-init : goal.loop-label-init
loop-label-init c = led_none c.args.table.now c.args.set c.empty-all.result c.empty-all.ensures

pub loop-label-preserved : goal.loop-label-preserved
loop-label-preserved c = elim c.if-has.branch [
  | then-has w ↦
      let low : c.loop-label.label < length c.args.table.now = (let below = c.loop-label-test.true in let same = c.requires in omega (arith, below, same)) in
      led_more c.args.table.now c.args.set c.loop-label.all c.if-has.all w.index-table-label.result c.loop-label.label c.loop-label.invariant (sym c.has.ensures ∙ w.if-has.true)
      (read_at c.args.table.now c.loop-label.label w.index-table-label.result low w.index-table-label.is) (w.all-is ∙ w.union-all.ensures)
  | else-has w ↦ led_past c.args.table.now c.args.set c.loop-label.all c.if-has.all c.loop-label.label c.loop-label.invariant (sym c.has.ensures ∙ w.if-has.false) w.all-is
]

pub returns : goal.returns
returns c =
    let end : c.loop-label.label ≡ MAX_LABELS = (let past = c.loop-label-test.false in let most = c.loop-label.auto.label-end in omega (arith, past, most)) in
    led_all c.args.table.now c.args.set c.loop-label.all c.loop-label.label MAX_LABELS c.loop-label.invariant end c.count-count.ensures.set
