use Rattle.std.proofs.Common.{◌⊎◌, arith, subst}
use Rattle.std.specs.Prelude.{◌↔◌}
use Rattle.re_labels.specs.declared.TheConstants.{MAX_LABELS}
use Rattle.re_flexible.proofs.Closing.{closed_all, closing_more, closing_none}
use Rattle.re_flexible.proofs.tables.closed.Goals as goal
use Rattle.re_flexible.specs.Relations.{Relates}

pub loop-through-init : goal.loop-through-init
loop-through-init c = record {
  count = c.with_own-all.ensures.count;
  closing = closing_none c.args.table.now c.with_own-all.result.items MAX_LABELS c.requires c.with_own-all.ensures.own;
}

pub loop-through-preserved : goal.loop-through-preserved
loop-through-preserved c = record {
  count = c.led_through-all.ensures.count;
  closing = closing_more c.args.table.now c.loop-through.all.items c.led_through-all.result.items c.loop-through.through c.loop-through.invariant.closing
      (λ x y. subst (λ t. Relates c.led_through-all.result.items x y ↔ (Relates t x y ⊎ (Relates t x c.loop-through.through × Relates t c.loop-through.through y))) c.as_slice.ensures.value (c.led_through-all.ensures.led x y));
}

pub returns-clause-closed : goal.returns-clause-closed
returns-clause-closed c = λ x y low.
    let past = c.loop-through-test.false in let most = c.loop-through.auto.through-end in let same = c.requires in
    closed_all c.args.table.now c.loop-through.all.items c.loop-through.through (omega (arith, past, most, same)) c.loop-through.invariant.closing x y (omega (arith, low, past))
