use Rattle.std.proofs.Common.{◌∙◌, [], sym, arith}
use Rattle.re_labels.proofs.Patterns.{others-are, parted}
use Rattle.re_labels.proofs.RowCalls.{read_within}
use Rattle.re_labels.proofs.Tests.{eqb-true}
use Rattle.re_boxes.proofs.HeldSets.{last_held, none_held, one_held}
use Rattle.re_boxes.proofs.holding.+hold.Goals as goal

pub returns-in_default : goal.returns-in_default
returns-in_default t c = none_held c.args.tops.now c.args.sets.now c.is_empty.result c.is_empty.ensures c.in_default.len_below

pub returns-then-hold : goal.returns-then-hold
returns-then-hold t c = λ e.
    let whole = parted c.args.sets.now _ c.first-item.result c.in-len1-up.len_at_least c.first-item.is (others-are c.args.sets.now) in
    let inside = c.loop-place-test.true in
    let dom = c.hold.ensures c.if-hold.true in
    one_held c.args.tops.now c.as_slice.result.now _ c.args.sets.now c.first-item.result c.index-tops-place.result c.loop-place.place inside
    (c.index-tops-place.is ∙ read_within c.args.tops.now c.loop-place.place c.index-tops-place.result [] inside) (sym c.within-in-loop-place.ensures ∙ c.if-within.true) (c.as_slice.ensures.value ∙ c.without-left.ensures) dom whole

pub returns-then-tops-eq1 : goal.returns-then-tops-eq1
returns-then-tops-eq1 t c = λ holds.
    let whole = parted c.args.sets.now _ c.first-item.result c.in-len1-up.len_at_least c.first-item.is (others-are c.args.sets.now) in
    let one = c.if-tops-eq1.true in
    last_held c.args.tops.now _ c.args.sets.now c.first-item.result c.index-tops-0.result one (c.index-tops-0.is ∙ read_within c.args.tops.now 0 c.index-tops-0.result [] (omega (arith, one)))
    (eqb-true _ 0 (sym c.is_empty-then-tops-eq1.ensures ∙ c.if-not-is_empty.false)) whole (sym c.within.ensures ∙ holds)
