use Rattle.std.proofs.Common.{◌≡◌, ◌-◌, ◌<◌, ◌≤◌, ◌∙◌, suc, [], get_or, ap, sym, arith, length}
use Rattle.std.proofs.lemmas.Bool.{false≢true}
use Rattle.re_labels.proofs.RowCalls.{read_within}
use Rattle.re_labels.specs.Rows.{row_cmp}
use Rattle.re_check.proofs.Orders.{less_told, rising_at, rising_from_at}
use Rattle.re_boxes.proofs.Walks.{always, never}
use Rattle.re_check.proofs.judging.are_ascending.Goals as goal

pub returns-then-ne : goal.returns-then-ne
returns-then-ne c = never (λ rises.
    let rows = c.args.rows.now in
    let place = c.loop-place.place in
    let inside : place < length rows = c.loop-place-test.true in
    let some : 1 ≤ place = c.loop-place.auto.place in
    let one : c.index-rows-place.result ≡ get_or rows (place - 1) [] = c.index-rows-place.is ∙ read_within rows (place - 1) c.index-rows-place.result [] (omega (arith, inside)) in
    let two : c.index-rows-place-in-loop-place.result ≡ get_or rows (suc (place - 1)) [] =
    c.index-rows-place-in-loop-place.is ∙ read_within rows place c.index-rows-place-in-loop-place.result [] inside
    ∙ ap (λ j. get_or rows j []) (let e : place ≡ suc (place - 1) = omega (arith, some) in e) in
    let less = rising_at rows rises (place - 1) (omega (arith, inside, some)) in
    false≢true (sym (less_told c.row_order.result (c.row_order.ensures ∙ (λ i. row_cmp (one i) (two i)) ∙ less)) ∙ sym c.ne.ensures ∙ c.if-ne.true))

pub returns : goal.returns
returns c =
    let past = c.loop-place-test.false in
    always (rising_from_at c.args.rows.now (λ k b. c.loop-place.invariant k (omega (arith, b, past))))
