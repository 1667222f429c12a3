use Rattle.std.proofs.Common.{◌≡◌, refl, ◌<◌, ◌-◌, ◌/◌, ◌%◌, length, sym, ap, ◌∙◌, subst, arith, lit<}
use Rattle.re_labels.proofs.places.order_at.Goals as goal
use Rattle.re_labels.proofs.places.order_at.Goals.{After-factorial-size}
use Rattle.re_labels.proofs.OrdersAt.{ChosenSoFar, count_push, filled_from, get_or-default, none_chosen, one_more_chosen}
use Rattle.re_labels.specs.Orders.{factorial}
use Rattle.re_labels.proofs.Membership.{length-count_from}
use Rattle.re_labels.specs.Lists.{count_from}

pub push-requires : goal.push-requires
push-requires c = (lit< tt, (let e = ap length c.loop-place.invariant ∙ length-count_from 0 c.loop-place.place in let h : length c.loop-place.left.items < 6 = omega (arith, e) in h))

pub loop-place-preserved : goal.loop-place-preserved
loop-place-preserved c = c.push.ensures.items ∙ count_push c.loop-place.place c.loop-place.left.items c.loop-place.invariant

pub loop-left-init : goal.loop-left-init
loop-left-init c =
    let whole : c.loop-place.place ≡ c.args.count = omega arith in
    subst (λ p. ChosenSoFar c.args.count c.args.index p c.loop-place.left.items c.args.index) (sym c.new-places.ensures)
    (none_chosen c.args.count c.args.index c.loop-place.left.items (c.loop-place.invariant ∙ ap (count_from 0) whole) c.requires.there)

-- the place of the element that is taken is within what is left
within : (c : After-factorial-size) → c.loop-left.rest / c.factorial-size.result < length c.loop-left.left.items
within c = (one_more_chosen c.args.count c.args.index c.loop-left.places.items c.loop-left.left.items c.loop-left.rest c.factorial-size.result (c.loop-left.rest / c.factorial-size.result) _ _ c.loop-left.invariant
    (filled_from c.is_empty.result (length c.loop-left.left.items) c.is_empty.ensures c.loop-left-test.true)
    (c.factorial-size.ensures.value ∙ ap (λ n. factorial (n - 1)) c.len.ensures.value) c.factorial-size.ensures.positive refl refl refl).0

pub remove-place-requires : goal.remove-place-requires
remove-place-requires c = (lit< tt, within (goal.at.remove-place-requires c).After-factorial-size)

pub loop-left-preserved : goal.loop-left-preserved
loop-left-preserved c =
    let at = c.loop-left.rest / c.factorial-size.result in
    let lt = within (goal.at.loop-left-preserved c).After-factorial-size in
    subst (λ p. ChosenSoFar c.args.count c.args.index p c.remove-place.new.self.items (c.loop-left.rest % c.factorial-size.result)) (sym c.push-in-loop-left.ensures.items)
    (one_more_chosen c.args.count c.args.index c.loop-left.places.items c.loop-left.left.items c.loop-left.rest c.factorial-size.result at c.remove-place.result c.remove-place.new.self.items c.loop-left.invariant
    (filled_from c.is_empty.result (length c.loop-left.left.items) c.is_empty.ensures c.loop-left-test.true)
    (c.factorial-size.ensures.value ∙ ap (λ n. factorial (n - 1)) c.len.ensures.value) c.factorial-size.ensures.positive refl
    (c.remove-place.ensures.value ∙ get_or-default c.loop-left.left.items at c.remove-place.result 0 lt) c.remove-place.ensures.items).1
