use Rattle.std.proofs.Common.{◌<◌, ◌≤◌, ◌∙◌, arith, ap, length, sym}
use Rattle.re_labels.proofs.permutations.PlacementsIterator.next.Goals as goal
use Rattle.re_labels.proofs.Placing.{orders_done, orders_next}
use Rattle.re_labels.proofs.RowCalls.{placement_held}
use Rattle.re_labels.specs.Orders.{factorial}

pub returns-then-self-factorial-clause-steps : goal.returns-then-self-factorial-clause-steps
returns-then-self-factorial-clause-steps c =
    let e = orders_done c.self.inside.count c.self.inside.next (let h : factorial c.self.inside.count ≤ c.self.inside.next = omega (arith, c.factorial.ensures.value) in h) in (sym c.self.view_is ∙ e, sym c.self.view_is ∙ e)

pub returns-clause-steps : goal.returns-clause-steps
returns-clause-steps c = sym c.self.view_is ∙ orders_next c.self.inside.count c.self.inside.next c.order_at-held.result.items
    (let h : c.self.inside.next < factorial c.self.inside.count = omega (arith, c.factorial.ensures.value) in h) c.order_at-held.ensures.order

pub returns-clause-goes : goal.returns-clause-goes
returns-clause-goes c =
    let e = ap length (sym c.self.view_is ∙ orders_next c.self.inside.count c.self.inside.next c.order_at-held.result.items
    (let h : c.self.inside.next < factorial c.self.inside.count = omega (arith, c.factorial.ensures.value) in h) c.order_at-held.ensures.order) in
    record { on = λ _. (tt, tt, omega (arith, e)); keeps = tt; rests = λ _. tt }

pub invariant_of-result : goal.invariant_of-result
invariant_of-result c = placement_held c.self.inside.count c.self.inside.next c.order_at-held.result.items
    (let h : c.self.inside.next < factorial c.self.inside.count = omega (arith, c.factorial.ensures.value) in h) c.order_at-held.ensures.order c.order_at-held.ensures.count
