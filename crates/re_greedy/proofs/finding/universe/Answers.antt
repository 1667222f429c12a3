use Rattle.std.proofs.Common.{◌<◌, ◌∙◌, [], ap, arith, get_or, length, sym}
use Rattle.re_greedy.proofs.Searches.{universe_done, universe_more}
use Rattle.re_greedy.proofs.finding.universe.Goals as goal

pub returns-then-place-len : goal.returns-then-place-len
returns-then-place-len c = universe_done c.args.passive.now c.loop-place.all.items c.loop-place.place c.loop-place.invariant (omega (arith, c.if-place-len.true, c.len-in-loop-place.ensures))

pub loop-place-preserved : goal.loop-place-preserved
loop-place-preserved c =
    let inside : c.loop-place.place < length c.loop-place.all.items = omega (arith, c.if-place-len.false, c.len-in-loop-place.ensures) in
    universe_more c.args.passive.now c.loop-place.all.items c.add_parts.new.all.items c.copy_at-labels.result c.loop-place.place c.degree.result c.loop-place.invariant inside
    (ap (λ xs. get_or xs c.loop-place.place []) (sym c.as_slice.ensures.value) ∙ sym c.copy_at-labels.ensures) c.degree.ensures.degree (c.in_ok-add_parts.ensures c.if-not-branch.false)
