use Rattle.std.proofs.Common.{rules, ◌≡◌, ◌+◌, ◌-◌, ◌*◌, ◌<◌, ◌≤◌, take, drop, arith, length, subst, sym, ap, ◌∙◌}
use Rattle.re_labels.proofs.Rearranging.{length-Rearranged}
use Rattle.std.proofs.lemmas.List.Edits.{length-remove}
use Rattle.re_closure.specs.Combining.{AreMeetings}
use Rattle.re_closure.proofs.Combinations.{AreMeetingsBefore, meetings_again, meetings_all, meetings_next, meetings_none}
use Rattle.re_labels.specs.Orders.{factorial}
use Rattle.re_labels.proofs.Lists.{split_first}
use Rattle.re_closure.proofs.Counting.{factorial_split, grown_more, grown_still, pushed_length}
use Rattle.re_closure.proofs.Places.{no_elements, parts_count}
use Rattle.re_closure.proofs.combining.+push_meets.Goals.{then-not-is_again+in_ok-push_meets, else-not-is_again}
use Rattle.re_closure.proofs.combining.+push_meets.Goals as goal

pub returns-in_default-clause-few : goal.returns-in_default-clause-few
unfolding factorial
returns-in_default-clause-few t c =
    let none : length c.args.left.now ≡ 0 = (let b = c.in_default.len_below in let e = c.requires.alike in omega arith) in
    let one : factorial (length c.args.left.now) ≡ 1 = ap factorial none in
    let more = pushed_length c.args.found.now.items c.push.new.self.items c.from_sets.result c.in_ok-push.ensures.items in
    omega (arith, one, more)

pub returns-in_default-clause-all : goal.returns-in_default-clause-all
returns-in_default-clause-all t c =
    let none : length c.args.left.now ≡ 0 = (let b = c.in_default.len_below in let e = c.requires.alike in omega arith) in
    subst (λ r. AreMeetings c.args.chosen.now r c.args.left.now c.args.found.now.items c.push.new.self.items) (sym (no_elements c.args.rest.now c.in_default.len_below))
    (meetings_none c.args.chosen.now c.args.left.now c.args.found.now.items c.push.new.self.items c.from_sets.result none c.from_sets.ensures c.in_ok-push.ensures.items)

pub push_meets-requires : goal.push_meets-requires
push_meets-requires t c =
    let count = parts_count c.args.rest.now c.first-item.result c.in-len1-up.len_at_least c.first-item.is in
    let more = ap length c.as_slice.ensures.value in
    let longer = length-Rearranged c.with_set-more.ensures in
    let fewer = ap length (c.as_slice-then-not-is_again.ensures.value ∙ c.without-fewer.ensures) in
    let shorter = length-remove c.args.left.now c.loop-place.place c.loop-place-test.true in
    let six = c.requires.six in
    let alike = c.requires.alike in
    (search rules, (omega (arith, count, more, longer, six), omega (arith, count, fewer, shorter, alike)))

pub loop-place-preserved : goal.loop-place-preserved
loop-place-preserved t c = elim c.if-not-is_again.branch [
  | then-not-is_again+in_ok-push_meets w ↦ record {
    all = subst (λ f. AreMeetingsBefore c.args.chosen.now c.first-item.result (take (length c.args.rest.now - 1) (drop 1 c.args.rest.now)) c.args.left.now (c.loop-place.place + 1) c.args.found.now.items f.items) (sym w.found-is)
        (meetings_next c.args.chosen.now c.first-item.result (take (length c.args.rest.now - 1) (drop 1 c.args.rest.now)) c.args.left.now c.loop-place.place c.args.found.now.items c.loop-place.found.items w.push_meets.new.found.items w.index-left-place.result w.meet.result
        w.with_set-more.result.items w.as_slice.result.now w.without-fewer.result.items w.as_slice-then-not-is_again.result.now c.loop-place-test.true w.index-left-place.is w.meet.ensures w.with_set-more.ensures
        w.as_slice.ensures.value w.without-fewer.ensures w.as_slice-then-not-is_again.ensures.value c.loop-place.invariant.all w.in_ok-push_meets.ensures.all);
    few = subst (λ f. length f.items ≤ length c.args.found.now.items + (c.loop-place.place + 1) * factorial (length c.args.left.now - 1)) (sym w.found-is)
        (let shorter = length-remove c.args.left.now c.loop-place.place c.loop-place-test.true in
        let fewer = ap length (w.as_slice-then-not-is_again.ensures.value ∙ w.without-fewer.ensures) in
        let count : length w.as_slice-then-not-is_again.result.now ≡ length c.args.left.now - 1 = omega (arith, shorter, fewer) in
        grown_more (length c.args.found.now.items) (length c.loop-place.found.items) (length w.push_meets.new.found.items) c.loop-place.place (factorial (length c.args.left.now - 1)) c.loop-place.invariant.few
        (subst (λ n. length w.push_meets.new.found.items ≤ length c.loop-place.found.items + factorial n) count w.in_ok-push_meets.ensures.few));
  }
  | else-not-is_again w ↦ record {
    all = subst (λ f. AreMeetingsBefore c.args.chosen.now c.first-item.result (take (length c.args.rest.now - 1) (drop 1 c.args.rest.now)) c.args.left.now (c.loop-place.place + 1) c.args.found.now.items f.items) (sym w.found-is)
        (meetings_again c.args.chosen.now c.first-item.result (take (length c.args.rest.now - 1) (drop 1 c.args.rest.now)) c.args.left.now c.loop-place.place c.args.found.now.items c.loop-place-test.true c.loop-place.found.items
        (c.is_again.ensures.again (search (w.if-not-is_again, rules))) c.loop-place.invariant.all);
    few = subst (λ f. length f.items ≤ length c.args.found.now.items + (c.loop-place.place + 1) * factorial (length c.args.left.now - 1)) (sym w.found-is)
        (grown_still (length c.args.found.now.items) (length c.loop-place.found.items) c.loop-place.place (factorial (length c.args.left.now - 1)) c.loop-place.invariant.few);
  }
]

pub returns-clause-all : goal.returns-clause-all
returns-clause-all t c =
    let count = parts_count c.args.rest.now c.first-item.result c.in-len1-up.len_at_least c.first-item.is in
    subst (λ r. AreMeetings c.args.chosen.now r c.args.left.now c.args.found.now.items c.loop-place.found.items) (sym (split_first c.args.rest.now c.first-item.result c.in-len1-up.len_at_least c.first-item.is))
    (meetings_all c.args.chosen.now c.first-item.result (take (length c.args.rest.now - 1) (drop 1 c.args.rest.now)) c.args.left.now c.loop-place.place c.args.found.now.items c.loop-place.found.items c.loop-place-test.false (c.requires.alike ∙ count) c.loop-place.invariant.all)

pub returns-clause-few : goal.returns-clause-few
returns-clause-few t c =
    let alike = c.requires.alike in
    let least = c.in-len1-up.len_at_least in
    let some : 0 < length c.args.left.now = omega (arith, alike, least) in
    let at : c.loop-place.place ≡ length c.args.left.now = omega arith in
    subst (λ n. length c.loop-place.found.items ≤ length c.args.found.now.items + n) (factorial_split (length c.args.left.now) some)
    (subst (λ n. length c.loop-place.found.items ≤ length c.args.found.now.items + n * factorial (length c.args.left.now - 1)) at c.loop-place.invariant.few)
