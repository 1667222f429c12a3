use Rattle.std.proofs.Common.{◌≡◌, ◌+◌, ◌-◌, ◌≤◌, length, ap, ◌∙◌, subst, arith}
use Rattle.std.proofs.lemmas.List.Edits.{length-remove}
use Rattle.re_labels.specs.Orders.{factorial}
use Rattle.re_closure.proofs.Combinations.{at_found, at_nested, left_counts}
use Rattle.re_closure.proofs.combining.push_at.Goals as goal

pub returns-then-are_nested-clause-all : goal.returns-then-are_nested-clause-all
returns-then-are_nested-clause-all c = at_nested c.args.sets.now c.args.others.now c.args.place c.args.against c.args.found.now.items c.index-sets-place.result c.index-others-against.result
    c.requires.place c.requires.against c.requires.alike c.index-sets-place.is c.index-others-against.is (c.are_nested.ensures c.if-are_nested.true)

pub push_meets-requires-clause-alike : goal.push_meets-requires-clause-alike
push_meets-requires-clause-alike c = left_counts c.args.sets.now c.args.others.now c.without-rest.result.items c.as_slice.result.now c.without-left.result.items c.as_slice-2.result.now c.args.place c.args.against
    c.requires.place c.requires.against c.requires.alike c.without-rest.ensures c.as_slice.ensures.value c.without-left.ensures c.as_slice-2.ensures.value

pub returns-clause-all : goal.returns-clause-all
returns-clause-all c = at_found c.args.sets.now c.args.others.now c.args.place c.args.against c.args.found.now.items c.push_meets.new.found.items c.index-sets-place.result c.index-others-against.result c.union.result
    c.without-rest.result.items c.as_slice.result.now c.without-left.result.items c.as_slice-2.result.now
    c.requires.place c.requires.against c.requires.alike c.index-sets-place.is c.index-others-against.is c.union.ensures c.without-rest.ensures c.as_slice.ensures.value c.without-left.ensures c.as_slice-2.ensures.value
    c.in_ok-push_meets.ensures.all

pub returns-clause-few : goal.returns-clause-few
returns-clause-few c =
    let alike = c.requires.alike in
    let shorter = length-remove c.args.others.now c.args.against c.requires.against in
    let fewer = ap length (c.as_slice-2.ensures.value ∙ c.without-left.ensures) in
    let count : length c.as_slice-2.result.now ≡ length c.args.sets.now - 1 = omega (arith, shorter, fewer, alike) in
    subst (λ n. length c.push_meets.new.found.items ≤ length c.args.found.now.items + factorial n) count c.in_ok-push_meets.ensures.few
