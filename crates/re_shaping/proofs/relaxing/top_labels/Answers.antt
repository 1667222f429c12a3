use Rattle.std.proofs.Common.{◌≡◌, length, map, sym, ◌∙◌, ap, arith, subst}
use Rattle.std.proofs.lemmas.List.{take_all}
use Rattle.std.specs.List.{AllByRecursion}
use Rattle.re_labels.specs.Rearranging.{Rearranged}
use Rattle.re_labels.specs.Rows.{dominates}
use Rattle.re_labels.specs.Lists.{place_of}
use Rattle.re_labels.specs.declared.TheConstants.{MAX_LABELS}
use Rattle.re_algo.proofs.FastCode.{any-same, dominates-same, labels-some, same_some, top_done}
use Rattle.re_algo.proofs.JudgeCode.{in_order-Rearranged, length-in_order, row_some}
use Rattle.re_shaping.proofs.relaxing.top_labels.Goals as goal

pub first_dominating-index-requires-clause-alike : goal.first_dominating-index-requires-clause-alike
first_dominating-index-requires-clause-alike c =
    let row = row_some MAX_LABELS c.args.others.now c.in-Some.other c.requires.seen.two c.requires.seen.six (sym c.from_sets.ensures ∙ c.in-Some.is) in
    subst (λ n. AllByRecursion (λ row. length row ≡ n) c.args.rows.now) (sym (ap length row ∙ length-in_order MAX_LABELS c.args.others.now)) c.requires.seen.alike

pub first_dominating-index-requires-clause-some : goal.first_dominating-index-requires-clause-some
first_dominating-index-requires-clause-some c =
    let row = row_some MAX_LABELS c.args.others.now c.in-Some.other c.requires.seen.two c.requires.seen.six (sym c.from_sets.ensures ∙ c.in-Some.is) in
    let order : Rearranged c.args.others.now c.in-Some.other = subst (Rearranged c.args.others.now) (sym row) (in_order-Rearranged MAX_LABELS c.args.others.now c.requires.seen.sets) in
    any-same (λ row. dominates row c.in-Some.other) (λ row. dominates row c.args.others.now) c.args.rows.now (λ row. sym (dominates-same row c.args.others.now c.in-Some.other order)) ∙ c.requires.seen.dominated

pub unreachable-requires-in-None : goal.unreachable-requires-in-None
unreachable-requires-in-None c =
    let row = row_some MAX_LABELS c.args.others.now c.in-Some.other c.requires.seen.two c.requires.seen.six (sym c.from_sets.ensures ∙ c.in-Some.is) in
    let order : Rearranged c.args.others.now c.in-Some.other = subst (Rearranged c.args.others.now) (sym row) (in_order-Rearranged MAX_LABELS c.args.others.now c.requires.seen.sets) in
    let made = c.as_slice.ensures.value ∙ (c.loop-set.invariant ∙ ap (map (place_of c.args.sets.now)) (take_all c.loop-set.set-index c.as_slice-set-items.result.now c.loop-set-test.false ∙ c.as_slice-set-items.ensures.value)) in
    let done = top_done c.args.rows.now c.args.sets.now c.args.others.now c.index-rows-index.result c.in-Some.other c.fitted-top.result.items c.first_dominating-index.result c.as_slice.result.now c.requires.seen.dominated order
    c.first_dominating-index.ensures.place c.first_dominating-index.ensures.within c.index-rows-index.is c.fitted-top.ensures made c.requires.seen.alike in
    let some = labels-some c.as_slice.result.now (let n = done.1 in let l = c.requires.seen.two in omega arith) (let n = done.1 in let l = c.requires.seen.six in omega arith) in
    let none = c.in-None.is in let is = c.new.ensures in
    cc

pub returns : goal.returns
returns c =
    let row = row_some MAX_LABELS c.args.others.now c.in-Some.other c.requires.seen.two c.requires.seen.six (sym c.from_sets.ensures ∙ c.in-Some.is) in
    let order : Rearranged c.args.others.now c.in-Some.other = subst (Rearranged c.args.others.now) (sym row) (in_order-Rearranged MAX_LABELS c.args.others.now c.requires.seen.sets) in
    let made = c.as_slice.ensures.value ∙ (c.loop-set.invariant ∙ ap (map (place_of c.args.sets.now)) (take_all c.loop-set.set-index c.as_slice-set-items.result.now c.loop-set-test.false ∙ c.as_slice-set-items.ensures.value)) in
    let done = top_done c.args.rows.now c.args.sets.now c.args.others.now c.index-rows-index.result c.in-Some.other c.fitted-top.result.items c.first_dominating-index.result c.as_slice.result.now c.requires.seen.dominated order
    c.first_dominating-index.ensures.place c.first_dominating-index.ensures.within c.index-rows-index.is c.fitted-top.ensures made c.requires.seen.alike in
    let some = labels-some c.as_slice.result.now (let n = done.1 in let l = c.requires.seen.two in omega arith) (let n = done.1 in let l = c.requires.seen.six in omega arith) in
    same_some c.in-Some-new.image c.as_slice.result.now (sym c.in-Some-new.is ∙ (c.new.ensures ∙ some)) ∙ done.0
