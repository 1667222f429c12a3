use Rattle.std.proofs.Common.{◌≡◌, ◌∙◌, ap, arith, below_more, length, map, sym, [], get_or, None, Some}
use Rattle.re_cert.specs.Bounds.{map_of}
use Rattle.re_why.proofs.Holding.{config-count}
use Rattle.re_check.proofs.AllowedImages.{over-there}
use Rattle.re_check.specs.LabelsOver.{labels_over}
use Rattle.re_labels.proofs.Membership.{length-map'}
use Rattle.re_why.proofs.Loops.{none-of, some_none, some_at}
use Rattle.re_why.specs.Finding.{lost_choice, map_entries}
use Rattle.re_why.proofs.map_witness.lost_witness.Goals as goal

pub loop-place-init : goal.loop-place-init
loop-place-init c = λ k h. absurd (omega (arith, h))

pub lost_choice-found-requires-clause-over : goal.lost_choice-found-requires-clause-over
lost_choice-found-requires-clause-over c = over-there c.args.before.now (map_entries c.args.rows.now (map_of c.args.map.now)) c.all_over-over.result c.sets_at-sets.result.items c.as_slice.result.now c.loop-place.place c.in-Some.config.now c.len-place-end.ensures.constraint (omega (arith, c.len-place-end.ensures.len, c.loop-place-test.true)) c.in-Some.ensures.config c.all_over-over.ensures c.sets_at-sets.ensures c.as_slice.ensures.value

pub lost_choice-found-requires-clause-degree : goal.lost_choice-found-requires-clause-degree
lost_choice-found-requires-clause-degree c =
    let given = over-there c.args.before.now (map_entries c.args.rows.now (map_of c.args.map.now)) c.all_over-over.result c.sets_at-sets.result.items c.as_slice.result.now c.loop-place.place c.in-Some.config.now c.len-place-end.ensures.constraint (omega (arith, c.len-place-end.ensures.len, c.loop-place-test.true)) c.in-Some.ensures.config c.all_over-over.ensures c.sets_at-sets.ensures c.as_slice.ensures.value in
    ap length given ∙ length-map' (labels_over (map_entries c.args.rows.now (map_of c.args.map.now))) c.in-Some.config.now
    ∙ config-count c.args.before.now c.loop-place.place c.in-Some.config.now c.len-place-end.ensures.constraint (omega (arith, c.len-place-end.ensures.len, c.loop-place-test.true)) c.in-Some.ensures.config ∙ sym c.requires.degree

pub returns-then-is_some : goal.returns-then-is_some
returns-then-is_some c =
    some_at (lost_choice c.args.rows.now (map_of c.args.map.now) c.args.passive.now) c.args.before.now.configs c.loop-place.place c.in-Some.config.now c.lost_choice-found.result (omega (arith, c.len-place-end.ensures.len, c.loop-place-test.true)) c.in-Some.ensures.config
    c.lost_choice-found.ensures c.loop-place.invariant (sym c.is_some.ensures ∙ c.if-is_some.true)

pub loop-place-preserved : goal.loop-place-preserved
loop-place-preserved c =
    below_more _ _ c.loop-place.invariant
    (ap (lost_choice c.args.rows.now (map_of c.args.map.now) c.args.passive.now) (sym c.in-Some.ensures.config) ∙ (sym c.lost_choice-found.ensures ∙ none-of c.lost_choice-found.result (sym c.is_some.ensures ∙ c.if-is_some.false)))

pub returns : goal.returns
returns c = sym (some_none (lost_choice c.args.rows.now (map_of c.args.map.now) c.args.passive.now) c.args.before.now.configs [] (λ k l. c.loop-place.invariant k (omega (arith, c.len-place-end.ensures.len, c.loop-place-test.false, l))))
