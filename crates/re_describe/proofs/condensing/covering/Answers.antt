use Rattle.std.proofs.Common.{◌≡◌, ◌<◌, ◌∙◌, ap, arith, length, get_or, [], subst, sym}
use Rattle.re_labels.specs.Rows.{singles}
use Rattle.re_labels.specs.declared.TheConstants.{MAX_LABELS}
use Rattle.re_describe.proofs.Covering.{as_long, spelled_there}
use Rattle.re_describe.proofs.Grouping.{TakenFirst, all_taken, none_taken, taken_further}
use Rattle.re_describe.proofs.condensing.covering.Goals as goal

pub take_in-requires-clause-alike : goal.take_in-requires-clause-alike
take_in-requires-clause-alike c =
    let low : c.loop-place.place < length c.args.constraint.now.configs = let l = c.loop-place-test.true in omega (arith, l, c.len-place-end.ensures.len) in
    let same : c.of_config-row.result ≡ singles (get_or c.args.constraint.now.configs c.loop-place.place []) = c.of_config-row.ensures ∙ ap singles c.in-Some.ensures.config in
    as_long c.args.constraint.now MAX_LABELS c.loop-place.place c.loop-place.few.items c.of_config-row.result c.degree-degree.ensures.constraint low same c.loop-place.invariant.first.good

pub take_in-requires-clause-others_alike : goal.take_in-requires-clause-others_alike
take_in-requires-clause-others_alike c =
    let low : c.loop-place.place < length c.args.constraint.now.configs = let l = c.loop-place-test.true in omega (arith, l, c.len-place-end.ensures.len) in
    let same : c.of_config-row.result ≡ singles (get_or c.args.constraint.now.configs c.loop-place.place []) = c.of_config-row.ensures ∙ ap singles c.in-Some.ensures.config in
    as_long c.args.constraint.now MAX_LABELS c.loop-place.place c.args.rows.now c.of_config-row.result c.degree-degree.ensures.constraint low same c.requires.spells.good

pub take_in-requires-clause-some : goal.take_in-requires-clause-some
take_in-requires-clause-some c =
    let low : c.loop-place.place < length c.args.constraint.now.configs = let l = c.loop-place-test.true in omega (arith, l, c.len-place-end.ensures.len) in
    let same : c.of_config-row.result ≡ singles (get_or c.args.constraint.now.configs c.loop-place.place []) = c.of_config-row.ensures ∙ ap singles c.in-Some.ensures.config in
    spelled_there c.args.constraint.now c.loop-place.place c.args.rows.now c.of_config-row.result c.requires.spells low same

pub loop-place-init : goal.loop-place-init
loop-place-init c = subst (TakenFirst c.args.constraint.now 0 c.args.rows.now) (sym c.new-few.ensures.items) (none_taken c.args.constraint.now c.args.rows.now)

pub loop-place-preserved : goal.loop-place-preserved
loop-place-preserved c =
    let same : c.of_config-row.result ≡ singles (get_or c.args.constraint.now.configs c.loop-place.place []) = c.of_config-row.ensures ∙ ap singles c.in-Some.ensures.config in
    taken_further c.args.constraint.now c.loop-place.place c.args.rows.now c.loop-place.few.items c.take_in.new.few.items c.of_config-row.result c.requires.spells c.requires.apart c.loop-place.invariant same c.in_ok-take_in.ensures

pub returns : goal.returns
returns c = all_taken c.args.constraint.now c.loop-place.place c.args.rows.now c.loop-place.few.items c.loop-place.invariant (omega (arith, c.len-place-end.ensures.len))
