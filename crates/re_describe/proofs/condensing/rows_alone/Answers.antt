use Rattle.std.proofs.Common.{◌≡◌, ◌<◌, ◌∙◌, ap, arith, length, get_or, []}
use Rattle.re_labels.specs.Rows.{singles}
use Rattle.re_labels.specs.declared.TheConstants.{MAX_LABELS}
use Rattle.re_describe.proofs.Covering.{all_first, alone_there, there}
use Rattle.re_describe.proofs.Grouping.{alone_more}
use Rattle.re_describe.proofs.condensing.rows_alone.Goals as goal

pub loop-place-preserved : goal.loop-place-preserved
loop-place-preserved c =
    let low : c.loop-place.place < length c.args.constraint.now.configs = let l = c.loop-place-test.true in omega (arith, l, c.len-place-end.ensures.len) in
    let same : c.of_config.result ≡ singles (get_or c.args.constraint.now.configs c.loop-place.place []) = c.of_config.ensures ∙ ap singles c.in-Some.ensures.config in (
      alone_there c.args.constraint.now MAX_LABELS c.loop-place.place c.loop-place.rows.items c.push.new.self.items c.of_config.result c.degree-degree.ensures.constraint low same c.loop-place.invariant.0 c.in_ok-push.ensures.items,
      alone_more c.args.constraint.now c.loop-place.rows.items c.push.new.self.items c.of_config.result (get_or c.args.constraint.now.configs c.loop-place.place []) c.loop-place.invariant.1 (there c.args.constraint.now c.loop-place.place low) same c.in_ok-push.ensures.items,
    )

pub returns : goal.returns
returns c = (all_first c.args.constraint.now c.loop-place.place c.loop-place.rows.items c.loop-place.invariant.0 (omega (arith, c.len-place-end.ensures.len)), c.loop-place.invariant.1)
