use Rattle.std.proofs.Common.{map, arith, below_more}
use Rattle.re_labels.specs.Configs.{image_at}
use Rattle.re_labels.specs.Constraints.{has_config}
use Rattle.re_problem.proofs.FirstFound.{failing-here, failing-none, passing-more}
use Rattle.re_problem.proofs.images.first_lost.Goals as goal

pub returns-then-not-is_kept : goal.returns-then-not-is_kept
returns-then-not-is_kept c =
    failing-here (λ config. has_config c.args.to.now (map (image_at c.args.images.now) config)) c.args.from.now.configs c.loop-place.place c.in-Some.config.now c.copy.result c.is_kept.result (omega (arith, c.len-place-end.ensures.len, c.loop-place-test.true)) c.in-Some.ensures.config c.copy.ensures
    c.loop-place.invariant c.is_kept.ensures c.if-not-is_kept.true

pub loop-place-preserved : goal.loop-place-preserved
loop-place-preserved c =
    below_more _ _ c.loop-place.invariant (passing-more (λ config. has_config c.args.to.now (map (image_at c.args.images.now) config)) c.args.from.now.configs c.loop-place.place c.in-Some.config.now c.is_kept.result c.in-Some.ensures.config c.is_kept.ensures c.if-not-is_kept.false)

pub returns : goal.returns
returns c = failing-none (λ config. has_config c.args.to.now (map (image_at c.args.images.now) config)) c.args.from.now.configs c.loop-place.place (omega (arith, c.len-place-end.ensures.len, c.loop-place-test.false)) c.loop-place.invariant
