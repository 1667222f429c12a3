use Rattle.std.proofs.Common.{map, arith, below_more}
use Rattle.re_labels.specs.Rows.{set_at}
use Rattle.re_labels.specs.GoodRows.{is_good}
use Rattle.re_problem.proofs.FirstFound.{failing-here, failing-none, passing-more}
use Rattle.re_problem.proofs.images.first_not_good.Goals as goal

pub returns-then-not-is_good : goal.returns-then-not-is_good
returns-then-not-is_good c =
    failing-here (λ config. is_good c.args.from.now (map (set_at c.args.sets.now) config)) c.args.to.now.configs c.loop-place.place c.in-Some.config.now c.copy.result c.is_good.result (omega (arith, c.len-place-end.ensures.len, c.loop-place-test.true)) c.in-Some.ensures.config c.copy.ensures
    c.loop-place.invariant c.is_good.ensures c.if-not-is_good.true

pub loop-place-preserved : goal.loop-place-preserved
loop-place-preserved c =
    below_more _ _ c.loop-place.invariant (passing-more (λ config. is_good c.args.from.now (map (set_at c.args.sets.now) config)) c.args.to.now.configs c.loop-place.place c.in-Some.config.now c.is_good.result c.in-Some.ensures.config c.is_good.ensures c.if-not-is_good.false)

pub returns : goal.returns
returns c = failing-none (λ config. is_good c.args.from.now (map (set_at c.args.sets.now) config)) c.args.to.now.configs c.loop-place.place (omega (arith, c.len-place-end.ensures.len, c.loop-place-test.false)) c.loop-place.invariant
