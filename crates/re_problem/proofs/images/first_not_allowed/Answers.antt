use Rattle.std.proofs.Common.{map, arith, below_more}
use Rattle.re_labels.specs.Rows.{set_at}
use Rattle.re_labels.specs.GoodRows.{is_allowed}
use Rattle.re_problem.proofs.FirstFound.{failing-here, failing-none, passing-more}
use Rattle.re_problem.proofs.images.first_not_allowed.Goals as goal

pub returns-then-not-is_allowed : goal.returns-then-not-is_allowed
returns-then-not-is_allowed c =
    failing-here (λ config. is_allowed c.args.from.now (map (set_at c.args.sets.now) config)) c.args.to.now.configs c.loop-place.place c.in-Some.config.now c.copy.result c.is_allowed.result (omega (arith, c.len-place-end.ensures.len, c.loop-place-test.true)) c.in-Some.ensures.config c.copy.ensures
    c.loop-place.invariant c.is_allowed.ensures c.if-not-is_allowed.true

pub loop-place-preserved : goal.loop-place-preserved
loop-place-preserved c =
    below_more _ _ c.loop-place.invariant (passing-more (λ config. is_allowed c.args.from.now (map (set_at c.args.sets.now) config)) c.args.to.now.configs c.loop-place.place c.in-Some.config.now c.is_allowed.result c.in-Some.ensures.config c.is_allowed.ensures c.if-not-is_allowed.false)

pub returns : goal.returns
returns c = failing-none (λ config. is_allowed c.args.from.now (map (set_at c.args.sets.now) config)) c.args.to.now.configs c.loop-place.place (omega (arith, c.len-place-end.ensures.len, c.loop-place-test.false)) c.loop-place.invariant
