use Rattle.std.proofs.Common.{[], ap, arith, below_more, sym, ◌∙◌}
use Rattle.re_problem.specs.Zero.{shows_zero}
use Rattle.re_labels.proofs.Walked.{walked-all, walked-more}
use Rattle.re_problem.proofs.FirstPlaces.{position-absent, position-found}
use Rattle.re_problem.proofs.zero.first_fit.Goals as goal

pub unreachable-requires : goal.unreachable-requires
unreachable-requires c = let over = walked-all c.args.active.now.configs c.loop-place.place [] (sym c.loop-place.invariant.left ∙ c.in-None.ensures.steps.0) in omega (arith, over, c.len-place-end.ensures.len, c.loop-place-test.true)

pub loop-place-preserved : goal.loop-place-preserved
loop-place-preserved c =
    let step = walked-more c.args.active.now.configs c.loop-place.place [] c.in-Some.config.now c.next.new.self (sym c.loop-place.invariant.left ∙ c.in-Some.ensures.steps) in
    record {
      left = step.2;
      before = below_more _ _ c.loop-place.invariant.before (ap (shows_zero c.args.passive.now) (sym step.1) ∙ sym c.shows_zero.ensures ∙ c.if-shows_zero.false);
    }

pub returns-then-shows_zero : goal.returns-then-shows_zero
returns-then-shows_zero c =
    let step = walked-more c.args.active.now.configs c.loop-place.place [] c.in-Some.config.now c.next.new.self (sym c.loop-place.invariant.left ∙ c.in-Some.ensures.steps) in
    sym (position-found (shows_zero c.args.passive.now) c.args.active.now.configs c.loop-place.place [] step.0 c.loop-place.invariant.before
    (ap (shows_zero c.args.passive.now) (sym step.1) ∙ sym c.shows_zero.ensures ∙ c.if-shows_zero.true))

pub returns : goal.returns
returns c = sym (position-absent (shows_zero c.args.passive.now) c.args.active.now.configs [] (λ k l. c.loop-place.invariant.before k (omega (arith, l, c.len-place-end.ensures.len, c.loop-place-test.false))))
