use Rattle.std.proofs.Common.{◌<◌, ap, arith, length, subst}
use Rattle.re_bridge.proofs.FewestImages.{reduction_law}
use Rattle.re_bridge.proofs.MapWalks.{reduction-found, reduction-on, told-found, told-none}
use Rattle.re_bridge.specs.Reductions.{Reduces, walk_into}
use Rattle.re_bridge.proofs.reducing.reduction.Goals as goal

pub returns-in-Some-clause-maps : goal.returns-in-Some-clause-maps
returns-in-Some-clause-maps c =
    let below : c.loop-most.most < length c.args.problem.now.names = omega (arith, c.len-most-end.ensures.len, ap length c.names.ensures.names, c.loop-most-test.true) in
    let here = told-found (λ v. v.items) (walk_into c.loop-most.most c.args.problem.now c.args.tries) c.in_ok-images.field-0 c.in-Some.images c.in-Some.is c.in_ok-images.ensures.walked in
    (subst (Reduces c.args.problem.now) (reduction-found c.args.problem.now c.args.tries c.loop-most.most c.in-Some.images.items below c.loop-most.invariant here) (reduction_law c.args.problem.now c.args.tries c.names.ensures.problem)).maps

pub loop-most-preserved : goal.loop-most-preserved
loop-most-preserved c =
    let below : c.loop-most.most < length c.args.problem.now.names = omega (arith, c.len-most-end.ensures.len, ap length c.names.ensures.names, c.loop-most-test.true) in
    let here = told-none (λ v. v.items) (walk_into c.loop-most.most c.args.problem.now c.args.tries) c.in_ok-images.field-0 c.in_default.is c.in_ok-images.ensures.walked in
    reduction-on c.args.problem.now c.args.tries c.loop-most.most below c.loop-most.invariant here
