use Rattle.std.proofs.Common.{◌<◌, arith}
use Rattle.re_step.proofs.Growth.{as_they_are, grown_on, place_tried}
use Rattle.re_step.proofs.growing.+grown_before.Goals as goal

pub returns-then-place-eq0-clause-grown : goal.returns-then-place-eq0-clause-grown
returns-then-place-eq0-clause-grown t c = as_they_are c.args.constraint.now c.args.strength.now.labels c.args.sets.items c.requires.good c.requires.sets

pub returns-clause-grown : goal.returns-clause-grown
returns-clause-grown t c = grown_on c.args.constraint.now c.args.strength.now.labels c.args.sets.items c.grown_at-more.result.items c.grown_before.result.items c.grown_at-more.ensures.grown c.grown_before.ensures.grown

pub returns-clause-tried : goal.returns-clause-tried
returns-clause-tried t c =
    let some : 0 < c.args.place = (let h = c.if-place-eq0.false in omega arith) in
    place_tried c.args.constraint.now c.args.strength.now.labels c.grown_at-more.result.items c.grown_before.result.items c.args.place some c.grown_at-more.ensures.grown.are_sets c.grown_before.ensures.grown
    (λ x low below. c.grown_at-more.ensures.tried x below) c.grown_before.ensures.tried
