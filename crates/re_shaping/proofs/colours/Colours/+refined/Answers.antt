use Rattle.std.proofs.Common.{◌≡◌, ◌-◌, ◌<◌, ◌≤◌, suc, arith, ◌∙◌}
use Rattle.re_shaping.specs.Colours.{pairs_alike}
use Rattle.re_shaping.proofs.Coding.{refined_ends, refined_more, refined_never}
use Rattle.re_shaping.proofs.colours.Colours.+refined.Goals as goal

pub returns-then-times-eq0 : goal.returns-then-times-eq0
returns-then-times-eq0 t c = refined_never c.args.times c.args.problem.now c.args.self c.if-times-eq0.true

pub returns-then-pairs_alike : goal.returns-then-pairs_alike
returns-then-pairs_alike t c =
    let more : c.args.times ≡ suc (c.args.times - 1) = omega (arith, c.if-times-eq0.false) in
    let fewer : pairs_alike c.next-next.result < pairs_alike c.args.self = omega (arith, c.pairs_alike.ensures, c.pairs_alike-2.ensures, c.if-pairs_alike.true) in
    c.refined.ensures ∙ refined_more c.args.times (c.args.times - 1) c.args.problem.now c.args.self c.next-next.result more c.next-next.ensures fewer

pub returns-else-pairs_alike : goal.returns-else-pairs_alike
returns-else-pairs_alike t c =
    let more : c.args.times ≡ suc (c.args.times - 1) = omega (arith, c.if-times-eq0.false) in
    let no_fewer : pairs_alike c.args.self ≤ pairs_alike c.next-next.result = omega (arith, c.pairs_alike.ensures, c.pairs_alike-2.ensures, c.if-pairs_alike.false) in
    refined_ends c.args.times (c.args.times - 1) c.args.problem.now c.args.self c.next-next.result more c.next-next.ensures no_fewer
