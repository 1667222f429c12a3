use Rattle.std.proofs.Common.{◌≡◌, ◌<◌, [], arith, get_or, length}
use Rattle.re_labels.proofs.Placing.{read_at}
use Rattle.re_forests.specs.Flexible.{AreJoined}
use Rattle.re_problem.specs.NamedProblems.{unnamed}
use Rattle.re_flexible.proofs.Building.{built_all, built_more, related_low}
use Rattle.re_flexible.proofs.Parts.{part_is}
use Rattle.re_flexible.proofs.walking.parts_of.Goals as goal
use Rattle.re_flexible.specs.Families.{set_with}

pub loop-label-preserved : goal.loop-label-preserved
loop-label-preserved c =
    let low : c.loop-label.label < length c.args.sets.now = (let below = c.loop-label-test.true in let same = c.requires.count in omega (arith, below, same)) in
    let row : c.index-sets-label.result ≡ get_or c.args.sets.now c.loop-label.label [] = read_at c.args.sets.now c.loop-label.label c.index-sets-label.result low c.index-sets-label.is in
    let walks = c.args.walks.now in
    built_more (λ x y. AreJoined (unnamed c.args.problem.now) (set_with c.args.sets.now x) x y) c.loop-label.parts.items _ c.loop-label.label c.part_of.result c.loop-label.invariant c.push.ensures.items
    (part_is (unnamed c.args.problem.now) c.args.sets.now c.requires.apart walks.two.items walks.back.items walks.forth.items walks.behind.items walks.from_active.items walks.from_passive.items
    c.loop-label.label c.index-sets-label.result c.part_of.result c.requires.walks row c.part_of.ensures)

pub returns-clause-parts : goal.returns-clause-parts
returns-clause-parts c = built_all (λ x y. AreJoined (unnamed c.args.problem.now) (set_with c.args.sets.now x) x y) c.loop-label.parts.items c.loop-label.label c.loop-label.invariant
    (λ x y both. let low : x < length c.args.sets.now = related_low c.args.sets.now x x both.first in let past = c.loop-label-test.false in let same = c.requires.count in omega (arith, low, past, same))
