use Rattle.std.proofs.Common.{subst}
use Rattle.re_labels.specs.declared.TheConstants.{MAX_LABELS}
use Rattle.re_problem.specs.NamedProblems.{unnamed}
use Rattle.re_flexible.proofs.Parts.{closed_is, composed_is, walks_are}
use Rattle.re_flexible.proofs.walking.walks_of.Goals as goal
use Rattle.re_flexible.specs.Families.{AreJoins}

pub returns : goal.returns
returns c =
    let active = c.joins-active.result.items in
    let passive = c.joins-passive.result.items in
    let two = c.composed-two.result.items in
    let back = c.composed-back.result.items in
    let one : AreJoins c.args.problem.now.active c.args.sets.now active = subst (λ k. AreJoins k c.args.sets.now active) c.active.ensures.active c.joins-active.ensures.joins in
    let other : AreJoins c.args.problem.now.passive c.args.sets.now passive = subst (λ k. AreJoins k c.args.sets.now passive) c.passive.ensures.passive c.joins-passive.ensures.joins in
    let steps = composed_is active c.as_slice.result.now passive c.as_slice-2.result.now two c.as_slice.ensures.value c.as_slice-2.ensures.value c.composed-two.ensures.steps in
    let steps_back = composed_is passive c.as_slice-3.result.now active c.as_slice-4.result.now back c.as_slice-3.ensures.value c.as_slice-4.ensures.value c.composed-back.ensures.steps in
    let closed = closed_is MAX_LABELS two c.as_slice-5.result.now c.closed-forth.result.items c.as_slice-5.ensures.value c.closed-forth.ensures.closed in
    let closed_back = closed_is MAX_LABELS back c.as_slice-6.result.now c.closed-behind.result.items c.as_slice-6.ensures.value c.closed-behind.ensures.closed in
    let odd = composed_is active c.as_slice-7.result.now c.closed-behind.result.items c.as_slice-8.result.now c.composed-from_active.result.items c.as_slice-7.ensures.value c.as_slice-8.ensures.value c.composed-from_active.ensures.steps in
    let odd_back = composed_is passive c.as_slice-9.result.now c.closed-forth.result.items c.as_slice-10.result.now c.composed-from_passive.result.items c.as_slice-9.ensures.value c.as_slice-10.ensures.value c.composed-from_passive.ensures.steps in
    walks_are (unnamed c.args.problem.now) c.args.sets.now c.requires.apart active passive two back one other steps steps_back MAX_LABELS c.closed-forth.result.items c.closed-behind.result.items
    c.composed-from_active.result.items c.composed-from_passive.result.items c.requires.count closed closed_back odd odd_back
