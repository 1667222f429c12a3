use Rattle.std.proofs.Common.{◌≡◌, ◌<◌, ◌≤◌, ◌∙◌, ap, arith, length, subst, sym, take, ◌+◌, ◌++◌, ◌∷◌, []}
use Rattle.re_greedy.proofs.HardestRows.{step_covered, step_long, step_more}
use Rattle.re_greedy.proofs.joining.hardest_of.Goals as goal
use Rattle.re_greedy.proofs.joining.hardest_of.Goals.{then-labels-degree+then-not-is_covered+in_ok-push+in_ok-push-2, then-labels-degree+else-not-is_covered, else-labels-degree}
use Rattle.re_greedy.specs.Partials.{AreHardest, IsCovered}

pub loop-member-preserved : goal.loop-member-preserved
loop-member-preserved c =
    let count : length c.labels.result.now ≡ length c.member-item.result = ap length c.labels.ensures.labels in
    elim c.if-labels-degree.branch [
      | then-labels-degree+then-not-is_covered+in_ok-push+in_ok-push-2 w ↦ (
          let fewer : length c.member-item.result < c.args.degree = omega (arith, count, w.if-labels-degree.true) in
          step_more c.args.degree c.args.members.now c.loop-member.chosen.items c.loop-member.sets.items c.member-item.result c.loop-member.member-index c.loop-member-test.true c.member-item.is c.loop-member.invariant
          w.joining-set.result c.if-labels-degree.chosen.items c.if-labels-degree.sets.items w.joining-set.ensures fewer
          ((λ i. (w.chosen-is i).items) ∙ w.in_ok-push.ensures.items ∙ ap (λ x. c.loop-member.chosen.items ++ x ∷ []) w.copy.ensures) ((λ i. (w.sets-is i).items) ∙ w.in_ok-push-2.ensures.items)
          )
      | then-labels-degree+else-not-is_covered w ↦ (
          let covered : IsCovered c.loop-member.sets.items w.joining-set.result =
          subst (λ sets. IsCovered sets w.joining-set.result) w.as_slice.ensures.value (w.is_covered.ensures.0 w.if-not-is_covered.false) in
          subst (λ sets. AreHardest c.args.degree c.args.members.now (take (c.loop-member.member-index + 1) c.args.members.now) c.if-labels-degree.chosen.items sets) (sym (λ i. (w.sets-is i).items))
          (subst (λ chosen. AreHardest c.args.degree c.args.members.now (take (c.loop-member.member-index + 1) c.args.members.now) chosen c.loop-member.sets.items) (sym (λ i. (w.chosen-is i).items))
          (step_covered c.args.degree c.args.members.now c.loop-member.chosen.items c.loop-member.sets.items c.member-item.result c.loop-member.member-index c.loop-member-test.true c.member-item.is c.loop-member.invariant
          w.joining-set.result w.joining-set.ensures covered))
          )
      | else-labels-degree w ↦ (
          let long : c.args.degree ≤ length c.member-item.result = omega (arith, count, w.if-labels-degree.false) in
          subst (λ sets. AreHardest c.args.degree c.args.members.now (take (c.loop-member.member-index + 1) c.args.members.now) c.if-labels-degree.chosen.items sets) (sym (λ i. (w.sets-is i).items))
          (subst (λ chosen. AreHardest c.args.degree c.args.members.now (take (c.loop-member.member-index + 1) c.args.members.now) chosen c.loop-member.sets.items) (sym (λ i. (w.chosen-is i).items))
          (step_long c.args.degree c.args.members.now c.loop-member.chosen.items c.loop-member.sets.items c.member-item.result c.loop-member.member-index c.loop-member-test.true c.member-item.is c.loop-member.invariant long))
          )
    ]
