use Rattle.std.proofs.Common.{rules, ◌+◌, ◌≡◌, false, true, filter, not, subst, sym, ◌∙◌}
use Rattle.re_labels.specs.Lists.{count_from}
use Rattle.re_labels.specs.Sets.{has}
use Rattle.re_closure.proofs.NeededSets.{others_in, others_out}
use Rattle.re_closure.proofs.families.others_of.Goals.{then-not-has, else-not-has}
use Rattle.re_closure.proofs.families.others_of.Goals as goal

pub loop-label-preserved : goal.loop-label-preserved
loop-label-preserved c = elim c.if-not-has.branch [
  | then-not-has w ↦
      let out : c.has.result ≡ false = search (w.if-not-has, rules) in
      others_in c.args.set c.loop-label.left c.if-not-has.left c.loop-label.label (sym c.has.ensures ∙ out) c.loop-label.invariant (w.left-is ∙ w.insert-left.ensures)
  | else-not-has w ↦
      let held : c.has.result ≡ true = search (w.if-not-has, rules) in
      subst (λ left. left ≡ filter (λ label. not (has c.args.set label)) (count_from 0 (c.loop-label.label + 1))) (sym w.left-is)
      (others_out c.args.set c.loop-label.left c.loop-label.label (sym c.has.ensures ∙ held) c.loop-label.invariant)
]
