use Rattle.std.proofs.Common.{ap, sym, ◌∙◌}
use Rattle.re_labels.specs.Sets.{with_label}
use Rattle.re_changes.proofs.Counted.{left_out, with_label-next}
use Rattle.re_changes.specs.Classes.{are_equal, strong_by}
use Rattle.re_changes.proofs.classes.class_of.Goals as goal
use Rattle.re_changes.proofs.classes.class_of.Goals.{then-are_equal, else-are_equal}

pub loop-other-preserved : goal.loop-other-preserved
loop-other-preserved c = elim c.if-are_equal.branch [
  | then-are_equal w ↦ w.class-is ∙ w.insert-class.ensures ∙ ap (λ s. with_label s c.loop-other.other) c.loop-other.invariant
      ∙ with_label-next (are_equal (strong_by c.args.ups.now) c.args.label) c.loop-other.other (sym c.are_equal.ensures ∙ w.if-are_equal.true)
  | else-are_equal w ↦ left_out (are_equal (strong_by c.args.ups.now) c.args.label) c.loop-other.other w.class-is c.loop-other.invariant (sym c.are_equal.ensures ∙ w.if-are_equal.false)
]
