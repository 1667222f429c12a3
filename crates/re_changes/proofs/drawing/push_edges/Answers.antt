use Rattle.std.proofs.Common.{length, sym, ◌∙◌}
use Rattle.std.specs.Prelude.{slice_index}
use Rattle.re_changes.proofs.Counted.{paired_in, paired_out}
use Rattle.re_changes.specs.Classes.{is_next, strong_by}
use Rattle.re_changes.proofs.drawing.push_edges.Goals as goal
use Rattle.re_changes.proofs.drawing.push_edges.Goals.{then-is_next+in_ok-push, else-is_next}

pub loop-to-preserved : goal.loop-to-preserved
loop-to-preserved c = elim c.if-is_next.branch [
  | then-is_next+in_ok-push w ↦
      paired_in (λ y. is_next (strong_by c.args.ups.now) (length c.args.ups.now) (slice_index c.args.least.now y) (slice_index c.args.least.now c.args.from)) c.args.from c.loop-to.to c.args.edges.now.items
      ((λ i. (w.edges-is i).items) ∙ w.in_ok-push.ensures.items) c.loop-to.invariant (sym c.is_next.ensures ∙ w.if-is_next.true)
  | else-is_next w ↦
      paired_out (λ y. is_next (strong_by c.args.ups.now) (length c.args.ups.now) (slice_index c.args.least.now y) (slice_index c.args.least.now c.args.from)) c.args.from c.loop-to.to c.args.edges.now.items
      (λ i. (w.edges-is i).items) c.loop-to.invariant (sym c.is_next.ensures ∙ w.if-is_next.false)
]
