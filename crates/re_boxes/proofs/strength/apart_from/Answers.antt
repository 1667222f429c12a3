use Rattle.std.proofs.Common.{◌≡◌, ◌∙◌, ap, sym, not, ◌∷◌, []}
use Rattle.re_labels.proofs.RowCalls.{read_within}
use Rattle.re_labels.specs.Sets.{has}
use Rattle.re_boxes.specs.HeldStrength.{ups_in}
use Rattle.re_boxes.proofs.LabelsAbove.{passed_by, taken}
use Rattle.re_boxes.proofs.strength.apart_from.Goals as goal
use Rattle.re_boxes.proofs.strength.apart_from.Goals.{then-not-has, else-not-has}

pub loop-other-preserved : goal.loop-other-preserved
loop-other-preserved c =
    let other = c.loop-other.other in
    let set : c.index-ups-other.result ≡ ups_in c.args.ups.now other = c.index-ups-other.is ∙ read_within c.args.ups.now other c.index-ups-other.result (other ∷ []) c.loop-other-test.true in
    let told : c.has.result ≡ has (ups_in c.args.ups.now other) c.args.label = c.has.ensures ∙ ap (λ s. has s c.args.label) set in
    elim c.if-not-has.branch [
      | then-not-has w ↦
          let two = taken (λ z. not (has (ups_in c.args.ups.now z) c.args.label)) c.loop-other.apart other c.loop-other.invariant.before c.loop-other.invariant.behind c.if-not-has.apart
          (w.apart-is ∙ w.insert-apart.ensures) (ap not (sym told ∙ w.if-not-has.true)) in
          record { before = two.0; behind = two.1 }
      | else-not-has w ↦
          let two = passed_by (λ z. not (has (ups_in c.args.ups.now z) c.args.label)) c.loop-other.apart other c.loop-other.invariant.before c.loop-other.invariant.behind c.if-not-has.apart
          w.apart-is (ap not (sym told ∙ w.if-not-has.false)) in
          record { before = two.0; behind = two.1 }
    ]
