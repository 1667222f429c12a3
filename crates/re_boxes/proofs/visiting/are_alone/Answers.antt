use Rattle.std.proofs.Common.{◌≡◌, ◌∙◌, ◌<◌, [], arith, get_or, inl, inr, length, subst, sym}
use Rattle.re_labels.proofs.RowCalls.{read_within}
use Rattle.re_labels.proofs.Tests.{below-cases, eqb-true}
use Rattle.re_labels.specs.Sets.{IsIn}
use Rattle.re_boxes.proofs.NextLabels.{alone-is}
use Rattle.re_boxes.proofs.visiting.are_alone.Goals as goal

pub loop-label-preserved : goal.loop-label-preserved
loop-label-preserved c = λ a b below held. elim (below-cases a c.loop-label.label below) [
  | inl l ↦ c.loop-label.invariant a b l held
  | inr at ↦
      let far : c.loop-label.label < length c.args.ups.now = c.loop-label-test.true in
      let read : c.index-ups-label.result ≡ get_or c.args.ups.now c.loop-label.label [] = c.index-ups-label.is ∙ read_within c.args.ups.now c.loop-label.label c.index-ups-label.result [] far in
      alone-is c.index-ups-label.result c.remove.result c.loop-label.label b c.remove.ensures (eqb-true (length c.remove.result) 0 (sym c.if-not-is_empty.ensures))
      (subst (IsIn b) (sym read) (subst (λ i. IsIn b (get_or c.args.ups.now i [])) at held)) ∙ sym at
]

pub returns : goal.returns
returns c = λ _ a b below held. c.loop-label.invariant a b (let past = c.loop-label-test.false in omega (arith, below, past)) held
