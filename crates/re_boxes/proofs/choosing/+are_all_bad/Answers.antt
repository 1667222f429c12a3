use Rattle.std.proofs.Common.{length, ap, sym, ◌∙◌, subst, inl, inr, arith}
use Rattle.std.specs.Prelude.{slice_set}
use Rattle.std.proofs.lemmas.Bool.{false≢true}
use Rattle.re_labels.specs.Configs.{sorted}
use Rattle.re_labels.specs.Sets.{IsIn}
use Rattle.re_boxes.proofs.DrawnChoices.{found-has, label_cases, without_label-fewer}
use Rattle.re_labels.specs.Constraints.{Has}
use Rattle.re_boxes.proofs.choosing.+are_all_bad.Goals as goal

pub are_all_bad-requires : goal.are_all_bad-requires
are_all_bad-requires t c = (omega (arith, c.decreases, ap length c.remove.ensures, without_label-fewer c.args.labels c.in-Some.label c.in-Some.ensures.0), (c.requires.two, (c.requires.six, c.requires.below)))

pub returns : goal.returns
returns t c told label i =
    let with = slice_set c.args.choice.now c.args.place in
    let other = c.as_slice.ensures.value ∙ c.with_label-other.ensures in
    let has = found-has c.args.constraint.now (with c.in-Some.label) c.from_labels.result c.contains_near.result c.contains_near.ensures (c.from_labels.ensures ∙ ap sorted other) in
    elim (label_cases c.args.labels c.in-Some.label label i) [
      | inl same ↦ λ h. false≢true (sym c.if-contains_near.false ∙ has.1 (subst (λ y. Has c.args.constraint.now (with y)) same h))
      | inr k ↦ c.are_all_bad.ensures told label (subst (IsIn label) (sym c.remove.ensures) k)
    ]
