use Rattle.std.proofs.Common.{◌<◌, ◌∙◌, ap, sym, subst, arith, length}
use Rattle.std.specs.Prelude.{slice_set}
use Rattle.std.specs.List.{AllByRecursion}
use Rattle.std.proofs.lemmas.Bool.{false≢true}
use Rattle.re_labels.specs.Configs.{sorted}
use Rattle.re_boxes.proofs.DrawnChoices.{found-has, without_label-fewer}
use Rattle.re_boxes.proofs.RaisedChoices.{choice_below, other_bad, other_choice, without_within}
use Rattle.re_labels.specs.Rows.{set_at}
use Rattle.re_boxes.proofs.strength_choosing.+raised_at.Goals as goal
use Rattle.re_labels.specs.declared.TheConstants.{MAX_LABELS}

pub from_labels-requires-clause-below : goal.from_labels-requires-clause-below
from_labels-requires-clause-below t c =
    let other = c.with_label-other.ensures ∙ ap (λ l. slice_set l c.args.place c.in-Some.label) c.as_slice.ensures.value in
    let k = other_choice c.args.constraint.now c.args.sets.now c.args.choice.items c.with_label-other.result.items c.args.place c.in-Some.label c.requires.bad (c.requires.candidates c.in-Some.label c.in-Some.ensures.0) other in
    subst (AllByRecursion (λ x. x < MAX_LABELS)) (sym c.as_slice-2.ensures.value) (choice_below MAX_LABELS c.with_label-other.result.items c.args.sets.now c.requires.sets k)

pub returns-then-not-contains : goal.returns-then-not-contains
returns-then-not-contains t c =
    let other = c.with_label-other.ensures ∙ ap (λ l. slice_set l c.args.place c.in-Some.label) c.as_slice.ensures.value in
    let k = other_choice c.args.constraint.now c.args.sets.now c.args.choice.items c.with_label-other.result.items c.args.place c.in-Some.label c.requires.bad (c.requires.candidates c.in-Some.label c.in-Some.ensures.0) other in
    let has = found-has c.args.constraint.now c.with_label-other.result.items c.from_labels.result c.contains.result c.contains.ensures (c.from_labels.ensures ∙ ap sorted c.as_slice-2.ensures.value) in
    other_bad c.args.constraint.now c.args.sets.now c.with_label-other.result.items k (λ h. false≢true (sym c.if-not-contains.true ∙ has.1 h))

pub raised_at-requires : goal.raised_at-requires
raised_at-requires t c = (
  omega (arith, c.decreases, ap length c.remove-rest.ensures, without_label-fewer c.args.candidates c.in-Some.label c.in-Some.ensures.0),
  (
    c.requires.two,
    (
      c.requires.six,
      (
        c.requires.sets,
        (
          c.requires.place,
          (
            without_within c.args.candidates (set_at c.args.sets.now c.args.place) c.in-Some.label c.remove-rest.result c.remove-rest.ensures c.requires.candidates,
            c.requires.bad,
          ),
        ),
      ),
    ),
  ),
)
