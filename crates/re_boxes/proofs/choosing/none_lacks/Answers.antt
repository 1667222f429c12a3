use Rattle.std.proofs.Common.{◌≡◌, ◌∙◌, [], ap, sym, subst, inl, inr, arith, get_or}
use Rattle.std.specs.Prelude.{slice_set}
use Rattle.re_labels.proofs.Rearranging.{length-AllZip}
use Rattle.re_labels.proofs.RowCalls.{read_within}
use Rattle.re_labels.specs.Rows.{set_at}
use Rattle.re_labels.specs.Sets.{IsIn, without_label}
use Rattle.re_labels.specs.declared.TheConstants.{MAX_LABELS}
use Rattle.re_boxes.proofs.DrawnChoices.{label_cases}
use Rattle.re_boxes.proofs.RaisedChoices.{choice_at, choice_below}
use Rattle.re_labels.specs.Constraints.{Has}
use Rattle.re_boxes.proofs.OtherChoices.{none_lacking, same_choice}
use Rattle.re_boxes.proofs.choosing.none_lacks.Goals as goal

pub only_place-requires-clause-even : goal.only_place-requires-clause-even
only_place-requires-clause-even c = c.requires.must ∙ sym (length-AllZip IsIn c.args.choice.now c.args.may.now c.requires.choice)

pub only_place-requires-clause-below : goal.only_place-requires-clause-below
only_place-requires-clause-below c = choice_below MAX_LABELS c.args.choice.now c.args.may.now c.requires.sets c.requires.choice

pub returns-then-place-may : goal.returns-then-place-may
returns-then-place-may c _ ups rows =
    none_lacking c.args.constraint.now ups rows c.args.must.now c.args.may.now c.args.choice.now c.in-Some.place (length-AllZip IsIn c.args.choice.now c.args.may.now c.requires.choice) c.requires.count c.in-Some.ensures
    (λ inside. absurd (let past = c.if-place-may.true in omega (arith, inside, past)))

pub are_all_bad-requires-clause-two : goal.are_all_bad-requires-clause-two
are_all_bad-requires-clause-two c = let e = length-AllZip IsIn c.args.choice.now c.args.may.now c.requires.choice in omega (arith, e, c.requires.two)

pub are_all_bad-requires-clause-six : goal.are_all_bad-requires-clause-six
are_all_bad-requires-clause-six c = let e = length-AllZip IsIn c.args.choice.now c.args.may.now c.requires.choice in omega (arith, e, c.requires.six)

pub are_all_bad-requires-clause-below : goal.are_all_bad-requires-clause-below
are_all_bad-requires-clause-below c = choice_below MAX_LABELS c.args.choice.now c.args.may.now c.requires.sets c.requires.choice

pub returns : goal.returns
returns c told ups rows =
    let place = c.in-Some.place in
    let label = get_or c.args.choice.now place 0 in
    none_lacking c.args.constraint.now ups rows c.args.must.now c.args.may.now c.args.choice.now place (length-AllZip IsIn c.args.choice.now c.args.may.now c.requires.choice) c.requires.count c.in-Some.ensures
    (λ inside y i.
    let mine : c.index-may-place.result ≡ set_at c.args.may.now place = c.index-may-place.is ∙ read_within c.args.may.now place c.index-may-place.result [] inside in
    elim (label_cases (set_at c.args.may.now place) label y i) [
      | inl same ↦ λ h. c.requires.bad (subst (Has c.args.constraint.now) (same_choice c.args.choice.now place) (subst (λ z. Has c.args.constraint.now (slice_set c.args.choice.now place z)) same h))
      | inr k ↦ c.are_all_bad.ensures told y (subst (IsIn y) (sym (c.remove-others.ensures ∙ ap (λ s. without_label s label) mine)) k)
    ])

pub bounds-choice-place : goal.bounds-choice-place
bounds-choice-place c = let e = length-AllZip IsIn c.args.choice.now c.args.may.now c.requires.choice in let h = c.if-place-may.false in omega (arith, e, h)

pub remove-others-requires : goal.remove-others-requires
remove-others-requires c = choice_at MAX_LABELS c.args.choice.now c.args.may.now c.in-Some.place c.requires.sets c.requires.choice (let h = c.if-place-may.false in omega (arith, h))
