use Rattle.std.proofs.Common.{◌≡◌, ◌<◌, ◌∙◌, ap, sym, subst, arith, length, get_or, []}
use Rattle.re_labels.proofs.RowCalls.{read_within}
use Rattle.re_labels.proofs.Rearranging.{length-AllZip}
use Rattle.re_labels.specs.Rows.{set_at}
use Rattle.re_labels.proofs.Sets.{IsIn-meet_cases}
use Rattle.re_labels.specs.Sets.{IsIn}
use Rattle.re_boxes.proofs.RaisedChoices.{bad_is_choice, choice_at, without_within}
use Rattle.re_boxes.proofs.UpSets.{label_sets_more}
use Rattle.re_boxes.proofs.strength_choosing.+raised.Goals as goal
use Rattle.re_labels.specs.declared.TheConstants.{MAX_LABELS}

pub bounds-deref-place : goal.bounds-deref-place
bounds-deref-place t c =
    let even = length-AllZip IsIn c.args.choice.items c.args.sets.now (bad_is_choice c.args.constraint.now c.args.sets.now c.args.choice.items c.requires.bad) in
    let inside = c.if-place-sets.false in
    omega (arith, even, ap length c.deref.ensures.0, inside)

pub up-requires : goal.up-requires
up-requires t c =
    let inside : c.args.place < length c.args.sets.now = (let h = c.if-place-sets.false in omega arith) in
    subst (λ l. get_or l c.args.place 0 < c.args.strength.now.labels) (sym c.deref.ensures.0)
    (choice_at c.args.strength.now.labels c.args.choice.items c.args.sets.now c.args.place c.requires.sets (bad_is_choice c.args.constraint.now c.args.sets.now c.args.choice.items c.requires.bad) inside)

pub raised_at-more-requires-clause-sets : goal.raised_at-more-requires-clause-sets
raised_at-more-requires-clause-sets t c = label_sets_more c.args.strength.now.labels MAX_LABELS c.args.strength.now.few c.args.sets.now c.requires.sets

pub raised_at-more-requires-clause-candidates : goal.raised_at-more-requires-clause-candidates
raised_at-more-requires-clause-candidates t c =
    let inside : c.args.place < length c.args.sets.now = (let h = c.if-place-sets.false in omega arith) in
    let mine : c.index-sets-place.result ≡ set_at c.args.sets.now c.args.place = c.index-sets-place.is ∙ read_within c.args.sets.now c.args.place c.index-sets-place.result [] inside in
    without_within c.meet.result (set_at c.args.sets.now c.args.place) _ c.remove-stronger.result c.remove-stronger.ensures
    (λ z i. subst (IsIn z) mine (IsIn-meet_cases c.index-sets-place.result c.up.result z (subst (IsIn z) c.meet.ensures i)).0)
