use Rattle.std.proofs.Common.{rules, refl, arith, subst, sym, ◌∙◌, ◌≡◌, ◌-◌, take, drop, length}
use Rattle.std.proofs.lemmas.Bool.{false≢true}
use Rattle.re_labels.specs.Rows.{Dominates}
use Rattle.re_labels.proofs.Sets.{IsWithin-within, within-IsWithin}
use Rattle.re_labels.specs.Sets.{IsWithin}
use Rattle.re_labels.proofs.Lists.{split_first}
use Rattle.re_closure.proofs.Dominations.{held_at, none_again, none_at_all, none_held, none_here}
use Rattle.re_closure.proofs.Places.{no_elements, read_at}
use Rattle.re_closure.proofs.dominating.+hold.Goals.{then-not-is_again+then-within+else-hold, else-not-is_again, else-not-is_again-via-then-not-is_again+else-within, else-not-is_again-via-else-not-is_again}
use Rattle.re_closure.proofs.dominating.+hold.Goals as goal

pub returns-in_default : goal.returns-in_default
returns-in_default t c =
    let none : length c.args.sets.now ≡ 0 = (let b = c.in_default.len_below in omega arith) in
    (λ told. subst (Dominates c.args.tops.now) (sym (no_elements c.args.sets.now c.in_default.len_below)) (none_held c.args.tops.now (c.requires.alike ∙ none)), λ dom. refl)

pub returns-then-hold : goal.returns-then-hold
returns-then-hold t c =
    let at = read_at c.args.tops.now c.loop-place.place c.index-tops-place.result c.loop-place-test.true c.index-tops-place.is in
    let inside = within-IsWithin c.first-item.result c.index-tops-place.result (sym c.within.ensures ∙ c.if-within.true) in
    let rest = subst (λ l. Dominates l (take (length c.args.sets.now - 1) (drop 1 c.args.sets.now))) (c.as_slice.ensures.value ∙ c.without-left.ensures) (c.hold.ensures.0 c.if-hold.true) in (
      λ told. subst (Dominates c.args.tops.now) (sym (split_first c.args.sets.now c.first-item.result c.in-len1-up.len_at_least c.first-item.is))
          (held_at c.args.tops.now c.first-item.result (take (length c.args.sets.now - 1) (drop 1 c.args.sets.now)) c.loop-place.place c.loop-place-test.true (subst (IsWithin c.first-item.result) (sym at) inside) rest),
      λ dom. refl,
    )

pub loop-place-preserved : goal.loop-place-preserved
loop-place-preserved t c = elim c.if-not-is_again.branch [
  | then-not-is_again+then-within+else-hold w ↦ none_here c.args.tops.now c.first-item.result (take (length c.args.sets.now - 1) (drop 1 c.args.sets.now)) c.loop-place.place c.loop-place.invariant
      (λ h d. false≢true (sym w.if-hold.false ∙ w.hold.ensures.1 (subst (λ l. Dominates l (take (length c.args.sets.now - 1) (drop 1 c.args.sets.now))) (sym (w.as_slice.ensures.value ∙ w.without-left.ensures)) d)))
  | else-not-is_again w ↦ elim w.else-not-is_again.branch [
    | else-not-is_again-via-then-not-is_again+else-within w' ↦ none_here c.args.tops.now c.first-item.result (take (length c.args.sets.now - 1) (drop 1 c.args.sets.now)) c.loop-place.place c.loop-place.invariant
        (λ h d. false≢true (sym w'.if-within.false ∙ w'.within.ensures ∙ IsWithin-within c.first-item.result w'.index-tops-place.result
        (subst (IsWithin c.first-item.result) (read_at c.args.tops.now c.loop-place.place w'.index-tops-place.result c.loop-place-test.true w'.index-tops-place.is) h)))
    | else-not-is_again-via-else-not-is_again w' ↦ none_again c.args.tops.now c.first-item.result (take (length c.args.sets.now - 1) (drop 1 c.args.sets.now)) c.loop-place.place c.loop-place-test.true
        (c.is_again.ensures.again (search (w'.if-not-is_again, rules))) c.loop-place.invariant
  ]
]

pub returns : goal.returns
returns t c = (
  λ told. absurd (false≢true told),
  λ dom. absurd (none_at_all c.args.tops.now c.first-item.result (take (length c.args.sets.now - 1) (drop 1 c.args.sets.now)) c.loop-place.place c.loop-place-test.false c.loop-place.invariant
      (subst (Dominates c.args.tops.now) (split_first c.args.sets.now c.first-item.result c.in-len1-up.len_at_least c.first-item.is) dom)),
)
