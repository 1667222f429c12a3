-- What the steps of the search answer.
use Rattle.std.proofs.Common.{◌≡◌, ℕ, ◌+◌, ◌<◌, List, length, sym, ap, ◌∙◌, subst, inl, inr}
use Rattle.std.proofs.lemmas.List.{ext_get_or}
use Rattle.re_labels.specs.Configs.{image_at}
use Rattle.re_labels.proofs.Tests.{below-cases}
use Rattle.re_labels.specs.declared.TheConstants.{MAX_LABELS}
use Rattle.re_problem.specs.NamedProblems.{IsNamedProblem, NamedProblem}
use Rattle.re_shaping.specs.Answers.{Answers, AnswersBy, AreApart, IsLost, IsMapBy, KeepsColours, Takes}
use Rattle.re_shaping.specs.Colours.{colour_at, first_colours, mark_of, refined, with_single}
use Rattle.re_shaping.specs.Renamings.{IsRenaming}
use Rattle.re_shaping.specs.Tries.{tries_of}
use Rattle.re_shaping.specs.declared.finding.TheConstants.{MAX_TRIES}
use Rattle.re_shaping.specs.declared.finding.Renaming.{Renaming}
use Rattle.re_shaping.specs.declared.finding.Renaming.TheVariants.{Found, Missing, TooMany}
use Rattle.re_shaping.proofs.Keeping.{first-kept, mark-kept, refined-kept, single-kept}
use Rattle.re_shaping.proofs.Moving.{Moves, moves}

-- none by which the label goes to one below this one
abbrev pub NoneBelow : NamedProblem → NamedProblem → List ℕ → List ℕ → ℕ → ℕ → Type 0
NoneBelow from to colours others single label = (images : List ℕ) → IsRenaming from to images → KeepsColours from to colours others images → image_at images single < label → ⊥

module _ (from to : NamedProblem) (is : IsNamedProblem from) (other : IsNamedProblem to) where
  -- no renaming that keeps the colours
  abbrev None : List ℕ → List ℕ → Type 0
  None colours others = (images : List ℕ) → IsRenaming from to images → KeepsColours from to colours others images → ⊥

  pub marked : (colours others : List ℕ) → (mark_of colours ≡ mark_of others → ⊥) → None colours others
  marked colours others differ images renaming keeps = differ (sym (mark-kept from to images (moves from to images is other renaming) colours others keeps))

  pub lost : (colours others : List ℕ) → IsLost colours others → None colours others
  lost colours others none images renaming keeps =
      let move = moves from to images is other renaming in
      let label = none.0 in
      let below : label < length from.names = subst (λ n. label < n) keeps.each none.1 in
      none.2 (image_at images label) (subst (λ n. image_at images label < n) (sym keeps.all) (move.below label below)) (keeps.same label below)

  one_map : (colours others map images : List ℕ) → AreApart colours → IsMapBy colours others map → IsRenaming from to images → KeepsColours from to colours others images → map ≡ images
  one_map colours others map images apart by renaming keeps = ext_get_or 0 map images (by.count ∙ keeps.each ∙ sym renaming.count) (λ x below. same x (subst (λ n. x < n) by.count below))
    where
      move : Moves from to images
      move = moves from to images is other renaming

      same : (x : ℕ) → x < length colours → image_at map x ≡ image_at images x
      same x below =
          let there = by.same x below in
          let source = move.onto (image_at map x) (subst (λ n. image_at map x < n) keeps.all there.0) in
          let e : colour_at colours source.0 ≡ colour_at colours x = sym (keeps.same source.0 source.1) ∙ ap (colour_at others) source.2 ∙ there.1 in
          sym source.2 ∙ ap (image_at images) (apart source.0 x (subst (λ n. source.0 < n) (sym keeps.each) source.1) below e)

  pub no_map : (colours others map : List ℕ) → AreApart colours → IsMapBy colours others map → (IsRenaming from to map → ⊥) → None colours others
  no_map colours others map apart by none images renaming keeps = none (subst (IsRenaming from to) (sym (one_map colours others map images apart by renaming keeps)) renaming)

  -- a label of the same colour was tried
  pub tried : (colours others : List ℕ) (single label : ℕ) → single < length colours → NoneBelow from to colours others single label
      → None (refined MAX_LABELS from (with_single colours single)) (refined MAX_LABELS to (with_single others label)) → NoneBelow from to colours others single (label + 1)
  tried colours others single label below before here images renaming keeps at = elim (below-cases (image_at images single) label at) [
    | inl earlier ↦ before images renaming keeps earlier
    | inr now ↦
        let move = moves from to images is other renaming in
        let kept = refined-kept from to images move MAX_LABELS (with_single colours single) (with_single others (image_at images single))
        (single-kept from to images move colours others keeps single (subst (λ n. single < n) keeps.each below)) in
        here images renaming (subst (λ l. KeepsColours from to (refined MAX_LABELS from (with_single colours single)) (refined MAX_LABELS to (with_single others l)) images) now kept)
  ]

  -- a label of another colour isn't tried
  pub passed : (colours others : List ℕ) (single label : ℕ) → single < length colours → NoneBelow from to colours others single label
      → (colour_at others label ≡ colour_at colours single → ⊥) → NoneBelow from to colours others single (label + 1)
  passed colours others single label below before differ images renaming keeps at = elim (below-cases (image_at images single) label at) [
    | inl earlier ↦ before images renaming keeps earlier
    | inr now ↦ differ (ap (colour_at others) (sym now) ∙ keeps.same single (subst (λ n. single < n) keeps.each below))
  ]

  -- all labels were looked at
  pub ended : (colours others : List ℕ) (single : ℕ) → single < length colours → NoneBelow from to colours others single (length others) → None colours others
  ended colours others single below all images renaming keeps =
      let move = moves from to images is other renaming in
      all images renaming keeps (subst (λ n. image_at images single < n) (sym keeps.all) (move.below single (subst (λ n. single < n) keeps.each below)))

  pub first_none : None (first_colours from) (first_colours to) → (images : List ℕ) → IsRenaming from to images → ⊥
  first_none none images renaming = none images renaming (first-kept from to images (moves from to images is other renaming))

-- what is answered by the first colours
pub answered : (from to first second : NamedProblem) (colours others : List ℕ) (after : ℕ) → first ≡ from → second ≡ to → colours ≡ first_colours from → others ≡ first_colours to → IsNamedProblem from → IsNamedProblem to
    → (result : Renaming) → AnswersBy first second colours others result → Takes MAX_TRIES after (tries_of MAX_LABELS first second colours others) result → Answers from to result
answered from to first second colours others after e f g h is other result answer takes =
    let both = subst (λ x. Both from to (first_colours from) x) h (subst (λ x. Both from to x others) g (subst (λ x. Both from x colours others) f (subst (λ x. Both x second colours others) e (answer, takes)))) in
    by_result result both.0 both.1
  where
    Both : NamedProblem → NamedProblem → List ℕ → List ℕ → Type 0
    Both x y cs ds = AnswersBy x y cs ds result × Takes MAX_TRIES after (tries_of MAX_LABELS x y cs ds) result

    by_result : (result : Renaming) → AnswersBy from to (first_colours from) (first_colours to) result → Takes MAX_TRIES after (tries_of MAX_LABELS from to (first_colours from) (first_colours to)) result
        → Answers from to result
    by_result (Found images) renaming left = renaming
    by_result Missing none left = first_none from to is other none
    by_result TooMany left many = many
