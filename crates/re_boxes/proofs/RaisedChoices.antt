-- A bad choice whose labels go up.
use Rattle.std.proofs.Common.{◌≡◌, ℕ, zero, suc, ◌<◌, List, [], ◌∷◌, length, get_or, refl, sym, subst, arith}
use Rattle.std.specs.Prelude.{slice_set}
use Rattle.std.specs.List.{AllByRecursion, AllZip}
use Rattle.re_boxes.specs.Boxes.{IsStrength}
use Rattle.re_labels.specs.Rows.{IsChoice, set_at}
use Rattle.re_labels.proofs.Membership.{AllByRecursion-contains, Contains-filter_cases}
use Rattle.re_labels.specs.Sets.{IsIn, IsLabelSet, IsWithin, without_label}
use Rattle.re_labels.specs.Constraints.{Constraint, Has}
use Rattle.re_boxes.proofs.UpSets.{held_choice, lowered}
use Rattle.re_boxes.specs.Choosing.{AreGoodChoices, IsBadBehind}
use Rattle.re_boxes.specs.HeldStrength.{IsWeakest}

pub choice_below : (n : ℕ) (c : List ℕ) (sets : List (List ℕ)) → AllByRecursion (IsLabelSet n) sets → IsChoice c sets → AllByRecursion (λ x. x < n) c
choice_below n [] sets h k = tt
choice_below n (x ∷ c) [] h k = absurd k
choice_below n (x ∷ c) (s ∷ sets) h k = (AllByRecursion-contains (λ z. z < n) s x h.0.1 k.0, choice_below n c sets h.1 k.1)

pub choice_at : (n : ℕ) (c : List ℕ) (sets : List (List ℕ)) (place : ℕ) → AllByRecursion (IsLabelSet n) sets → IsChoice c sets → place < length sets → get_or c place 0 < n
choice_at n [] [] place h k inside = absurd (omega arith)
choice_at n [] (s ∷ sets) place h k inside = absurd k
choice_at n (x ∷ c) [] place h k inside = absurd k
choice_at n (x ∷ c) (s ∷ sets) zero h k inside = AllByRecursion-contains (λ z. z < n) s x h.0.1 k.0
choice_at n (x ∷ c) (s ∷ sets) (suc place) h k inside = choice_at n c sets place h.1 k.1 (omega arith)

choice_set : (c : List ℕ) (sets : List (List ℕ)) (place y : ℕ) → IsChoice c sets → IsIn y (set_at sets place) → IsChoice (slice_set c place y) sets
choice_set [] [] place y k i = tt
choice_set [] (s ∷ sets) place y k i = absurd k
choice_set (x ∷ c) [] place y k i = absurd k
choice_set (x ∷ c) (s ∷ sets) zero y k i = (i, k.1)
choice_set (x ∷ c) (s ∷ sets) (suc place) y k i = (k.0, choice_set c sets place y k.1 i)

pub without_within : (s t : List ℕ) (x : ℕ) (rest : List ℕ) → rest ≡ without_label s x → IsWithin s t → IsWithin rest t
without_within s t x rest e h z i = h z (Contains-filter_cases _ s z (subst (IsIn z) e i)).0

module _ (constraint : Constraint) (sets : List (List ℕ)) where
  pub bad_is_choice : (c : List ℕ) → IsBadBehind constraint [] sets c → IsChoice c sets
  bad_is_choice c bad = subst (λ l. IsChoice l sets) (sym bad.behind) bad.chosen

  pub other_choice : (c other : List ℕ) (place y : ℕ) → IsBadBehind constraint [] sets c → IsIn y (set_at sets place) → other ≡ slice_set c place y → IsChoice other sets
  other_choice c other place y bad i e = subst (λ l. IsChoice l sets) (sym e) (choice_set c sets place y (bad_is_choice c bad) i)

  pub other_bad : (other : List ℕ) → IsChoice other sets → (Has constraint other → ⊥) → IsBadBehind constraint [] sets other
  other_bad other k lacked = record { labels = other; behind = refl; chosen = k; lacked = lacked }

  module _ (ups : ℕ → List ℕ) (strong : IsStrength constraint ups) (weakest slice : List (List ℕ)) (w : AllZip (IsWeakest ups) weakest sets) (e : slice ≡ weakest) where
    pub weakest_bad : (c : List ℕ) → IsBadBehind constraint [] slice c → IsBadBehind constraint [] sets c
    weakest_bad c bad = other_bad c (held_choice constraint ups strong weakest sets c w (subst (IsChoice c) e (subst (λ l. IsChoice l slice) (sym bad.behind) bad.chosen))) bad.lacked

    pub weakest_good : AreGoodChoices constraint slice → AreGoodChoices constraint sets
    weakest_good good c k = let a = lowered constraint ups strong weakest sets c w k in strong.keeps a.0 c a.2 (good a.0 (subst (IsChoice a.0) (sym e) a.1))
