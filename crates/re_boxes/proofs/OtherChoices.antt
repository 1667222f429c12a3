-- Choices with another label at a place, and a box that is parted at any place first.
use Rattle.std.proofs.Common.{◌≡◌, ℕ, zero, suc, ◌+◌, ◌<◌, ◌≤◌, ◌⊎◌, true, false, not, List, [], ◌∷◌, length, filter, get_or, refl, sym, ap, ◌∙◌, subst, inl, inr, arith}
use Rattle.std.specs.Prelude.{slice_set}
use Rattle.std.specs.List.{AllByRecursion}
use Rattle.std.proofs.lemmas.Bool.{false≢true}
use Rattle.re_boxes.specs.Boxes.{IsCovered, IsUp}
use Rattle.re_labels.proofs.Rearranging.{length-AllZip}
use Rattle.re_labels.proofs.Rows.{all_at}
use Rattle.re_labels.specs.Rows.{IsChoice, IsUnder, set_at}
use Rattle.re_labels.proofs.Membership.{Contains-filter}
use Rattle.re_labels.proofs.Sets.{IsIn-has, IsIn-union_cases, has-IsIn}
use Rattle.re_labels.proofs.Tests.{same_or_not}
use Rattle.re_labels.specs.Sets.{IsIn, IsWithin, has, union}
use Rattle.re_labels.specs.Constraints.{Constraint, Has}
use Rattle.re_boxes.specs.Held.{AreHeldBeside}
use Rattle.re_labels.specs.GoodRows.{IsDominated}
use Rattle.re_boxes.proofs.SetsAtPlaces.{set_under, under_at, under_set}
use Rattle.re_boxes.specs.Parts.{IsPartCovered, left_out}

-- ---- choices with another label at a place
pub same_choice : (c : List ℕ) (place : ℕ) → slice_set c place (get_or c place 0) ≡ c
same_choice [] place = refl
same_choice (x ∷ c) zero = refl
same_choice (x ∷ c) (suc place) = ap (λ l. x ∷ l) (same_choice c place)

all_chosen : (c : List ℕ) (r : List (List ℕ)) → length c ≡ length r → ((i : ℕ) → i < length r → IsIn (get_or c i 0) (set_at r i)) → IsChoice c r
all_chosen [] [] e h = tt
all_chosen [] (s ∷ r) e h = absurd (omega (arith, e))
all_chosen (x ∷ c) [] e h = absurd (omega (arith, e))
all_chosen (x ∷ c) (s ∷ r) e h = (h zero (omega arith), all_chosen c r (omega (arith, e)) (λ i b. h (suc i) (omega (arith, b))))

-- another label at the only place where one may be lacking
other_chosen : (c : List ℕ) (r : List (List ℕ)) (place y : ℕ) → length c ≡ length r → AreHeldBeside place c r → IsIn y (set_at r place) → IsChoice (slice_set c place y) r
other_chosen [] [] place y e h k = tt
other_chosen [] (s ∷ r) place y e h k = absurd (omega (arith, e))
other_chosen (x ∷ c) [] place y e h k = absurd (omega (arith, e))
other_chosen (x ∷ c) (s ∷ r) zero y e h k = (k, all_chosen c r (omega (arith, e)) (λ i b. h (suc i) (omega (arith, b)) (λ q. absurd (omega (arith, q)))))
other_chosen (x ∷ c) (s ∷ r) (suc place) y e h k = (
  h zero (omega arith) (λ q. absurd (omega (arith, q))),
  other_chosen c r place y (omega (arith, e)) (λ i b ne. h (suc i) (omega (arith, b)) (λ q. ne (omega (arith, q)))) k,
)

some_label : (s : List ℕ) → 0 < length s → (y : ℕ) × IsIn y s
some_label [] some = absurd (omega arith)
some_label (y ∷ s) some = (y, (zero, omega arith, refl))

module _ (constraint : Constraint) (ups : ℕ → List ℕ) (rows : List (List (List ℕ))) where
  -- a row that lacks the label lies in the sets without those that go up to it
  in_left_out : (r b : List (List ℕ)) (place x : ℕ) → place < length r → AllByRecursion (IsUp ups) r → IsUnder r b → (IsIn x (set_at r place) → ⊥) → IsUnder r (left_out ups x place b)
  in_left_out r b place x inside up u lacks =
      under_set r b place (filter (λ z. not (has (ups z) x)) (set_at b place)) u
      (λ z i. Contains-filter (λ z. not (has (ups z) x)) (set_at b place) z (under_at r b place u z i)
      (elim (has (ups z) x) as (λ t. has (ups z) x ≡ t → not t ≡ true) [
        | true ↦ λ e. absurd (lacks (all_at (IsUp ups) r place up inside z i x (has-IsIn (ups z) x e)))
        | false ↦ λ e. refl
      ] refl))

  -- any one place first, and then all
  pub place_first : (f b more : List (List ℕ)) (c : List ℕ) (place : ℕ) → place < length b → more ≡ slice_set f place (union (set_at f place) (ups (get_or c place 0)))
      → IsCovered constraint ups rows f (left_out ups (get_or c place 0) place b) → IsPartCovered constraint ups rows more b c 0
      → IsPartCovered constraint ups rows f b c 0
  place_first f b more c place within e here rest r good up h u lacking =
      let x = get_or c place 0 in
      let inside : place < length r = omega (arith, within, length-AllZip IsWithin r b u) in
      elim (has (set_at r place) x) as (λ t. has (set_at r place) x ≡ t → IsDominated rows r) [
        | true ↦ λ t.
            let i = has-IsIn (set_at r place) x t in
            rest r good up
            (subst (λ m. IsUnder m r) (sym e) (set_under f r place (union (set_at f place) (ups x)) h
            (λ z k. elim (IsIn-union_cases (set_at f place) (ups x) z k) [ inl l ↦ under_at f r place h z l | inr l ↦ all_at (IsUp ups) r place up inside x i z l ])))
            u lacking
        | false ↦ λ t. here r good up h (in_left_out r b place x inside up u (λ i. false≢true (sym t ∙ IsIn-has (set_at r place) x i)))
      ] refl

  -- no row lacks a label of a choice where it may lack one at one place alone, and none fits there
  pub none_lacking : (f b : List (List ℕ)) (c : List ℕ) (place : ℕ) → length c ≡ length b → length b ≡ constraint.degree → AreHeldBeside place c f
      → (place < length b → (y : ℕ) → IsIn y (set_at b place) → Has constraint (slice_set c place y) → ⊥) → IsPartCovered constraint ups rows f b c 0
  none_lacking f b c place even count held bad r good up h u lacking =
      let wide : length f ≡ length r = length-AllZip IsWithin f r h in
      let high : length r ≡ length b = length-AllZip IsWithin r b u in
      let inside = lacking.within in
      let beside : AreHeldBeside place c r = (λ i within ne. under_at f r i h (get_or c i 0) (held i (omega (arith, within, wide)) ne)) in
      elim (same_or_not lacking.at place) [
        | inl same ↦
            let y = some_label (set_at r place) (all_at (λ s. 0 < length s) r place good.filled (omega (arith, inside, same, even, high))) in
            absurd (bad (omega (arith, inside, same, even)) y.0 (under_at r b place u y.0 y.1) (good.choice (slice_set c place y.0) (other_chosen c r place y.0 (omega (arith, even, high)) beside y.1)))
        | inr apart ↦ absurd (lacking.lacked (beside lacking.at (omega (arith, inside, even, high)) apart))
      ]

  -- a label of the choice that the row has to have
  pub held_place : (f b : List (List ℕ)) (c : List ℕ) (place : ℕ) → IsIn (get_or c place 0) (set_at f place) → IsPartCovered constraint ups rows f b c (place + 1) → IsPartCovered constraint ups rows f b c place
  held_place f b c place held rest r good up h u lacking =
      rest r good up h u
      (record {
        at = lacking.at;
        behind = elim (at_or_past place lacking.at lacking.behind) [
          | inl same ↦ absurd (lacking.lacked (subst (λ p. IsIn (get_or c p 0) (set_at r p)) same (under_at f r place h (get_or c place 0) held)))
          | inr past ↦ past
        ];
        within = lacking.within;
        lacked = lacking.lacked;
      })
    where
      at_or_past : (a b : ℕ) → a ≤ b → (a ≡ b) ⊎ (a + 1 ≤ b)
      at_or_past a b h = grind arith
