-- A choice that is no configuration parts a box.
use Rattle.std.proofs.Common.{◌≡◌, ℕ, zero, suc, ◌+◌, ◌<◌, ◌≤◌, true, false, not, List, [], ◌∷◌, length, filter, get_or, refl, sym, ap, ◌∙◌, subst, ◌⊎◌, inl, inr, arith}
use Rattle.std.specs.Prelude.{slice_set}
use Rattle.std.specs.List.{AllByRecursion}
use Rattle.std.proofs.lemmas.Bool.{false≢true}
use Rattle.re_boxes.specs.Boxes.{IsCovered, IsUp}
use Rattle.re_labels.proofs.Rearranging.{length-AllZip}
use Rattle.re_labels.specs.Rows.{IsChoice, IsUnder, set_at}
use Rattle.re_labels.proofs.Membership.{AllByRecursion-contains, Contains-filter, Contains-filter_cases, Contains-none}
use Rattle.re_labels.proofs.Sets.{IsIn-has, IsIn-union_cases, has-IsIn}
use Rattle.re_labels.specs.Sets.{IsIn, IsWithin, has, union}
use Rattle.re_labels.proofs.SaidChoices.{weight}
use Rattle.re_labels.specs.Constraints.{Constraint}
use Rattle.re_labels.specs.GoodRows.{IsDominated}
use Rattle.re_labels.proofs.Numbers.{IsLabelSet-filter}
use Rattle.re_boxes.proofs.DrawnChoices.{filter-fewer}
use Rattle.re_boxes.proofs.SetsAtPlaces.{all_set, set_there, set_under, under_at, under_set}
use Rattle.re_boxes.specs.Choosing.{IsBadBehind}
use Rattle.re_boxes.specs.Sets.{AreSets}
use Rattle.re_boxes.specs.Parts.{IsLacking, IsPartCovered, left_out}
use Rattle.re_labels.proofs.Rows.{all_at}

-- the row has the choice, or lacks one of its labels
has_or_lacks : (c : List ℕ) (r : List (List ℕ)) → length c ≡ length r → IsChoice c r ⊎ IsLacking 0 c r
has_or_lacks [] [] e = inl tt
has_or_lacks [] (s ∷ r) e = absurd (omega (arith, e))
has_or_lacks (x ∷ c) [] e = absurd (omega (arith, e))
has_or_lacks (x ∷ c) (s ∷ r) e = elim (has s x) as (λ b. has s x ≡ b → IsChoice (x ∷ c) (s ∷ r) ⊎ IsLacking 0 (x ∷ c) (s ∷ r)) [
  | true ↦ λ t. elim (has_or_lacks c r (omega (arith, e))) [
    | inl k ↦ inl (has-IsIn s x t, k)
    | inr l ↦ inr (record { at = suc l.at; behind = omega arith; within = let w = l.within in omega (arith, w); lacked = l.lacked })
  ]
  | false ↦ λ t. inr (record { at = zero; behind = omega arith; within = omega arith; lacked = λ i. false≢true (sym t ∙ IsIn-has s x i) })
] refl

module _ (constraint : Constraint) (ups : ℕ → List ℕ) (rows : List (List (List ℕ))) where
  -- where the rows that lack a label of a choice that is no configuration are dominated, all are
  pub covered_by_parts : (f b : List (List ℕ)) (c : List ℕ) → IsBadBehind constraint [] b c → IsPartCovered constraint ups rows f b c 0 → IsCovered constraint ups rows f b
  covered_by_parts f b c bad covered r good up h u =
      let chosen : IsChoice c b = subst (λ l. IsChoice l b) (sym bad.behind) bad.chosen in
      let even : length c ≡ length r = length-AllZip IsIn c b chosen ∙ sym (length-AllZip IsWithin r b u) in
      elim (has_or_lacks c r even) [
        | inl k ↦ absurd (bad.lacked (good.choice c k))
        | inr l ↦ covered r good up h u l
      ]

  -- behind the last place no row lacks a label
  pub no_part : (f b : List (List ℕ)) (c : List ℕ) (place : ℕ) → length c ≤ place → IsPartCovered constraint ups rows f b c place
  no_part f b c place past r good up h u l = let w = l.within in let k = l.behind in absurd (omega (arith, w, k, past))

  -- a row that lacks the label lies in the sets without those that go up to it
  in_left_out : (r b : List (List ℕ)) (place x : ℕ) → place < length r → AllByRecursion (IsUp ups) r → IsUnder r b → (IsIn x (set_at r place) → ⊥) → IsUnder r (left_out ups x place b)
  in_left_out r b place x inside up u lacks =
      under_set r b place (filter (λ z. not (has (ups z) x)) (set_at b place)) u
      (λ z i. Contains-filter (λ z. not (has (ups z) x)) (set_at b place) z (under_at r b place u z i)
      (elim (has (ups z) x) as (λ t. has (ups z) x ≡ t → not t ≡ true) [
        | true ↦ λ e. absurd (lacks (all_at (IsUp ups) r place up inside z i x (has-IsIn (ups z) x e)))
        | false ↦ λ e. refl
      ] refl))

  -- one place, and then the others
  pub next_part : (f b more : List (List ℕ)) (c : List ℕ) (place : ℕ) → length c ≡ length b → more ≡ slice_set f place (union (set_at f place) (ups (get_or c place 0)))
      → IsCovered constraint ups rows f (left_out ups (get_or c place 0) place b) → IsPartCovered constraint ups rows more b c (place + 1)
      → IsPartCovered constraint ups rows f b c place
  next_part f b more c place even e here rest r good up h u lacking =
      let x = get_or c place 0 in
      let inside : place < length r = (let w = lacking.within in let k = lacking.behind in omega (arith, w, k, even, length-AllZip IsWithin r b u)) in
      elim (has (set_at r place) x) as (λ t. has (set_at r place) x ≡ t → IsDominated rows r) [
        | true ↦ λ t.
            let i = has-IsIn (set_at r place) x t in
            rest r good up
            (subst (λ m. IsUnder m r) (sym e) (set_under f r place (union (set_at f place) (ups x)) h
            (λ z k. elim (IsIn-union_cases (set_at f place) (ups x) z k) [ inl l ↦ under_at f r place h z l | inr l ↦ all_at (IsUp ups) r place up inside x i z l ])))
            u
            (record {
              at = lacking.at;
              behind = elim (at_or_past place lacking.at lacking.behind) [
                | inl same ↦ absurd (lacking.lacked (subst (λ p. IsIn (get_or c p 0) (set_at r p)) same i))
                | inr past ↦ past
              ];
              within = lacking.within;
              lacked = lacking.lacked;
            })
        | false ↦ λ t. here r good up h (in_left_out r b place x inside up u (λ i. false≢true (sym t ∙ IsIn-has (set_at r place) x i)))
      ] refl
    where
      at_or_past : (a b : ℕ) → a ≤ b → (a ≡ b) ⊎ (a + 1 ≤ b)
      at_or_past a b h = grind arith

  -- ---- parts without rows
  pub held_part : ((x : ℕ) → IsIn x (ups x)) → (f b : List (List ℕ)) (x place : ℕ) → place < length b → IsIn x (set_at f place) → IsCovered constraint ups rows f (left_out ups x place b)
  held_part itself f b x place inside i r good up h u =
      let there = under_at f r place h x i in
      let s = filter (λ z. not (has (ups z) x)) (set_at b place) in
      let kept : IsIn x s = subst (IsIn x) (set_there b place s inside) (under_at r (left_out ups x place b) place u x there) in
      let two = Contains-filter_cases (λ z. not (has (ups z) x)) (set_at b place) x kept in
      absurd (false≢true (sym (ap not (IsIn-has (ups x) x (itself x))) ∙ two.1))

  pub empty_part : (f b : List (List ℕ)) (x place : ℕ) → place < length b → length b ≡ constraint.degree → filter (λ z. not (has (ups z) x)) (set_at b place) ≡ [] → IsCovered constraint ups rows f (left_out ups x place b)
  empty_part f b x place inside even e r good up h u =
      let s = filter (λ z. not (has (ups z) x)) (set_at b place) in
      let none : (z : ℕ) → IsIn z (set_at r place) → ⊥ = (λ z i. Contains-none z (subst (IsIn z) (set_there b place s inside ∙ e) (under_at r (left_out ups x place b) place u z i))) in
      absurd (empty (set_at r place) (all_at (λ s. 0 < length s) r place good.filled (let g = good.count in omega (arith, inside, even, g))) none)
    where
      empty : (s : List ℕ) → 0 < length s → ((z : ℕ) → IsIn z s → ⊥) → ⊥
      empty [] some none = absurd (omega arith)
      empty (z ∷ s) some none = none z (zero, omega arith, refl)

-- the label of a choice at a place
pub chosen_below : (n : ℕ) (c : List ℕ) (b : List (List ℕ)) (place : ℕ) → AreSets n b → IsChoice c b → place < length b → IsIn (get_or c place 0) (set_at b place) × (get_or c place 0 < n)
chosen_below n [] [] place sets k inside = absurd (omega arith)
chosen_below n [] (s ∷ b) place sets k inside = absurd k
chosen_below n (x ∷ c) [] place sets k inside = absurd k
chosen_below n (x ∷ c) (s ∷ b) zero sets k inside = (k.0, AllByRecursion-contains (λ z. z < n) s x sets.0.0.1 k.0)
chosen_below n (x ∷ c) (s ∷ b) (suc place) sets k inside = chosen_below n c b place sets.1 k.1 (omega arith)

-- the sets with one smaller weigh less
pub lighter : (b : List (List ℕ)) (place : ℕ) (s : List ℕ) → place < length b → length s < length (set_at b place) → weight (slice_set b place s) < weight b
lighter [] place s inside h = absurd (omega arith)
lighter (t ∷ b) zero s inside h = omega (arith, h)
lighter (t ∷ b) (suc place) s inside h = let l = lighter b place s (omega arith) h in omega (arith, l)

pub left_out_lighter : (ups : ℕ → List ℕ) → ((x : ℕ) → IsIn x (ups x)) → (x place : ℕ) (b : List (List ℕ)) → place < length b → IsIn x (set_at b place) → weight (left_out ups x place b) < weight b
left_out_lighter ups itself x place b inside held =
    lighter b place (filter (λ z. not (has (ups z) x)) (set_at b place)) inside
    (filter-fewer (λ z. not (has (ups z) x)) (set_at b place) x held (ap not (IsIn-has (ups x) x (itself x))))

pub left_out_sets : (n : ℕ) (ups : ℕ → List ℕ) (x place : ℕ) (b : List (List ℕ)) (set : List ℕ) → set ≡ filter (λ z. not (has (ups z) x)) (set_at b place) → 0 < length set → place < length b
    → AreSets n b → AreSets n (left_out ups x place b)
left_out_sets n ups x place b set e some inside sets =
    all_set _ b place (filter (λ z. not (has (ups z) x)) (set_at b place)) sets
    (IsLabelSet-filter (λ z. not (has (ups z) x)) n (set_at b place) (all_at _ b place sets inside).0, subst (λ s. 0 < length s) e some)

pub empty_set : (s : List ℕ) → length s ≡ 0 → s ≡ []
empty_set [] e = refl
empty_set (x ∷ s) e = absurd (omega arith)
