-- A list of maximal rows takes one more.
use Rattle.std.proofs.Common.{◌≡◌, ℕ, suc, ◌+◌, ◌<◌, ◌≤◌, List, [], ◌∷◌, ◌++◌, length, refl, sym, ap, ◌∙◌, subst, ◌⊎◌, inl, inr, arith}
use Rattle.std.specs.Prelude.{Contains}
use Rattle.re_labels.specs.Rows.{Dominates}
use Rattle.re_labels.proofs.Membership.{Contains-In, Contains-cases, Contains-here, Contains-later, Contains-none, In-Contains, In-append_cases, In-append_right}
use Rattle.re_labels.specs.Constraints.{Constraint}
use Rattle.re_labels.specs.GoodRows.{IsDominated, max_rows}
use Rattle.re_boxes.specs.Growing.{IsLonger}
use Rattle.re_step.specs.Kept.{AreDifferent, IsKept}

abbrev Rows : Type 0
Rows = List (List (List ℕ))

-- ---- a list of different rows is no longer than a list that has them all
taken_out : (ys : Rows) (x : List (List ℕ)) → Contains ys x
    → (rest : Rows) × (length ys ≡ suc (length rest)) × ((z : List (List ℕ)) → Contains ys z → (z ≡ x) ⊎ Contains rest z)
taken_out [] x h = absurd (Contains-none x h)
taken_out (y ∷ ys) x h = elim (Contains-cases x y ys h) [
  | inl e ↦ (ys, refl, λ z k. elim (Contains-cases z y ys k) [ inl f ↦ inl (f ∙ sym e) | inr i ↦ inr i ])
  | inr i ↦
      let r = taken_out ys x i in (
        y ∷ r.0,
        ap suc r.1,
        λ z k. elim (Contains-cases z y ys k) [
          | inl f ↦ inr (subst (λ v. Contains (v ∷ r.0) z) f (Contains-here z r.0))
          | inr j ↦ elim (r.2 z j) [ inl g ↦ inl g | inr l ↦ inr (Contains-later z y r.0 l) ]
        ],
      )
]

pub no_longer : (xs ys : Rows) → AreDifferent xs → ((x : List (List ℕ)) → Contains xs x → Contains ys x) → length xs ≤ length ys
no_longer [] ys h k = omega arith
no_longer (x ∷ xs) ys h k =
    let r = taken_out ys x (k x (Contains-here x xs)) in
    let rest = no_longer xs r.0 h.1 (λ z i. elim (r.2 z (k z (Contains-later z x xs i))) [ inl e ↦ absurd (h.0 (subst (Contains xs) e i)) | inr j ↦ j ]) in
    omega (arith, rest, r.1)

-- ---- one more row
pub contains_last : (rows : Rows) (row : List (List ℕ)) → Contains (rows ++ row ∷ []) row
contains_last rows row = In-Contains row (rows ++ row ∷ []) (In-append_right row rows (row ∷ []) (Contains-In row (row ∷ []) (Contains-here row [])))

pub contains_either : (rows : Rows) (row z : List (List ℕ)) → Contains (rows ++ row ∷ []) z → Contains rows z ⊎ (z ≡ row)
contains_either rows row z h = elim (In-append_cases z rows (row ∷ []) (Contains-In z (rows ++ row ∷ []) h)) [
  | inl i ↦ inl (In-Contains z rows i)
  | inr j ↦ elim (Contains-cases z row [] (In-Contains z (row ∷ []) j)) [ inl e ↦ inr e | inr k ↦ absurd (Contains-none z k) ]
]

different_push : (rows : Rows) (row : List (List ℕ)) → AreDifferent rows → (Contains rows row → ⊥) → AreDifferent (rows ++ row ∷ [])
different_push [] row h k = ((λ c. Contains-none row c), tt)
different_push (r ∷ rows) row h k = (
  (λ c. elim (contains_either rows row r c) [ inl i ↦ h.0 i | inr e ↦ k (subst (λ v. Contains (v ∷ rows) row) (sym e) (Contains-here row rows)) ]),
  different_push rows row h.1 (λ c. k (Contains-later row r rows c)),
)

module _ (constraint : Constraint) (n most : ℕ) (rows all : Rows) (row sets : List (List ℕ)) (kept : IsKept constraint n most rows)
    (maximal : Contains (max_rows constraint n) row) (dominates : Dominates row sets) (alone : Contains rows row → ⊥) (pushed : all ≡ rows ++ row ∷ []) where
  all_maximal : (z : List (List ℕ)) → Contains (rows ++ row ∷ []) z → Contains (max_rows constraint n) z
  all_maximal z h = elim (contains_either rows row z h) [ inl i ↦ kept.maximal z i | inr e ↦ subst (Contains (max_rows constraint n)) (sym e) maximal ]

  all_different : AreDifferent (rows ++ row ∷ [])
  all_different = different_push rows row kept.different alone

  pub push_kept : length all ≤ most → IsKept constraint n most all
  push_kept few = record {
    maximal = subst (λ l. (z : List (List ℕ)) → Contains l z → Contains (max_rows constraint n) z) (sym pushed) all_maximal;
    different = subst AreDifferent (sym pushed) all_different;
    few = few;
  }

  pub push_longer : IsLonger rows all
  push_longer = (row ∷ [], pushed)

  pub push_dominated : IsDominated all sets
  push_dominated = subst (λ l. IsDominated l sets) (sym pushed) (row, contains_last rows row, dominates)

  pub push_many : most < length all → most < length (max_rows constraint n)
  push_many more = let l = no_longer (rows ++ row ∷ []) (max_rows constraint n) all_different all_maximal in omega (arith, l, ap length pushed)

-- what holds before a place and at it
pub up_to : (place : ℕ) (P : ℕ → Type 0) → ((k : ℕ) → k < place → P k) → P place → (k : ℕ) → k < place + 1 → P k
up_to place P before here k h = elim (before_or_at k place h) [ inl l ↦ before k l | inr e ↦ subst P (sym e) here ]
  where
    before_or_at : (a b : ℕ) → a < b + 1 → (a < b) ⊎ (a ≡ b)
    before_or_at a b h = grind arith
