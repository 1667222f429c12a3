-- Walks of labels: one behind another, and walks that are found for each label of a set, of boundedly many nodes.
use Rattle.std.proofs.Common.{◌≡◌, ℕ, zero, suc, ◌+◌, ◌*◌, ◌≤◌, Bool, true, false, List, [], ◌∷◌, refl, sym, ◌∙◌, subst, arith, inl, inr, suc-add}
use Rattle.std.specs.Prelude.{Contains, not}
use Rattle.re_forests.specs.Flexible.{Leads}
use Rattle.re_labels.proofs.Membership.{Contains-cases, Contains-here, Contains-later, Contains-none}
use Rattle.re_labels.proofs.Tests.{not_not}
use Rattle.re_problem.specs.Problems.{Problem}

-- the kind of the node behind m nodes of which the first is of this kind
abbrev pub after : Bool → ℕ → Bool
after active zero = active
after active (suc m) = after (not active) m

double : (l : ℕ) → 2 * suc l ≡ suc (suc (2 * l))
double l = omega arith

pub after_even : (active : Bool) (l : ℕ) → after active (2 * l) ≡ active
after_even active zero = refl
after_even active (suc l) = subst (λ m. after active m ≡ active) (sym (double l)) (after_even (not (not active)) l ∙ not_not active)

pub after_odd : (active : Bool) (l : ℕ) → after active (suc (2 * l)) ≡ not active
after_odd active l = after_even (not active) l

pub joined : (problem : Problem) (set : List ℕ) (active : Bool) (m n x y z : ℕ)
    → Leads problem set active m x y → Leads problem set (after active m) n y z → Leads problem set active (m + n) x z
joined problem set active zero n x y z first second =
    subst (λ k. Leads problem set active k x z) (let e : n ≡ zero + n = omega arith in e) (subst (λ w. Leads problem set active n w z) (sym first) second)
joined problem set active (suc m) n x y z first second =
    subst (λ k. Leads problem set active k x z) (sym (suc-add m n)) (first.0, first.1, first.2, joined problem set (not active) m n first.0 y z first.3 second)

-- behind an even number of nodes comes one of the first kind
pub joined_even : (problem : Problem) (set : List ℕ) (active : Bool) (l n x y z : ℕ)
    → Leads problem set active (2 * l) x y → Leads problem set active n y z → Leads problem set active (2 * l + n) x z
joined_even problem set active l n x y z first second =
    joined problem set active (2 * l) n x y z first (subst (λ kind. Leads problem set kind n y z) (sym (after_even active l)) second)

-- behind an odd one, of the other kind
pub joined_odd : (problem : Problem) (set : List ℕ) (active : Bool) (l n x y z : ℕ)
    → Leads problem set active (suc (2 * l)) x y → Leads problem set (not active) n y z → Leads problem set active (suc (2 * l) + n) x z
joined_odd problem set active l n x y z first second =
    joined problem set active (suc (2 * l)) n x y z first (subst (λ kind. Leads problem set kind n y z) (sym (after_odd active l)) second)

pub lead_as_long : (problem : Problem) (set : List ℕ) (active : Bool) (m n x y : ℕ) → m ≡ n → Leads problem set active m x y → Leads problem set active n x y
lead_as_long problem set active m n x y e walk = subst (λ k. Leads problem set active k x y) e walk

-- numbers that are found for all members of a list have a bound
bounded : (P : ℕ → ℕ → Type 0) (set : List ℕ) → ((y : ℕ) → Contains set y → (n : ℕ) × P y n) → (B : ℕ) × ((y : ℕ) → Contains set y → (n : ℕ) × (n ≤ B) × P y n)
bounded P [] found = (zero, λ y held. absurd (Contains-none y held))
bounded P (x ∷ set) found =
    let (n, own) = found x (Contains-here x set) in
    let (B, rest) = bounded P set (λ y held. found y (Contains-later y x set held)) in (
      n + B,
      λ y held. elim (Contains-cases y x set held) [
        | inl e ↦ (n, omega arith, subst (λ z. P z n) (sym e) own)
        | inr there ↦ (let (m, low, holds) = rest y there in (m, omega (arith, low), holds))
      ],
    )

-- and so for both kinds
pub bounded_both : (P : Bool → ℕ → ℕ → Type 0) (set : List ℕ) → ((active : Bool) (y : ℕ) → Contains set y → (n : ℕ) × P active y n)
    → (B : ℕ) × ((active : Bool) (y : ℕ) → Contains set y → (n : ℕ) × (n ≤ B) × P active y n)
bounded_both P set found =
    let (A, of_active) = bounded (P true) set (found true) in
    let (B, of_passive) = bounded (P false) set (found false) in
    (A + B, λ active. by A B of_active of_passive active)
  where
    by : (A B : ℕ) → ((y : ℕ) → Contains set y → (n : ℕ) × (n ≤ A) × P true y n) → ((y : ℕ) → Contains set y → (n : ℕ) × (n ≤ B) × P false y n)
        → (active : Bool) (y : ℕ) → Contains set y → (n : ℕ) × (n ≤ A + B) × P active y n
    by A B of_active of_passive true y held = let (n, low, holds) = of_active y held in (n, omega (arith, low), holds)
    by A B of_active of_passive false y held = let (n, low, holds) = of_passive y held in (n, omega (arith, low), holds)
