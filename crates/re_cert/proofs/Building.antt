-- The steps of a bound.
use Rattle.std.proofs.Common.{◌≡◌, ℕ, zero, suc, ◌-◌, ◌<◌, ◌≤◌, Bool, true, false, eqb, ltb, List, [], ◌∷◌, length, get_or, refl, sym, ap, ◌∙◌, arith}
use Rattle.std.specs.List.{list_all}
use Rattle.std.proofs.lemmas.Bool.Decides.{nat_tests}
use Rattle.re_labels.proofs.Membership.{AllByRecursion-contains, In-Contains, Contains-In, all-In, all-In_from}
use Rattle.re_labels.proofs.Sets.{IsIn-has, has-IsIn}
use Rattle.re_labels.specs.Sets.{IsLabelSet, has}
use Rattle.re_problem.specs.NamedProblems.{NamedProblem}
use Rattle.re_problem.specs.ProblemTexts.{last_or}
use Rattle.re_cert.specs.Bounds.{BoundStep, next_problems}
use Rattle.re_labels.specs.declared.TheConstants.{MAX_LABELS}

pub last_at : (d : NamedProblem) (steps : List BoundStep) (x : BoundStep) (i : ℕ) → suc i ≡ length steps → x ≡ get_or steps i x → last_or d (next_problems steps) ≡ x.next
last_at d [] x i size is = absurd (omega arith)
last_at d (s ∷ []) x zero size is = ap (λ (t : BoundStep). t.next) (sym is)
last_at d (s ∷ []) x (suc i) size is = absurd (omega arith)
last_at d (s ∷ t ∷ steps) x zero size is = absurd (omega arith)
last_at d (s ∷ t ∷ steps) x (suc i) size is = last_at d (t ∷ steps) x i (omega arith) is

problem_of_step : (d : NamedProblem) (steps : List BoundStep) (x : BoundStep) (i : ℕ) → i < length steps → x ≡ get_or steps i x → get_or (next_problems steps) i d ≡ x.next
problem_of_step d [] x i low is = absurd (omega arith)
problem_of_step d (s ∷ steps) x zero low is = ap (λ (t : BoundStep). t.next) (sym is)
problem_of_step d (s ∷ steps) x (suc i) low is = problem_of_step d steps x i (omega arith) is

pub problem_there : (d : NamedProblem) (steps : List BoundStep) (x : BoundStep) (n : ℕ) → (n ≡ 0 → ⊥) → n ≤ length steps → x ≡ get_or steps (n - 1) x
    → get_or (d ∷ next_problems steps) n d ≡ x.next
problem_there d steps x zero some low is = absurd (some refl)
problem_there d steps x (suc n) some low is =
    problem_of_step d steps x n (omega arith) (is ∙ ap (λ i. get_or steps i x) (let i : suc n - 1 ≡ n = omega arith in i))

-- all labels of a set are below a number
pub all_below : (set : List ℕ) (n : ℕ) → IsLabelSet MAX_LABELS set → ((k : ℕ) → k < MAX_LABELS → has set k ≡ true → k < n) → true ≡ list_all (λ label. ltb label n) set
all_below set n is below = sym (all-In_from (λ label. ltb label n) set (λ x member.
    let low : x < MAX_LABELS = AllByRecursion-contains (λ y. y < MAX_LABELS) set x is.1 (In-Contains x set member) in
    let small : x < n = below x low (IsIn-has set x (In-Contains x set member)) in
    grind (arith, nat_tests)))

pub one_above : (set : List ℕ) (n x : ℕ) → has set x ≡ true → n ≤ x → false ≡ list_all (λ label. ltb label n) set
one_above set n x held high = go (list_all (λ label. ltb label n) set) refl
  where
    go : (t : Bool) → list_all (λ label. ltb label n) set ≡ t → false ≡ t
    go false all = refl
    go true all = let small : ltb x n ≡ true = all-In (λ label. ltb label n) set all x (Contains-In x set (has-IsIn set x held)) in absurd (let low : x < n = grind (arith, nat_tests) in omega arith)

pub last_of : (d : NamedProblem) (steps held : List BoundStep) (x : BoundStep) → held ≡ steps → false ≡ eqb (length held) 0 → x ≡ get_or held (length held - 1) x
    → last_or d (next_problems steps) ≡ x.next
last_of d steps held x same some is = ap (λ l. last_or d (next_problems l)) (sym same) ∙ go held some is
  where
    go : (held : List BoundStep) → false ≡ eqb (length held) 0 → x ≡ get_or held (length held - 1) x → last_or d (next_problems held) ≡ x.next
    go [] some is = absurd (cc)
    go (s ∷ held) some is = last_at d (s ∷ held) x (length (s ∷ held) - 1) (omega arith) is
