-- What chains of steps say about rounds, given an input problem.
use Rattle.std.proofs.Common.{refl, sym, ◌∙◌, ap, subst, ◌↔◌, ◌≡◌, ℕ, zero, suc, ◌+◌, ◌-◌, ◌/◌, ◌%◌, ◌≤◌, ◌<◌, List, arith, add-suc, add-zero, zero-add}
use Rattle.re_given.proofs.FastGiven.{IsInput-derived, IsInput-exchanged, SolvableGiven-derived}
use Rattle.re_given.proofs.MappingGiven.{IsInput-same, SolvableGiven-mapped, SolvableGiven-relaxed}
use Rattle.re_given.proofs.MoreGiven.{SolvableGiven-more}
use Rattle.re_given.proofs.SlowGiven.{SolvableGiven-upper, SolvableGiven-zero}
use Rattle.re_given.proofs.ZeroGiven.{ZeroGiven-from}
use Rattle.re_given.specs.Given.{SolvableGiven, ZeroGiven, answer_known}
use Rattle.re_given.specs.Inputs.{IsInput, exchanged, exchanged_by}
use Rattle.re_laws.proofs.ChainRounds.{IsProblem-lower, derived_by-suc}
use Rattle.re_laws.specs.Chains.{IsLowerChain, IsUpperChain}
use Rattle.re_laws.specs.Chains as chain
use Rattle.re_problem.proofs.DerivedProblem.{IsProblem-derived, IsUpper-derived}
use Rattle.re_problem.specs.Derived.{derived, derived_by}
use Rattle.re_labels.specs.Rows.{set_at}
use Rattle.re_labels.specs.GoodRows.{max_sets}
use Rattle.re_problem.specs.Problems.{IsProblem, Problem}
use Rattle.re_problem.specs.Steps.{IsRelaxed, IsUpper}

-- ---- exchanging
-- exchanged once and then k times is exchanged k times and then once
pub exchanged_by-suc : (k : ℕ) (problem : Problem) → exchanged_by k (exchanged problem) ≡ exchanged_by (suc k) problem
exchanged_by-suc zero problem = refl
exchanged_by-suc (suc k) problem = ap exchanged (exchanged_by-suc k problem)

pub exchanged_by-add : (k m : ℕ) (problem : Problem) → exchanged_by (k + m) problem ≡ exchanged_by k (exchanged_by m problem)
exchanged_by-add zero m problem = rw zero-add refl
exchanged_by-add (suc k) m problem =
    let more : suc k + m ≡ suc (k + m) = omega arith in
    rw more (ap exchanged (exchanged_by-add k m problem))

-- an even number of times changes nothing
pub exchanged_by-twice : (k : ℕ) (problem : Problem) → exchanged_by (k + k) problem ≡ problem
exchanged_by-twice zero problem = refl
exchanged_by-twice (suc k) problem =
    let more : suc k + suc k ≡ suc (suc (k + k)) = omega arith in
    rw more (ap (λ p. exchanged (exchanged p)) (exchanged_by-twice k problem))

-- so a number of exchanges is none where it is even, and one where it is odd
pub even_itself : (k : ℕ) (problem : Problem) → k % 2 ≡ 0 → exchanged_by k problem ≡ problem
even_itself k problem even = let halves : k / 2 + k / 2 ≡ k = omega (arith, even) in subst (λ n. exchanged_by n problem ≡ problem) halves (exchanged_by-twice (k / 2) problem)

pub odd_exchanged : (k : ℕ) (problem : Problem) → (k % 2 ≡ 0 → ⊥) → exchanged_by k problem ≡ exchanged problem
odd_exchanged k problem odd =
    let halves : suc (k / 2 + k / 2) ≡ k = omega (arith, odd) in
    subst (λ n. exchanged_by n problem ≡ exchanged problem) halves (ap exchanged (exchanged_by-twice (k / 2) problem))

-- ---- rounds
pub SolvableGiven-add : (problem input : Problem) (T more : ℕ) → IsInput problem input → SolvableGiven problem input T → SolvableGiven problem input (T + more)
SolvableGiven-add problem input T zero is h = rw add-zero h
SolvableGiven-add problem input T (suc more) is h = rw add-suc (SolvableGiven-more problem input (T + more) is (SolvableGiven-add problem input T more is h))

pub SolvableGiven-up : (problem input : Problem) (T more : ℕ) → IsInput problem input → T ≤ more → SolvableGiven problem input T → SolvableGiven problem input more
SolvableGiven-up problem input T more is l h = let e : T + (more - T) ≡ more = omega arith in rw e at (SolvableGiven-add problem input T (more - T) is h)

pub SolvableGiven-from_derived : (problem input : Problem) (T : ℕ) → IsInput problem input → SolvableGiven (derived problem) (exchanged input) T → SolvableGiven problem input (suc T)
SolvableGiven-from_derived problem input T is = SolvableGiven-upper problem (derived problem) input (set_at (max_sets problem.passive problem.labels)) T is (IsUpper-derived problem)

pub SolvableGiven-speedup : (problem input : Problem) (T : ℕ) → IsProblem problem → IsInput problem input → SolvableGiven problem input (suc T) ↔ SolvableGiven (derived problem) (exchanged input) T
SolvableGiven-speedup problem input T is is_input = (SolvableGiven-derived problem input T is is_input, SolvableGiven-from_derived problem input T is_input)

pub SolvableGiven-none : (problem input : Problem) → IsProblem problem → IsInput problem input → SolvableGiven problem input 0 ↔ ZeroGiven problem input
SolvableGiven-none problem input is is_input = (λ h. ZeroGiven-from problem input (answer_known h.0) is is_input h.1.solves, SolvableGiven-zero problem input is_input)

pub SolvableGiven-rounds : (problem input : Problem) (k : ℕ) → IsProblem problem → IsInput problem input → SolvableGiven problem input k ↔ ZeroGiven (derived_by k problem) (exchanged_by k input)
SolvableGiven-rounds problem input zero is is_input = SolvableGiven-none problem input is is_input
SolvableGiven-rounds problem input (suc k) is is_input =
    let rest : SolvableGiven (derived problem) (exchanged input) k ↔ ZeroGiven (derived_by k (derived problem)) (exchanged_by k (exchanged input)) =
    SolvableGiven-rounds (derived problem) (exchanged input) k (IsProblem-derived problem is) (IsInput-derived problem input is_input) in
    let here : SolvableGiven (derived problem) (exchanged input) k ↔ ZeroGiven (derived_by (suc k) problem) (exchanged_by (suc k) input) =
    subst (λ p. SolvableGiven (derived problem) (exchanged input) k ↔ ZeroGiven p (exchanged_by (suc k) input)) (sym (derived_by-suc problem k))
    (subst (λ i. SolvableGiven (derived problem) (exchanged input) k ↔ ZeroGiven (derived_by k (derived problem)) i) (exchanged_by-suc k input) rest) in
    (λ h. here.0 (SolvableGiven-derived problem input k is is_input h), λ h. SolvableGiven-from_derived problem input k is_input (here.1 h))

-- ---- lower steps
pub IsInput-lower : {first last input : Problem} {k : ℕ} → IsLowerChain first k last → IsInput first input → IsInput last (exchanged_by k input)
IsInput-lower chain.IsLowerChain.done is = is
IsInput-lower {first} {last} {input} (chain.IsLowerChain.step {next = next} {k = k} is_next mapped rest) is =
    subst (IsInput last) (exchanged_by-suc k input) (IsInput-lower rest (IsInput-same (derived first) next (exchanged input) (IsInput-derived first input is) mapped.active_degree mapped.passive_degree))

-- what solves the first problem in k + T rounds solves the last one in T rounds
pub SolvableGiven-lower : {first last input : Problem} {k : ℕ} → IsLowerChain first k last → IsProblem first → IsInput first input → (T : ℕ) → SolvableGiven first input (k + T) → SolvableGiven last (exchanged_by k input) T
SolvableGiven-lower chain.IsLowerChain.done is is_input T h = rw zero-add at h
SolvableGiven-lower {first} {last} {input} (chain.IsLowerChain.step {next = next} {k = k} {image = image} is_next mapped rest) is is_input T h =
    let more : suc k + T ≡ suc (k + T) = omega arith in
    let once : SolvableGiven (derived first) (exchanged input) (k + T) = SolvableGiven-derived first input (k + T) is is_input (subst (SolvableGiven first input) more h) in
    let derived_input : IsInput (derived first) (exchanged input) = IsInput-derived first input is_input in
    let there : SolvableGiven next (exchanged input) (k + T) = SolvableGiven-mapped (derived first) next (exchanged input) image (k + T) (IsProblem-derived first is) is_next derived_input mapped once in
    subst (λ i. SolvableGiven last i T) (exchanged_by-suc k input) (SolvableGiven-lower rest is_next (IsInput-same (derived first) next (exchanged input) derived_input mapped.active_degree mapped.passive_degree) T there)

pub lower_bound_given : {first last input : Problem} {k : ℕ} → IsProblem first → IsInput first input → IsLowerChain first k last → (ZeroGiven last (exchanged_by k input) → ⊥) → (T : ℕ) → T ≤ k → SolvableGiven first input T → ⊥
lower_bound_given {first} {last} {input} {k} is is_input steps not_zero T l h =
    not_zero ((SolvableGiven-none last (exchanged_by k input) (IsProblem-lower steps is) (IsInput-lower steps is_input)).0
    (SolvableGiven-lower steps is is_input 0 (rw add-zero (SolvableGiven-up first input T k is_input l h))))

-- ---- upper steps
pub IsInput-upper : {problem next input : Problem} {sets : ℕ → List ℕ} → IsUpper problem next sets → IsInput problem input → IsInput next (exchanged input)
IsInput-upper {problem} {next} {input} upper is = IsInput-exchanged problem next input is upper.active_degree upper.passive_degree

pub SolvableGiven-upper_chain : {first last input : Problem} {k : ℕ} → IsUpperChain first k last → IsInput first input → (T : ℕ) → SolvableGiven last (exchanged_by k input) T → SolvableGiven first input (k + T)
SolvableGiven-upper_chain chain.IsUpperChain.done is T h = rw zero-add h
SolvableGiven-upper_chain {first} {last} {input} (chain.IsUpperChain.step {next = next} {k = k} {sets = sets} is_next upper rest) is T h =
    let more : suc (k + T) ≡ suc k + T = omega arith in
    let there : SolvableGiven next (exchanged input) (k + T) = SolvableGiven-upper_chain rest (IsInput-upper upper is) T (subst (λ i. SolvableGiven last i T) (sym (exchanged_by-suc k input)) h) in
    subst (SolvableGiven first input) more (SolvableGiven-upper first next input sets (k + T) is upper there)

pub IsInput-upper_chain : {first last input : Problem} {k : ℕ} → IsUpperChain first k last → IsInput first input → IsInput last (exchanged_by k input)
IsInput-upper_chain chain.IsUpperChain.done is = is
IsInput-upper_chain {first} {last} {input} (chain.IsUpperChain.step {next = next} {k = k} is_next upper rest) is =
    subst (IsInput last) (exchanged_by-suc k input) (IsInput-upper_chain rest (IsInput-upper upper is))

pub upper_bound_given : {first last input : Problem} {k : ℕ} → IsInput first input → IsUpperChain first k last → ZeroGiven last (exchanged_by k input) → SolvableGiven first input k
upper_bound_given {first} {last} {input} {k} is steps holds =
    subst (SolvableGiven first input) (add-zero k) (SolvableGiven-upper_chain steps is 0 (SolvableGiven-zero last (exchanged_by k input) (IsInput-upper_chain steps is) holds))

-- ---- fixed points
-- once round the loop
round_given : {middle last input : Problem} {k : ℕ} {image : ℕ → ℕ} → IsProblem middle → IsInput middle input → IsLowerChain middle k last → IsRelaxed last middle image → IsInput middle (exchanged_by k input) × ((T : ℕ) → SolvableGiven middle input (k + T) → SolvableGiven middle (exchanged_by k input) T)
round_given {middle} {last} {input} {k} {image} is is_input round relaxed =
    let there : IsInput last (exchanged_by k input) = IsInput-lower round is_input in (
      IsInput-same last middle (exchanged_by k input) there relaxed.active_degree relaxed.passive_degree,
      λ T h. SolvableGiven-relaxed last middle (exchanged_by k input) image T (IsProblem-lower round is) is there relaxed (SolvableGiven-lower round is is_input T h),
    )

-- round the loop an even number of times, down to no rounds: what solves the problem in the middle solves the last one in none
pub round_to_none : {middle last input : Problem} {k : ℕ} {image : ℕ → ℕ} → IsProblem middle → IsInput middle input → IsLowerChain middle k last → IsRelaxed last middle image → 0 < k
    → (bound T : ℕ) → T ≤ bound → SolvableGiven middle input T → SolvableGiven last (exchanged_by k input) 0
round_to_none {middle} {last} {input} {k} {image} is is_input round relaxed some zero T l h =
    SolvableGiven-lower round is is_input 0 (SolvableGiven-up middle input T (k + 0) is_input (omega arith) h)
round_to_none {middle} {last} {input} {k} {image} is is_input round relaxed some (suc bound) T l h =
    let once = round_given is is_input round relaxed in
    let twice = round_given is once.0 round relaxed in
    let same : exchanged_by k (exchanged_by k input) ≡ input = sym (exchanged_by-add k k input) ∙ exchanged_by-twice k input in
    let enough : SolvableGiven middle input (k + (k + (T - (k + k)))) = SolvableGiven-up middle input T (k + (k + (T - (k + k)))) is_input (omega arith) h in
    let again : SolvableGiven middle input (T - (k + k)) = subst (λ i. SolvableGiven middle i (T - (k + k))) same (twice.1 (T - (k + k)) (once.1 (k + (T - (k + k))) enough)) in
    round_to_none is is_input round relaxed some bound (T - (k + k)) (omega (arith, some)) again

pub fixed_point_given : {first middle last input : Problem} {back k : ℕ} {image : ℕ → ℕ} → IsProblem first → IsInput first input → IsLowerChain first back middle → IsLowerChain middle (suc k) last → IsRelaxed last middle image
    → (ZeroGiven last (exchanged_by (back + suc k) input) → ⊥) → (T : ℕ) → SolvableGiven first input T → ⊥
fixed_point_given {first} {middle} {last} {input} {back} {k} {image} is is_input to_middle round relaxed not_zero T h =
    let is_middle : IsProblem middle = IsProblem-lower to_middle is in
    let middle_input : IsInput middle (exchanged_by back input) = IsInput-lower to_middle is_input in
    let there : SolvableGiven middle (exchanged_by back input) T = SolvableGiven-lower to_middle is is_input T (SolvableGiven-up first input T (back + T) is_input (omega arith) h) in
    let none : SolvableGiven last (exchanged_by (suc k) (exchanged_by back input)) 0 = round_to_none is_middle middle_input round relaxed (omega arith) T T (omega arith) there in
    let turns : suc k + back ≡ back + suc k = omega arith in
    let same : exchanged_by (suc k) (exchanged_by back input) ≡ exchanged_by (back + suc k) input = sym (exchanged_by-add (suc k) back input) ∙ ap (λ n. exchanged_by n input) turns in
    not_zero (subst (ZeroGiven last) same ((SolvableGiven-none last (exchanged_by (suc k) (exchanged_by back input)) (IsProblem-lower round is_middle) (IsInput-lower round middle_input)).0 none))
