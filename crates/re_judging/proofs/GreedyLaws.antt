-- What multisets behind upper steps mean.
use Rattle.std.proofs.Common.{◌≡◌, ℕ, true, not, ◌||◌, List, [], ◌∷◌, length, ◌++◌, refl, subst, None}
use Rattle.std.specs.List.{AllByRecursion}
use Rattle.re_cert.specs.Bounds.{Bound, BoundStep, is_bound, is_lower, last_problem, next_problems, steps_fit}
use Rattle.re_cert.specs.declared.certificate.Kind.{Kind}
use Rattle.re_cert.specs.declared.certificate.Kind.TheVariants.{Fixed, Lower, Upper}
use Rattle.re_chains.proofs.WordsGiven.{none_fails}
use Rattle.re_chains.specs.Chains.{IsOverProblems}
use Rattle.re_chains.specs.OverChains.{steps_refusal}
use Rattle.re_check.proofs.Meaning.{named-last, upper_chain}
use Rattle.re_check.specs.Verdicts.{steps_fault}
use Rattle.re_classes.specs.Laws.{IsSolvableColoured}
use Rattle.re_greedy.proofs.GreedyChains.{greedy_coloured}
use Rattle.re_greedy.specs.Findings.{IsListVerdict}
use Rattle.re_greedy.specs.Greedy.{IsGreedy}
use Rattle.re_greedy.specs.declared.judging.ListVerdict.{ListVerdict}
use Rattle.re_greedy.specs.declared.judging.ListVerdict.TheVariants.{Greedy}
use Rattle.re_judging.specs.GreedyParts.{IsGreedyFrom, is_upper_chain, seen_from, whole_list}
use Rattle.re_judging.specs.Turns.{Turns}
use Rattle.re_labels.specs.declared.sides.Side.{Side}
use Rattle.re_labels.specs.declared.sides.Side.TheVariants.{Active, Passive}
use Rattle.re_laws.specs.Chains.{IsUpperChain, done}
use Rattle.re_problem.specs.ItemSteps.{is_nil}
use Rattle.re_texts.proofs.FittingParts.{bound_fits}
use Rattle.re_problem.specs.NamedProblems.{IsNamedProblem, NamedProblem, unnamed}
use Rattle.re_problem.specs.ProblemTexts.{last_or}
use Rattle.re_problem.specs.Problems.{IsProblem, Problem}

-- the steps are upper steps
steps_to_last : (kind : Kind) (first : NamedProblem) (steps : List BoundStep) → (not (is_lower kind) || is_nil steps) ≡ true → steps_fit kind first steps ≡ true
    → AllByRecursion IsNamedProblem (next_problems steps) → steps_fault first 1 steps ≡ None → IsUpperChain (unnamed first) (length steps) (unnamed (last_or first (next_problems steps)))
steps_to_last kind first [] upper fit named sound = done
steps_to_last Upper first (s ∷ steps) upper fit named sound = upper_chain Upper first 1 (s ∷ steps) refl fit named sound
steps_to_last Lower first (s ∷ steps) upper fit named sound = absurd cc
steps_to_last Fixed first (s ∷ steps) upper fit named sound = absurd cc

-- so its first problem is solvable given few colours
by_side : (side : Side) (multisets : List (List ℕ)) (first last : NamedProblem) (k : ℕ) → IsProblem (unnamed first) → IsProblem (unnamed last) → IsUpperChain (unnamed first) k (unnamed last)
    → IsGreedyFrom (record { side = side; multisets = multisets }) last → IsSolvableColoured (unnamed first)
by_side Active multisets first last k is is_last steps greedy =
    ((greedy_coloured (unnamed first) (unnamed last) k (whole_list (record { side = Active; multisets = multisets }) last) is is_last steps).0 greedy).0
by_side Passive multisets first last k is is_last steps greedy =
    ((greedy_coloured (unnamed first) (unnamed last) k (whole_list (record { side = Passive; multisets = multisets }) last) is is_last steps).1 greedy).0

pub greedy_means : (turns : Turns) (chain : Bound) → is_bound chain ≡ true → IsOverProblems chain → steps_refusal chain ≡ None → is_upper_chain chain ≡ true → IsGreedyFrom turns (last_problem chain)
    → IsSolvableColoured (unnamed chain.first)
greedy_means turns chain is over sound upper greedy =
    by_side turns.side turns.multisets chain.first (last_problem chain) (length chain.steps) over.first.problem (named-last chain.first (next_problems chain.steps) over.first over.next).problem
    (steps_to_last chain.kind chain.first chain.steps upper (bound_fits chain is).steps over.next (none_fails (steps_fault chain.first 1 chain.steps) sound)) greedy

-- ---- verdicts
-- what is judged is the problem that is seen, with the whole list
pub listed : (turns : Turns) (last seen : NamedProblem) (members : List (List ℕ)) (verdict : ListVerdict) → seen ≡ seen_from turns.side last → members ≡ [] ∷ (turns.multisets ++ seen.passive.configs)
    → IsListVerdict (unnamed seen) members 1000000 verdict → IsListVerdict (unnamed (seen_from turns.side last)) (whole_list turns last) 1000000 verdict
listed turns last seen members verdict same list is =
    let P : NamedProblem → Type 0 = λ p. IsListVerdict (unnamed p) ([] ∷ (turns.multisets ++ p.passive.configs)) 1000000 verdict in
    subst P same (subst (λ members. IsListVerdict (unnamed seen) members 1000000 verdict) list is)

pub greedy_is : (problem : Problem) (partial : List (List ℕ)) (verdict : ListVerdict) → verdict ≡ Greedy → IsListVerdict problem partial 1000000 verdict → IsGreedy problem partial
greedy_is problem partial verdict same is = subst (IsListVerdict problem partial 1000000) same is
