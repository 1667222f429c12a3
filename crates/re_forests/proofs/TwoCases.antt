-- By the greatest trimmed set: with a label, the order of N rounds solve the problem; without, nothing does. And what solutions have inside.
use Rattle.std.proofs.Common.{◌≡◌, ℕ, suc, List, [], ◌∷◌, refl, subst, ◌⊎◌, inl, inr}
use Rattle.std.specs.Prelude.{Contains, map}
use Rattle.std.specs.List.{list_all}
use Rattle.re_labels.specs.Configs.{sorted}
use Rattle.re_forests.proofs.AllSeen.{all_seen}
use Rattle.re_forests.proofs.Trimming.{has_within, trimmed_part, trimmed_set_trimmed}
use Rattle.re_forests.proofs.Unsolvable.{around_active, around_passive, no_solution}
use Rattle.re_forests.specs.Flexible.{side}
use Rattle.re_forests.specs.OnForests.{label_towards}
use Rattle.re_forests.specs.TrimmedSets.{FullSurroundingsLaw, SolvedOrNotLaw, StillSolvedLaw, held, trimmed_set}
use Rattle.re_labels.proofs.Membership.{Contains-filter_cases, Contains-here, Contains-none}

nil_cases : (xs : List ℕ) → ((x : ℕ) × Contains xs x) ⊎ (xs ≡ [])
nil_cases [] = inr refl
nil_cases (x ∷ xs) = inl (x, Contains-here x xs)

pub solved_or_not : SolvedOrNotLaw
solved_or_not problem is = elim (nil_cases (trimmed_set problem)) [
  | inl some ↦ inl (all_seen problem (trimmed_set problem) some.0 is (trimmed_set_trimmed problem is) some.1)
  | inr none ↦ inr (no_solution problem is (λ set x trim on.
      Contains-none x (subst (λ xs. Contains xs x) none (trimmed_part problem is set trim (suc problem.labels) x on))))
]

pub full_surroundings : FullSurroundingsLaw
full_surroundings problem N G labels is forest solves v full = (
  λ kind. (let (has, all) = around_active problem is (λ k. (side problem k).degree) (λ k. refl) G forest labels solves (suc problem.labels) v kind full in
      has_within (trimmed_set problem) problem.active (labels v) has all),
  λ kind. (let (has, all) = around_passive problem is (λ k. (side problem k).degree) (λ k. refl) G forest labels solves (suc problem.labels) v kind full in
      has_within (trimmed_set problem) problem.passive _ has all),
)

pub still_solved : StillSolvedLaw
still_solved problem N T (algorithm, local, solves) = (
  algorithm,
  local,
  λ G forest. (let right = solves G forest in record {
    active = λ v kind full.
        (Contains-filter_cases (list_all (held (trimmed_set problem))) problem.active.configs (sorted (algorithm G v)) (right.active v kind full)).0;
    passive = λ w kind full.
        (Contains-filter_cases (list_all (held (trimmed_set problem))) problem.passive.configs
        (sorted (map (λ v. label_towards G (algorithm G) w v) (G.near w))) (right.passive w kind full)).0;
  }),
)
