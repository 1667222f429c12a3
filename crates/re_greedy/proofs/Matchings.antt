-- Maximal matchings, which are greedy behind one upper step.
use Rattle.std.proofs.Common.{◌≡◌, ℕ, ◌≤◌, true, List, [], ◌∷◌, map, refl, arith}
use Rattle.std.specs.List.{list_all}
use Rattle.re_classes.specs.Classes.{IsBelowLogStar}
use Rattle.re_labels.specs.Rows.{set_at}
use Rattle.re_given.proofs.Colourings.{filtered_constraint}
use Rattle.re_greedy.proofs.GreedyChains.{greedy_chain}
use Rattle.re_greedy.proofs.GreedyTest.{greedy_test}
use Rattle.re_greedy.specs.Examples.{has_matched, is_edge, is_node, joins, matched, matched_partial, matchings}
use Rattle.re_greedy.specs.Greedy.{is_greedy}
use Rattle.re_labels.proofs.Membership.{Contains-In, all-In}
use Rattle.re_labels.proofs.LabelPlaces.{each_degree}
use Rattle.re_laws.specs.Chains as chain
use Rattle.re_problem.specs.Problems.{IsProblem}
use Rattle.re_problem.specs.Steps.{IsUpper}
use Rattle.re_labels.proofs.Goodness.{is_allowed-IsAllowed, is_good-IsGood}
use Rattle.re_labels.specs.GoodRows.{is_allowed, is_good}

module _ (a : ℕ) (low : 2 ≤ a) (high : a ≤ 6) where
  is_matchings : IsProblem (matchings a)
  is_matchings = record { active = filtered_constraint a 3 is_node low high; passive = filtered_constraint 2 3 is_edge (omega arith) (omega arith) }

  is_matched : IsProblem (matched a)
  is_matched = record { active = filtered_constraint 2 3 joins (omega arith) (omega arith); passive = filtered_constraint a 3 has_matched low high }

-- ---- the step: A stands for M, B for O, and C for O and P
abbrev sets : ℕ → List ℕ
sets x = set_at ((0 ∷ []) ∷ (1 ∷ []) ∷ (1 ∷ 2 ∷ []) ∷ []) x

good_test : (a : ℕ) → list_all (λ config. is_good (matchings a).passive (map sets config)) (matched a).active.configs ≡ true
good_test a = refl

choice_test : (a : ℕ) → 2 ≤ a → a ≤ 6 → list_all (λ config. is_allowed (matchings a).active (map sets config)) (matched a).passive.configs ≡ true
choice_test = each_degree (λ a. list_all (λ config. is_allowed (matchings a).active (map sets config)) (matched a).passive.configs ≡ true) refl refl refl refl refl

matched_upper : (a : ℕ) → 2 ≤ a → a ≤ 6 → IsUpper (matchings a) (matched a) sets
matched_upper a low high = record {
  active_degree = refl;
  passive_degree = refl;
  good = λ config held. is_good-IsGood (matchings a).passive (map sets config) (all-In (λ config. is_good (matchings a).passive (map sets config)) (matched a).active.configs (good_test a) config (Contains-In config (matched a).active.configs held));
  choice = λ config held. is_allowed-IsAllowed (matchings a).active (map sets config) (all-In (λ config. is_allowed (matchings a).active (map sets config)) (matched a).passive.configs (choice_test a low high) config (Contains-In config (matched a).passive.configs held));
}

-- ---- behind it
matched_test : (a : ℕ) → 2 ≤ a → a ≤ 6 → is_greedy (matched a) (matched_partial a) ≡ true
matched_test = each_degree (λ a. is_greedy (matched a) (matched_partial a) ≡ true) refl refl refl refl refl

pub matchings_below : (a : ℕ) → 2 ≤ a → a ≤ 6 → IsBelowLogStar (matchings a)
matchings_below a low high =
    let is : IsProblem (matched a) = is_matched a low high in
    (greedy_chain (matchings a) (matched a) 1 (matched_partial a) (is_matchings a low high) is (chain.IsUpperChain.step is (matched_upper a low high) chain.IsUpperChain.done)).0
    ((greedy_test (matched a) (matched_partial a) is).0 (matched_test a low high))
