-- The way back from the end of a path, as the program finds it.
use Rattle.std.proofs.Common.{◌≡◌, ℕ, ◌+◌, ◌<◌, ◌≤◌, Bool, true, false, cond, eqb, leb, ◌&&◌, List, [], ◌∷◌, ◌++◌, length, map, Option, None, Some, refl, sym, ap, ◌∙◌, arith}
use Rattle.std.specs.Prelude.{find, if◌then◌else◌, option_map}
use Rattle.std.proofs.lemmas.Bool.Decides.{nat_tests}
use Rattle.std.proofs.lemmas.List.{map-id}
use Rattle.re_check.specs.Verdicts.{is_yes}
use Rattle.re_labels.specs.Orders.{orders}
use Rattle.re_labels.proofs.Membership.{length-count_from}
use Rattle.re_labels.proofs.Tests.{and-true, eqb-same, true-and}
use Rattle.re_labels.specs.Lists.{count_from}
use Rattle.re_problem.specs.Verdicts.{renaming_verdict}
use Rattle.re_problem.specs.NamedProblems.{NamedProblem, unnamed}
use Rattle.re_problem.specs.ProblemTexts.{last_or}
use Rattle.re_cert.specs.Bounds.{BoundStep, is_bound, next_problems}
use Rattle.re_cert.specs.declared.certificate.Kind.{Kind}
use Rattle.re_search.specs.Nodes.{Node, behind, renaming_to, way_back, way_to}
use Rattle.re_search.specs.Paths.{bound_with}
use Rattle.re_search.proofs.Firsts.{none-there, some-there}
use Rattle.re_search.proofs.Losses.{apart-becomes}
use Rattle.re_search.specs.Losses.{may_become}
use Rattle.re_search.specs.Walking.{node_at}
use Rattle.re_cert.specs.declared.certificate.TheConstants.{MAX_STEPS}

-- the search through all orders of the labels
pub renaming-is : (problem target : NamedProblem) (rest : List ℕ) → rest ≡ count_from 0 (length problem.names) → length problem.names ≡ length target.names → length problem.names ≤ 8
    → find (λ images. is_yes (renaming_verdict (unnamed problem) (unnamed target) images)) (map (λ order. [] ++ order) (orders (length rest) rest)) ≡ renaming_to problem target
renaming-is problem target rest e same few =
    let size : length rest ≡ length problem.names = ap length e ∙ length-count_from 0 (length problem.names) in
    let tests : (eqb (length problem.names) (length target.names) && leb (length problem.names) 8) ≡ true =
    true-and (eqb (length problem.names) (length target.names)) (leb (length problem.names) 8) (ap (λ n. eqb (length problem.names) n) (sym same) ∙ eqb-same (length problem.names)) (grind (arith, nat_tests)) in
    ap (find (λ images. is_yes (renaming_verdict (unnamed problem) (unnamed target) images))) (map-id (orders (length rest) rest) ∙ (λ i. orders (size i) (e i)))
    ∙ sym (ap (λ b. if b then find (λ images. is_yes (renaming_verdict (unnamed problem) (unnamed target) images)) (orders (length problem.names) (count_from 0 (length problem.names))) else None) tests)

-- where degrees or counts show that the problem isn't the other one
pub not-renaming : (problem target : NamedProblem) → may_become (unnamed problem) (unnamed target) ≡ false → renaming_to problem target ≡ None
not-renaming problem target apart = go (eqb (length problem.names) (length target.names) && leb (length problem.names) 8)
  where
    none : (lists : List (List ℕ)) → find (λ images. is_yes (renaming_verdict (unnamed problem) (unnamed target) images)) lists ≡ None
    none [] = refl
    none (images ∷ lists) = ap (λ b. cond b (Some images) (find (λ images. is_yes (renaming_verdict (unnamed problem) (unnamed target) images)) lists)) (apart-becomes (unnamed problem) (unnamed target) apart images) ∙ none lists

    go : (b : Bool) → (if b then find (λ images. is_yes (renaming_verdict (unnamed problem) (unnamed target) images)) (orders (length problem.names) (count_from 0 (length problem.names))) else None) ≡ None
    go true = none (orders (length problem.names) (count_from 0 (length problem.names)))
    go false = refl

module _ (first : NamedProblem) (steps : List BoundStep) (left : ℕ) where
  pub way-some : (k : ℕ) (problem target : NamedProblem) (images : List ℕ) → problem ≡ last_or first (next_problems steps) → target ≡ behind first steps k → renaming_to problem target ≡ Some images
      → way_to first (node_at first steps left) k ≡ option_map (λ images. (k, images)) (Some images)
  way-some k problem target images p t e = ap (option_map (λ images. (k, images))) ((λ i. renaming_to (sym p i) (sym t i)) ∙ e)

  pub way-none : (k : ℕ) (problem target : NamedProblem) → problem ≡ last_or first (next_problems steps) → target ≡ behind first steps k → renaming_to problem target ≡ None → way_to first (node_at first steps left) k ≡ None
  way-none k problem target p t e = ap (option_map (λ images. (k, images))) ((λ i. renaming_to (sym p i) (sym t i)) ∙ e)

  pub first-way : (k : ℕ) (way : ℕ × List ℕ) → k < length steps → way_to first (node_at first steps left) k ≡ Some way → ((j : ℕ) → j < k → way_to first (node_at first steps left) j ≡ None)
      → way_back first (node_at first steps left) ≡ Some way
  first-way k way l at before =
      let z : 0 + k ≡ k = omega arith in
      some-there (way_to first (node_at first steps left)) 0 (length steps) k way l (ap (way_to first (node_at first steps left)) z ∙ at)
      (λ j m. let y : 0 + j ≡ j = omega arith in ap (way_to first (node_at first steps left)) y ∙ before j m)

  pub no-way : ((j : ℕ) → j < length steps → way_to first (node_at first steps left) j ≡ None) → way_back first (node_at first steps left) ≡ None
  no-way none = none-there (way_to first (node_at first steps left)) 0 (length steps) (λ j m. let y : 0 + j ≡ j = omega arith in ap (way_to first (node_at first steps left)) y ∙ none j m)

-- a bound has few steps
pub bound-short : (kind : Kind) (first : NamedProblem) (node : Node) (o : Option (ℕ × List ℕ)) → is_bound (bound_with kind first node o) ≡ true → length node.steps ≤ MAX_STEPS
bound-short kind first node None h = let two = (and-true (leb (length node.steps) MAX_STEPS) _ (and-true (leb (length node.steps) MAX_STEPS && _) _ (and-true (leb (length node.steps) MAX_STEPS && _ && _) _ h).0).0).0 in grind (arith, nat_tests)
bound-short kind first node (Some way) h = let two = (and-true (leb (length node.steps) MAX_STEPS) _ (and-true (leb (length node.steps) MAX_STEPS && _) _ (and-true (leb (length node.steps) MAX_STEPS && _ && _) _ h).0).0).0 in grind (arith, nat_tests)
