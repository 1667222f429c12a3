-- Which pairs stand around the nodes of a product.
use Rattle.std.proofs.Common.{◌≡◌, ℕ, suc, ◌+◌, ◌*◌, ◌/◌, ◌%◌, ◌≤◌, ◌<◌, List, map, length, refl, sym, ◌∙◌, arith, one-add, subst}
use Rattle.std.specs.Prelude.{Contains}
use Rattle.std.specs.List.{AllByRecursion}
use Rattle.std.proofs.Math.Nat.{mul_comm}
use Rattle.std.proofs.lemmas.List.{length-map, map-id}
use Rattle.std.proofs.lemmas.List.Elements.{Contains-get_or}
use Rattle.std.proofs.lemmas.Nat.{div-add-mod', div-mul-add, mod-mul-add, mul-add-lt}
use Rattle.re_labels.proofs.LawsOfRows.{multisets_law}
use Rattle.re_labels.proofs.Rearranging.{Rearranged-map, Rearranged-sym}
use Rattle.re_labels.proofs.Sorting.{IsConfig-sorted, Rearranged-sorted}
use Rattle.re_labels.specs.Configs.{sorted}
use Rattle.re_labels.specs.Orders.{multisets}
use Rattle.re_given.proofs.AllInputViews.{Has-below}
use Rattle.re_given.proofs.Colourings.{filtered_constraint}
use Rattle.re_given.proofs.ZeroGiven.{config-Has}
use Rattle.re_laws.proofs.Mapping.{count_of}
use Rattle.re_given.specs.Inputs.{IsInput}
use Rattle.re_labels.proofs.Membership.{AllByRecursion-contains, AllByRecursion-from_contains, Contains-filter, Contains-filter_cases, Contains-map}
use Rattle.re_labels.proofs.Tests.{and-true, true-and}
use Rattle.re_labels.specs.Lists.{count_from}
use Rattle.re_laws.proofs.Ports.{map-at_port, map-count}
use Rattle.re_laws.specs.Algorithms.{at_port}
use Rattle.re_problem.proofs.StepLaws.{map-map}
use Rattle.re_problem.specs.Problems.{IsProblem, Problem}
use Rattle.re_problem.specs.Steps.{IsRelaxed}
use Rattle.re_given.specs.Products.{are_pairs, firsts, pairs_of, product, seconds}
use Rattle.re_labels.proofs.Goodness.{Has-Rearranged, Has-has_config, has_config-Has}
use Rattle.re_labels.specs.Constraints.{Constraint, Has, IsConstraint, has_config}

pair_below : (x n m : ℕ) → x / m < n → x % m < m → x < n * m
pair_below x n m l r =
    let below : x / m * m + x % m < m * n = mul-add-lt (x / m) m (x % m) n l r in
    omega (arith, below, div-add-mod' x m, mul_comm m n)

module _ (n m : ℕ) (own given : Constraint) where
  -- what passes, without its order
  pub parts : (pairs : List ℕ) → Has (pairs_of n m own given) pairs → Has own (firsts m pairs) × Has given (seconds m pairs)
  parts pairs has =
      let (listed, passes) = Contains-filter_cases (are_pairs m own given) (multisets own.degree 0 (n * m)) (sorted pairs) has in
      let (one, two) = and-true (has_config own (firsts m (sorted pairs))) (has_config given (seconds m (sorted pairs))) passes in (
        Has-Rearranged own (Rearranged-map (λ pair. pair / m) (Rearranged-sym (Rearranged-sorted pairs))) (has_config-Has own (firsts m (sorted pairs)) one),
        Has-Rearranged given (Rearranged-map (λ pair. pair % m) (Rearranged-sym (Rearranged-sorted pairs))) (has_config-Has given (seconds m (sorted pairs)) two),
      )

  pub from_parts : IsConstraint n own → IsConstraint m given → (pairs : List ℕ) → Has own (firsts m pairs) → Has given (seconds m pairs) → Has (pairs_of n m own given) pairs
  from_parts own_is given_is pairs has has' =
      Contains-filter (are_pairs m own given) (multisets own.degree 0 (n * m)) (sorted pairs)
      (((multisets_law own.degree (n * m)).1 (sorted pairs)).1 (IsConfig-sorted own.degree (n * m) pairs count below))
      (true-and (has_config own (firsts m (sorted pairs))) (has_config given (seconds m (sorted pairs)))
      (Has-has_config own (firsts m (sorted pairs)) (Has-Rearranged own (Rearranged-map (λ pair. pair / m) (Rearranged-sorted pairs)) has))
      (Has-has_config given (seconds m (sorted pairs)) (Has-Rearranged given (Rearranged-map (λ pair. pair % m) (Rearranged-sorted pairs)) has')))
    where
      count : length pairs ≡ own.degree
      count = sym (length-map pairs (λ pair. pair / m)) ∙ count_of n own (firsts m pairs) own_is has

      below : AllByRecursion (λ x. x < n * m) pairs
      below = AllByRecursion-from_contains (λ x. x < n * m) pairs (λ x held. pair_below x n m
          (Has-below n own (firsts m pairs) own_is has (x / m) (Contains-map (λ pair. pair / m) pairs x held))
          (Has-below m given (seconds m pairs) given_is has' (x % m) (Contains-map (λ pair. pair % m) pairs x held)))

-- ---- the product
pub IsProblem-product : (problem input : Problem) → IsProblem problem → IsProblem (product problem input)
IsProblem-product problem input is =
    let l : ℕ = problem.labels * input.labels in
    record {
      active = filtered_constraint problem.active.degree l (are_pairs input.labels problem.active input.active) is.active.least is.active.most;
      passive = filtered_constraint problem.passive.degree l (are_pairs input.labels problem.passive input.passive) is.passive.least is.passive.most;
    }

-- a configuration of a product has configurations as its parts
config_parts : (n m : ℕ) (own given : Constraint) (config : List ℕ) → 2 ≤ own.degree → own.degree ≤ 6 → Contains (pairs_of n m own given).configs config → Has own (firsts m config) × Has given (seconds m config)
config_parts n m own given config low high held =
    parts n m own given config (config-Has (n * m) (pairs_of n m own given) config (filtered_constraint own.degree (n * m) (are_pairs m own given) low high) held)

pub product_parts : (problem input : Problem) → IsInput problem input → IsRelaxed (product problem input) problem (λ pair. pair / input.labels) × IsRelaxed (product problem input) input (λ pair. pair % input.labels)
product_parts problem input is = (
  record { active_degree = refl; passive_degree = refl; active = λ config held. (on_active config held).0; passive = λ config held. (on_passive config held).0 },
  record { active_degree = is.active_degree; passive_degree = is.passive_degree; active = λ config held. (on_active config held).1; passive = λ config held. (on_passive config held).1 },
)
  where
    on_active : (config : List ℕ) → Contains (product problem input).active.configs config → Has problem.active (firsts input.labels config) × Has input.active (seconds input.labels config)
    on_active config held = config_parts problem.labels input.labels problem.active input.active config (subst (λ d. 2 ≤ d) is.active_degree is.is_problem.active.least) (subst (λ d. d ≤ 6) is.active_degree is.is_problem.active.most) held

    on_passive : (config : List ℕ) → Contains (product problem input).passive.configs config → Has problem.passive (firsts input.labels config) × Has input.passive (seconds input.labels config)
    on_passive config held = config_parts problem.labels input.labels problem.passive input.passive config (subst (λ d. 2 ≤ d) is.passive_degree is.is_problem.passive.least) (subst (λ d. d ≤ 6) is.passive_degree is.is_problem.passive.most) held

-- ---- pairs, port by port
abbrev pub paired : ℕ → ℕ → List ℕ → List ℕ → List ℕ
paired d m xs ys = map (λ port. at_port xs port * m + at_port ys port) (count_from 1 d)

module _ (d m : ℕ) (xs ys : List ℕ) (xs_count : length xs ≡ d) (ys_count : length ys ≡ d) (low : AllByRecursion (λ y. y < m) ys) where
  low_at : (k : ℕ) → k < d → at_port ys (suc k) < m
  low_at k l = AllByRecursion-contains (λ y. y < m) ys (at_port ys (suc k)) low (Contains-get_or ys k 0 (omega arith))

  pub firsts-paired : firsts m (paired d m xs ys) ≡ xs
  firsts-paired =
      map-map (λ pair. pair / m) (λ port. at_port xs port * m + at_port ys port) (count_from 1 d)
      ∙ (map-count (λ port. (at_port xs port * m + at_port ys port) / m) (λ port. at_port xs port) 1 d (λ k l. rw one-add (div-mul-add (at_port xs (suc k)) m (at_port ys (suc k)) (low_at k l)))
      ∙ (map-at_port (λ x. x) xs d xs_count ∙ map-id xs))

  pub seconds-paired : seconds m (paired d m xs ys) ≡ ys
  seconds-paired =
      map-map (λ pair. pair % m) (λ port. at_port xs port * m + at_port ys port) (count_from 1 d)
      ∙ (map-count (λ port. (at_port xs port * m + at_port ys port) % m) (λ port. at_port ys port) 1 d (λ k l. rw one-add (mod-mul-add (at_port xs (suc k)) m (at_port ys (suc k)) (low_at k l)))
      ∙ (map-at_port (λ x. x) ys d ys_count ∙ map-id ys))
