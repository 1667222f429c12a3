-- What solves a problem given an input problem solves their product, since a node knows its own input labels.
use Rattle.std.proofs.Common.{◌≡◌, ℕ, zero, suc, ◌+◌, ◌*◌, ◌/◌, ◌≤◌, ◌<◌, Some, List, length, refl, sym, ◌∙◌, ap, subst, arith, one-add, get_or}
use Rattle.std.specs.List.{AllByRecursion}
use Rattle.std.proofs.lemmas.List.{get_or-map}
use Rattle.re_given.proofs.AllInputViews.{Has-below}
use Rattle.re_given.proofs.GivenTables.{SolvableGiven-by}
use Rattle.re_given.proofs.KnownViews.{payloads-known}
use Rattle.re_given.proofs.MappingGiven.{IsInput-same, SolvableGiven-mapped, SolvableGiven-relaxed}
use Rattle.re_given.proofs.SlowGiven.{Has-root, payload-shift, payloads-child}
use Rattle.re_laws.proofs.Mapping.{count_of}
use Rattle.re_given.specs.Given.{SolvableGiven, SolvesGivenBy, answer_known, around_known}
use Rattle.re_given.specs.InputViews.{Fits, InputView, known, payloads}
use Rattle.re_given.specs.Inputs.{IsInput}
use Rattle.re_labels.proofs.Membership.{AllByRecursion-from_contains, get_or-count_from, length-count_from}
use Rattle.re_labels.specs.Lists.{count_from}
use Rattle.re_laws.proofs.Ports.{map-count}
use Rattle.re_laws.specs.Algorithms.{at_port}
use Rattle.re_problem.specs.Problems.{IsProblem, Problem}
use Rattle.re_problem.specs.Steps.{IsMapped, IsRelaxed}
use Rattle.re_given.proofs.Pairs.{IsProblem-product, firsts-paired, from_parts, paired, product_parts, seconds-paired}
use Rattle.re_given.specs.Products.{pairs_of, product}
use Rattle.re_labels.specs.Constraints.{Constraint, Has, IsConstraint}
use Rattle.re_laws.proofs.JoinedBranches.{backs-child}
use Rattle.re_laws.proofs.ViewLaws.{IsChild, child_of}
use Rattle.re_laws.specs.Trees.{Child, IsView, backs, child_at, shift}

-- the label at a port of a list of pairs
at-paired : (d m : ℕ) (xs ys : List ℕ) (k : ℕ) → k < d → at_port (paired d m xs ys) (suc k) ≡ at_port xs (suc k) * m + at_port ys (suc k)
at-paired d m xs ys k l =
    let port_is : get_or (count_from 1 d) k 0 ≡ suc k = get_or-count_from 1 d k 0 l ∙ one-add k in
    get_or-map (λ port. at_port xs port * m + at_port ys port) (count_from 1 d) k 0 0 (omega (arith, length-count_from 1 d)) ∙ ap (λ port. at_port xs port * m + at_port ys port) port_is

pub at-paired' : (d m : ℕ) (xs ys : List ℕ) (port : ℕ) → 1 ≤ port → port ≤ d → at_port (paired d m xs ys) port ≡ at_port xs port * m + at_port ys port
at-paired' d m xs ys zero low high = absurd (omega arith)
at-paired' d m xs ys (suc k) low high = at-paired d m xs ys k (omega arith)

-- pairs of a configuration of one constraint and one of the other
pub Has-paired : (n m d : ℕ) (own given : Constraint) (xs ys : List ℕ) → IsConstraint n own → IsConstraint m given → own.degree ≡ d → given.degree ≡ d → Has own xs → Has given ys → Has (pairs_of n m own given) (paired d m xs ys)
Has-paired n m d own given xs ys own_is given_is own_degree given_degree has has' =
    let xs_count : length xs ≡ d = count_of n own xs own_is has ∙ own_degree in
    let ys_count : length ys ≡ d = count_of m given ys given_is has' ∙ given_degree in
    let low : AllByRecursion (λ y. y < m) ys = AllByRecursion-from_contains (λ y. y < m) ys (λ y held. Has-below m given ys given_is has' y held) in
    from_parts n m own given own_is given_is (paired d m xs ys)
    (subst (Has own) (sym (firsts-paired d m xs ys xs_count ys_count low)) has)
    (subst (Has given) (sym (seconds-paired d m xs ys xs_count ys_count low)) has')

module _ (problem input : Problem) (is : IsProblem problem) (is_input : IsInput problem input) (T : ℕ) (f : InputView → List ℕ) (solves : SolvesGivenBy problem input T f) where
  -- each label with the input label of the edge
  abbrev pub with_input : InputView → List ℕ
  with_input k = paired problem.active.degree input.labels (f k) (payloads k)

  around_is : (v : InputView) → IsView problem.passive.degree problem.active.degree (suc (suc T)) v → Fits input.passive input.active v
      → around_known problem.passive.degree T with_input v ≡ paired problem.passive.degree input.labels (around_known problem.passive.degree T f v) (payloads v)
  around_is v view fits =
      map-count (λ port. at_port (with_input (known T (shift (suc T) v port))) (at_port (backs v) port)) (λ port. at_port (around_known problem.passive.degree T f v) port * input.labels + at_port (payloads v) port) 1 problem.passive.degree
      (λ k l. rw one-add (each k l (child_of problem.passive.degree problem.active.degree (suc T) problem.passive.degree v view k l)))
    where
      each : (k : ℕ) → k < problem.passive.degree → (c : Child ℕ) × (child_at k v ≡ Some c) × IsChild problem.active.degree problem.passive.degree (suc T) c
          → at_port (with_input (known T (shift (suc T) v (suc k)))) (at_port (backs v) (suc k)) ≡ at_port (around_known problem.passive.degree T f v) (suc k) * input.labels + at_port (payloads v) (suc k)
      each k l (c, at, child) =
          let u : InputView = shift (suc T) v (suc k) in
          let back_is : at_port (backs v) (suc k) ≡ c.back = backs-child k c v at in
          let label_is : at_port (payloads (known T u)) c.back ≡ at_port (payloads v) (suc k) =
          ap (λ (labels : List ℕ). at_port labels c.back) (payloads-known T u) ∙ (payload-shift problem.passive.degree problem.active.degree T v (suc k) c at child ∙ sym (payloads-child k c v at)) in
          let port_is : get_or (count_from 1 problem.passive.degree) k 0 ≡ suc k = get_or-count_from 1 problem.passive.degree k 0 l ∙ one-add k in
          let near_is : at_port (around_known problem.passive.degree T f v) (suc k) ≡ at_port (f (known T u)) (at_port (backs v) (suc k)) =
          get_or-map (λ port. at_port (f (known T (shift (suc T) v port))) (at_port (backs v) port)) (count_from 1 problem.passive.degree) k 0 0 (omega (arith, length-count_from 1 problem.passive.degree))
          ∙ ap (λ port. at_port (f (known T (shift (suc T) v port))) (at_port (backs v) port)) port_is in
          let pair_is : at_port (with_input (known T u)) c.back ≡ at_port (f (known T u)) c.back * input.labels + at_port (payloads (known T u)) c.back =
          at-paired' problem.active.degree input.labels (f (known T u)) (payloads (known T u)) c.back child.least child.most in
          rw (near_is, back_is, pair_is, label_is) refl

  pub SolvesGivenBy-product : SolvesGivenBy (product problem input) input T with_input
  SolvesGivenBy-product = record {
    active = λ v view fits.
        rw (payloads-known T v) (Has-paired problem.labels input.labels problem.active.degree problem.active input.active (f (known T v)) (payloads v) is.active is_input.is_problem.active refl is_input.active_degree (solves.active v view fits)
        (Has-root input.active input.passive problem.active.degree problem.passive.degree T v view fits));
    passive = λ v view fits.
        rw (around_is v view fits) (Has-paired problem.labels input.labels problem.passive.degree problem.passive input.passive (around_known problem.passive.degree T f v) (payloads v) is.passive is_input.is_problem.passive refl is_input.passive_degree (solves.passive v view fits)
        (Has-root input.passive input.active problem.passive.degree problem.active.degree (suc T) v view fits));
  }

-- the input problem is one of the product
pub IsInput-product : (problem input : Problem) → IsInput problem input → IsInput (product problem input) input
IsInput-product problem input is = IsInput-same problem (product problem input) input is refl refl

pub SolvableGiven-product : (problem input : Problem) (T : ℕ) → IsProblem problem → IsInput problem input → SolvableGiven problem input T → SolvableGiven (product problem input) input T
SolvableGiven-product problem input T is is_input (table, solves) =
    SolvableGiven-by (product problem input) input T (with_input problem input is is_input T (answer_known table) solves.solves) (IsInput-product problem input is_input)
    (SolvesGivenBy-product problem input is is_input T (answer_known table) solves.solves)

pub SolvableGiven-from_product : (problem input : Problem) (T : ℕ) → IsProblem problem → IsInput problem input → SolvableGiven (product problem input) input T → SolvableGiven problem input T
SolvableGiven-from_product problem input T is is_input =
    SolvableGiven-relaxed (product problem input) problem input (λ pair. pair / input.labels) T (IsProblem-product problem input is) is (IsInput-product problem input is_input) (product_parts problem input is_input).0

pub SolvableGiven-product_relaxed : (problem next input : Problem) (image : ℕ → ℕ) (T : ℕ) → IsProblem problem → IsProblem next → IsInput problem input → IsRelaxed (product problem input) next image → SolvableGiven problem input T → SolvableGiven next input T
SolvableGiven-product_relaxed problem next input image T is is_next is_input relaxed h =
    SolvableGiven-relaxed (product problem input) next input image T (IsProblem-product problem input is) is_next (IsInput-product problem input is_input) relaxed (SolvableGiven-product problem input T is is_input h)

pub SolvableGiven-product_mapped : (problem next input : Problem) (image : List ℕ → List ℕ) (T : ℕ) → IsProblem problem → IsProblem next → IsInput problem input → IsMapped (product problem input) next image → SolvableGiven problem input T → SolvableGiven next input T
SolvableGiven-product_mapped problem next input image T is is_next is_input mapped h =
    SolvableGiven-mapped (product problem input) next input image T (IsProblem-product problem input is) is_next (IsInput-product problem input is_input) mapped (SolvableGiven-product problem input T is is_input h)
