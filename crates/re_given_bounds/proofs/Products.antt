-- Products of input problems, and of what local algorithms solve.
use Rattle.std.proofs.Common.{◌≡◌, ℕ, zero, suc, ◌+◌, ◌*◌, ◌/◌, ◌%◌, ◌≤◌, ◌<◌, Some, List, [], ◌∷◌, map, length, get_or, refl, sym, ◌∙◌, ap, subst, arith, one-add}
use Rattle.std.specs.Prelude.{Contains}
use Rattle.std.proofs.lemmas.List.{get_or-map}
use Rattle.std.proofs.lemmas.List.Elements.{Contains-get_or}
use Rattle.std.proofs.lemmas.Nat.{div-add-mod', div_below, mod_below}
use Rattle.re_labels.proofs.Rearranging.{Contains-Rearranged}
use Rattle.re_labels.proofs.Sorting.{Rearranged-sorted}
use Rattle.re_labels.specs.Configs.{sorted}
use Rattle.re_given.proofs.GivenProducts.{Has-paired, at-paired'}
use Rattle.re_given.proofs.GrownInputs.{without_one}
use Rattle.re_given.proofs.Pairs.{IsProblem-product, paired}
use Rattle.re_given.proofs.ZeroGiven.{config-Has}
use Rattle.re_given.specs.Given.{around_known}
use Rattle.re_given.specs.InputViews.{Fits, InputView, known}
use Rattle.re_given.specs.Inputs.{IsInput}
use Rattle.re_given.specs.Products.{pairs_of, product}
use Rattle.re_labels.proofs.Membership.{Contains-here, Contains-none, get_or-count_from, length-count_from}
use Rattle.re_labels.specs.Lists.{count_from}
use Rattle.re_laws.proofs.Mapping.{count_of}
use Rattle.re_laws.proofs.Ports.{map-count}
use Rattle.re_laws.specs.Algorithms.{at_port}
use Rattle.re_layers.specs.Networks.{AreDifferent}
use Rattle.re_local.specs.LocalAlgorithms.{SolvableLocal, SolvesApart, behind_passive, identified, shown}
use Rattle.re_problem.specs.NamedProblems.{OccursIn}
use Rattle.re_problem.specs.Problems.{IsProblem, Problem}
use Rattle.re_labels.proofs.Goodness.{Has-Rearranged}
use Rattle.re_labels.specs.Constraints.{Constraint, Has, IsConstraint}
use Rattle.re_laws.proofs.JoinedBranches.{backs-child}
use Rattle.re_laws.proofs.ViewLaws.{IsChild, child_of}
use Rattle.re_laws.specs.Trees.{Child, IsView, backs, child_at, shift}

-- ---- local algorithms at once
module _ (one two : Problem) (is : IsProblem one) (input : IsInput one two) (N T : ℕ) (f g : InputView → List ℕ)
    (solves : SolvesApart one (identified one.active.degree one.passive.degree N) (λ x. x) T f)
    (solves' : SolvesApart two (identified two.active.degree two.passive.degree N) (λ x. x) T g) where
  abbrev a : ℕ
  a = one.active.degree

  abbrev p : ℕ
  p = one.passive.degree

  -- the pairs of what both give
  abbrev pub at_once : InputView → List ℕ
  at_once k = paired a two.labels (f k) (g k)

  near_at : (h : InputView → List ℕ) (v : InputView) (k : ℕ) → k < p
      → at_port (around_known p T h v) (suc k) ≡ at_port (h (known T (shift (suc T) v (suc k)))) (at_port (backs v) (suc k))
  near_at h v k l =
      let port_is : get_or (count_from 1 p) k 0 ≡ suc k = get_or-count_from 1 p k 0 l ∙ one-add k in
      get_or-map (λ port. at_port (h (known T (shift (suc T) v port))) (at_port (backs v) port)) (count_from 1 p) k 0 0 (omega (arith, length-count_from 1 p))
      ∙ ap (λ port. at_port (h (known T (shift (suc T) v port))) (at_port (backs v) port)) port_is

  around_is : (v : InputView) → IsView p a (suc (suc T)) v
      → around_known p T at_once v ≡ paired p two.labels (around_known p T f v) (around_known p T g v)
  around_is v view =
      map-count (λ port. at_port (at_once (known T (shift (suc T) v port))) (at_port (backs v) port))
      (λ port. at_port (around_known p T f v) port * two.labels + at_port (around_known p T g v) port) 1 p
      (λ k l. rw one-add (each k l (child_of p a (suc T) p v view k l)))
    where
      each : (k : ℕ) → k < p → (c : Child ℕ) × (child_at k v ≡ Some c) × IsChild a p (suc T) c
          → at_port (at_once (known T (shift (suc T) v (suc k)))) (at_port (backs v) (suc k))
          ≡ at_port (around_known p T f v) (suc k) * two.labels + at_port (around_known p T g v) (suc k)
      each k l (c, at, child) =
          let u : InputView = shift (suc T) v (suc k) in
          let back_is : at_port (backs v) (suc k) ≡ c.back = backs-child k c v at in
          let pair_is : at_port (at_once (known T u)) c.back ≡ at_port (f (known T u)) c.back * two.labels + at_port (g (known T u)) c.back =
          at-paired' a two.labels (f (known T u)) (g (known T u)) c.back child.least child.most in
          rw (near_at f v k l, near_at g v k l, back_is, pair_is) refl

  -- what holds of the degrees of the one holds of those of the other
  moved : (Holds : ℕ → ℕ → Type 0) → Holds a p → Holds two.active.degree two.passive.degree
  moved Holds held =
      subst (λ d. Holds d two.passive.degree) (sym input.active_degree) (subst (λ d. Holds a d) (sym input.passive_degree) held)

  on_active : (v : InputView) → IsView a p (suc T) v → Fits (identified a p N).active (identified a p N).passive v → AreDifferent (map (λ x. x) (shown v)) → Has two.active (g (known T v))
  on_active v view fits apart =
      solves'.active v (moved (λ d e. IsView d e (suc T) v) view) (moved (λ d e. Fits (identified d e N).active (identified d e N).passive v) fits) apart

  on_passive : (v : InputView) → IsView p a (suc (suc T)) v → Fits (identified a p N).passive (identified a p N).active v → AreDifferent (map (λ x. x) (behind_passive v)) → Has two.passive (around_known p T g v)
  on_passive v view fits apart =
      subst (λ d. Has two.passive (around_known d T g v)) input.passive_degree
      (solves'.passive v (moved (λ d e. IsView e d (suc (suc T)) v) view) (moved (λ d e. Fits (identified d e N).passive (identified d e N).active v) fits) apart)

  pub SolvesApart-product : SolvesApart (product one two) (identified a p N) (λ x. x) T at_once
  SolvesApart-product = record {
    active = λ v view fits apart.
        Has-paired one.labels two.labels a one.active two.active (f (known T v)) (g (known T v)) is.active input.is_problem.active refl input.active_degree
        (solves.active v view fits apart) (on_active v view fits apart);
    passive = λ v view fits apart.
        rw (around_is v view) (Has-paired one.labels two.labels p one.passive two.passive (around_known p T f v) (around_known p T g v) is.passive input.is_problem.passive refl input.passive_degree
        (solves.passive v view fits apart) (on_passive v view fits apart));
  }

pub SolvableLocal-product : (one two : Problem) (N T : ℕ) → IsProblem one → IsInput one two → SolvableLocal one N T → SolvableLocal two N T → SolvableLocal (product one two) N T
SolvableLocal-product one two N T is input (f, solves) (g, solves') =
    (at_once one two is input N T f g solves solves', SolvesApart-product one two is input N T f g solves solves')

-- ---- the product of two input problems
first_pair : (d m x y : ℕ) (xs ys : List ℕ) → 1 ≤ d → Contains (paired d m (x ∷ xs) (y ∷ ys)) (x * m + y)
first_pair zero m x y xs ys some = absurd (omega (arith, some))
first_pair (suc d) m x y xs ys some =
    Contains-here (x * m + y) (map (λ port. at_port (x ∷ xs) port * m + at_port (y ∷ ys) port) (count_from 2 d))

module _ (n m : ℕ) (own given : Constraint) (own_is : IsConstraint n own) (given_is : IsConstraint m given) (same : given.degree ≡ own.degree) where
  -- where two labels occur, their pair does
  pair_occurs : (x y : ℕ) → OccursIn own x → OccursIn given y → OccursIn (pairs_of n m own given) (x * m + y)
  pair_occurs x y (config, held, at) (config', held', at') =
      let (rest, order) = without_one config x at in
      let (rest', order') = without_one config' y at' in
      let has : Has own (x ∷ rest) = Has-Rearranged own order (config-Has n own config own_is held) in
      let has' : Has given (y ∷ rest') = Has-Rearranged given order' (config-Has m given config' given_is held') in
      let pairs : List ℕ = paired own.degree m (x ∷ rest) (y ∷ rest') in
      let both : Has (pairs_of n m own given) pairs = Has-paired n m own.degree own given (x ∷ rest) (y ∷ rest') own_is given_is refl same has has' in
      let least = own_is.least in
      (sorted pairs, both, Contains-Rearranged (x * m + y) (Rearranged-sorted pairs) (first_pair own.degree m x y rest rest' (omega (arith, least))))

-- a pair, from its number
parts_of : (n m label : ℕ) → label < n * m → (label / m < n) × (label % m < m)
parts_of n zero label l = absurd (omega (arith, l))
parts_of n (suc m) label l = (div_below label (suc m) n (omega arith) l, mod_below label (suc m) (omega arith))

-- some label occurs where there is a configuration
some_occurs : (n : ℕ) (constraint : Constraint) → IsConstraint n constraint → 0 < length constraint.configs → (x : ℕ) × OccursIn constraint x
some_occurs n constraint is some =
    let config : List ℕ = get_or constraint.configs 0 [] in
    let held : Contains constraint.configs config = Contains-get_or constraint.configs 0 [] some in
    let count : length config ≡ constraint.degree = count_of n constraint config is (config-Has n constraint config is held) in
    let least = is.least in
    (get_or config 0 0, (config, held, Contains-get_or config 0 0 (omega (arith, count, least))))

some_configs : (configs : List (List ℕ)) (config : List ℕ) → Contains configs config → 0 < length configs
some_configs [] config held = absurd (Contains-none config held)
some_configs (x ∷ xs) config held = omega arith

pub IsInput-products : (problem one two : Problem) → IsInput problem one → IsInput problem two → IsInput problem (product one two)
IsInput-products problem one two is is' = record {
  is_problem = IsProblem-product one two is.is_problem;
  active_degree = is.active_degree;
  passive_degree = is.passive_degree;
  some =
      let (x, at) = some_occurs one.labels one.active is.is_problem.active is.some in
      let (y, at') = some_occurs two.labels two.active is'.is_problem.active is'.some in
      let (config, held, there) = pair_occurs one.labels two.labels one.active two.active is.is_problem.active is'.is_problem.active active_same x y at at' in
      some_configs (product one two).active.configs config held;
  occurs = λ label l.
      let (left, right) = parts_of one.labels two.labels label l in
      let x : ℕ = label / two.labels in
      let y : ℕ = label % two.labels in
      let whole : x * two.labels + y ≡ label = div-add-mod' label two.labels in (
        subst (OccursIn (product one two).active) whole (pair_occurs one.labels two.labels one.active two.active is.is_problem.active is'.is_problem.active active_same x y (is.occurs x left).0 (is'.occurs y right).0),
        subst (OccursIn (product one two).passive) whole (pair_occurs one.labels two.labels one.passive two.passive is.is_problem.passive is'.is_problem.passive passive_same x y (is.occurs x left).1 (is'.occurs y right).1),
      );
}
  where
    active_same : two.active.degree ≡ one.active.degree
    active_same = is'.active_degree ∙ sym is.active_degree

    passive_same : two.passive.degree ≡ one.passive.degree
    passive_same = is'.passive_degree ∙ sym is.passive_degree
