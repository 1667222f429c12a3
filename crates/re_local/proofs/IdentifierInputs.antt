-- Identifiers are an input problem where each label of one stands around some passive node.
use Rattle.std.proofs.Common.{◌≡◌, ℕ, zero, suc, ◌+◌, ◌-◌, ◌*◌, ◌/◌, ◌%◌, ◌≤◌, ◌<◌, [], map, filter, length, refl, subst, arith}
use Rattle.std.proofs.Math.Nat.{le-mul_of_pos_right, mul_comm}
use Rattle.std.proofs.lemmas.Nat.{div-add-mod', div_below, mod_below, mul-add-lt}
use Rattle.re_labels.proofs.LawsOfRows.{multisets_law}
use Rattle.re_labels.specs.Configs.{IsConfig}
use Rattle.re_labels.specs.Orders.{multisets}
use Rattle.re_given.proofs.Colourings.{rising_weakly}
use Rattle.re_given.specs.Inputs.{IsInput}
use Rattle.re_labels.proofs.Before.{IsBefore-head, IsBefore-trans}
use Rattle.re_labels.proofs.Membership.{AllByRecursion-from_contains, Contains-count_from, Contains-filter_cases, Contains-map, Contains-map_cases, count_from_range, length-count_from}
use Rattle.re_labels.proofs.Numbers.{IsLabelSet-count_from}
use Rattle.re_labels.proofs.Rising.{rising-filter, rising-map}
use Rattle.re_labels.specs.Lists.{IsBefore, count_from}
use Rattle.re_local.proofs.UnavoidableIdentifiers.{first_alike}
use Rattle.re_local.specs.Identifiers.{IdHypergraph, JoinsAlike, id_labels, identifiers}
use Rattle.re_local.specs.Separating.{HasAllEdges}
use Rattle.re_problem.specs.NamedProblems.{OccursIn}
use Rattle.re_problem.specs.Problems.{IsProblem, Problem}
use Rattle.re_labels.specs.Constraints.{IsConstraint}

module _ (a N : ℕ) where
  labels_is : (x : ℕ) → x < N → IsConfig a (a * N) (id_labels a x)
  labels_is x l = record {
    count = length-count_from (x * a) a;
    below = AllByRecursion-from_contains (λ y. y < a * N) (id_labels a x) (λ y held.
        let (low, high) = count_from_range (x * a) a y held in
        let within : x * a + (y - x * a) < a * N = mul-add-lt x a (y - x * a) N l (omega arith) in
        omega arith);
    ascends = rising_weakly (id_labels a x) (IsLabelSet-count_from (x * a) a (x * a + a) (omega arith)).0;
  }

  labels_before : 0 < a → (x y : ℕ) → x < y → IsBefore (id_labels a x) (id_labels a y)
  labels_before some x y l = go a some (let low : x * a + 0 < a * y = mul-add-lt x a 0 y l some in let turned : a * y ≡ y * a = mul_comm a y in omega arith)
    where
      go : (k : ℕ) → 0 < k → x * a < y * a → IsBefore (count_from (x * a) k) (count_from (y * a) k)
      go zero none low = absurd (omega arith)
      go (suc k) more low = IsBefore-head (x * a) (y * a) (count_from (suc (x * a)) k) (count_from (suc (y * a)) k) low

module _ (a p N : ℕ) (hyper : IdHypergraph) where
  pub identifiers_active : 2 ≤ a → a ≤ 6 → IsConstraint (a * N) (identifiers a p N hyper).active
  identifiers_active least most = record {
    least = least;
    most = most;
    configs = AllByRecursion-from_contains (IsConfig a (a * N)) (map (id_labels a) (count_from 0 N)) (λ config held.
        let (x, there, is) = Contains-map_cases (id_labels a) (count_from 0 N) config held in
        subst (IsConfig a (a * N)) is (labels_is a N x (let l = (count_from_range 0 N x there).1 in omega arith)));
    ascends = rising-map (λ x y. x < y) IsBefore (id_labels a) (count_from 0 N) (λ x y i j l. labels_before a N (omega arith) x y l) (IsLabelSet-count_from 0 N N (omega arith)).0;
  }

  pub identifiers_passive : 2 ≤ p → p ≤ 6 → IsConstraint (a * N) (identifiers a p N hyper).passive
  identifiers_passive least most =
      let law = multisets_law p (a * N) in
      record {
        least = least;
        most = most;
        configs = AllByRecursion-from_contains (IsConfig p (a * N)) (filter hyper (multisets p 0 (a * N))) (λ config held. (law.1 config).0 (Contains-filter_cases hyper (multisets p 0 (a * N)) config held).0);
        ascends = rising-filter IsBefore IsBefore-trans hyper (multisets p 0 (a * N)) law.0;
      }

  passive_there : 0 < a → HasAllEdges a p N hyper → (label : ℕ) → label < a * N → OccursIn (identifiers a p N hyper).passive label
  passive_there some edges label l =
      let xl : label / a < N = div_below label a N some (rw (mul_comm N a) l) in
      subst (OccursIn (identifiers a p N hyper).passive) (div-add-mod' label a) (edges (label / a) (label % a) xl (mod_below label a some))

  active_there : 0 < a → (label : ℕ) → label < a * N → OccursIn (identifiers a p N hyper).active label
  active_there some label l =
      let x : ℕ = label / a in
      let xl : x < N = div_below label a N some (rw (mul_comm N a) l) in
      let il : label % a < a = mod_below label a some in
      let is : x * a + label % a ≡ label = div-add-mod' label a in (
        id_labels a x,
        Contains-map (id_labels a) (count_from 0 N) x (Contains-count_from 0 N x (omega arith) (omega arith)),
        Contains-count_from (x * a) a label (omega arith) (omega arith),
      )

pub IsInput-identifiers : (problem : Problem) (N : ℕ) (hyper : IdHypergraph) → IsProblem problem → 0 < N → HasAllEdges problem.active.degree problem.passive.degree N hyper
    → IsInput problem (identifiers problem.active.degree problem.passive.degree N hyper)
IsInput-identifiers problem N hyper is some edges =
    let a : ℕ = problem.active.degree in
    let p : ℕ = problem.passive.degree in
    let least : 2 ≤ a = is.active.least in
    record {
      is_problem = record { active = identifiers_active a p N hyper least is.active.most; passive = identifiers_passive a p N hyper is.passive.least is.passive.most };
      active_degree = refl;
      passive_degree = refl;
      some = some_active ((active_there a p N hyper (omega arith) 0 (omega (arith, le-mul_of_pos_right {m = N} a some, least))));
      occurs = λ label l. (active_there a p N hyper (omega arith) label l, passive_there a p N hyper (omega arith) edges label l);
    }
  where
    some_active : OccursIn (identifiers problem.active.degree problem.passive.degree N hyper).active 0
        → 0 < length (identifiers problem.active.degree problem.passive.degree N hyper).active.configs
    some_active (config, (k, range, e), at) = omega (arith, range)

-- a hypergraph that joins alike ones has an identifier
pub some_identifier : (a p N n : ℕ) (hyper : IdHypergraph) → 1 ≤ a → 1 ≤ p → JoinsAlike a p N hyper n → 0 < N
some_identifier a p zero n hyper some more joins =
    let (list, alike) = joins (λ x. []) (λ x l. absurd (omega (arith, l))) in
    let (x, l, same) = first_alike a p 0 hyper (λ x. []) list some more alike in
    absurd (omega (arith, l))
some_identifier a p (suc N) n hyper some more joins = omega arith
