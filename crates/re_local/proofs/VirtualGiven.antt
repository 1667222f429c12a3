-- Identifiers with virtual ports are an input problem, and a local algorithm solves a problem given them, wherever they are all different.
use Rattle.std.proofs.Common.{◌≡◌, ℕ, zero, suc, ◌+◌, ◌-◌, ◌*◌, ◌/◌, ◌%◌, ◌≤◌, ◌<◌, true, inl, inr, List, [], ◌∷◌, map, length, refl, sym, ◌∙◌, ap, subst, arith}
use Rattle.std.specs.Prelude.{Contains, replicate}
use Rattle.std.specs.List.{AllByRecursion}
use Rattle.std.proofs.Math.Nat.{le-mul_of_pos_right, mul_comm}
use Rattle.std.proofs.lemmas.Bool.Decides.{leb_tells}
use Rattle.std.proofs.lemmas.List.{length-map}
use Rattle.std.proofs.lemmas.Nat.{div-add-mod', div_below, mod_below}
use Rattle.re_labels.proofs.LawsOfRows.{multisets_law}
use Rattle.re_labels.proofs.Rearranging.{Contains-Rearranged}
use Rattle.re_labels.proofs.Sorting.{IsConfig-sorted, Rearranged-sorted, length-sorted, sorted_again, sorted_map}
use Rattle.re_labels.specs.Configs.{IsConfig, sorted}
use Rattle.re_labels.specs.Orders.{multisets}
use Rattle.re_labels.proofs.Replicated.{alike_rise}
use Rattle.re_given.proofs.Colourings.{filtered_constraint}
use Rattle.re_given.proofs.GivenTables.{SolvableGiven-by}
use Rattle.re_given.proofs.Relabelled.{relabelled}
use Rattle.re_given.specs.Given.{SolvableGiven}
use Rattle.re_given.specs.Inputs.{IsInput}
use Rattle.re_local.specs.Identifiers.{IdHypergraph, identifiers, are_of_one, virtual_identifiers}
use Rattle.re_local.specs.Separating.{HasAllEdges, AreApart}
use Rattle.re_labels.proofs.Membership.{AllByRecursion-contains, AllByRecursion-from_contains, Contains-count_from, Contains-filter_cases, Contains-here, Contains-later, Contains-map, Contains-map_cases, length-count_from}
use Rattle.re_labels.proofs.Numbers.{IsLabelSet-count_from}
use Rattle.re_labels.specs.Lists.{count_from}
use Rattle.re_local.proofs.LocalGiven.{SolvesApart-taken, SolvesGivenBy-apart, TakesTo}
use Rattle.re_local.specs.LocalAlgorithms.{SolvableLocal, identified}
use Rattle.re_problem.specs.NamedProblems.{OccursIn}
use Rattle.re_problem.specs.Problems.{IsProblem, Problem}
use Rattle.re_labels.specs.Constraints.{Has}
use Rattle.re_local.proofs.VirtualLabels.{labels_of, like_first, of_one, ports_there}

-- ---- an input problem
module _ (a M p N : ℕ) (hyper : IdHypergraph) where
  label_id : (label : ℕ) → 0 < M → label < M * N → label / M < N
  label_id label some l = div_below label M N some (rw (mul_comm N M) l)

  active_there : 0 < a → a ≤ M → (label : ℕ) → label < M * N → OccursIn (virtual_identifiers a M p N hyper).active label
  active_there some enough label l = elim (leb_tells (label % M + a) M) [
    | inl t ↦ (let fits : label % M + a ≤ M = t.1 in from (label % M) fits (omega arith) (omega (arith, some)))
    | inr t ↦ (let past : M < label % M + a = t.1 in from (M - a) (omega (arith, enough)) (omega (arith, past, enough)) (omega (arith, port, enough)))
  ]
    where
      port : label % M < M
      port = mod_below label M (omega (arith, some, enough))

      from : (start : ℕ) → start + a ≤ M → start ≤ label % M → label % M < start + a → OccursIn (virtual_identifiers a M p N hyper).active label
      from start fits low high = (
        labels_of M (label / M) (count_from start a),
        ports_there a M p N hyper (label / M) (count_from start a) (length-count_from start a) (IsLabelSet-count_from start a M fits) (label_id label (omega (arith, some, enough)) l),
        subst (Contains (labels_of M (label / M) (count_from start a))) (div-add-mod' label M) (Contains-map (λ i. label / M * M + i) (count_from start a) (label % M) (Contains-count_from start a (label % M) low high)),
      )

  passive_there : 0 < M → HasAllEdges M p N hyper → (label : ℕ) → label < M * N → OccursIn (virtual_identifiers a M p N hyper).passive label
  passive_there some edges label l =
      subst (OccursIn (identifiers M p N hyper).passive) (div-add-mod' label M) (edges (label / M) (label % M) (label_id label some l) (mod_below label M some))

pub IsInput-virtual : (problem : Problem) (M N : ℕ) (hyper : IdHypergraph) → IsProblem problem → problem.active.degree ≤ M → 0 < N → HasAllEdges M problem.passive.degree N hyper
    → IsInput problem (virtual_identifiers problem.active.degree M problem.passive.degree N hyper)
IsInput-virtual problem M N hyper is enough some edges =
    let a : ℕ = problem.active.degree in
    let p : ℕ = problem.passive.degree in
    let least : 2 ≤ a = is.active.least in
    record {
      is_problem = record { active = filtered_constraint a (M * N) (are_of_one M) least is.active.most; passive = filtered_constraint p (M * N) hyper is.passive.least is.passive.most };
      active_degree = refl;
      passive_degree = refl;
      some = some_active ((active_there a M p N hyper (omega (arith, least)) enough 0 (omega (arith, le-mul_of_pos_right {m = N} M some, least, enough))));
      occurs = λ label l. (active_there a M p N hyper (omega (arith, least)) enough label l, passive_there a M p N hyper (omega (arith, least, enough)) edges label l);
    }
  where
    some_active : OccursIn (virtual_identifiers problem.active.degree M problem.passive.degree N hyper).active 0
        → 0 < length (virtual_identifiers problem.active.degree M problem.passive.degree N hyper).active.configs
    some_active (config, (k, range, e), at) = omega (arith, range)

-- ---- from labels to identifiers
all_alike : (M x : ℕ) (labels : List ℕ) → ((y : ℕ) → Contains labels y → y / M ≡ x) → map (λ label. label / M) labels ≡ replicate (length labels) x
all_alike M x [] each = refl
all_alike M x (u ∷ labels) each =
    let first : u / M ≡ x = each u (Contains-here u labels) in
    let rest : map (λ label. label / M) labels ≡ replicate (length labels) x = all_alike M x labels (λ y at. each y (Contains-later y u labels at)) in
    ap (λ y. y ∷ map (λ label. label / M) labels) first ∙ ap (λ ys. x ∷ ys) rest

module _ (a M p N : ℕ) (hyper : IdHypergraph) (some : 1 ≤ a) (ports : 1 ≤ M) where
  active_named : TakesTo (λ label. label / M) (virtual_identifiers a M p N hyper).active (identified a p N).active
  active_named labels has =
      let (is, test) = of_one a M p N hyper labels has in
      go (sorted labels) refl is test
    where
      go : (ascending : List ℕ) → sorted labels ≡ ascending → IsConfig a (M * N) ascending → are_of_one M ascending ≡ true → Has (identified a p N).active (map (λ label. label / M) labels)
      go [] same is test = absurd (let count = is.count in omega (arith, count, some))
      go (u ∷ rest) same is test =
          let x : ℕ = u / M in
          let alike : map (λ label. label / M) (u ∷ rest) ≡ replicate a x = all_alike M x (u ∷ rest) (like_first M u rest test) ∙ ap (λ k. replicate k x) is.count in
          let all : sorted (map (λ label. label / M) labels) ≡ replicate a x =
          sym (sorted_map (λ label. label / M) labels) ∙ (ap (λ (config : List ℕ). sorted (map (λ label. label / M) config)) same ∙ (ap sorted alike ∙ sorted_again (replicate a x) (alike_rise a x))) in
          let low : x < N = label_id a M p N hyper u ports is.below.0 in
          rw all (Contains-map (replicate a) (count_from 0 N) x (Contains-count_from 0 N x (omega arith) (omega (arith, low))))

  passive_named : TakesTo (λ label. label / M) (virtual_identifiers a M p N hyper).passive (identified a p N).passive
  passive_named labels has =
      let count : length (map (λ label. label / M) labels) ≡ p = length-map labels (λ label. label / M) ∙ (sym (length-sorted labels) ∙ config.count) in
      let below : AllByRecursion (λ x. x < N) (map (λ label. label / M) labels) = AllByRecursion-from_contains (λ x. x < N) (map (λ label. label / M) labels) each in
      ((multisets_law p N).1 (sorted (map (λ label. label / M) labels))).1 (IsConfig-sorted p N (map (λ label. label / M) labels) count below)
    where
      config : IsConfig p (M * N) (sorted labels)
      config = ((multisets_law p (M * N)).1 (sorted labels)).0 (Contains-filter_cases hyper (multisets p 0 (M * N)) (sorted labels) has).0

      each : (y : ℕ) → Contains (map (λ label. label / M) labels) y → y < N
      each y held =
          let (label, at, e) = Contains-map_cases (λ label. label / M) labels y held in
          let low : label / M < N = label_id a M p N hyper label ports (AllByRecursion-contains (λ x. x < M * N) (sorted labels) label config.below (Contains-Rearranged label (Rearranged-sorted labels) at)) in
          subst (λ z. z < N) e low

-- ---- given the identifiers of a hypergraph
-- an identifier with a port has some
some_ports : (problem : Problem) (M N : ℕ) (hyper : IdHypergraph) → let input : Problem = virtual_identifiers problem.active.degree M problem.passive.degree N hyper in IsInput problem input → 1 ≤ M
some_ports problem zero N hyper is = absurd (none (virtual_identifiers problem.active.degree 0 problem.passive.degree N hyper).active.configs is.some is.is_problem.active.configs)
  where
    none : (configs : List (List ℕ)) → 0 < length configs → AllByRecursion (IsConfig problem.active.degree (0 * N)) configs → ⊥
    none [] l all = omega (arith, l)
    none ([] ∷ configs) l all = let count = all.0.count in let least = is.is_problem.active.least in omega (arith, count, least)
    none ((u ∷ config) ∷ configs) l all = let low = all.0.below.0 in omega (arith, low)
some_ports problem (suc M) N hyper is = omega arith

pub SolvableGiven-virtual : (problem : Problem) (M N T : ℕ) (hyper : IdHypergraph) → let input : Problem = virtual_identifiers problem.active.degree M problem.passive.degree N hyper in
    IsInput problem input → AreApart input (λ label. label / M) T → SolvableLocal problem N T → SolvableGiven problem input T
SolvableGiven-virtual problem M N T hyper is apart (f, solves) =
    let a : ℕ = problem.active.degree in
    let p : ℕ = problem.passive.degree in
    let input : Problem = virtual_identifiers a M p N hyper in
    let some : 1 ≤ a = (let least = is.is_problem.active.least in omega (arith, least)) in
    let ports : 1 ≤ M = some_ports problem M N hyper is in
    SolvableGiven-by problem input T (λ k. f (relabelled (λ label. label / M) k)) is
    (SolvesGivenBy-apart problem input (λ label. label / M) T (λ k. f (relabelled (λ label. label / M) k)) is apart
    (SolvesApart-taken problem input (identified a p N) (λ label. label / M) (λ x. x) T f (active_named a M p N hyper some ports) (passive_named a M p N hyper some ports) solves))
