-- The sets of rows in each order, and two rounds by the maximal rows.
use Rattle.std.proofs.Common.{◌≡◌, ℕ, zero, suc, ◌≤◌, List, [], ◌∷◌, ◌++◌, map, length, sym, ap, ◌∙◌, subst, arith, inl, inr}
use Rattle.std.specs.Prelude.{Contains}
use Rattle.std.specs.List.{AllZip}
use Rattle.re_labels.proofs.Membership.{Contains-In, Contains-cases, Contains-flat_map, Contains-flat_map_cases, Contains-here, Contains-map, Contains-map_cases, Contains-none, In-Contains}
use Rattle.std.proofs.lemmas.List.Elements.{Contains-append_cases, Contains-append_left, Contains-append_right}
use Rattle.re_labels.proofs.LabelPlaces.{map-get-place_of}
use Rattle.re_labels.specs.Lists.{count_from, place_of}
use Rattle.re_labels.proofs.LawsOfRows.{multisets_law}
use Rattle.re_labels.proofs.Placing.{Rearranged-placed, placed-Rearranged}
use Rattle.re_labels.proofs.Rearranging.{Rearranged-map, Rearranged-sym}
use Rattle.re_labels.proofs.Sorting.{Rearranged-sorted}
use Rattle.re_labels.specs.Configs.{IsConfig, sorted}
use Rattle.re_labels.specs.Orders.{multisets, placements}
use Rattle.re_labels.specs.Rearranging.{Rearranged}
use Rattle.re_labels.specs.Rows.{placed, set_at}
use Rattle.re_labels.proofs.Goodness.{IsGood-Rearranged}
use Rattle.re_labels.proofs.MaxSets.{max_sets-row, maximal}
use Rattle.re_labels.specs.Constraints.{Has}
use Rattle.re_labels.specs.GoodRows.{IsAllowed, max_rows, max_sets}
use Rattle.re_problem.proofs.DerivedProblem.{IsUpper-derived}
use Rattle.re_problem.specs.Derived.{derived}
use Rattle.re_problem.specs.Problems.{IsProblem, Problem}
use Rattle.re_laws.specs.Algorithms.{Solvable}
use Rattle.re_given_words.proofs.OneRound.{degrees_of}
use Rattle.re_given_words.proofs.RoundsLaws.{Solvable-rows, row-from_two}
use Rattle.re_given_words.proofs.TwoRounds.{served}
use Rattle.re_given_words.specs.Ahead.{HaveChoices, StandsAt}
use Rattle.re_given_words.specs.Searching.{IsOrdered, IsUnderWay, ShowsTwoBy, all_orders, orders_of}
use Rattle.re_given_words.specs.declared.searching.Open.{Open}
use Rattle.re_given_words.specs.declared.standing.Standing.{Standing}

-- ---- orders
pub ordered-all : (rows : List (List (List ℕ))) (sets : List (List ℕ)) → IsOrdered rows sets → Contains (all_orders rows) sets
ordered-all rows sets (row, held, moved) =
    let (order, among, same) = placed-Rearranged row sets moved in
    Contains-flat_map orders_of rows row sets held
    (subst (Contains (orders_of row)) (sym same) (Contains-map (placed row) (placements (length row)) order (In-Contains order (placements (length row)) among)))

pub all-ordered : (rows : List (List (List ℕ))) (sets : List (List ℕ)) → Contains (all_orders rows) sets → IsOrdered rows sets
all-ordered rows sets held =
    let (row, among, there) = Contains-flat_map_cases orders_of rows sets held in
    let (order, at, same) = Contains-map_cases (placed row) (placements (length row)) sets there in
    (row, among, subst (Rearranged row) same (Rearranged-placed row order (Contains-In order (placements (length row)) at)))

-- ---- all multisets of ports are open
-- each multiset is there, with all sets of rows in each order
pub record AreAll (rows : List (List (List ℕ))) (multisets_ : List (List ℕ)) (opens : List Open) : Type 0 where
  pub ports : (ports : List ℕ) → Contains multisets_ ports → (o : Open) × Contains opens o × (o.ports ≡ ports)
  pub known : (o : Open) → Contains opens o → Contains multisets_ o.ports
  pub orders : (o : Open) → Contains opens o → o.rows.items ≡ all_orders rows

pub all-more : (rows : List (List (List ℕ))) (seen : List (List ℕ)) (opens : List Open) (ports : List ℕ) (more : Open) → AreAll rows seen opens → more.ports ≡ ports → more.rows.items ≡ all_orders rows
    → AreAll rows (seen ++ ports ∷ []) (opens ++ more ∷ [])
all-more rows seen opens ports more are same ordered = record {
  ports = λ some held. elim (Contains-append_cases seen (ports ∷ []) some held) [
    | inl before ↦ let (o, at, is) = are.ports some before in (o, Contains-append_left opens (more ∷ []) o at, is)
    | inr last ↦ elim (Contains-cases some ports [] last) [
      | inl is ↦ (more, Contains-append_right opens (more ∷ []) more (Contains-here more []), same ∙ sym is)
      | inr none ↦ absurd (Contains-none some none)
    ]
  ];
  known = λ o held. elim (Contains-append_cases opens (more ∷ []) o held) [
    | inl before ↦ Contains-append_left seen (ports ∷ []) o.ports (are.known o before)
    | inr last ↦ elim (Contains-cases o more [] last) [
      | inl is ↦ Contains-append_right seen (ports ∷ []) o.ports (subst (Contains (ports ∷ [])) (sym (ap (λ (o : Open). o.ports) is ∙ same)) (Contains-here ports []))
      | inr none ↦ absurd (Contains-none o none)
    ]
  ];
  orders = λ o held. elim (Contains-append_cases opens (more ∷ []) o held) [
    | inl before ↦ are.orders o before
    | inr last ↦ elim (Contains-cases o more [] last) [
      | inl is ↦ ap (λ (o : Open). o.rows.items) is ∙ ordered
      | inr none ↦ absurd (Contains-none o none)
    ]
  ];
}

-- where nothing stands there is no choice of a set at each port
no-choices : (problem : Problem) → IsProblem problem → HaveChoices problem.active []
no-choices problem is sets = go problem.active.degree is.active.least sets
  where
    go : (a : ℕ) → 2 ≤ a → (sets : List (List ℕ)) → AllZip (StandsAt []) (count_from 0 a) sets → IsAllowed problem.active sets
    go zero least sets zip = absurd (omega (arith, least))
    go (suc a) least [] zip = absurd zip
    go (suc a) least (s ∷ sets) zip = absurd (Contains-none _ zip.0)

pub begun : (problem : Problem) (rows : List (List (List ℕ))) (opens : List Open) → IsProblem problem → AreAll rows (multisets problem.passive.degree 0 problem.active.degree) opens → IsUnderWay problem rows opens []
begun problem rows opens is are = record {
  choice = no-choices problem is;
  served = λ ports config.
      inr (are.ports ports (((multisets_law problem.passive.degree problem.active.degree).1 ports).1 config));
  ordered = λ o at sets held. all-ordered rows sets (subst (λ l. Contains l sets) (are.orders o at) held);
  supplied = λ whole shows part o at.
      let config : IsConfig problem.passive.degree problem.active.degree o.ports = ((multisets_law problem.passive.degree problem.active.degree).1 o.ports).0 (are.known o at) in
      let (sets, zip, ordered) = shows.served o.ports config in
      (sets, subst (λ l. Contains l sets) (sym (are.orders o at)) (ordered-all rows sets ordered), zip);
}

-- ---- two rounds by the maximal rows
module _ (problem : Problem) (is : IsProblem problem) where
  abbrev rows : List (List (List ℕ))
  rows = max_rows problem.passive problem.labels

  -- they are good in any order
  pub shown-Solvable : (whole : List Standing) → ShowsTwoBy problem (max_rows problem.passive problem.labels) whole → Solvable problem 2
  shown-Solvable whole shows = Solvable-rows problem (degrees_of problem is) whole (record {
    rows = λ ports config.
        let (sets, zip, ordered) = shows.served ports config in
        let (row, held, moved) = ordered in
        (sets, zip, IsGood-Rearranged problem.passive moved (maximal problem.passive problem.labels row held).good);
    choice = shows.choice;
  })

  -- the sets of an active configuration of the derived problem are a maximal row in some order
  derived-ordered : (labels : List ℕ) → Has (derived problem).active labels → IsOrdered rows (map (set_at (max_sets problem.passive problem.labels)) labels)
  derived-ordered labels held =
      let sets : List (List ℕ) = max_sets problem.passive problem.labels in
      let (row, at, e) = Contains-map_cases (map (place_of sets)) rows (sorted labels) held in
      let row_is : map (set_at sets) (sorted labels) ≡ row = ap (map (set_at sets)) (sym e) ∙ map-get-place_of sets row (max_sets-row problem.passive problem.labels row at) in
      (row, at, subst (λ l. Rearranged l (map (set_at sets) labels)) row_is (Rearranged-map (set_at sets) (Rearranged-sym (Rearranged-sorted labels))))

  pub Solvable-shown : Solvable problem 2 → (whole : List Standing) × ShowsTwoBy problem (max_rows problem.passive problem.labels) whole
  Solvable-shown solvable =
      let (row, shows) = row-from_two problem is solvable in
      let (whole, serves) = served problem (derived problem) (set_at (max_sets problem.passive problem.labels)) (IsUpper-derived problem) row shows (IsOrdered rows) derived-ordered in
      (whole, record { served = serves.rows; choice = serves.choice })

  pub none-Solvable : ((whole : List Standing) → ShowsTwoBy problem (max_rows problem.passive problem.labels) whole → ⊥) → Solvable problem 2 → ⊥
  none-Solvable none solvable = let (whole, shows) = Solvable-shown solvable in none whole shows
