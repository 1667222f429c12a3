-- Labels of one identifier with virtual ports.
use Rattle.std.proofs.Common.{◌≡◌, ℕ, ◌+◌, ◌*◌, ◌/◌, ◌≤◌, ◌<◌, true, eqb, ltb, ◌&&◌, inl, inr, List, [], ◌∷◌, map, length, refl, sym, ◌∙◌, ap, arith}
use Rattle.std.specs.Prelude.{Contains}
use Rattle.std.specs.List.{AllByRecursion}
use Rattle.std.proofs.lemmas.List.{length-map}
use Rattle.std.proofs.lemmas.Nat.{div-mul-add, mul-add-lt}
use Rattle.re_labels.proofs.LawsOfRows.{multisets_law}
use Rattle.re_labels.proofs.Rearranging.{Contains-Rearranged, Rearranged-sym}
use Rattle.re_labels.proofs.Sorting.{Rearranged-sorted}
use Rattle.re_labels.specs.Configs.{IsConfig, sorted}
use Rattle.re_labels.specs.Orders.{multisets}
use Rattle.re_local.specs.Identifiers.{IdHypergraph, are_of_one, virtual_identifiers}
use Rattle.re_labels.proofs.Membership.{Contains-cases, Contains-filter, Contains-filter_cases, Contains-none, In, In-Contains}
use Rattle.re_labels.proofs.Tests.{and-true, below-true, eqb-same, eqb-true, true-and, true-below}
use Rattle.re_labels.specs.Lists.{IsRising}
use Rattle.re_labels.specs.Sets.{IsLabelSet}
use Rattle.re_local.proofs.ColouredLocal.{different_Rearranged}
use Rattle.re_layers.specs.Networks.{AreDifferent}
use Rattle.re_labels.specs.Constraints.{Has}
use Rattle.re_given.proofs.Colourings.{first_below}

-- ---- what the test tells
rises_of_one : (M : ℕ) (labels : List ℕ) → are_of_one M labels ≡ true → IsRising (λ x y. x < y) labels
rises_of_one M [] h = tt
rises_of_one M (u ∷ []) h = tt
rises_of_one M (u ∷ v ∷ labels) h =
    let (both, more) = and-true (ltb u v && eqb (u / M) (v / M)) (are_of_one M (v ∷ labels)) h in
    (below-true u v (and-true (ltb u v) (eqb (u / M) (v / M)) both).0, rises_of_one M (v ∷ labels) more)

-- each label is of the first one's identifier
pub like_first : (M u : ℕ) (labels : List ℕ) → are_of_one M (u ∷ labels) ≡ true → (y : ℕ) → Contains (u ∷ labels) y → y / M ≡ u / M
like_first M u [] h y at = elim (Contains-cases y u [] at) [ inl e ↦ ap (λ z. z / M) e | inr later ↦ absurd (Contains-none y later) ]
like_first M u (v ∷ labels) h y at =
    let (both, more) = and-true (ltb u v && eqb (u / M) (v / M)) (are_of_one M (v ∷ labels)) h in
    let same : eqb (u / M) (v / M) ≡ true = (and-true (ltb u v) (eqb (u / M) (v / M)) both).1 in
    elim (Contains-cases y u (v ∷ labels) at) [
      | inl e ↦ ap (λ z. z / M) e
      | inr later ↦ like_first M v labels more y later ∙ sym (eqb-true (u / M) (v / M) same)
    ]

one_of_one : (M : ℕ) (labels : List ℕ) → are_of_one M labels ≡ true → (y z : ℕ) → Contains labels y → Contains labels z → y / M ≡ z / M
one_of_one M [] h y z i j = absurd (Contains-none y i)
one_of_one M (u ∷ labels) h y z i j = like_first M u labels h y i ∙ sym (like_first M u labels h z j)

pub different_rising : (xs : List ℕ) → IsRising (λ x y. x < y) xs → AreDifferent xs
different_rising [] rises = tt
different_rising (x ∷ []) rises = (Contains-none x, tt)
different_rising (x ∷ y ∷ xs) rises = (λ at. let l = first_below x (y ∷ xs) rises x at in omega (arith, l), different_rising (y ∷ xs) rises.1)

-- ---- labels around a node
module _ (a M p N : ℕ) (hyper : IdHypergraph) where
  pub of_one : (labels : List ℕ) → Has (virtual_identifiers a M p N hyper).active labels → IsConfig a (M * N) (sorted labels) × (are_of_one M (sorted labels) ≡ true)
  of_one labels has =
      let (listed, test) = Contains-filter_cases (are_of_one M) (multisets a 0 (M * N)) (sorted labels) has in
      (((multisets_law a (M * N)).1 (sorted labels)).0 listed, test)

  pub around_one : (labels : List ℕ) → Has (virtual_identifiers a M p N hyper).active labels → (y z : ℕ) → In y labels → In z labels → y / M ≡ z / M
  around_one labels has y z i j =
      one_of_one M (sorted labels) (of_one labels has).1 y z (Contains-Rearranged y (Rearranged-sorted labels) (In-Contains y labels i)) (Contains-Rearranged z (Rearranged-sorted labels) (In-Contains z labels j))

  pub around_different : (labels : List ℕ) → Has (virtual_identifiers a M p N hyper).active labels → AreDifferent labels
  around_different labels has =
      different_Rearranged (Rearranged-sym (Rearranged-sorted labels)) (different_rising (sorted labels) (rises_of_one M (sorted labels) (of_one labels has).1))

-- ---- the labels of an identifier at some ports
abbrev pub labels_of : ℕ → ℕ → List ℕ → List ℕ
labels_of M x ports = map (λ i. x * M + i) ports

of_one_labels : (M x : ℕ) (ports : List ℕ) → IsLabelSet M ports → are_of_one M (labels_of M x ports) ≡ true
of_one_labels M x [] set = refl
of_one_labels M x (i ∷ []) set = refl
of_one_labels M x (i ∷ j ∷ ports) set =
    let low : i < j = set.0.0 in
    let first : (x * M + i) / M ≡ x = div-mul-add x M i set.1.0 in
    let second : (x * M + j) / M ≡ x = div-mul-add x M j set.1.1.0 in
    let same : eqb ((x * M + i) / M) ((x * M + j) / M) ≡ true = rw (first, second) (eqb-same x) in
    true-and (ltb (x * M + i) (x * M + j) && eqb ((x * M + i) / M) ((x * M + j) / M)) (are_of_one M (labels_of M x (j ∷ ports)))
    (true-and (ltb (x * M + i) (x * M + j)) (eqb ((x * M + i) / M) ((x * M + j) / M)) (true-below (x * M + i) (x * M + j) (omega (arith, low))) same)
    (of_one_labels M x (j ∷ ports) (set.0.1, set.1.1))

pub labels_rise : (M x : ℕ) (ports : List ℕ) → IsRising (λ i j. i < j) ports → IsRising (λ u v. u ≤ v) (labels_of M x ports)
labels_rise M x [] rises = tt
labels_rise M x (i ∷ []) rises = tt
labels_rise M x (i ∷ j ∷ ports) rises = (let l = rises.0 in omega (arith, l), labels_rise M x (j ∷ ports) rises.1)

labels_low : (M N x : ℕ) (ports : List ℕ) → x < N → AllByRecursion (λ i. i < M) ports → AllByRecursion (λ u. u < M * N) (labels_of M x ports)
labels_low M N x [] l low = tt
labels_low M N x (i ∷ ports) l low = (mul-add-lt x M i N l low.0, labels_low M N x ports l low.1)

-- an identifier may stand at an active node with any of its ports
pub ports_there : (a M p N : ℕ) (hyper : IdHypergraph) (x : ℕ) (ports : List ℕ) → length ports ≡ a → IsLabelSet M ports → x < N → Contains (virtual_identifiers a M p N hyper).active.configs (labels_of M x ports)
ports_there a M p N hyper x ports count set l =
    Contains-filter (are_of_one M) (multisets a 0 (M * N)) (labels_of M x ports)
    (((multisets_law a (M * N)).1 (labels_of M x ports)).1 (record { count = length-map ports (λ i. x * M + i) ∙ count; below = labels_low M N x ports l set.1; ascends = labels_rise M x ports set.0 }))
    (of_one_labels M x ports set)
