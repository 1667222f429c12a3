-- Identifiers as an input problem, on trees in which a hypergraph says who may stand around a passive node.
use Rattle.std.specs.Prelude.{◌≡◌, ℕ, ◌+◌, ◌*◌, ◌/◌, ◌<◌, nat_lt, Bool, true, ◌&&◌, ◌==◌, List, [], ◌∷◌, length, map, filter}
use Rattle.std.specs.List.{AllByRecursion}
use Rattle.re_labels.specs.Configs.{sorted}
use Rattle.re_labels.specs.Orders.{multisets}
use Rattle.re_labels.specs.Lists.{count_from}
use Rattle.re_problem.specs.Problems.{Problem}

-- which labels of identifiers may stand around one passive node: labels, which ascend, are identifier * a + port
abbrev pub IdHypergraph : Type 0
IdHypergraph = List ℕ → Bool

-- the labels of an identifier, one for each of a ports
abbrev pub id_labels : ℕ → ℕ → List ℕ
id_labels a x = count_from (x * a) a

-- the labels that these identifiers of a ports have at these ports, one port of each
abbrev pub labels_at : ℕ → List ℕ → List ℕ → List ℕ
labels_at a [] ports = []
labels_at a (x ∷ ids) [] = []
labels_at a (x ∷ ids) (port ∷ ports) = (x * a + port) ∷ labels_at a ids ports

-- an active node has one of N identifiers, whose labels stand at its ports, and around a passive node stand p labels that the hypergraph joins
abbrev pub identifiers : ℕ → ℕ → ℕ → IdHypergraph → Problem
identifiers a p N hyper = record {
  labels = a * N;
  active = record { degree = a; configs = map (id_labels a) (count_from 0 N) };
  passive = record { degree = p; configs = filter hyper (multisets p 0 (a * N)) };
}

-- whether these are ascending labels of one identifier of M ports
abbrev pub are_of_one : ℕ → List ℕ → Bool
are_of_one M [] = true
are_of_one M (u ∷ []) = true
are_of_one M (u ∷ v ∷ labels) = nat_lt u v && u / M == v / M && are_of_one M (v ∷ labels)

-- an active node has one of N identifiers of M ports, and the labels of a different ones of these stand at its ports in any order; around a
-- passive node stand p labels that the hypergraph joins
abbrev pub virtual_identifiers : ℕ → ℕ → ℕ → ℕ → IdHypergraph → Problem
virtual_identifiers a M p N hyper = record {
  labels = M * N;
  active = record { degree = a; configs = filter (are_of_one M) (multisets a 0 (M * N)) };
  passive = record { degree = p; configs = filter hyper (multisets p 0 (M * N)) };
}

-- identifiers with this list, one for each of these ports, that the hypergraph joins by these ports
pub record AreAlike (a N : ℕ) (hyper : IdHypergraph) (list_of : ℕ → List ℕ) (list ports : List ℕ) : Type 0 where
  pub ids : List ℕ
  pub count : length ids ≡ length ports
  pub below : AllByRecursion (λ x. x < N) ids
  pub lists : AllByRecursion (λ x. list_of x ≡ list) ids
  pub joined : hyper (sorted (labels_at a ids ports)) ≡ true

-- however each identifier gets a list of a labels below n, those with some one list are joined by each p ports
abbrev pub JoinsAlike : ℕ → ℕ → ℕ → IdHypergraph → ℕ → Type 0
JoinsAlike a p N hyper n =
    (list_of : ℕ → List ℕ) → ((x : ℕ) → x < N → (length (list_of x) ≡ a) × AllByRecursion (λ y. y < n) (list_of x)) →
    (list : List ℕ) × ((ports : List ℕ) → length ports ≡ p → AllByRecursion (λ i. i < a) ports → AreAlike a N hyper list_of list ports)
