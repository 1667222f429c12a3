-- The ports of a node whose neighbours differ, and configurations at them.
use Rattle.std.proofs.Common.{◌≡◌, ℕ, zero, suc, ◌<◌, eqb, List, [], ◌∷◌, length, map, get_or, refl, sym, ap, ◌∙◌, subst, arith}
use Rattle.std.specs.Prelude.{Contains}
use Rattle.std.specs.List.{AllByRecursion}
use Rattle.std.proofs.lemmas.Bool.{eq-eqb, ne_eqb}
use Rattle.std.proofs.lemmas.List.{ext_get_or, get_or-map, length-map, map-id}
use Rattle.std.proofs.lemmas.List.Concat.{flat_map_single}
use Rattle.std.proofs.lemmas.List.Elements.{Contains-get_or}
use Rattle.std.proofs.lemmas.List.Sums.{position_or_len_is}
use Rattle.re_labels.proofs.Sorting.{sorted-Rearranged}
use Rattle.re_labels.specs.Rearranging.{Rearranged}
use Rattle.re_forests.proofs.Filled.{port}
use Rattle.re_labels.proofs.Membership.{AllByRecursion-contains}
use Rattle.re_layers.specs.Networks.{AreDifferent, IsForest, Network}
use Rattle.re_labels.specs.Constraints.{Constraint, Has}

-- the place of a member
pub placed : (near : List ℕ) (w : ℕ) → Contains near w → (k : ℕ) × (k < length near) × (get_or near k 0 ≡ w)
placed [] w (k, low, is) = absurd (omega arith)
placed (u ∷ near) w (zero, low, is) = (zero, low, is)
placed (u ∷ near) w (suc k, low, is) = let (j, less, at) = placed near w (k, omega arith, is) in (suc j, omega arith, at)

apart_at : (near : List ℕ) (j k : ℕ) → AreDifferent near → j < k → k < length near → get_or near j 0 ≡ get_or near k 0 → ⊥
apart_at [] j k differ less low e = absurd (omega arith)
apart_at (u ∷ near) j zero differ less low e = absurd (omega arith)
apart_at (u ∷ near) zero (suc k) differ less low e = differ.0 (subst (Contains near) (sym e) (Contains-get_or near k 0 (omega arith)))
apart_at (u ∷ near) (suc j) (suc k) differ less low e = apart_at near j k differ.1 (omega arith) (omega arith) e

pub port_at : (near : List ℕ) (k : ℕ) → AreDifferent near → k < length near → port near (get_or near k 0) ≡ k
port_at near k differ low =
    position_or_len_is (λ w. eqb w (get_or near k 0)) near k 0 (omega arith)
    (λ j less. ne_eqb (get_or near j 0) (get_or near k 0) (apart_at near j k differ less low)) (λ _. eq-eqb (get_or near k 0) (get_or near k 0) refl)

-- the labels at the ports are all the labels, in order
pub at_ports : (near labels : List ℕ) → AreDifferent near → length labels ≡ length near → map (λ v. get_or labels (port near v) 0) near ≡ labels
at_ports near labels differ count =
    let sizes : length (map (λ v. get_or labels (port near v) 0) near) ≡ length near = length-map near (λ v. get_or labels (port near v) 0) in
    ext_get_or 0 (map (λ v. get_or labels (port near v) 0) near) labels (sizes ∙ sym count) (λ k low.
    let less : k < length near = omega (arith, sizes, low) in
    get_or-map (λ v. get_or labels (port near v) 0) near k 0 0 less ∙ ap (λ j. get_or labels j 0) (port_at near k differ less))

-- the label at a port is of the set where all are
pub label_of_set : (set near labels : List ℕ) (w : ℕ) → AreDifferent near → length labels ≡ length near → AllByRecursion (λ z. Contains set z) labels → Contains near w
    → Contains set (get_or labels (port near w) 0)
label_of_set set near labels w differ count all held =
    let (k, low, e) = placed near w held in
    let f : port near w ≡ k = subst (λ v. port near v ≡ k) e (port_at near k differ low) in
    subst (λ j. Contains set (get_or labels j 0)) (sym f)
    (AllByRecursion-contains (λ z. Contains set z) labels (get_or labels k 0) all (Contains-get_or labels k 0 (omega (arith, count))))

-- the neighbours of a node of a forest differ
pub near_differ : {a p N : ℕ} (G : Network) → IsForest a p N G → (v : ℕ) → AreDifferent (G.near v)
near_differ G forest v =
    subst AreDifferent (flat_map_single (λ w. w) (G.near v) ∙ map-id (G.near v)) (forest.acyclic v 1).1

-- ---- configurations
pub Has-Rearranged : (constraint : Constraint) {labels others : List ℕ} → Rearranged labels others → Has constraint labels → Has constraint others
Has-Rearranged constraint moved has = subst (Contains constraint.configs) (sorted-Rearranged moved) has
