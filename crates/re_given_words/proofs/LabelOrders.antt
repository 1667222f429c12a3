-- Configurations in each order of their labels.
use Rattle.std.proofs.Common.{◌≡◌, ℕ, ◌<◌, List, map, length, sym, ◌∙◌, subst}
use Rattle.std.specs.Prelude.{Contains}
use Rattle.std.specs.List.{AllByRecursion, flat_map}
use Rattle.re_labels.specs.Configs.{IsConfig, image_at, sorted}
use Rattle.re_labels.specs.Constraints.{Constraint, Has}
use Rattle.re_labels.specs.Lists.{count_from}
use Rattle.re_labels.specs.Orders.{placements}
use Rattle.re_labels.specs.Rearranging.{Rearranged}
use Rattle.re_given_words.specs.Asking.{IsBad}
use Rattle.re_inputs.proofs.PairingLemmas.{all_places}
use Rattle.re_labels.proofs.Membership.{AllByRecursion-from_In, Contains-flat_map, Contains-map, In, In-Contains, In-map_from, length-count_from}
use Rattle.re_labels.proofs.Placing.{In-orders, Rearranged-orders, beside_map, from_beside}
use Rattle.re_labels.proofs.Rearranging.{Rearranged-map, Rearranged-sym, along}
use Rattle.re_labels.proofs.Sorting.{AllByRecursion-Rearranged, Rearranged-sorted, sorted-Rearranged, sorted_again}

-- the labels of the configuration in each order
abbrev pub orders_in : List ℕ → List (List ℕ)
orders_in config = map (λ places. map (image_at config) places) (placements (length config))

-- each order of the places gives the labels in another order, and each order of the labels comes from one of the places
Rearranged-order : (config places : List ℕ) → In places (placements (length config)) → Rearranged config (map (image_at config) places)
unfolding placements
Rearranged-order config places at =
    let moved = Rearranged-orders (length config) (count_from 0 (length config)) places (length-count_from 0 (length config)) at in
    subst (λ l. Rearranged l (map (image_at config) places)) (all_places config) (Rearranged-map (image_at config) moved)

order-Rearranged : (config labels : List ℕ) → Rearranged config labels → Contains (orders_in config) labels
unfolding placements
order-Rearranged config labels moved =
    let n = length config in
    let all : Rearranged (map (image_at config) (count_from 0 n)) labels = subst (λ l. Rearranged l labels) (sym (all_places config)) moved in
    let (places, ordered, beside) = along (λ i label. label ≡ image_at config i) all (count_from 0 n) (beside_map (image_at config) (count_from 0 n)) in
    let same : labels ≡ map (image_at config) places = from_beside (image_at config) places labels beside in
    subst (Contains (orders_in config)) (sym same)
    (Contains-map (λ places. map (image_at config) places) (placements n) places (In-Contains places (placements n) (In-orders n (count_from 0 n) places (length-count_from 0 n) ordered)))

-- all orders of labels that are a configuration
pub Has-ordered : (constraint : Constraint) (labels : List ℕ) → Has constraint labels → Contains (flat_map orders_in constraint.configs) labels
Has-ordered constraint labels held =
    Contains-flat_map orders_in constraint.configs (sorted labels) labels held (order-Rearranged (sorted labels) labels (Rearranged-sym (Rearranged-sorted labels)))

-- and all of labels that aren't
pub IsBad-ordered : (constraint : Constraint) (degree n : ℕ) (config : List ℕ) → IsConfig degree n config → (Contains constraint.configs config → ⊥) → AllByRecursion (IsBad constraint n) (orders_in config)
IsBad-ordered constraint degree n config is none = AllByRecursion-from_In (IsBad constraint n) (orders_in config) (λ tuple at.
    let (places, among, same) = In-map_from (λ places. map (image_at config) places) tuple (placements (length config)) at in
    let moved : Rearranged config tuple = subst (Rearranged config) (sym same) (Rearranged-order config places among) in
    (AllByRecursion-Rearranged (λ x. x < n) moved is.below, λ held. none (subst (Contains constraint.configs) (sym (sorted-Rearranged moved) ∙ sorted_again config is.ascends) held)))
