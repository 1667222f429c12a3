use Rattle.std.proofs.Common.{◌≡◌, ◌<◌, ◌∙◌, ◌∷◌, ◌++◌, [], Err, List, ℕ, ap, length, refl, subst, sym}
use Rattle.std.specs.List.{AllByRecursion}
use Rattle.re_labels.specs.Configs.{sorted}
use Rattle.re_labels.specs.Orders.{placements}
use Rattle.re_families.proofs.Listing.{passed}
use Rattle.re_inputs.proofs.PairingLemmas.{at_end, at_start, come_to, map-listed, one_more, order_count, order_low, order_places, too_many}
use Rattle.re_inputs.specs.Pairings.{beside_in}
use Rattle.re_labels.specs.ListSets.{list_set}
use Rattle.re_labels.specs.declared.TheConstants.{MAX_LABELS}
use Rattle.re_labels.specs.declared.constraint_table.InsertFault.TheVariants.{TooManyConfigurations}
use Rattle.re_labels.specs.declared.constraint_table.TheConstants.{MAX_CONFIGURATIONS}
use Rattle.re_inputs.proofs.pairing.put_pairings.Goals as goal

pub loop-order-init : goal.loop-order-init
loop-order-init c = record {
  degree = refl;
  all = c.into_iter-order-iterator.ensures.into_iter_gives ∙ c.new-order-items.ensures ∙ ap (λ (labels : List ℕ). placements (length labels)) c.labels-xs.ensures.labels;
  configs = at_start (λ order. sorted (beside_in c.args.m c.args.first.now c.args.second.now order) ∷ []) c.args.constraint.now.configs c.degree-degree.ensures.constraint.ascends;
}

pub paired-pairs-requires-clause-xs : goal.paired-pairs-requires-clause-xs
paired-pairs-requires-clause-xs c = subst (AllByRecursion (λ x. x < c.args.n)) (sym c.labels-xs.ensures.labels) c.requires.first.below

pub paired-pairs-requires-clause-ys : goal.paired-pairs-requires-clause-ys
paired-pairs-requires-clause-ys c = subst (AllByRecursion (λ y. y < c.args.m)) (sym c.labels-ys.ensures.labels) c.requires.second.below

pub paired-pairs-requires-clause-places : goal.paired-pairs-requires-clause-places
paired-pairs-requires-clause-places c =
    let at = come_to (placements (length c.args.first.now)) c.loop-order.yielded c.loop-order.order-iterator c.next.new.self c.in-Some.order c.loop-order.invariant.all c.in-Some.ensures.steps in
    let low = order_places c.args.constraint.now.degree c.args.n c.args.m c.args.first.now c.args.second.now c.requires.first c.requires.second c.in-Some.order at in
    subst (λ (ys : List ℕ). AllByRecursion (λ place. place < length ys) c.places.result.now) (sym c.labels-ys.ensures.labels)
    (subst (AllByRecursion (λ place. place < length c.args.second.now)) (sym c.places.ensures.places) low)

pub put_labels-requires-clause-degree : goal.put_labels-requires-clause-degree
put_labels-requires-clause-degree c =
    let at = come_to (placements (length c.args.first.now)) c.loop-order.yielded c.loop-order.order-iterator c.next.new.self c.in-Some.order c.loop-order.invariant.all c.in-Some.ensures.steps in
    let pairs : c.as_slice.result.now ≡ beside_in c.args.m c.args.first.now c.args.second.now c.in-Some.order =
    c.as_slice.ensures.value ∙ c.paired-pairs.ensures ∙ (λ i. beside_in c.args.m (c.labels-xs.ensures.labels i) (c.labels-ys.ensures.labels i) (c.places.ensures.places i)) in
    ap length pairs ∙ order_count c.args.constraint.now.degree c.args.n c.args.m c.args.first.now c.args.second.now c.requires.first c.requires.second c.in-Some.order at ∙ sym c.loop-order.invariant.degree

pub put_labels-requires-clause-below : goal.put_labels-requires-clause-below
put_labels-requires-clause-below c =
    let at = come_to (placements (length c.args.first.now)) c.loop-order.yielded c.loop-order.order-iterator c.next.new.self c.in-Some.order c.loop-order.invariant.all c.in-Some.ensures.steps in
    let pairs : c.as_slice.result.now ≡ beside_in c.args.m c.args.first.now c.args.second.now c.in-Some.order =
    c.as_slice.ensures.value ∙ c.paired-pairs.ensures ∙ (λ i. beside_in c.args.m (c.labels-xs.ensures.labels i) (c.labels-ys.ensures.labels i) (c.places.ensures.places i)) in
    subst (AllByRecursion (λ label. label < MAX_LABELS)) (sym pairs)
    (order_low c.args.constraint.now.degree c.args.n c.args.m c.args.first.now c.args.second.now c.requires.first c.requires.second c.in-Some.order at c.requires.few)

pub loop-order-preserved : goal.loop-order-preserved
loop-order-preserved c =
    let pairs : c.as_slice.result.now ≡ beside_in c.args.m c.args.first.now c.args.second.now c.in-Some.order =
    c.as_slice.ensures.value ∙ c.paired-pairs.ensures ∙ (λ i. beside_in c.args.m (c.labels-xs.ensures.labels i) (c.labels-ys.ensures.labels i) (c.places.ensures.places i)) in
    record {
      degree = c.put_labels.ensures.degree ∙ c.loop-order.invariant.degree;
      all = passed (placements (length c.args.first.now)) c.loop-order.yielded c.loop-order.order-iterator c.next.new.self c.in-Some.order c.loop-order.invariant.all c.in-Some.ensures.steps;
      configs = one_more (λ order. sorted (beside_in c.args.m c.args.first.now c.args.second.now order) ∷ []) c.args.constraint.now.configs (placements (length c.args.first.now)) c.loop-order.yielded
          c.loop-order.order-iterator c.loop-order.constraint.configs c.loop-order.invariant.all c.loop-order.invariant.configs c.in-Some.order c.put_labels.new.constraint.configs
          (c.in-Ok.ensures.configs ∙ ap (λ labels. list_set (c.loop-order.constraint.configs ++ sorted labels ∷ [])) pairs);
    }

pub returns-in-Err-clause-many : goal.returns-in-Err-clause-many
returns-in-Err-clause-many c = λ many.
    let is : c.in-Err.fault ≡ TooManyConfigurations = cc in
    let pairs : c.as_slice.result.now ≡ beside_in c.args.m c.args.first.now c.args.second.now c.in-Some.order =
    c.as_slice.ensures.value ∙ c.paired-pairs.ensures ∙ (λ i. beside_in c.args.m (c.labels-xs.ensures.labels i) (c.labels-ys.ensures.labels i) (c.places.ensures.places i)) in
    subst (λ configs. MAX_CONFIGURATIONS < length (list_set (c.args.constraint.now.configs ++ configs)))
    (map-listed (λ order. sorted (beside_in c.args.m c.args.first.now c.args.second.now order)) (placements (length c.args.first.now)))
    (too_many (λ order. sorted (beside_in c.args.m c.args.first.now c.args.second.now order) ∷ []) c.args.constraint.now.configs (placements (length c.args.first.now)) c.loop-order.yielded c.loop-order.order-iterator
    c.loop-order.constraint.configs c.loop-order.invariant.all c.loop-order.invariant.configs c.in-Some.order c.next.new.self c.in-Some.ensures.steps
    (subst (λ labels. MAX_CONFIGURATIONS < length (list_set (c.loop-order.constraint.configs ++ sorted labels ∷ []))) pairs (c.in-Err.ensures.many (ap Err is))))

pub returns-clause-configs : goal.returns-clause-configs
returns-clause-configs c =
    at_end (λ order. sorted (beside_in c.args.m c.args.first.now c.args.second.now order) ∷ []) c.args.constraint.now.configs (placements (length c.args.first.now)) c.loop-order.yielded c.loop-order.order-iterator
    c.loop-order.constraint.configs c.loop-order.invariant.all c.loop-order.invariant.configs c.in-None.ensures.steps.0
    ∙ ap (λ configs. list_set (c.args.constraint.now.configs ++ configs)) (map-listed (λ order. sorted (beside_in c.args.m c.args.first.now c.args.second.now order)) (placements (length c.args.first.now)))
