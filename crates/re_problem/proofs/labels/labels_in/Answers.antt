use Rattle.std.proofs.Common.{◌≡◌, ◌<◌, ◌∷◌, ◌++◌, [], None, arith, drop, length, refl}
use Rattle.std.specs.Prelude.{Contains, slice_range}
use Rattle.re_problem.proofs.HeldLabels.{label_lacks, label_read, nothing_in_front}
use Rattle.std.proofs.lemmas.Bool.{false≢true}
use Rattle.re_problem.specs.Items.{labels_from, labels_of}
use Rattle.re_labels.proofs.LabelPlaces.{place_of-below}
use Rattle.re_labels.specs.Lists.{place_of}
use Rattle.re_problem.proofs.labels.labels_in.Goals as goal

pub labels-init : goal.labels-init
labels-init c = (omega arith, [], record { whole = nothing_in_front (labels_of c.args.text.now); held = refl; set = c.empty-labels.ensures })

pub returns-in-None : goal.returns-in-None
returns-in-None c =
    label_lacks c.args.names.now c.args.text.now c.labels.invariant.1 c.labels.labels (slice_range c.args.text.now c.in-Label.from c.in-Label.to) (labels_from None (drop c.in-Label.next c.args.text.now))
    (labels_from None (drop c.labels.at c.args.text.now)) c.in-Label.ensures.0
    (λ held. absurd (false≢true (c.in-None.ensures.held.1 held))) c.labels.invariant.2

pub insert-labels-requires : goal.insert-labels-requires
insert-labels-requires c =
    let held : Contains c.args.names.now (slice_range c.args.text.now c.in-Label.from c.in-Label.to) = c.in-Some.ensures.held.0 refl in
    let below = place_of-below c.args.names.now (slice_range c.args.text.now c.in-Label.from c.in-Label.to) held in
    let place : c.in-Some.label ≡ place_of c.args.names.now (slice_range c.args.text.now c.in-Label.from c.in-Label.to) = c.in-Some.ensures.place in
    let few : length c.args.names.now < 129 = omega (arith, c.len-count.ensures.names.few) in
    omega arith

pub labels-preserved : goal.labels-preserved
labels-preserved c = (
  c.in-Label.ensures.2,
  c.labels.invariant.1 ++ slice_range c.args.text.now c.in-Label.from c.in-Label.to ∷ [],
  label_read c.args.names.now c.args.text.now c.labels.invariant.1 c.labels.labels (slice_range c.args.text.now c.in-Label.from c.in-Label.to) c.in-Some.label
      (labels_from None (drop c.in-Label.next c.args.text.now)) (labels_from None (drop c.labels.at c.args.text.now)) c.insert-labels.result c.in-Label.ensures.0
      (c.in-Some.ensures.held.0 refl) c.in-Some.ensures.place c.insert-labels.ensures c.labels.invariant.2,
)
