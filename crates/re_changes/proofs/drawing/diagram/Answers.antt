use Rattle.std.proofs.Common.{◌≡◌, ap, length, sym, ◌∙◌}
use Rattle.re_labels.specs.Strength.{is_at_least_as_strong}
use Rattle.re_changes.proofs.Alike.{classes-drawn, edges-drawn, least-drawn, least-within}
use Rattle.re_changes.specs.Classes.{least_labels, strong_by}
use Rattle.re_changes.proofs.drawing.diagram.Goals as goal

pub classes_of-requires-clause-least : goal.classes_of-requires-clause-least
classes_of-requires-clause-least c =
    least-within (strong_by c.as_slice.result.now) (length c.as_slice.result.now) (length c.as_slice-2.result.now) c.as_slice-3.result.now
    (c.as_slice-3.ensures.value ∙ c.least_labels-least.ensures) (ap length (c.as_slice.ensures.value ∙ sym c.as_slice-2.ensures.value))

pub edges_of-requires-clause-least : goal.edges_of-requires-clause-least
edges_of-requires-clause-least c =
    least-within (strong_by c.as_slice.result.now) (length c.as_slice.result.now) (length c.as_slice-4.result.now) c.as_slice-5.result.now
    (c.as_slice-5.ensures.value ∙ c.least_labels-least.ensures) (ap length (c.as_slice.ensures.value ∙ sym c.as_slice-4.ensures.value))

pub returns : goal.returns
returns c =
    let least : c.as_slice-3.result.now ≡ least_labels (is_at_least_as_strong c.args.constraint.now) c.args.labels =
    c.as_slice-3.ensures.value ∙ least-drawn c.args.constraint.now c.args.labels c.as_slice.result.now c.least_labels-least.result.items (c.as_slice.ensures.value ∙ c.up_sets-ups.ensures) c.least_labels-least.ensures in
    let least_again : c.as_slice-5.result.now ≡ least_labels (is_at_least_as_strong c.args.constraint.now) c.args.labels =
    c.as_slice-5.ensures.value ∙ least-drawn c.args.constraint.now c.args.labels c.as_slice.result.now c.least_labels-least.result.items (c.as_slice.ensures.value ∙ c.up_sets-ups.ensures) c.least_labels-least.ensures in
    let classes = classes-drawn c.args.constraint.now c.args.labels c.as_slice-2.result.now c.as_slice-3.result.now c.in_ok-classes.classes.items (c.as_slice-2.ensures.value ∙ c.up_sets-ups.ensures) least c.in_ok-classes.ensures in
    let edges = edges-drawn c.args.constraint.now c.args.labels c.as_slice-4.result.now c.as_slice-5.result.now c.in_ok-edges.edges.items (c.as_slice-4.ensures.value ∙ c.up_sets-ups.ensures) least_again c.in_ok-edges.ensures in
    λ i. record { classes = classes i; edges = edges i }
