use Rattle.std.proofs.Common.{◌≡◌, false, true, [], ap, sym, ◌∙◌}
use Rattle.re_problem.specs.Steps.LowerMap.{by_set}
use Rattle.re_changes.specs.Changes.{Changed, changed_by, unchanged}
use Rattle.re_changes.specs.declared.change.Change.TheVariants.{LeaveOut}
use Rattle.re_cert.specs.Bounds.{step_with}
use Rattle.re_shaping.proofs.DroppedParts.{dropped-is, labels-known}
use Rattle.re_shaping.proofs.dropping.dropped_step.Goals as goal

pub entries_left-requires : goal.entries_left-requires
entries_left-requires c =
    let shape : c.args.step.now ≡ record { lower = false; next = c.step.inside.next; rows = []; map = by_set c.in-Upper.map.items } = sym c.step.view_is ∙ ap (step_with c.step.inside.next) c.in-Upper.is in
    let made : c.in_ok-after.after ≡ changed_by (LeaveOut c.args.label) (unchanged c.args.step.now.next) =
    c.in_ok-after.ensures ∙ ap (changed_by (LeaveOut c.args.label)) (c.unchanged-before.ensures ∙ ap unchanged (c.in_ok-copy.ensures ∙ c.next.ensures)) in
    labels-known c.args.label c.args.step.now c.step.inside.next c.in-Upper.map.items c.as_slice.result.now c.images.result.now c.requires.below shape c.as_slice.ensures.value (c.images.ensures.images ∙ ap (λ (m : Changed). m.images) made)

pub unreachable-requires : goal.unreachable-requires
unreachable-requires c =
    let shape : c.args.step.now.lower ≡ true = (λ i. (sym c.step.view_is i).lower) ∙ ap (λ p. (step_with c.step.inside.next p).lower) c.in-Lower.is in
    let wrong : false ≡ true = sym c.requires.upper ∙ shape in
    cc

pub returns : goal.returns
returns c =
    let shape : c.args.step.now ≡ record { lower = false; next = c.step.inside.next; rows = []; map = by_set c.in-Upper.map.items } = sym c.step.view_is ∙ ap (step_with c.step.inside.next) c.in-Upper.is in
    let made : c.in_ok-after.after ≡ changed_by (LeaveOut c.args.label) (unchanged c.args.step.now.next) =
    c.in_ok-after.ensures ∙ ap (changed_by (LeaveOut c.args.label)) (c.unchanged-before.ensures ∙ ap unchanged (c.in_ok-copy.ensures ∙ c.next.ensures)) in
    dropped-is c.args.label c.args.step.now c.step.inside.next c.in-Upper.map.items c.as_slice.result.now c.images.result.now c.requires.below shape c.as_slice.ensures.value (c.images.ensures.images ∙ ap (λ (m : Changed). m.images) made)
    c.in_ok-next.next c.in_ok-map-in-Upper.map.items (c.in_ok-next.ensures ∙ c.problem.ensures ∙ ap (λ (m : Changed). m.problem) made) c.in_ok-map-in-Upper.ensures
