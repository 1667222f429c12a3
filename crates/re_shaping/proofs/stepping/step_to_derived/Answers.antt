use Rattle.std.proofs.Common.{◌∙◌}
use Rattle.re_cert.specs.Bounds.{is_lower, map_of}
use Rattle.re_shaping.proofs.OwnEntries.{lower-made, made-row_sets, upper-made}
use Rattle.re_shaping.proofs.stepping.step_to_derived.Goals as goal

pub lower_map-requires : goal.lower_map-requires
lower_map-requires c =
    made-row_sets c.args.problem.now _ (c.derived.view_is ∙ c.requires.derived) c.as_slice-then-has_lower_steps.result.now c.as_slice.result.now c.in_ok-entries.entries.items
    c.as_slice-then-has_lower_steps.ensures.value c.as_slice.ensures.value c.in_ok-entries.ensures

pub returns-then-has_lower_steps : goal.returns-then-has_lower_steps
returns-then-has_lower_steps c =
    lower-made c.args.problem.now _ (c.derived.view_is ∙ c.requires.derived) (is_lower c.args.kind) c.args.by_row c.as_slice-then-has_lower_steps.result.now c.as_slice.result.now c.in_ok-entries.entries.items (map_of c.in_ok-map.map)
    c.as_slice-then-has_lower_steps.ensures.value c.as_slice.ensures.value c.in_ok-entries.ensures c.in_ok-map.ensures c.if-has_lower_steps.ensures

pub returns : goal.returns
returns c =
    upper-made c.args.problem.now _ (c.derived.view_is ∙ c.requires.derived) (is_lower c.args.kind) c.args.by_row c.as_slice.result.now c.in_ok-entries.entries.items
    c.as_slice.ensures.value c.in_ok-entries.ensures c.if-has_lower_steps.ensures
