use Rattle.std.proofs.Common.{◌≡◌, Some, None, cond, length, ap, sym, ◌∙◌, true}
use Rattle.std.specs.Prelude.{is_none}
use Rattle.re_step.specs.Derivations.{Derivation}
use Rattle.re_labels.specs.GoodRows.{max_rows, max_sets}
use Rattle.re_shaping.specs.Along.{map_along, step_along}
use Rattle.re_shaping.proofs.along.step_to.Goals as goal

pub returns : goal.returns
returns c =
    let before = c.args.before.now in
    let made = c.derived.view_is ∙ c.in-Ok.ensures.derived in
    let sets : c.derived.inside.sets.items ≡ max_sets before.passive (length before.names) = ap (λ (d : Derivation). d.sets) made in
    let rows : c.derived.inside.rows.items ≡ max_rows before.passive (length before.names) = ap (λ (d : Derivation). d.rows) made in
    let map = c.in_ok-map.ensures ∙ (λ i. map_along c.args.by_rows ((c.as_slice.ensures.value ∙ sets) i) ((c.as_slice-2.ensures.value ∙ rows) i) (c.as_slice-3.ensures.value i)) in
    (λ i. Some (record { lower = true; next = c.args.stop.problem; rows = rows i; map = map i }))
    ∙ ap (λ o. cond (is_none o) (Some (step_along c.args.by_rows before c.args.stop)) None) (sym c.in-Ok.ensures.none)
