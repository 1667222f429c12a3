use Rattle.std.proofs.Common.{◌≡◌, None, Some, map, sym, ap, ◌∙◌}
use Rattle.re_labels.proofs.Sorting.{take_all}
use Rattle.re_labels.specs.Rows.{row_of}
use Rattle.re_labels.specs.declared.TheConstants.{MAX_LABELS}
use Rattle.re_closure_laws.specs.Lines.{labels_within, row_within}
use Rattle.re_closure.proofs.RowLemmas.{row_is}
use Rattle.re_closure.proofs.rows.row_of.Goals as goal

pub unreachable-requires : goal.unreachable-requires
unreachable-requires c =
    let sets = c.as_slice.ensures.value ∙ c.loop-set.invariant ∙ ap (map (labels_within c.args.sets.now)) (take_all c.sets-set-items.result.now c.loop-set.set-index c.loop-set-test.false ∙ c.sets-set-items.ensures.sets) in
    let there : None ≡ Some (row_within c.args.sets.now c.args.line.now) =
    sym c.in-None.is ∙ c.from_sets.ensures ∙ ap (row_of MAX_LABELS) sets ∙ row_is c.args.sets.now c.args.line.now c.requires.two c.sets-set-items.ensures.six c.requires.few c.requires.there in
    cc

pub returns : goal.returns
returns c =
    let sets = c.as_slice.ensures.value ∙ c.loop-set.invariant ∙ ap (map (labels_within c.args.sets.now)) (take_all c.sets-set-items.result.now c.loop-set.set-index c.loop-set-test.false ∙ c.sets-set-items.ensures.sets) in
    let there : Some c.in-Some.row ≡ Some (row_within c.args.sets.now c.args.line.now) =
    sym c.in-Some.is ∙ c.from_sets.ensures ∙ ap (row_of MAX_LABELS) sets ∙ row_is c.args.sets.now c.args.line.now c.requires.two c.sets-set-items.ensures.six c.requires.few c.requires.there in
    cc
