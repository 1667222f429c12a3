use Rattle.std.proofs.Common.{sym, subst}
use Rattle.re_labels.specs.Rows.{Dominates}
use Rattle.re_boxes.proofs.HeldSets.{seen}
use Rattle.re_boxes.proofs.indexing.is_seen_dominated.Goals as goal

pub returns-then-found_holds : goal.returns-then-found_holds
returns-then-found_holds c = λ e.
    let d = c.found_holds.ensures c.if-found_holds.true in
    seen c.args.rows.now c.args.sets.now c.large_first-hard.result.items d.0 d.1 c.large_first-hard.ensures
    (subst (Dominates d.0) c.as_slice-in-Some.ensures.value d.2)
