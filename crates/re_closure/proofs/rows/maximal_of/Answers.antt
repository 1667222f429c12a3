use Rattle.std.proofs.Common.{◌≤◌, List, ℕ, length, subst}
use Rattle.std.specs.Prelude.{Contains, ◌↔◌}
use Rattle.re_step.proofs.SetLemmas.{if_ok_two}
use Rattle.std.proofs.lemmas.Result.{IfOk-weaker}
use Rattle.re_labels.specs.declared.TheConstants.{MAX_ROWS}
use Rattle.re_closure.proofs.RowLemmas.{are_maximal, as_few}
use Rattle.re_closure.specs.Sides.{family_of}
use Rattle.re_closure.proofs.rows.maximal_of.Goals as goal

pub returns-clause-rows : goal.returns-clause-rows
returns-clause-rows c =
    let family = family_of c.args.degree c.args.lines.now c.args.sets.now in
    if_ok_two c.without_repeats.result
    (λ once rises same. are_maximal family c.requires.family c.requires.apart c.in_ok-rows.rows.items c.in_order-all.result.items once.items c.in_ok-rows.ensures c.in_order-all.ensures.same
    (subst (λ l. (row : List (List ℕ)) → Contains once.items row ↔ Contains l row) c.as_slice.ensures.value same) rises)
    c.without_repeats.ensures.rises c.without_repeats.ensures.same

pub returns-clause-few : goal.returns-clause-few
returns-clause-few c =
    let family = family_of c.args.degree c.args.lines.now c.args.sets.now in
    IfOk-weaker c.without_repeats.result _ _
    (λ once few. as_few family c.requires.family c.requires.apart c.in_ok-rows.rows.items c.in_order-all.result.items once.items MAX_ROWS c.in_ok-rows.ensures c.in_order-all.ensures.same
    (subst (λ l. length once.items ≤ length l) c.as_slice.ensures.value few) c.requires.few_lines)
    c.without_repeats.ensures.few
