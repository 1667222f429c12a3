use Rattle.std.proofs.Common.{length, map, sym, ◌∙◌, ap, subst}
use Rattle.std.specs.List.{AllByRecursion}
use Rattle.re_labels.specs.declared.sides.Degrees.{Degrees}
use Rattle.re_problem.specs.NamedProblems.{unnamed}
use Rattle.re_algo.specs.Constructions.{IsSeen, faster_table, top_places}
use Rattle.re_algo.proofs.FasterCode.{faster_built, faster_solved, few_sets, no_fault, rows_are_seen, same_table}
use Rattle.re_algo.proofs.FitsCode.{answers_below}
use Rattle.re_step.specs.Derivations.{Derivation}
use Rattle.re_algo.proofs.speeding.faster.Goals as goal

pub seen_rows-requires-clause-below : goal.seen_rows-requires-clause-below
seen_rows-requires-clause-below c =
    let named = c.passive-passive.ensures.problem in
    answers_below (length c.args.problem.now.names) c.args.problem.now.active c.args.table.now.answers named.problem.active named.names.few
    (no_fault (unnamed c.args.problem.now) c.args.table.now c.radius-radius.ensures.table c.requires.active c.requires.passive c.requires.solves)

pub all_labels-requires-clause-few : goal.all_labels-requires-clause-few
all_labels-requires-clause-few c = rw (ap (λ (d : Derivation). d.sets) c.requires.derived) (few_sets (unnamed c.args.problem.now) c.derived.inside.problem c.names-names.ensures.problem (ap (λ (d : Derivation). d.problem) (c.derived.view_is ∙ c.requires.derived)))

pub all_labels-requires-clause-rows : goal.all_labels-requires-clause-rows
all_labels-requires-clause-rows c =
    let named = c.passive-passive.ensures.problem in
    subst (AllByRecursion (IsSeen c.args.derived.now.rows)) (sym c.as_slice.ensures.value) (rows_are_seen (unnamed c.args.problem.now) c.args.table.now named.problem named.names.few c.radius-radius.ensures.table c.requires.active c.requires.passive c.requires.rounds c.requires.solves c.in_ok-rows.rows.items c.in_ok-rows.ensures c.args.derived.now.rows (ap (λ (d : Derivation). d.rows) c.requires.derived))

pub unreachable-requires : goal.unreachable-requires
unreachable-requires c =
    let named = c.passive-passive.ensures.problem in
    let made = (faster_built (unnamed c.args.problem.now) c.args.table.now named.problem named.names.few c.radius-radius.ensures.table c.requires.active c.requires.passive c.requires.rounds c.requires.solves c.in_ok-rows.rows.items c.in_ok-rows.ensures c.swapped.result c.radius-radius.result c.in_ok-answers.answers.items c.args.derived.now.rows c.args.derived.now.sets (c.swapped.ensures.active ∙ ap (λ (d : Degrees). d.passive) c.degrees-degrees.ensures.degrees) (c.swapped.ensures.passive ∙ ap (λ (d : Degrees). d.active) c.degrees-degrees.ensures.degrees) c.radius-radius.ensures.radius
    (c.in_ok-answers.ensures ∙ ap (map (top_places c.args.derived.now.rows c.args.derived.now.sets)) c.as_slice.ensures.value) (ap (λ (d : Derivation). d.rows) c.requires.derived) (ap (λ (d : Derivation). d.sets) c.requires.derived)) in
    let none = c.in-None.is in let is = c.build.ensures in
    cc

pub returns-clause-table : goal.returns-clause-table
returns-clause-table c =
    let named = c.passive-passive.ensures.problem in
    same_table c.in-Some.less (faster_table (unnamed c.args.problem.now) c.args.table.now) (sym c.in-Some.is ∙ (c.build.ensures ∙ (faster_built (unnamed c.args.problem.now) c.args.table.now named.problem named.names.few c.radius-radius.ensures.table c.requires.active c.requires.passive c.requires.rounds c.requires.solves c.in_ok-rows.rows.items c.in_ok-rows.ensures c.swapped.result c.radius-radius.result c.in_ok-answers.answers.items c.args.derived.now.rows c.args.derived.now.sets (c.swapped.ensures.active ∙ ap (λ (d : Degrees). d.passive) c.degrees-degrees.ensures.degrees) (c.swapped.ensures.passive ∙ ap (λ (d : Degrees). d.active) c.degrees-degrees.ensures.degrees) c.radius-radius.ensures.radius
    (c.in_ok-answers.ensures ∙ ap (map (top_places c.args.derived.now.rows c.args.derived.now.sets)) c.as_slice.ensures.value) (ap (λ (d : Derivation). d.rows) c.requires.derived) (ap (λ (d : Derivation). d.sets) c.requires.derived))))

pub returns-clause-solves : goal.returns-clause-solves
returns-clause-solves c =
    let named = c.passive-passive.ensures.problem in
    faster_solved (unnamed c.args.problem.now) c.args.table.now named.problem named.names.few c.radius-radius.ensures.table c.requires.active c.requires.passive c.requires.rounds c.requires.solves c.in_ok-rows.rows.items c.in_ok-rows.ensures c.in-Some.less
    (same_table c.in-Some.less (faster_table (unnamed c.args.problem.now) c.args.table.now) (sym c.in-Some.is ∙ (c.build.ensures ∙ (faster_built (unnamed c.args.problem.now) c.args.table.now named.problem named.names.few c.radius-radius.ensures.table c.requires.active c.requires.passive c.requires.rounds c.requires.solves c.in_ok-rows.rows.items c.in_ok-rows.ensures c.swapped.result c.radius-radius.result c.in_ok-answers.answers.items c.args.derived.now.rows c.args.derived.now.sets (c.swapped.ensures.active ∙ ap (λ (d : Degrees). d.passive) c.degrees-degrees.ensures.degrees) (c.swapped.ensures.passive ∙ ap (λ (d : Degrees). d.active) c.degrees-degrees.ensures.degrees) c.radius-radius.ensures.radius
    (c.in_ok-answers.ensures ∙ ap (map (top_places c.args.derived.now.rows c.args.derived.now.sets)) c.as_slice.ensures.value) (ap (λ (d : Derivation). d.rows) c.requires.derived) (ap (λ (d : Derivation). d.sets) c.requires.derived)))))
