use Rattle.std.proofs.Common.{◌≡◌, ◌<◌, sym, subst, MatchBool}
use Rattle.std.specs.List.{AllByRecursion}
use Rattle.re_boxes.proofs.BoxLaw.{boxes_law}
use Rattle.re_check.proofs.Judged.{boxed}
use Rattle.re_check.proofs.Walks.{weaker}
use Rattle.re_boxes.proofs.UpSets.{constraint_below}
use Rattle.re_boxes.specs.HeldStrength.{ups_in}
use Rattle.re_labels.specs.GoodRows.{max_rows}
use Rattle.re_check.proofs.judging.are_maximal_rows.Goals as goal
use Rattle.re_labels.proofs.Tests.{not_told}

pub returns-then-not-are_ascending : goal.returns-then-not-are_ascending
returns-then-not-are_ascending c = λ e.
    let fine = constraint_below c.args.constraint.now c.args.labels c.degree-degree.ensures.constraint c.requires.below in
    let is = (boxes_law c.args.constraint.now (ups_in c.of-strength.result.ups.items) c.args.labels c.args.rows.now fine c.of-strength.ensures.strong).1 e in
    not_told c.are_ascending.result c.are_ascending.ensures c.if-not-are_ascending.true is.ascends

pub returns-then-not-are_apart : goal.returns-then-not-are_apart
returns-then-not-are_apart c = λ e.
    let fine = constraint_below c.args.constraint.now c.args.labels c.degree-degree.ensures.constraint c.requires.below in
    let is = (boxes_law c.args.constraint.now (ups_in c.of-strength.result.ups.items) c.args.labels c.args.rows.now fine c.of-strength.ensures.strong).1 e in
    not_told c.are_apart.result c.are_apart.ensures c.if-not-are_apart.true is.apart

pub are_configs_dominated-requires-clause-below : goal.are_configs_dominated-requires-clause-below
are_configs_dominated-requires-clause-below c = subst (λ m. AllByRecursion (AllByRecursion (λ x. x < m)) c.args.constraint.now.configs) (sym c.of-strength.ensures.labels) c.requires.below

pub returns : goal.returns
returns c =
    let n = c.of-strength.result.labels in
    let same : n ≡ c.args.labels = c.of-strength.ensures.labels in
    let ups = ups_in c.of-strength.result.ups.items in
    let rows = c.args.rows.now in
    let fine = constraint_below c.args.constraint.now n c.degree-degree.ensures.constraint (subst (λ m. AllByRecursion (AllByRecursion (λ x. x < m)) c.args.constraint.now.configs) (sym same) c.requires.below) in
    subst (λ m. MatchBool c.are_rows_covered.result (rows ≡ max_rows c.args.constraint.now m) (rows ≡ max_rows c.args.constraint.now m → ⊥)) same
    (weaker c.args.constraint.now n rows c.are_rows_covered.result (λ covered. (boxes_law c.args.constraint.now ups n rows fine c.of-strength.ensures.strong).0
    (boxed c.args.constraint.now ups n rows c.if-not-are_up_rows.ensures (c.are_ascending.ensures.0 c.if-not-are_ascending.false) (c.are_apart.ensures.0 c.if-not-are_apart.false)
    c.if-not-are_configs_dominated.ensures covered)) c.are_rows_covered.ensures)
