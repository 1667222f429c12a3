use Rattle.std.proofs.Common.{◌∙◌, sym}
use Rattle.re_check.proofs.StepTests.{below-all, not_below, rows-test}
use Rattle.re_check.proofs.step.keep_rows.Goals as goal

pub keeps_rows-requires-clause-labels : goal.keeps_rows-requires-clause-labels
keeps_rows-requires-clause-labels c = below-all c.args.entries.now (sym c.have_labels_below.ensures ∙ c.if-have_labels_below.true)

pub returns-then-have_labels_below-clause-test : goal.returns-then-have_labels_below-clause-test
returns-then-have_labels_below-clause-test c = rows-test c.args.active.now c.args.rows.now c.args.entries.now c.keeps_rows.result c.keeps_rows.ensures

pub returns-then-have_labels_below-clause-below : goal.returns-then-have_labels_below-clause-below
returns-then-have_labels_below-clause-below c = λ t. below-all c.args.entries.now (sym c.have_labels_below.ensures ∙ c.if-have_labels_below.true)

pub returns-else-have_labels_below-clause-test : goal.returns-else-have_labels_below-clause-test
returns-else-have_labels_below-clause-test c =
    c.if-have_labels_below.false ∙ not_below c.args.active.now c.args.rows.now c.args.entries.now c.degree-degree.ensures.constraint c.requires (sym c.have_labels_below.ensures ∙ c.if-have_labels_below.false)
