use Rattle.std.proofs.Common.{◌≡◌, ◌<◌, ◌∙◌, ap, length, subst, sym, ℕ}
use Rattle.std.specs.List.{AllByRecursion}
use Rattle.std.specs.Prelude.{IfOk, Option}
use Rattle.re_why.specs.Finding.{row_witness}
use Rattle.re_why.specs.declared.witness.Witness.{Witness}
use Rattle.re_labels.specs.Constraints.{Constraint}
use Rattle.re_why.proofs.Dispatch.{rows-degree}
use Rattle.re_why.proofs.finding.wrong_rows.Goals as goal
use Rattle.re_labels.proofs.ConstraintImages.{configs-below}

pub row_witness-requires-clause-degrees : goal.row_witness-requires-clause-degrees
row_witness-requires-clause-degrees c = subst (λ (k : Constraint). AllByRecursion (λ row. length row ≡ k.degree) c.args.rows.now) (sym c.passive.ensures.passive) (rows-degree c.args.before.now c.args.rows.now c.requires.fits)

pub row_witness-requires-clause-below : goal.row_witness-requires-clause-below
row_witness-requires-clause-below c =
    let n : c.len-labels.result ≡ length c.args.before.now.names = c.len-labels.ensures.len ∙ ap length c.names.ensures.names in
    subst (λ (k : ℕ). AllByRecursion (AllByRecursion (λ label. label < k)) c.passive.result.now.configs) (sym n)
    (subst (λ (k : Constraint). AllByRecursion (AllByRecursion (λ label. label < length c.args.before.now.names)) k.configs) (sym c.passive.ensures.passive) (configs-below (length c.args.before.now.names) c.args.before.now.passive c.passive.ensures.problem.problem.passive))

pub returns : goal.returns
returns c =
    let n : c.len-labels.result ≡ length c.args.before.now.names = c.len-labels.ensures.len ∙ ap length c.names.ensures.names in
    subst (λ (k : ℕ). IfOk c.row_witness.result (λ (witness : Option Witness). witness ≡ row_witness c.args.before.now.passive k c.args.rows.now)) n
    (subst (λ (k : Constraint). IfOk c.row_witness.result (λ (witness : Option Witness). witness ≡ row_witness k c.len-labels.result c.args.rows.now)) c.passive.ensures.passive c.row_witness.ensures)
