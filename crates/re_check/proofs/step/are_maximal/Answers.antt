use Rattle.std.proofs.Common.{◌≡◌, ◌∙◌, ap, length, subst, ℕ}
use Rattle.std.specs.Prelude.{MatchBool}
use Rattle.re_labels.specs.Constraints.{Constraint}
use Rattle.re_labels.specs.GoodRows.{max_rows}
use Rattle.re_check.proofs.StepTests.{maximal-test}
use Rattle.re_check.proofs.step.are_maximal.Goals as goal

pub returns : goal.returns
returns c =
    let n : c.len-labels.result ≡ length c.args.before.now.names = c.len-labels.ensures.len ∙ ap length c.names.ensures.names in
    let told = subst (λ (k : ℕ). MatchBool c.are_maximal_rows.result (c.args.rows.now ≡ max_rows c.passive.result.now k) (c.args.rows.now ≡ max_rows c.passive.result.now k → ⊥)) n c.are_maximal_rows.ensures in
    maximal-test c.args.before.now c.args.rows.now c.are_maximal_rows.result
    (subst (λ (k : Constraint). MatchBool c.are_maximal_rows.result (c.args.rows.now ≡ max_rows k (length c.args.before.now.names)) (c.args.rows.now ≡ max_rows k (length c.args.before.now.names) → ⊥)) c.passive.ensures.passive told)
