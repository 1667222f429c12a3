use Rattle.std.proofs.Common.{◌≡◌, ◌∙◌, ap, length, refl, subst, Bool, ℕ}
use Rattle.std.specs.Prelude.{◌&&◌, ◌↔◌, IsTrue}
use Rattle.std.specs.List.{list_all}
use Rattle.re_problem.specs.Steps.{SetEntry}
use Rattle.re_check.specs.StepClauses.{HasNextLabels}
use Rattle.re_check.specs.Clauses.{have_labels, is_filled}
use Rattle.re_check.proofs.StepTests.{labels-test}
use Rattle.re_check.proofs.step.have_labels.Goals as goal

pub returns-then-have_next_labels-clause-test : goal.returns-then-have_next_labels-clause-test
returns-then-have_next_labels-clause-test c =
    let n : c.len.result ≡ length c.args.next.now.names = c.len.ensures.len ∙ ap length c.names.ensures.names in
    let tells = subst (λ (k : ℕ). IsTrue c.have_next_labels.result ↔ HasNextLabels k c.args.entries.now) n c.have_next_labels.ensures in
    subst (λ (b : Bool). (b && c.are_filled.result) ≡ have_labels c.args.before.now c.args.next.now c.args.entries.now) c.if-have_next_labels.true
    (labels-test c.args.before.now c.args.next.now c.args.entries.now c.have_next_labels.result c.are_filled.result tells c.are_filled.ensures)

pub returns-else-have_next_labels-clause-test : goal.returns-else-have_next_labels-clause-test
returns-else-have_next_labels-clause-test c =
    let n : c.len.result ≡ length c.args.next.now.names = c.len.ensures.len ∙ ap length c.names.ensures.names in
    let tells = subst (λ (k : ℕ). IsTrue c.have_next_labels.result ↔ HasNextLabels k c.args.entries.now) n c.have_next_labels.ensures in
    let all = list_all (λ (entry : SetEntry). is_filled c.args.before.now entry.set) c.args.entries.now in
    c.if-have_next_labels.false
    ∙ subst (λ (b : Bool). (b && all) ≡ have_labels c.args.before.now c.args.next.now c.args.entries.now) c.if-have_next_labels.false
    (labels-test c.args.before.now c.args.next.now c.args.entries.now c.have_next_labels.result all tells refl)
