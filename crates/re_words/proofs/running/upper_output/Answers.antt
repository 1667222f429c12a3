use Rattle.std.proofs.Common.{◌∙◌, List, ap, length, refl, subst, sym, ℕ}
use Rattle.std.proofs.lemmas.Result.{IfOk-weaker}
use Rattle.re_problem.specs.NamedProblems.{NamedProblem}
use Rattle.re_net.specs.RunReading.{text_of}
use Rattle.re_net.specs.Runs.{Comes, messages_of, standings_of}
use Rattle.re_net.specs.declared.runs.Run.{Run}
use Rattle.re_net.specs.declared.runs.Standing.{Standing}
use Rattle.re_words.specs.Running.{AreNamed, algorithm_of, delivered, nodes_from}
use Rattle.re_frame.specs.Outcomes.{done}
use Rattle.re_words.proofs.RunningLemmas.{run_lines, run_named, run_told}
use Rattle.re_words.proofs.running.upper_output.Goals as goal

pub nodes_output-requires : goal.nodes_output-requires
nodes_output-requires c =
    let input = c.args.input in
    let text = text_of input in
    let told = subst (λ (run : Run). Comes input.tree (length input.certificate.steps) text.deliveries (algorithm_of input.certificate) run) c.in-Legal.is
    (run_told text input.tree (length c.steps.result.now) c.as_slice.result.now (algorithm_of c.new-rule.result) c.in_ok-line.field-0 refl (ap length c.steps.ensures.steps) c.as_slice.ensures.value
    (ap algorithm_of c.new-rule.ensures) c.in_ok-line.ensures.run) in
    let names = c.in_ok-names.ensures ∙ c.names.ensures.names ∙ ap (λ (p : NamedProblem). p.names) c.first.ensures.first in
    subst (λ (l : List Standing). AreNamed c.in_ok-names.names l) (sym (c.as_slice-in-Legal.ensures.value ∙ told.1))
    (subst (λ (n : List (List ℕ)). AreNamed n (standings_of input.tree (length input.certificate.steps) (messages_of text.deliveries) (algorithm_of input.certificate))) (sym names)
    (run_named text (c.upper_steps.ensures c.requires.accepted.0 c.requires.accepted.1) c.len-nodes.ensures.tree c.requires.degrees))

pub returns : goal.returns
returns c =
    let input = c.args.input in
    let text = text_of input in
    let told = subst (λ (run : Run). Comes input.tree (length input.certificate.steps) text.deliveries (algorithm_of input.certificate) run) c.in-Legal.is
    (run_told text input.tree (length c.steps.result.now) c.as_slice.result.now (algorithm_of c.new-rule.result) c.in_ok-line.field-0 refl (ap length c.steps.ensures.steps) c.as_slice.ensures.value
    (ap algorithm_of c.new-rule.ensures) c.in_ok-line.ensures.run) in
    let names = c.in_ok-names.ensures ∙ c.names.ensures.names ∙ ap (λ (p : NamedProblem). p.names) c.first.ensures.first in
    IfOk-weaker c.nodes_output.result _ _
    (λ output e. e ∙ ((λ k. done (nodes_from (names k) 0 ((c.as_slice-in-Legal.ensures.value ∙ told.1) k))) ∙ (ap done (run_lines text) ∙ sym (ap (delivered text) told.0))))
    c.nodes_output.ensures
