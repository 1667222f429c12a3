use Rattle.std.proofs.Common.{◌≡◌, ◌∙◌, Some, inr, length, subst, sym}
use Rattle.std.proofs.lemmas.Result.{IfOk-weaker}
use Rattle.re_cert.specs.Bounds.{Bound, last_problem}
use Rattle.re_chains.specs.OverChains.{steps_refusal}
use Rattle.re_closure.proofs.Judged.{judged_edges}
use Rattle.re_closure.specs.ClosureWords.{MayGiveRead, MayGiveSound}
use Rattle.re_closure.specs.DiagramTexts.{AreEdges, diagram_edges, front_chain}
use Rattle.re_settings.specs.declared.setting.Setting.TheVariants.{Alone}
use Rattle.re_frame.specs.Outcomes.{outcome_of}
use Rattle.re_closure.proofs.answering.cut_output.Goals as goal

pub diagram_output-requires : goal.diagram_output-requires
diagram_output-requires c =
    judged_edges c.in-Ok.text.chain c.judged_chain.result c.as_slice.result.now c.judged_chain.ensures (subst (AreEdges (length (last_problem c.in-Ok.text.chain).names)) (sym c.as_slice.ensures.value) c.in-Ok.ensures.edges)

pub returns-in-Ok : goal.returns-in-Ok
returns-in-Ok c = λ text is.
    let read = c.in-Ok.ensures.text text is in
    let edges : c.as_slice.result.now ≡ diagram_edges text = c.as_slice.ensures.value ∙ read.2 in
    IfOk-weaker c.diagram_output.result _ _
    (λ output may. subst (λ fault. MayGiveRead fault (Some (diagram_edges text)) c.args.steps Alone (front_chain text) (outcome_of output)) (sym read.0)
    (inr (
      tt,
      subst (λ (b : Bound). MayGiveSound (steps_refusal b) (Some (diagram_edges text)) c.args.steps Alone b (outcome_of output)) read.1
          (subst (λ e. MayGiveSound (steps_refusal c.in-Ok.text.chain) (Some e) c.args.steps Alone c.in-Ok.text.chain (outcome_of output)) edges may),
    ))) (c.diagram_output.ensures c.in-Ok.text.chain c.judged_chain.ensures)
