use Rattle.std.proofs.Common.{ap, sym, ◌∙◌}
use Rattle.std.proofs.lemmas.Result.{IfOk-weaker}
use Rattle.re_given_words.proofs.ProductMeaning.{reason_not_done}
use Rattle.re_bridge_words.proofs.GivenReductions.{product_text}
use Rattle.re_chains.proofs.WordsGiven.{both_ok}
use Rattle.re_bridge_words.specs.ReduceWords.{reduced_outcome, reduced_product}
use Rattle.re_bridge_words.specs.declared.answering.TheConstants.{MAX_TRIES}
use Rattle.re_bridge.specs.Reductions.{reduced_of}
use Rattle.re_frame.specs.Outcomes.{Outcome}
use Rattle.re_bridge_words.proofs.reducing.multiplied.Goals as goal

pub returns-in-Ok-clause-output : goal.returns-in-Ok-clause-output
returns-in-Ok-clause-output c =
    let problem = c.args.texts.now.problem in
    let input = c.args.texts.now.input in
    IfOk-weaker c.reduced_output.result _ _
    (λ output e. e ∙ ap (λ p. reduced_outcome (reduced_of p MAX_TRIES)) c.in-Ok.ensures.1 ∙ ap (reduced_product problem input) (sym c.in-Ok.ensures.0)) c.reduced_output.ensures.output

pub returns-in-Ok-clause-text : goal.returns-in-Ok-clause-text
returns-in-Ok-clause-text c =
    IfOk-weaker c.reduced_output.result _ _
    (λ output gives finished. product_text c.args.texts.now.problem c.args.texts.now.input c.in-Ok.made output.text.items c.names-names.ensures.problem c.names-labels.ensures.problem c.requires.input
    c.in-Ok.ensures.0 c.in-Ok.ensures.1 (gives finished)) c.reduced_output.ensures.text

pub returns-in-Err-clause-output : goal.returns-in-Err-clause-output
returns-in-Err-clause-output c =
    both_ok _ _ _ c.refusal_output.result c.refusal_output.ensures.output c.refusal_output.ensures.told
    (λ output e told. e ∙ sym (ap (reduced_product c.args.texts.now.problem c.args.texts.now.input) told))

pub returns-in-Err-clause-text : goal.returns-in-Err-clause-text
returns-in-Err-clause-text c =
    IfOk-weaker c.refusal_output.result _ _
    (λ output e finished. absurd (reason_not_done c.args.texts.now.problem c.args.texts.now.input c.in-Err.fault (sym (ap (λ (o : Outcome). o.status) e) ∙ finished))) c.refusal_output.ensures.output
