use Rattle.std.proofs.lemmas.Result.{IfOk-weaker}
use Rattle.re_shaping.specs.Dropping.{dropped}
use Rattle.re_chains.proofs.WordsGiven.{sound_given}
use Rattle.re_frame.specs.Outcomes.{outcome_of}
use Rattle.re_chain_words.proofs.shaping.drop_output.Goals as goal

pub returns-in-Ok-clause-text : goal.returns-in-Ok-clause-text
returns-in-Ok-clause-text c =
    let chain = c.args.chain.now in
    IfOk-weaker c.certificate_output.result _ _
    (λ output gives. sound_given c.in-Ok.dropped (dropped c.label_in-from.result chain) _ (outcome_of output) c.in-Ok.ensures.dropped
    (λ i. dropped (c.label_in-from.ensures i) chain) (c.drop_law.ensures chain _ c.requires c.in-Ok.ensures.may) gives)
    c.certificate_output.ensures.text
