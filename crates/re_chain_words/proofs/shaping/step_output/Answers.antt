use Rattle.std.proofs.Common.{refl}
use Rattle.std.proofs.lemmas.Result.{IfOk-weaker}
use Rattle.re_shaping.specs.Stepped.{stepped}
use Rattle.re_chains.proofs.WordsGiven.{sound_given}
use Rattle.re_frame.specs.Outcomes.{outcome_of}
use Rattle.re_chain_words.proofs.shaping.step_output.Goals as goal

pub returns-in-Ok-clause-text : goal.returns-in-Ok-clause-text
returns-in-Ok-clause-text c =
    let chain = c.args.chain.now in
    IfOk-weaker c.certificate_output.result _ _
    (λ output gives. sound_given c.in-Ok.stepped (stepped chain) _ (outcome_of output) c.in-Ok.ensures.stepped refl (c.step_law.ensures chain c.requires c.in-Ok.ensures.none) gives)
    c.certificate_output.ensures.text
