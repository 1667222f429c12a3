use Rattle.std.proofs.Common.{◌∙◌}
use Rattle.std.proofs.lemmas.Result.{IfOk-weaker}
use Rattle.re_shaping.specs.Naming.{named}
use Rattle.re_chains.proofs.WordsGiven.{sound_given}
use Rattle.re_chain_words.proofs.NamesGiven.{name_given}
use Rattle.re_frame.specs.Outcomes.{outcome_of}
use Rattle.re_chain_words.proofs.shaping.name_output.Goals as goal

pub returns-in-Ok-clause-output : goal.returns-in-Ok-clause-output
returns-in-Ok-clause-output c =
    IfOk-weaker c.certificate_output.result _ _
    (λ output e. e ∙ name_given c.args.label.now c.args.name.now c.args.chain.now c.label_in-from.result c.in-Ok.named c.label_in-from.ensures c.in-Ok.ensures.may c.in-Ok.ensures.named)
    c.certificate_output.ensures.outcome

pub returns-in-Ok-clause-text : goal.returns-in-Ok-clause-text
returns-in-Ok-clause-text c =
    let chain = c.args.chain.now in
    IfOk-weaker c.certificate_output.result _ _
    (λ output gives. sound_given c.in-Ok.named (named c.label_in-from.result c.args.name.now.name chain) _ (outcome_of output) c.in-Ok.ensures.named
    (λ i. named (c.label_in-from.ensures i) c.args.name.now.name chain) (c.name_law.ensures chain _ _ c.requires c.text-name.ensures.name c.in-Ok.ensures.may) gives)
    c.certificate_output.ensures.text
