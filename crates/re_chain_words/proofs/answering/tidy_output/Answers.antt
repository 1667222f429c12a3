use Rattle.std.proofs.Common.{ap, subst, ◌∙◌}
use Rattle.std.proofs.lemmas.Result.{IfOk-weaker}
use Rattle.re_shaping.specs.Tidied.{tidied}
use Rattle.re_chains.specs.OverChains.{GivesText}
use Rattle.re_frame.specs.Outcomes.{outcome_of}
use Rattle.re_chain_words.proofs.answering.tidy_output.Goals as goal

pub returns-in_ok-tidied-in-Ok-clause-text : goal.returns-in_ok-tidied-in-Ok-clause-text
returns-in_ok-tidied-in-Ok-clause-text c =
    IfOk-weaker c.certificate_output.result _ _
    (λ output gives. subst (λ b. GivesText b (outcome_of output)) (c.in_ok-tidied-in-Ok.ensures ∙ ap tidied c.in-Ok.ensures.1) gives)
    c.certificate_output.ensures.text
