use Rattle.std.proofs.Common.{subst}
use Rattle.std.proofs.lemmas.Result.{IfOk-weaker}
use Rattle.re_frame.proofs.Said.{said}
use Rattle.re_frame.specs.Outcomes.{outcome_of}
use Rattle.re_step.proofs.SetLemmas.{if_ok_three}
use Rattle.re_bridge_words.specs.Answers.{MayGive}
use Rattle.re_bridge_words.proofs.Outcomes.{word_says}
use Rattle.re_bridge_words.proofs.words.BridgeWordFinding.find.Goals as goal

pub returns-clause-output : goal.returns-clause-output
returns-clause-output c =
    if_ok_three c.output_for.result (λ output one worth no. subst (λ bytes. MayGive c.args.self.now bytes (outcome_of output)) c.as_slice.ensures.value (record { one = one; worth = worth; no = no }))
    c.output_for.ensures.output c.output_for.ensures.text c.output_for.ensures.no

pub returns-clause-says : goal.returns-clause-says
returns-clause-says c = IfOk-weaker c.output_for.result _ _ (λ output e. said output _ _ e (word_says c.args.self.now _)) c.output_for.ensures.output
