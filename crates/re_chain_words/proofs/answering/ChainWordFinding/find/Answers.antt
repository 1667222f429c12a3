use Rattle.std.proofs.Common.{subst}
use Rattle.std.proofs.lemmas.Result.{IfOk-weaker}
use Rattle.re_chains.proofs.WordsGiven.{both_ok}
use Rattle.re_frame.proofs.Said.{said}
use Rattle.re_frame.specs.Outcomes.{outcome_of}
use Rattle.re_chain_words.specs.Answers.{MayGive}
use Rattle.re_chain_words.proofs.WordsSay.{word_says}
use Rattle.re_chain_words.proofs.answering.ChainWordFinding.find.Goals as goal

pub returns-clause-output : goal.returns-clause-output
returns-clause-output c = both_ok _ _ _ c.output_for.result c.output_for.ensures.output c.output_for.ensures.text (λ output one worth. subst (λ bytes. MayGive c.args.self.now bytes (outcome_of output)) c.as_slice.ensures.value (record { one = one; worth = worth }))

pub returns-clause-says : goal.returns-clause-says
returns-clause-says c = IfOk-weaker c.output_for.result _ _ (λ output e. said output _ _ e (word_says c.args.self.now _)) c.output_for.ensures.output
