use Rattle.std.proofs.Common.{subst, ◌∙◌}
use Rattle.std.proofs.lemmas.Result.{IfOk-weaker}
use Rattle.re_chains.specs.OverChains.{GivesSound, ReadsSound}
use Rattle.re_chain_words.specs.Answers.{shaped}
use Rattle.re_frame.specs.Outcomes.{outcome_of}
use Rattle.re_chain_words.proofs.answering.shape_output.Goals as goal

pub returns-in-Chain-clause-text : goal.returns-in-Chain-clause-text
returns-in-Chain-clause-text c =
    let read = subst (ReadsSound c.args.text.now) c.in-Chain.is c.in_ok-chain.ensures in
    IfOk-weaker c.shaped_output.result _ _ (λ output gives. subst (λ chain. GivesSound (shaped c.args.shaping.now chain) (outcome_of output)) (c.certificate.ensures.same ∙ read.0) gives) c.shaped_output.ensures.text
