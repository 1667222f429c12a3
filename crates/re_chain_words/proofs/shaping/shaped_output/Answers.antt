use Rattle.std.proofs.Common.{subst, sym}
use Rattle.std.proofs.lemmas.Result.{IfOk-weaker}
use Rattle.re_chains.specs.OverChains.{GivesSound}
use Rattle.re_chain_words.specs.Answers.{shaped}
use Rattle.re_frame.specs.Outcomes.{outcome_of}
use Rattle.re_chain_words.proofs.shaping.shaped_output.Goals as goal

pub returns-in-Name-clause-text : goal.returns-in-Name-clause-text
returns-in-Name-clause-text c =
    IfOk-weaker c.name_output.result _ _ (λ output gives. subst (λ shaping. GivesSound (shaped shaping c.args.chain.now) (outcome_of output)) (sym c.in-Name.is) gives) c.name_output.ensures.text

pub returns-in-Merge-clause-text : goal.returns-in-Merge-clause-text
returns-in-Merge-clause-text c =
    IfOk-weaker c.merge_output.result _ _ (λ output gives. subst (λ shaping. GivesSound (shaped shaping c.args.chain.now) (outcome_of output)) (sym c.in-Merge.is) gives) c.merge_output.ensures.text
