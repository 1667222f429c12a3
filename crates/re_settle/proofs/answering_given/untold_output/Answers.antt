use Rattle.std.proofs.Common.{◌∙◌, ap}
use Rattle.std.proofs.lemmas.Result.{IfOk-weaker}
use Rattle.re_chains.specs.ChainTexts.{problem_chain}
use Rattle.re_frame.specs.Outcomes.{outcome_of}
use Rattle.re_settle.proofs.GivenKnown.{untold_says}
use Rattle.re_settle.proofs.answering_given.untold_output.Goals as goal

pub returns : goal.returns
returns c =
    IfOk-weaker c.given_verdict_output.result _ _
    (λ output e. untold_says c.args.problem.now c.args.input.now c.problem_chain-chain.result.certificate (outcome_of output) c.requires.input (c.problem_chain-chain.ensures ∙ ap problem_chain c.in_ok-copy.ensures) c.requires.untold (e ∙ c.in_ok-verdict.ensures.outcome))
    c.given_verdict_output.ensures
