use Rattle.std.proofs.Common.{[], refl, subst, sym}
use Rattle.std.proofs.lemmas.Result.{IfOk-weaker}
use Rattle.re_chains.specs.Chains.{IsSound, IsSoundChain, chain_with}
use Rattle.re_chains.proofs.WordsGiven.{sound_given}
use Rattle.re_frame.specs.Outcomes.{outcome_of}
use Rattle.re_chain_words.proofs.answering.begun_output.Goals as goal

pub returns-clause-text : goal.returns-clause-text
returns-clause-text c =
    let sound : IsSoundChain c.built-chain.result = record {
      bound = c.kind-kind.ensures.bound;
      problems = c.over_problems.ensures;
      sound = subst IsSound (sym c.built-chain.ensures) refl;
    } in
    IfOk-weaker c.certificate_output.result _ _
    (λ output gives. sound_given c.built-chain.result c.built-chain.result (chain_with c.args.kind c.args.problem []) (outcome_of output) refl c.built-chain.ensures sound gives)
    c.certificate_output.ensures.text
