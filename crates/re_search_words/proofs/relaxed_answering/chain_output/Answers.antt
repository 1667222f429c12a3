use Rattle.std.proofs.Common.{subst, sym}
use Rattle.std.proofs.lemmas.Result.{IfOk-weaker}
use Rattle.re_cert.specs.declared.certificate.TheConstants.{MAX_STEPS}
use Rattle.re_chains.specs.HeldBounds.{held_bound}
use Rattle.re_chains.specs.declared.chains.Chain.{Chain}
use Rattle.re_frame.specs.Outcomes.{outcome_of}
use Rattle.re_settings.specs.declared.setting.Setting.TheVariants.{Alone}
use Rattle.re_search_words.specs.RelaxedWords.{looked_at}
use Rattle.re_search_words.specs.MayGive.{MayGiveAt}
use Rattle.re_search_words.specs.declared.words.SearchWord.TheVariants.{Cycle}
use Rattle.re_search_words.proofs.relaxed_answering.chain_output.Goals as goal

pub returns-in-Lower : goal.returns-in-Lower
returns-in-Lower c =
    IfOk-weaker c.relaxed_output.result _ _
    (λ output may. subst (λ (held : Chain). MayGiveAt (held_bound held).kind (Cycle MAX_STEPS 0 (looked_at c.args.word)) Alone (held_bound held) (outcome_of output)) (sym c.in-Lower.is)
    (subst (λ kind. MayGiveAt kind (Cycle MAX_STEPS 0 (looked_at c.args.word)) Alone c.in-Lower.chain.certificate (outcome_of output)) (sym c.in-Lower.chain.chain.lower) may))
    c.relaxed_output.ensures
