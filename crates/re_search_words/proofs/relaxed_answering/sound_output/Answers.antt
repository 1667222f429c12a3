use Rattle.std.proofs.Common.{subst, sym}
use Rattle.std.proofs.lemmas.Result.{IfOk-weaker}
use Rattle.re_cert.specs.Bounds.{Bound}
use Rattle.re_cert.specs.declared.certificate.TheConstants.{MAX_STEPS}
use Rattle.re_frame.specs.Outcomes.{outcome_of}
use Rattle.re_settings.specs.declared.setting.Setting.TheVariants.{Alone}
use Rattle.re_search_words.specs.RelaxedWords.{looked_at}
use Rattle.re_search_words.specs.MayGive.{MayGiveAt, MayGiveSound}
use Rattle.re_search_words.specs.declared.words.SearchWord.TheVariants.{Cycle}
use Rattle.re_search_words.proofs.relaxed_answering.sound_output.Goals as goal

pub returns-in-Ok : goal.returns-in-Ok
returns-in-Ok c =
    IfOk-weaker c.chain_output.result _ _
    (λ output may. subst (λ refusal. MayGiveSound refusal (Cycle MAX_STEPS 0 (looked_at c.args.word)) Alone c.args.chain (outcome_of output)) (sym c.in-Ok.ensures.1)
    (subst (λ (b : Bound). MayGiveAt b.kind (Cycle MAX_STEPS 0 (looked_at c.args.word)) Alone b (outcome_of output)) c.in-Ok.ensures.0 may))
    c.chain_output.ensures
