-- What may be given to a chain that was judged.
use Rattle.std.proofs.Common.{◌≡◌, ℕ, List, length, Option, Result, Ok, Err, sym, subst}
use Rattle.std.specs.Prelude.{IfOk}
use Rattle.re_cert.specs.Bounds.{Bound, last_problem}
use Rattle.re_chains.specs.HeldBounds.{held_bound}
use Rattle.re_chains.specs.declared.chains.Chain.{Chain}
use Rattle.re_chains.specs.declared.chains.Chain.TheVariants.{Lower, Upper}
use Rattle.re_chains.specs.declared.one_kind.LowerChain.{LowerChain}
use Rattle.re_chains.specs.declared.one_kind.UpperChain.{UpperChain}
use Rattle.re_chains.specs.OverChains.{IsJudged, steps_refusal}
use Rattle.re_check.specs.declared.verdict.Verdict.{Verdict}
use Rattle.re_closure.specs.ClosureWords.{MayFindBy, MayGiveAt, MayGiveSound}
use Rattle.re_closure.specs.DiagramTexts.{AreEdges}
use Rattle.re_frame.specs.Check.{verdict_outcome}
use Rattle.re_frame.specs.Outcomes.{Outcome, refused}
use Rattle.re_frame.specs.SearchLines.{not_lower_line}
use Rattle.re_settings.specs.declared.setting.Setting.{Setting}

module _ (given : Bound) (diagram : Option (List (ℕ × ℕ))) (more : ℕ) (setting : Setting) (outcome : Outcome) where
  pub lower_may : (chain : LowerChain) → IsJudged given (Ok (Lower chain)) → MayFindBy diagram more setting chain.certificate outcome → MayGiveSound (steps_refusal given) diagram more setting given outcome
  lower_may chain is may =
      subst (λ refusal. MayGiveSound refusal diagram more setting given outcome) (sym is.1)
      (subst (λ (b : Bound). MayGiveAt b.kind diagram more setting b outcome) is.0 (subst (λ k. MayGiveAt k diagram more setting chain.certificate outcome) (sym chain.chain.lower) may))

  pub upper_may : (chain : UpperChain) → IsJudged given (Ok (Upper chain)) → outcome ≡ refused not_lower_line → MayGiveSound (steps_refusal given) diagram more setting given outcome
  upper_may chain is e =
      subst (λ refusal. MayGiveSound refusal diagram more setting given outcome) (sym is.1)
      (subst (λ (b : Bound). MayGiveAt b.kind diagram more setting b outcome) is.0 (subst (λ k. MayGiveAt k diagram more setting chain.certificate outcome) (sym chain.chain.upper) e))

  pub refused_may : (verdict : Verdict) → IsJudged given (Err verdict) → outcome ≡ verdict_outcome verdict → MayGiveSound (steps_refusal given) diagram more setting given outcome
  refused_may verdict is e = subst (λ refusal. MayGiveSound refusal diagram more setting given outcome) (sym is) e

-- edges of the chain are edges of what was judged
pub judged_edges : (given : Bound) (judged : Result Chain Verdict) (edges : List (ℕ × ℕ)) → IsJudged given judged → AreEdges (length (last_problem given).names) edges
    → IfOk judged (λ chain. AreEdges (length (last_problem (held_bound chain)).names) edges)
judged_edges given (Ok chain) edges is are = subst (λ (b : Bound). AreEdges (length (last_problem b).names) edges) (sym is.0) are
judged_edges given (Err verdict) edges is are = tt
