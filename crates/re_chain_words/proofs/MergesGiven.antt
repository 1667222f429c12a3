-- A chain whose labels are merged is what the word gives, and else the line of a limit.
use Rattle.std.proofs.Common.{◌≡◌, ℕ, None, Some, sym, ap, ◌∙◌}
use Rattle.re_cert.specs.Bounds.{Bound}
use Rattle.re_shaping.specs.Merging.{merge_limit, merge_refusal, merged}
use Rattle.re_chains.specs.OverChains.{certificate_outcome}
use Rattle.re_frame.specs.Outcomes.{limit}
use Rattle.re_limits.specs.StepLimits.{limit_line}
use Rattle.re_step.specs.declared.derivation.StepLimit.{StepLimit}
use Rattle.re_chain_words.specs.Shapings.{label_in, merge_outcome, or_merge_line, refusal_line}
use Rattle.re_chain_words.specs.declared.labels.LabelWord.{LabelWord}

module _ (x y : LabelWord) (chain : Bound) (from to : ℕ) (f : from ≡ label_in chain x) (t : to ≡ label_in chain y) (may : merge_refusal from to chain ≡ None) where
  free : merge_refusal (label_in chain x) (label_in chain y) chain ≡ None
  free = (λ i. merge_refusal (sym f i) (sym t i) chain) ∙ may

  pub merge_given : (given : Bound) → merge_limit from to chain ≡ None → given ≡ merged from to chain → certificate_outcome given ≡ merge_outcome x y chain
  unfolding merge_outcome
  merge_given given within is =
      let small : merge_limit (label_in chain x) (label_in chain y) chain ≡ None = (λ i. merge_limit (sym f i) (sym t i) chain) ∙ within in
      ap certificate_outcome (is ∙ (λ i. merged (f i) (t i) chain))
      ∙ (λ i. or_merge_line (refusal_line x y (label_in chain x)) (sym free i) (sym small i) (merged (label_in chain x) (label_in chain y) chain))

  pub merge_limited : (passed : StepLimit) → merge_limit from to chain ≡ Some passed → limit (limit_line 1 passed) ≡ merge_outcome x y chain
  unfolding merge_outcome
  merge_limited passed told =
      let large : merge_limit (label_in chain x) (label_in chain y) chain ≡ Some passed = (λ i. merge_limit (sym f i) (sym t i) chain) ∙ told in
      (λ i. or_merge_line (refusal_line x y (label_in chain x)) (sym free i) (sym large i) (merged (label_in chain x) (label_in chain y) chain))
