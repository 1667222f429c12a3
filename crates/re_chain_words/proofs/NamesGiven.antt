-- A chain in whose last problem a label has another name is what the word gives.
use Rattle.std.proofs.Common.{◌≡◌, ℕ, None, sym, ap, ◌∙◌}
use Rattle.re_cert.specs.Bounds.{Bound}
use Rattle.re_shaping.specs.Naming.{name_refusal, named}
use Rattle.re_chains.specs.OverChains.{certificate_outcome}
use Rattle.re_chain_words.specs.Shapings.{label_in, name_outcome, or_line, refusal_line}
use Rattle.re_chain_words.specs.declared.labels.LabelWord.{LabelWord}

pub name_given : (x y : LabelWord) (chain : Bound) (from : ℕ) (given : Bound) → from ≡ label_in chain x → name_refusal from y.name chain ≡ None → given ≡ named from y.name chain
    → certificate_outcome given ≡ name_outcome x y chain
unfolding name_outcome
name_given x y chain from given at may is =
    ap certificate_outcome (is ∙ ap (λ label. named label y.name chain) at)
    ∙ ap (λ refusal. or_line (refusal_line x y (label_in chain x)) refusal (named (label_in chain x) y.name chain)) (sym (ap (λ label. name_refusal label y.name chain) (sym at) ∙ may))
