-- A list of one label, over and over.
use Rattle.std.proofs.Common.{◌≡◌, ℕ, zero, suc, ◌≤◌, true, false, cond, eqb, ltb, List, [], ◌∷◌, replicate, refl, ap, ◌∙◌, arith}
use Rattle.std.proofs.lemmas.Bool.{le-ltb}
use Rattle.re_labels.proofs.Tests.{eqb-same}
use Rattle.re_labels.specs.Configs.{support_of}
use Rattle.re_labels.specs.Lists.{IsRising}
use Rattle.re_labels.specs.Sets.{with_label}

-- it rises, as a configuration does
pub alike_rise : (d x : ℕ) → IsRising (λ x y. x ≤ y) (replicate d x)
alike_rise zero x = tt
alike_rise (suc zero) x = tt
alike_rise (suc (suc d)) x = (omega arith, alike_rise (suc d) x)

-- and its labels are the one
twice : (x : ℕ) → with_label (x ∷ []) x ≡ x ∷ []
twice x =
    let below : ltb x x ≡ false = le-ltb x x (omega arith) in
    λ i. cond (below i) (x ∷ x ∷ []) (cond (eqb-same x i) (x ∷ []) (x ∷ x ∷ []))

pub alike_support : (d x : ℕ) → support_of (replicate (suc d) x) ≡ x ∷ []
alike_support zero x = refl
alike_support (suc d) x = ap (λ s. with_label s x) (alike_support d x) ∙ twice x
