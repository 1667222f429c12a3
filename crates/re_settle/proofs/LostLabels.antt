-- The labels that a set lacks, one after another.
use Rattle.std.proofs.Common.{◌≡◌, ℕ, zero, suc, ◌+◌, ◌-◌, Bool, true, false, List, [], ◌∷◌, ◌++◌, refl, sym, subst, arith}
use Rattle.std.specs.Prelude.{codes, not, if◌then◌else◌}
use Rattle.re_forest_words.specs.Answers.{labels_text}
use Rattle.re_labels.specs.Sets.{has}
use Rattle.re_texts.specs.SetTexts.{named_text}
use Rattle.re_settle.specs.Lines.{lost_from}

-- what is written of one label
abbrev pub lacking_text : List (List ℕ) → List ℕ → ℕ → List ℕ
lacking_text names kept label = if has kept label then codes "" else codes " " ++ named_text names label

lost_one : (names : List (List ℕ)) (label : ℕ) (rest : List ℕ) (b : Bool)
    → labels_text names (if not b then label ∷ rest else rest) ≡ (if b then codes "" else codes " " ++ named_text names label) ++ labels_text names rest
lost_one names label rest true = refl
lost_one names label rest false = refl

pub lost_step : (names : List (List ℕ)) (kept : List ℕ) (label more : ℕ) → (more ≡ 0 → ⊥)
    → labels_text names (lost_from kept label more) ≡ lacking_text names kept label ++ labels_text names (lost_from kept (label + 1) (more - 1))
lost_step names kept label zero some = absurd (some refl)
lost_step names kept label (suc k) some =
    let next : label + 1 ≡ suc label = omega arith in
    let less : suc k - 1 ≡ k = omega arith in
    subst (λ (n : ℕ). labels_text names (lost_from kept label (suc k)) ≡ lacking_text names kept label ++ labels_text names (lost_from kept n (suc k - 1))) (sym next)
    (subst (λ (m : ℕ). labels_text names (lost_from kept label (suc k)) ≡ lacking_text names kept label ++ labels_text names (lost_from kept (suc label) m)) (sym less)
    (lost_one names label (lost_from kept (suc label) k) (has kept label)))
