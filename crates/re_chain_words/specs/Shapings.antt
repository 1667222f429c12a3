-- What the words that shape the last problem give.
use Rattle.std.specs.Prelude.{ℕ, ◌==◌, List, ◌++◌, codes, if◌then◌else◌, Option, None, Some}
use Rattle.re_labels.specs.Lists.{place_of}
use Rattle.re_cert.specs.Bounds.{Bound, last_problem}
use Rattle.re_frame.specs.Outcomes.{Outcome, limit, refused}
use Rattle.re_frame.specs.SearchLines.{not_lower_line, not_upper_line}
use Rattle.re_limits.specs.StepLimits.{limit_line}
use Rattle.re_step.specs.declared.derivation.StepLimit.{StepLimit}
use Rattle.re_shaping.specs.Dropping.{drop_refusal, dropped}
use Rattle.re_shaping.specs.Merging.{merge_limit, merge_refusal, merged}
use Rattle.re_shaping.specs.Naming.{name_refusal, named}
use Rattle.re_shaping.specs.declared.refusal.Refusal.{Refusal}
use Rattle.re_shaping.specs.declared.refusal.Refusal.TheVariants.{NotALabel, NotLower, NotUpper, NoStep, Same, Taken}
use Rattle.re_chains.specs.OverChains.{certificate_outcome}
use Rattle.re_chain_words.specs.LabelWords.{given_text}
use Rattle.re_chain_words.specs.declared.labels.LabelWord.{LabelWord}

-- the label of the last problem that a word gives, or the number of labels where it gives none
abbrev pub label_in : Bound → LabelWord → ℕ
label_in chain label = place_of (last_problem chain).names label.name

-- the line of a refusal of what words ask of x, which is this label, and y
abbrev pub refusal_line : LabelWord → LabelWord → ℕ → Refusal → List ℕ
refusal_line x y from NotLower = not_lower_line
refusal_line x y from NotUpper = not_upper_line
refusal_line x y from NoStep = codes "no: no step\n"
refusal_line x y from (NotALabel label) = codes "no: not a label: " ++ given_text (if label == from then x else y) ++ codes "\n"
refusal_line x y from Same = codes "no: not a label: " ++ given_text x ++ codes "\n"
refusal_line x y from Taken = codes "no: taken: " ++ given_text y ++ codes "\n"

-- the line of a refusal, and where there is none the text of the chain
abbrev pub or_line : (Refusal → List ℕ) → Option Refusal → Bound → Outcome
or_line line (Some refusal) chain = refused (line refusal)
or_line line None chain = certificate_outcome chain

-- the line of a refusal, else that of a limit of the first step, and where there is neither the text of the chain
abbrev pub or_merge_line : (Refusal → List ℕ) → Option Refusal → Option StepLimit → Bound → Outcome
or_merge_line line (Some refusal) passed chain = refused (line refusal)
or_merge_line line None (Some passed) chain = limit (limit_line 1 passed)
or_merge_line line None None chain = certificate_outcome chain

-- the chain with y in place of x
unfoldable pub merge_outcome : LabelWord → LabelWord → Bound → Outcome
merge_outcome x y chain =
    or_merge_line (refusal_line x y (label_in chain x)) (merge_refusal (label_in chain x) (label_in chain y) chain) (merge_limit (label_in chain x) (label_in chain y) chain)
    (merged (label_in chain x) (label_in chain y) chain)

-- the chain with the name y for x
unfoldable pub name_outcome : LabelWord → LabelWord → Bound → Outcome
name_outcome x y chain = or_line (refusal_line x y (label_in chain x)) (name_refusal (label_in chain x) y.name chain) (named (label_in chain x) y.name chain)

-- the chain without x
unfoldable pub drop_outcome : LabelWord → Bound → Outcome
drop_outcome x chain = or_line (refusal_line x x (label_in chain x)) (drop_refusal (label_in chain x) chain) (dropped (label_in chain x) chain)
