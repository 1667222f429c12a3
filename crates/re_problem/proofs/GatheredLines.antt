-- Lines that are gathered before they go to a text.
use Rattle.std.proofs.Common.{◌≡◌, ◌∙◌, ℕ, suc, ◌<◌, ◌≤◌, Bool, true, false, eqb, List, [], ◌∷◌, ◌++◌, length, map, drop, get_or, codes, sym, ap, arith, append_assoc}
use Rattle.std.specs.Prelude.{flat_map, if◌then◌else◌}
use Rattle.std.proofs.lemmas.List.{append-nil, drop_all}
use Rattle.re_problem.specs.CanonicalTexts.{Run, config_text, label_text, onto_runs, power_text, run_text, runs, spaced}
use Rattle.re_problem.specs.Printed.{PushesRun, word_text}

-- ---- runs, each with a space behind
abbrev pub begun_text : List (List ℕ) → List Run → List ℕ
begun_text names front = flat_map (λ run. run_text names run ++ codes " ") front

begun_spaced : (names : List (List ℕ)) (run : Run) (front : List Run) → begun_text names (run ∷ front) ≡ spaced (map (run_text names) (run ∷ front)) ++ codes " "
begun_spaced names run [] = append-nil (run_text names run ++ codes " ") ∙ ap (λ l. l ++ codes " ") (sym (append-nil (run_text names run)))
begun_spaced names run (next ∷ front) =
    ap (λ l. (run_text names run ++ codes " ") ++ l) (begun_spaced names next front)
    ∙ append_assoc (run_text names run) (codes " ") (spaced (map (run_text names) (next ∷ front)) ++ codes " ")
    ∙ sym (append_assoc (run_text names run) (codes " " ++ spaced (map (run_text names) (next ∷ front))) (codes " "))

onto_some : (x : ℕ) (all : List Run) → 0 < length (onto_runs x all)
onto_some x [] = omega arith
onto_some x (run ∷ all) = go (eqb x run.label)
  where
    go : (b : Bool) → 0 < length (if b then record { label = x; count = suc run.count } ∷ all else record { label = x; count = 1 } ∷ run ∷ all)
    go true = omega arith
    go false = omega arith

begun_config : (names : List (List ℕ)) (labels : List ℕ) → 0 < length labels → begun_text names (runs labels) ≡ config_text names labels ++ codes " "
begun_config names [] some = absurd (omega arith)
begun_config names (x ∷ labels) some = whole (runs (x ∷ labels)) (onto_some x (runs labels))
  where
    whole : (front : List Run) → 0 < length front → begun_text names front ≡ spaced (map (run_text names) front) ++ codes " "
    whole [] filled = absurd (omega arith)
    whole (run ∷ front) filled = begun_spaced names run front

-- ---- lines that grow by runs
-- a label, and then its power before the space behind it
pub run_added : (names : List (List ℕ)) (labels : List ℕ) (at next label count : ℕ) (old worded new : List ℕ)
    → runs (drop at labels) ≡ record { label = label; count = count } ∷ runs (drop next labels)
    → worded ≡ old ++ word_text (get_or names label [])
    → ((front : List ℕ) → worded ≡ front ++ codes " " → new ≡ front ++ power_text count ++ codes " ")
    → (front : List ℕ) × PushesRun names labels at next old front × (new ≡ front ++ codes " ")
run_added names labels at next label count old worded new made word power =
    let text = label_text (get_or names label []) in
    (old ++ text ++ power_text count, (record { label = label; count = count }, made, append_assoc old text (power_text count)), power (old ++ text) (word ∙ sym (append_assoc old text (codes " "))))

pub no_power : (count : ℕ) (front : List ℕ) → count ≡ 1 → front ++ codes " " ≡ front ++ power_text count ++ codes " "
no_power count front one = ap (λ l. l ++ codes " ") (sym (ap (λ n. front ++ power_text n) one ∙ append-nil front))

-- all runs
pub config_gathered : (names : List (List ℕ)) (labels old lines : List ℕ) (at : ℕ) → 0 < length labels → length labels ≤ at
    → lines ++ begun_text names (runs (drop at labels)) ≡ old ++ begun_text names (runs labels) → lines ≡ old ++ config_text names labels ++ codes " "
config_gathered names labels old lines at some past so_far =
    sym (append-nil lines)
    ∙ ap (λ l. lines ++ begun_text names (runs l)) (sym (drop_all at labels past))
    ∙ so_far
    ∙ ap (λ l. old ++ l) (begun_config names labels some)
    ∙ sym (append_assoc old (config_text names labels) (codes " "))
