-- Runs of equal sets of a row.
use Rattle.std.specs.Prelude.{◌≡◌, ℕ, List, ◌∷◌, ◌++◌, drop}
use Rattle.re_problem.specs.CanonicalTexts.{Run, runs}
use Rattle.re_describe.specs.Pieces.{run_item_text}

-- the run of equal sets from one place to the next was appended
abbrev pub PushesRun : List (List ℕ) → List ℕ → ℕ → ℕ → List ℕ → List ℕ → Type 0
PushesRun names numbers at next old new =
    (run : Run) × (runs (drop at numbers) ≡ run ∷ runs (drop next numbers)) × (new ≡ old ++ run_item_text names run)
