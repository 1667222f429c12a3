-- Texts of blocks.
use Rattle.std.specs.Prelude.{◌≡◌, ℕ, List, [], ◌∷◌, ◌++◌}

-- the text is what the blocks say, one behind the other
abbrev pub WritesBy : {B : Type 0} → (B → List ℕ → Type 0) → List B → List ℕ → Type 0
WritesBy Says [] text = text ≡ []
WritesBy Says (block ∷ blocks) text = (said : List ℕ) × (rest : List ℕ) × Says block said × WritesBy Says blocks rest × (text ≡ said ++ rest)
