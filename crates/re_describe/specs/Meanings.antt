-- What a set of labels means, by its weakest labels.
use Rattle.std.specs.Prelude.{◌≡◌, ℕ, ◌≤◌, ◌↔◌, List}
use Rattle.re_boxes.specs.Boxes.{IsUp}
use Rattle.re_labels.specs.Sets.{IsIn, IsWithin}
use Rattle.re_describe.specs.declared.meanings.Meaning.{Meaning}
use Rattle.re_describe.specs.declared.meanings.Meaning.TheVariants.{Alone, Upwards}

-- the label is at least as strong as one of the set, where a label has ups of it as those at least as strong
abbrev pub IsAbove : (ℕ → List ℕ) → List ℕ → ℕ → Type 0
IsAbove ups set y = (x : ℕ) × IsIn x set × IsIn y (ups x)

-- labels of the set, none of them at least as strong as another one, such that the set has exactly the labels at least as strong as one of them; of equally
-- strong labels of the set the least one stands
pub record AreWeakest (ups : ℕ → List ℕ) (set weakest : List ℕ) : Type 0 where
  pub within : IsWithin weakest set
  pub whole : (y : ℕ) → IsIn y set ↔ IsAbove ups weakest y
  pub apart : (x y : ℕ) → IsIn x weakest → IsIn y weakest → IsIn y (ups x) → x ≡ y
  pub least : (x y : ℕ) → IsIn x weakest → IsIn y set → IsIn x (ups y) → x ≤ y

-- the weakest labels exactly where the set is right-closed, and else the set itself
abbrev pub Means : (ℕ → List ℕ) → List ℕ → Meaning → Type 0
Means ups set (Upwards weakest) = IsUp ups set × AreWeakest ups set weakest
Means ups set (Alone labels) = (IsUp ups set → ⊥) × (labels ≡ set)
