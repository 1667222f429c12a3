-- Boxes: where the good rows lie that pass a row of a list by one label.
use Rattle.std.specs.Prelude.{◌≡◌, ℕ, ◌<◌, ◌↔◌, nat_lt, List, [], ◌∷◌, length, map, filter, slice_set, Contains}
use Rattle.std.specs.List.{AllByRecursion, AllZip}
use Rattle.std.specs.declared.cmp.Ordering.TheVariants.{Less}
use Rattle.re_labels.specs.Lists.{IsRising}
use Rattle.re_labels.specs.Sets.{IsIn, IsWithin, union}
use Rattle.re_labels.specs.Rows.{Dominates, IsRow, IsUnder, row_cmp, set_at}
use Rattle.re_labels.specs.Constraints.{Constraint, Has, IsConstraint}
use Rattle.re_labels.specs.GoodRows.{IsDominated, IsGood, max_rows}

-- the set has, with each of its labels x, the labels ups x
abbrev pub IsUp : (ℕ → List ℕ) → List ℕ → Type 0
IsUp ups set = (x : ℕ) → IsIn x set → IsWithin (ups x) set

-- labels ups x in place of x: x is among them, they are up, and a configuration whose labels go up stays a configuration
pub record IsStrength (constraint : Constraint) (ups : ℕ → List ℕ) : Type 0 where
  pub holds : (x : ℕ) → IsIn x (ups x)
  pub goes_on : (x : ℕ) → IsUp ups (ups x)
  pub keeps : (labels others : List ℕ) → AllZip (λ x y. IsIn y (ups x)) labels others → Has constraint labels → Has constraint others

-- all labels ups x of the labels x of a set
abbrev pub with_stronger : (ℕ → List ℕ) → List ℕ → List ℕ
with_stronger ups [] = []
with_stronger ups (x ∷ set) = union (with_stronger ups set) (ups x)

-- x and the labels of the set above x in number, each with what is stronger
abbrev pub cut : (ℕ → List ℕ) → ℕ → List ℕ → List ℕ
cut ups x set = union (with_stronger ups (filter (nat_lt x) set)) (ups x)

-- the set has a label above x in number, and has each label that is above x in number and in strength
pub record IsNext (ups : ℕ → List ℕ) (x : ℕ) (set : List ℕ) : Type 0 where
  pub stronger : (y : ℕ) → IsIn y (ups x) → x < y → IsIn y set
  pub some : (y : ℕ) × IsIn y set × (x < y)

-- the row with its set at place i cut at x
abbrev pub box_at : (ℕ → List ℕ) → ℕ → ℕ → List (List ℕ) → List (List ℕ)
box_at ups i x row = slice_set row i (cut ups x (set_at row i))

-- the label x at place i, and nothing elsewhere
abbrev pub only_at : ℕ → ℕ → List (List ℕ) → List (List ℕ)
only_at i x row = slice_set (map (λ set. []) row) i (x ∷ [])

-- each good row of up sets that lies in the box, and in which these labels lie, is dominated by a row of the list
abbrev pub IsCovered : Constraint → (ℕ → List ℕ) → List (List (List ℕ)) → List (List ℕ) → List (List ℕ) → Type 0
IsCovered constraint ups rows labels box = (row : List (List ℕ)) → IsGood constraint row → AllByRecursion (IsUp ups) row
    → IsUnder labels row → IsUnder row box → IsDominated rows row

-- good rows in order, none of which dominates another, that dominate each configuration with its stronger labels, and whose boxes
-- are covered
pub record IsBoxed (constraint : Constraint) (ups : ℕ → List ℕ) (n : ℕ) (rows : List (List (List ℕ))) : Type 0 where
  pub good : (row : List (List ℕ)) → Contains rows row → IsRow constraint.degree n row × IsGood constraint row
  pub ascends : IsRising (λ row other. row_cmp row other ≡ Less) rows
  pub apart : (row other : List (List ℕ)) → Contains rows row → Contains rows other → Dominates row other → row ≡ other
  pub configs : (config : List ℕ) → Contains constraint.configs config → IsDominated rows (map ups config)
  pub boxes : (row : List (List ℕ)) (i x : ℕ) → Contains rows row → i < length row → IsNext ups x (set_at row i)
      → IsCovered constraint ups rows (only_at i x row) (box_at ups i x row)

-- a list of rows is that of the maximal rows exactly where it is boxed
abbrev pub BoxesLaw : Type 0
BoxesLaw = (constraint : Constraint) (ups : ℕ → List ℕ) (n : ℕ) (rows : List (List (List ℕ))) → IsConstraint n constraint → IsStrength constraint ups →
    IsBoxed constraint ups n rows ↔ (rows ≡ max_rows constraint n)
