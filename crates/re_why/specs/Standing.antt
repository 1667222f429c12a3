-- Where a witness stands, and that its labels have names there.
use Rattle.std.specs.Prelude.{◌<◌, ◌-◌, ℕ, List, length}
use Rattle.std.specs.List.{AllByRecursion}
use Rattle.re_problem.specs.NamedProblems.{NamedProblem}
use Rattle.re_problem.specs.declared.verdict.MapVerdict.{MapVerdict}
use Rattle.re_problem.specs.declared.verdict.MapVerdict.TheVariants.{Active, Count, Degrees as OtherDegrees, Empty, Passive, Twice, Yes}
use Rattle.re_cert.specs.Bounds.{Bound, last_problem, problem_at}
use Rattle.re_check.specs.declared.clause.Clause.{Clause}
use Rattle.re_check.specs.declared.clause.Clause.TheVariants.{End, Back}
use Rattle.re_why.specs.declared.witness.Witness.{Witness}
use Rattle.re_why.specs.declared.witness.Witness.TheVariants.{Degrees, BadRow, Extends, RowOrder, ManyRows, MissingRow, SetOrder, MissingSet, ForeignSet, ImageCount, LostRow, LostChoice, LabelOrder, MissingLabel, EmptySet, BadSets, ShutSets, Fit, NoActive, NoFit, PairOrder, MissingPair, Renaming}

-- where a witness stands: the names before and behind a step, and the numbers of the two problems
pub record Standing : Type 0 where
  pub before : List (List ℕ)
  pub next : List (List ℕ)
  pub number_before : ℕ
  pub number_next : ℕ

-- where the witness of a clause stands
abbrev pub standing : Bound → ℕ → Clause → Standing
standing bound number End = record { before = (last_problem bound).names; next = (last_problem bound).names; number_before = number; number_next = number }
standing bound number Back = record { before = (last_problem bound).names; next = (problem_at bound bound.back).names; number_before = number; number_next = bound.back }
standing bound number clause = record { before = (problem_at bound (number - 1)).names; next = (problem_at bound number).names; number_before = number - 1; number_next = number }

-- the labels have names
abbrev pub AreNamed : List (List ℕ) → List ℕ → Type 0
AreNamed names labels = AllByRecursion (λ label. label < length names) labels

-- the labels of the sets have names
abbrev pub AreSetsNamed : List (List ℕ) → List (List ℕ) → Type 0
AreSetsNamed names sets = AllByRecursion (AreNamed names) sets

-- the labels of a violation have names
abbrev pub IsVerdictNamed : List (List ℕ) → MapVerdict → Type 0
IsVerdictNamed names Yes = Unit {0}
IsVerdictNamed names OtherDegrees = Unit {0}
IsVerdictNamed names (Empty label) = label < length names
IsVerdictNamed names (Twice label) = label < length names
IsVerdictNamed names (Active config) = AreNamed names config
IsVerdictNamed names (Passive config) = AreNamed names config
IsVerdictNamed names (Count side) = Unit {0}

-- each label of the witness has a name where it stands
abbrev pub IsNamed : Standing → Witness → Type 0
IsNamed at (BadRow row labels) = AreNamed at.before labels
IsNamed at (Extends row place label) = label < length at.before
IsNamed at (MissingRow row) = AreSetsNamed at.before row
IsNamed at (MissingSet set) = AreNamed at.before set
IsNamed at (ForeignSet set) = AreNamed at.before set
IsNamed at (LostRow row image) = AreNamed at.next image
IsNamed at (LostChoice config sets labels) = AreNamed at.before config × AreSetsNamed at.before sets × AreNamed at.next labels
IsNamed at (MissingLabel label) = label < length at.next
IsNamed at (EmptySet label) = label < length at.next
IsNamed at (BadSets config sets labels) = AreNamed at.next config × AreSetsNamed at.before sets × AreNamed at.before labels
IsNamed at (ShutSets config sets) = AreNamed at.next config × AreSetsNamed at.before sets
IsNamed at (Fit config) = AreNamed at.before config
IsNamed at (NoFit config labels) = AreNamed at.before config × AreNamed at.before labels
IsNamed at (MissingPair label) = label < length at.before
IsNamed at (Renaming verdict) = IsVerdictNamed at.before verdict
IsNamed at witness = Unit {0}
