-- What the search for a renaming answers.
use Rattle.std.specs.Prelude.{◌+◌, ◌≡◌, ℕ, ◌<◌, List, length}
use Rattle.re_labels.specs.Configs.{image_at}
use Rattle.re_problem.specs.NamedProblems.{NamedProblem}
use Rattle.re_shaping.specs.Colours.{colour_at, first_colours}
use Rattle.re_labels.specs.declared.TheConstants.{MAX_LABELS}
use Rattle.re_shaping.specs.Renamings.{IsRenaming}
use Rattle.re_shaping.specs.Tries.{tries_of}
use Rattle.re_shaping.specs.declared.finding.TheConstants.{MAX_TRIES}
use Rattle.re_shaping.specs.declared.finding.Renaming.{Renaming}
use Rattle.re_shaping.specs.declared.finding.Renaming.TheVariants.{Found, Missing, TooMany}

-- each label has a colour, and that of its image
pub record KeepsColours (from to : NamedProblem) (colours others images : List ℕ) : Type 0 where
  pub each : length colours ≡ length from.names
  pub all : length others ≡ length to.names
  pub same : (label : ℕ) → label < length from.names → colour_at others (image_at images label) ≡ colour_at colours label

-- no two labels have one colour
abbrev pub AreApart : List ℕ → Type 0
AreApart colours = (x y : ℕ) → x < length colours → y < length colours → colour_at colours x ≡ colour_at colours y → x ≡ y

-- the images of the labels have the same colours
pub record IsMapBy (colours others images : List ℕ) : Type 0 where
  pub count : length images ≡ length colours
  pub same : (label : ℕ) → label < length colours → (image_at images label < length others) × (colour_at others (image_at images label) ≡ colour_at colours label)

-- some label has the colour of no label of the other problem
abbrev pub IsLost : List ℕ → List ℕ → Type 0
IsLost colours others = (label : ℕ) × (label < length colours) × ((other : ℕ) → other < length others → colour_at others other ≡ colour_at colours label → ⊥)

-- a renaming, or that there is none that keeps these colours
abbrev pub AnswersBy : NamedProblem → NamedProblem → List ℕ → List ℕ → Renaming → Type 0
AnswersBy from to colours others (Found images) = IsRenaming from to images
AnswersBy from to colours others Missing = (images : List ℕ) → IsRenaming from to images → KeepsColours from to colours others images → ⊥
AnswersBy from to colours others TooMany = Unit {0}

-- a renaming; that there is none; or that a whole search tries more than `MAX_TRIES` labels
abbrev pub Answers : NamedProblem → NamedProblem → Renaming → Type 0
Answers from to (Found images) = IsRenaming from to images
Answers from to Missing = (images : List ℕ) → IsRenaming from to images → ⊥
Answers from to TooMany = MAX_TRIES < tries_of MAX_LABELS from to (first_colours from) (first_colours to)

-- how many of the tries are left, where so many were left before and a whole search takes so many: all of a whole search are taken where it finds
-- that there is no renaming, and it takes more than there were where these come to an end
abbrev pub Takes : ℕ → ℕ → ℕ → Renaming → Type 0
Takes before after whole (Found images) = Unit {0}
Takes before after whole Missing = before ≡ after + whole
Takes before after whole TooMany = before < whole

-- that there are too many tries isn't the answer
abbrev pub IsSettled : Renaming → Type 0
IsSettled (Found images) = Unit {0}
IsSettled Missing = Unit {0}
IsSettled TooMany = ⊥
