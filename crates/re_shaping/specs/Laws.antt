-- What shaping the last problem of a chain keeps.
use Rattle.std.specs.Prelude.{◌≡◌, ◌<◌, ℕ, List, None}
use Rattle.re_labels.specs.Names.{IsName}
use Rattle.re_problem.specs.Derived.{derived}
use Rattle.re_problem.specs.Problems.{Problem}
use Rattle.re_problem.specs.Steps.{IsLowerStep, IsLowerStepByRow, IsRelaxed, LowerMap}
use Rattle.re_labels.specs.GoodRows.{max_rows}
use Rattle.re_cert.specs.Bounds.{Bound}
use Rattle.re_chains.specs.Chains.{IsSoundChain}
use Rattle.re_shaping.specs.Chains.{sent_along}
use Rattle.re_shaping.specs.Dropping.{drop_refusal, dropped}
use Rattle.re_shaping.specs.Merging.{merge_limit, merge_refusal, merged}
use Rattle.re_shaping.specs.Naming.{name_refusal, named}
use Rattle.re_shaping.specs.Relaxing.{top_images}

-- a lower step leads, with its map sent along, to each relaxation of its next problem
abbrev pub RelaxedStepLaw : Type 0
RelaxedStepLaw = (problem next relaxed : Problem) (rows : List (List (List ℕ))) (map : LowerMap) (image : ℕ → ℕ) →
    IsLowerStep problem next rows map → IsRelaxed next relaxed image → IsLowerStep problem relaxed rows (sent_along image map)

-- a lower step leads from a problem to the derived problem of each of its relaxations
abbrev pub DerivedRelaxationLaw : Type 0
DerivedRelaxationLaw = (problem relaxed : Problem) (image : ℕ → ℕ) → ((label : ℕ) → label < problem.labels → image label < relaxed.labels) → IsRelaxed problem relaxed image
    → IsLowerStepByRow problem (derived relaxed) (max_rows problem.passive problem.labels) (top_images image relaxed (max_rows problem.passive problem.labels))

-- a sound chain stays sound where labels of its last problem are merged, or, without a step, of its first one, where the step passes no limit
abbrev pub MergeLaw : Type 0
MergeLaw = (bound : Bound) (x y : ℕ) → IsSoundChain bound → merge_refusal x y bound ≡ None → merge_limit x y bound ≡ None → IsSoundChain (merged x y bound)

-- where a label of its last problem is dropped
abbrev pub DropLaw : Type 0
DropLaw = (bound : Bound) (x : ℕ) → IsSoundChain bound → drop_refusal x bound ≡ None → IsSoundChain (dropped x bound)

-- and where a label of its last problem has another name
abbrev pub NameLaw : Type 0
NameLaw = (bound : Bound) (x : ℕ) (name : List ℕ) → IsSoundChain bound → IsName name → name_refusal x name bound ≡ None → IsSoundChain (named x name bound)
