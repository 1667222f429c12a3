-- Worked problems: 3-colouring and 2-colouring of paths, and the relaxation of sinkless orientation, both of whose labels are a flexible set.
use Rattle.std.proofs.Common.{ℕ, suc, ◌*◌, Bool, true, false, not, List, [], ◌∷◌, refl, sym, subst, arith, inl, inr}
use Rattle.std.specs.Prelude.{Contains}
use Rattle.re_classes.proofs.WorkedClasses.{is_three, path_colouring, sinkless_class}
use Rattle.re_forests.proofs.TwoColours.{not_fast}
use Rattle.re_forests.proofs.WholePaths.{two_colours_order}
use Rattle.re_forests.specs.TwoColours.{two_colours}
use Rattle.re_forests.specs.Flexible.{IsFlexible, Joins, side}
use Rattle.re_forests.proofs.BoundsAbove.{below, below_log}
use Rattle.re_forests.proofs.BoundsBelow.{above}
use Rattle.re_forests.proofs.WeakerForests.{later}
use Rattle.re_forests.specs.WorkedProblems.{SinklessLaw, ThreeColoursLaw, TwoColoursLaw}
use Rattle.re_given.specs.Unavoidable.{colouring}
use Rattle.re_labels.proofs.Membership.{Contains-cases, Contains-here, Contains-later, Contains-none}
use Rattle.re_problem.proofs.Examples.{IsProblem-relaxed_sinkless}
use Rattle.re_problem.specs.Examples.{relaxed_sinkless}

pub three_colours : ThreeColoursLaw
three_colours = ((above (colouring 2 2 3) is_three).0 path_colouring.0, below (colouring 2 2 3) is_three path_colouring.1)

pub two_colours_linear : TwoColoursLaw
two_colours_linear = (not_fast, (1, λ N. later two_colours N N (1 * suc N) (omega arith) (two_colours_order.0 N)))

-- ---- sinkless orientation: the labels are I, which is 0, and O
abbrev both : List ℕ
both = 0 ∷ 1 ∷ []

first_in : Contains both 0
first_in = Contains-here 0 (1 ∷ [])

second_in : Contains both 1
second_in = Contains-later 1 0 (1 ∷ []) (Contains-here 1 [])

ins : (active : Bool) → Joins (side relaxed_sinkless active) both 0 0
ins true = (1 ∷ [], (second_in, tt), Contains-here (0 ∷ 0 ∷ 1 ∷ []) [])
ins false = ([], tt, Contains-here (0 ∷ 0 ∷ []) ((0 ∷ 1 ∷ []) ∷ []))

from_out : (active : Bool) → Joins (side relaxed_sinkless active) both 1 0
from_out true = (0 ∷ [], (first_in, tt), Contains-here (0 ∷ 0 ∷ 1 ∷ []) [])
from_out false = ([], tt, Contains-later (0 ∷ 1 ∷ []) (0 ∷ 0 ∷ []) ((0 ∷ 1 ∷ []) ∷ []) (Contains-here (0 ∷ 1 ∷ []) []))

to_out : (active : Bool) → Joins (side relaxed_sinkless active) both 0 1
to_out true = (0 ∷ [], (first_in, tt), Contains-here (0 ∷ 0 ∷ 1 ∷ []) [])
to_out false = ([], tt, Contains-later (0 ∷ 1 ∷ []) (0 ∷ 0 ∷ []) ((0 ∷ 1 ∷ []) ∷ []) (Contains-here (0 ∷ 1 ∷ []) []))

-- what holds of both labels holds of each of the set
each : (P : ℕ → Type 0) → P 0 → P 1 → (x : ℕ) → Contains both x → P x
each P first second x held = elim (Contains-cases x 0 (1 ∷ []) held) [
  | inl e ↦ subst P (sym e) first
  | inr more ↦ elim (Contains-cases x 1 [] more) [ inl e ↦ subst P (sym e) second | inr none ↦ absurd (Contains-none x none) ]
]

-- through 3 nodes, with I on both edges between them
flexible : IsFlexible relaxed_sinkless both 1
flexible = record {
  some = (0, first_in);
  leads = λ active x y held held'. (
    0,
    first_in,
    each (λ x. Joins (side relaxed_sinkless active) both x 0) (ins active) (from_out active) x held,
    (
      0,
      first_in,
      ins (not active),
      (y, held', each (λ y. Joins (side relaxed_sinkless (not (not active))) both 0 y) (ins (not (not active))) (to_out (not (not active))) y held', refl),
    ),
  );
}

pub sinkless : SinklessLaw
sinkless = (
  (above relaxed_sinkless IsProblem-relaxed_sinkless).1 sinkless_class,
  below_log relaxed_sinkless both 1 IsProblem-relaxed_sinkless flexible,
)
