-- What the passive nodes of all lines make.
use Rattle.std.proofs.Common.{◌≡◌, ◌∙◌, ℕ, Bool, true, false, not, ◌&&◌, List, [], ◌∷◌, Option, None, Some, Result, Ok, Err, ap, eqb, length, refl, sym}
use Rattle.std.specs.Prelude.{if◌then◌else◌}
use Rattle.re_cover.specs.Graphs.{PortGraph}
use Rattle.re_cover.specs.declared.ends.GraphEnd.{GraphEnd}
use Rattle.re_graph.specs.Building.{graph_of, is_graph}
use Rattle.re_problem.specs.ItemSteps.{is_nil}
use Rattle.re_labels.specs.declared.sides.Degrees.{Degrees}
use Rattle.re_graph_words.specs.GraphLines.{graph_with, whole_graph}
use Rattle.re_graph_words.specs.declared.faults.GraphFault.{GraphFault}
use Rattle.re_graph_words.specs.declared.faults.GraphFault.TheVariants.{EndMissing}

pub some-lines : (passive : List (List GraphEnd)) → eqb (length passive) 0 ≡ false → is_nil passive ≡ false
some-lines [] e = absurd (cc)
some-lines (ends ∷ passive) e = refl

abbrev as-whole : ℕ → Option PortGraph → Result PortGraph GraphFault
as-whole number None = Err (EndMissing number)
as-whole number (Some graph) = Ok graph

-- some lines
pub built : (degrees : Degrees) (number : ℕ) (passive : List (List GraphEnd)) (result : Option PortGraph) → is_nil passive ≡ false → result ≡ graph_of (graph_with degrees passive)
    → whole_graph degrees number passive ≡ as-whole number result
built degrees number passive result e is =
    ap (λ b. if not b && is_graph (graph_with degrees passive) then Ok (graph_with degrees passive) else Err (EndMissing number)) e
    ∙ as-it (is_graph (graph_with degrees passive)) ∙ sym (ap (as-whole number) is)
  where
    as-it : (b : Bool) → (let r : Result PortGraph GraphFault = if b then Ok (graph_with degrees passive) else Err (EndMissing number) in r) ≡ as-whole number (if b then Some (graph_with degrees passive) else None)
    as-it true = refl
    as-it false = refl
