-- With identifiers below a tower few rounds solve no more than ports alone.
use Rattle.std.proofs.Common.{◌+◌, ◌^◌, ◌≤◌, arith}
use Rattle.re_cover.proofs.Outputs.{no_solution_law}
use Rattle.re_laws.specs.Algorithms.{Solvable}
use Rattle.re_local.specs.LocalAlgorithms.{SolvableLocal}
use Rattle.re_layers.specs.Towers.{tower}
use Rattle.re_classes.proofs.FewIdentifiers.{below_virtual}
use Rattle.re_classes.proofs.GivenGap.{unavoidable_rounds}
use Rattle.re_classes.proofs.PortNumbered.{SolvableLocal-unnoticed}
use Rattle.re_classes.specs.FewRoundsLaws.{BeyondPortsLaw, GapLaw, GraphGapLaw, OneNumberLaw}
use Rattle.re_local.proofs.WholeBound.{given}
use Rattle.re_local.specs.SeparatingLaws.{virtual_base}

pub gap : GapLaw
gap problem h T N is l many = (without, SolvableLocal-unnoticed problem N T)
  where
    without : SolvableLocal problem N T → Solvable problem T
    without solvable =
        let enough : virtual_base problem.active.degree problem.passive.degree (tower (T + h)) ^ (T + 1) ≤ tower (T + h + 6) = below_virtual problem.active.degree problem.passive.degree h T is.active.most is.passive.most in
        let (input, is_input, unavoidable, here) = given problem (tower (T + h)) T N is (omega (arith, enough, many)) solvable T in
        (unavoidable_rounds problem input h T is is_input l unavoidable).0 here

pub one_number : OneNumberLaw
one_number problem h T N more is l many solvable = SolvableLocal-unnoticed problem more T ((gap problem h T N is l many).0 solvable)

pub beyond_ports : BeyondPortsLaw
beyond_ports problem h T N is l many never solvable = never T ((gap problem h T N is l many).0 solvable)

pub graph_gap : GraphGapLaw
graph_gap problem graph h T N is l many of none solvable =
    beyond_ports problem h T N is l many (λ S. no_solution_law problem graph S of none) solvable
