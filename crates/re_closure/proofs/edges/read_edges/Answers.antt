use Rattle.std.proofs.Common.{ℕ, List, length, refl, subst, sym}
use Rattle.re_problem.proofs.ReadTexts.{nothing_left}
use Rattle.re_closure.proofs.EdgeLines.{EdgesSoFar, edges_read, line_refused, line_taken, no_edges}
use Rattle.re_closure.proofs.edges.read_edges.Goals as goal

pub lines-init : goal.lines-init
lines-init c =
    subst (λ (edges : List (ℕ × ℕ)). EdgesSoFar c.args.names.now c.args.byte c.args.number c.args.text.now edges c.args.byte c.args.number c.args.text.now) (sym c.new-edges.ensures.items)
    (no_edges c.args.names.now c.args.byte c.args.number c.args.text.now c.requires.counted c.requires.within)

pub lines-preserved : goal.lines-preserved
lines-preserved c =
    line_taken c.args.names.now c.args.byte c.args.number c.args.text.now c.lines.edges.items c.lines.at c.lines.current c.lines.rest.now c.cut_line.result.0.now c.cut_line.result.1.now c.lines.invariant c.cut_line.ensures.line
    _ _ refl c.in-Ok.ensures c.cut_line.ensures.less c.cut_line.ensures.left

pub returns-in-Err-clause-fault : goal.returns-in-Err-clause-fault
returns-in-Err-clause-fault c =
    line_refused c.args.names.now c.args.byte c.args.number c.args.text.now c.lines.edges.items c.lines.at c.lines.current c.lines.rest.now c.cut_line.result.0.now c.cut_line.result.1.now c.lines.invariant c.cut_line.ensures.line
    c.in-Err.fault c.in-Err.ensures

pub returns-clause-edges : goal.returns-clause-edges
returns-clause-edges c =
    edges_read c.args.names.now c.args.byte c.args.number c.args.text.now c.lines.edges.items c.lines.at c.lines.current c.lines.rest.now c.lines.invariant (nothing_left (length c.lines.rest.now) c.lines-test.ensures)
