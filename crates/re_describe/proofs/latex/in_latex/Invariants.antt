use Rattle.std.proofs.Common.{◌≡◌, ◌++◌, drop, map}
use Rattle.re_describe.specs.Latex.{latex_lines, latex_of}
use Rattle.re_describe.proofs.latex.in_latex.Given as goal

abbrev pub invariant-loop-line : goal.invariant-loop-line
invariant-loop-line l = l.text.items ++ latex_lines l.before (map (λ line. line.now) (drop l.line-index l.line-items)) ≡ latex_of l.fn.report
