use Rattle.std.proofs.Common.{[], ◌∷◌, length, subst, sym}
use Rattle.re_cert.specs.Bounds.{Bound, last_problem}
use Rattle.re_closure.specs.DiagramTexts.{AreEdges}
use Rattle.re_closure.specs.RaisedClosures.{RaisedAnswers}
use Rattle.re_settle.proofs.Known.{raised_known}
use Rattle.re_settle.proofs.never.raised_way.Goals as goal

pub find_raised-requires : goal.find_raised-requires
find_raised-requires c =
    subst (λ (b : Bound). AreEdges (length (last_problem b).names) ((c.args.low, c.args.high) ∷ [])) (sym c.requires.chain) ((c.requires.low, c.requires.high), tt)

pub returns-then-has : goal.returns-then-has
returns-then-has c =
    let found = subst (RaisedAnswers ((c.args.low, c.args.high) ∷ []) c.args.chain.now.certificate) c.in-Ok-Found.field-0-is c.in-Ok-Found.ensures.answers in
    raised_known c.args.times c.args.problem.now c.args.chain.now.certificate c.in-Ok-Found.certificate c.args.low c.args.high c.requires.chain c.requires.low c.requires.high found.2 (c.in_ok-has-in-Ok-Found.ensures.text c.if-has.true)
