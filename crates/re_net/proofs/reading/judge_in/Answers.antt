use Rattle.std.proofs.Common.{◌∙◌, ap, subst, sym}
use Rattle.re_net.specs.RunReading.{Fits, Holds, state_of}
use Rattle.re_net.specs.RunTexts.{judged_in}
use Rattle.re_net.specs.declared.reading.Place.{Place}
use Rattle.re_net.proofs.reading.judge_in.Goals as goal
use Rattle.re_problem.specs.NamedProblems.{degrees_of}

pub returns-in-Behind : goal.returns-in-Behind
returns-in-Behind c =
    subst (λ (p : Place). Holds c.args.certificate.now (judged_in c.args.byte c.args.number (state_of c.args.certificate.now p) c.args.line.now) c.behind_line.result) (sym c.in-Behind.is)
    (c.behind_line.ensures c.args.certificate.now c.args.byte)

pub returns-in-Root : goal.returns-in-Root
returns-in-Root c =
    subst (λ (p : Place). Holds c.args.certificate.now (judged_in c.args.byte c.args.number (state_of c.args.certificate.now p) c.args.line.now) c.root_line.result) (sym c.in-Root.is)
    (c.root_line.ensures c.args.certificate.now (c.degrees_in.ensures.degrees ∙ ap degrees_of c.first.ensures.first))

pub returns-in-Tree : goal.returns-in-Tree
returns-in-Tree c =
    subst (λ (p : Place). Holds c.args.certificate.now (judged_in c.args.byte c.args.number (state_of c.args.certificate.now p) c.args.line.now) c.tree_line.result) (sym c.in-Tree.is)
    (c.tree_line.ensures c.args.certificate.now (subst (λ (p : Place). Fits c.args.certificate.now p) c.in-Tree.is c.requires.fits))
