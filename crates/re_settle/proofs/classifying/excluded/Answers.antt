use Rattle.std.proofs.Common.{subst}
use Rattle.std.specs.Prelude.{IfSome}
use Rattle.re_settle.proofs.Local.{coloured_further, fixed_further, nothing_further}
use Rattle.re_settle.specs.Coloured.{IsColoured}
use Rattle.re_settle.specs.Ways.{IsFixedPoint}
use Rattle.re_settle.specs.declared.types.Settled.TheVariants.{Never}
use Rattle.re_settle.proofs.classifying.excluded.Goals as goal

pub returns-in-Some : goal.returns-in-Some
returns-in-Some c =
    coloured_further c.args.times c.args.problem.now c.args.way c.in-Some.coloured c.names-names.ensures.problem.problem c.requires.found
    (subst (λ found. IfSome found (IsColoured c.args.times c.args.problem.now)) c.in-Some.is c.in_ok-coloured.ensures)

pub returns-in-Some-2 : goal.returns-in-Some-2
returns-in-Some-2 c =
    fixed_further c.args.times c.args.problem.now c.args.way c.in-Some-2.later
    (subst (λ found. IfSome found (IsFixedPoint c.args.times c.args.problem.now)) c.in-Some-2.is c.in_ok-later.ensures)

pub returns-in-Some-3 : goal.returns-in-Some-3
returns-in-Some-3 c =
    coloured_further c.args.times c.args.problem.now c.args.way c.in-Some-3.coloured c.names-names.ensures.problem.problem c.requires.found
    (subst (λ found. IfSome found (IsColoured c.args.times c.args.problem.now)) c.in-Some-3.is c.in_ok-coloured-2.ensures)

pub returns-in-None : goal.returns-in-None
returns-in-None c = nothing_further c.args.times c.args.problem.now (Never c.args.way) c.requires.found
