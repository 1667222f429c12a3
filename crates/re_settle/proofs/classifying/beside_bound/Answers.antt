use Rattle.std.proofs.Common.{subst}
use Rattle.std.specs.Prelude.{IfSome}
use Rattle.re_forest_words.specs.Showings.{IsShown as IsGreedyShown}
use Rattle.re_problem.specs.NamedProblems.{unnamed}
use Rattle.re_settle.proofs.Local.{greedy_bounded, nothing_further}
use Rattle.re_settle.specs.declared.types.Settled.TheVariants.{Within}
use Rattle.std.specs.Prelude.{None}
use Rattle.re_settle.proofs.classifying.beside_bound.Goals as goal

pub returns-in-Some : goal.returns-in-Some
returns-in-Some c =
    greedy_bounded c.shown_law.ensures c.args.times c.args.problem.now c.args.more c.in-Some.shown c.names-names.ensures.problem.problem c.requires.found
    (subst (λ found. IfSome found (IsGreedyShown (unnamed c.args.problem.now) 2)) c.in-Some.is c.in_ok-shown.ensures)

pub returns-in-None : goal.returns-in-None
returns-in-None c = nothing_further c.args.times c.args.problem.now (Within c.args.more None) c.requires.found
