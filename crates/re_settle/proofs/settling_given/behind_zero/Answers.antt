use Rattle.std.proofs.Common.{Some, arith, refl, subst}
use Rattle.std.specs.Prelude.{IfSome}
use Rattle.re_given_words.specs.Counting.{IsCounted}
use Rattle.re_given_words.specs.declared.counting.Counted.TheVariants as counted
use Rattle.re_problem.specs.NamedProblems.{unnamed}
use Rattle.re_evidence.specs.declared.types.Claim.TheVariants.{Exactly, Never}
use Rattle.re_settle.proofs.GivenKnown.{count_known, shown_as}
use Rattle.re_settle.proofs.GivenTogether.{exactly_settled, never_settled}
use Rattle.re_settle.specs.GivenWays.{IsKnownGiven}
use Rattle.re_settle.proofs.settling_given.behind_zero.Goals as goal

pub returns-in-Some : goal.returns-in-Some
returns-in-Some c =
    never_settled c.args.times c.args.problem.now c.args.input.now c.in-Some.way
    (subst (λ found. IfSome found (IsKnownGiven c.args.times c.args.problem.now c.args.input.now Never)) c.in-Some.is c.in_ok-way.ensures)

pub returns-in-Some-Exactly : goal.returns-in-Some-Exactly
returns-in-Some-Exactly c =
    let rounds = c.in-Some-Exactly.rounds in
    let found = subst (λ found. IfSome found (IsCounted (unnamed c.args.problem.now) (Some (unnamed c.args.input.now)) 8)) c.in-Some-Exactly.is c.in_ok-found.ensures in
    let counts = subst (IsCounted (unnamed c.args.problem.now) (Some (unnamed c.args.input.now)) 8) c.in-Some-Exactly.field-0-is found in
    let known = count_known c.args.times c.args.problem.now c.args.input.now 8 (counted.Exactly rounds) (Exactly rounds) c.names-names.ensures.problem.problem c.requires.input (omega arith) counts refl in
    exactly_settled c.args.times c.args.problem.now c.args.input.now c.by_rounds.result
    (shown_as c.args.times c.args.problem.now c.args.input.now Exactly c.by_rounds.result rounds 8 c.by_rounds.ensures.rounds c.by_rounds.ensures.way known)
