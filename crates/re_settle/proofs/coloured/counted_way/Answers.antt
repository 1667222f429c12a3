use Rattle.std.proofs.Common.{Some, subst}
use Rattle.std.specs.Prelude.{IfSome}
use Rattle.re_given_words.specs.Counting.{IsCounted}
use Rattle.re_given_words.specs.declared.counting.Counted.TheVariants.{Exactly}
use Rattle.re_problem.specs.NamedProblems.{NamedProblem, unnamed}
use Rattle.re_settle.proofs.Local.{counted_coloured}
use Rattle.re_evidence.specs.Colours.{IsColouringOf}
use Rattle.re_settle.proofs.coloured.counted_way.Goals as goal

pub returns-in-Some-Exactly : goal.returns-in-Some-Exactly
returns-in-Some-Exactly c =
    let colours = c.few_colours-colours.result in
    let colouring = subst (λ found. IfSome found (IsColouringOf c.args.problem.now c.args.side colours)) c.in-Some.is c.in_ok-input.ensures.colouring in
    let found = subst (λ found. IfSome found (IsCounted (unnamed c.in_ok-copy.field-0) (Some (unnamed c.in-Some.input)) 8)) c.in-Some-Exactly.is c.in_ok-count_within.ensures.counted in
    let exactly = subst (IsCounted (unnamed c.in_ok-copy.field-0) (Some (unnamed c.in-Some.input)) 8) c.in-Some-Exactly.field-0-is found in
    counted_coloured c.args.times c.args.problem.now c.in-Some.input c.args.side colours c.in-Some-Exactly.field-0-0 c.names-names.ensures.problem.problem c.few_colours-colours.ensures colouring
    (subst (λ (p : NamedProblem). IsCounted (unnamed p) (Some (unnamed c.in-Some.input)) 8 (Exactly c.in-Some-Exactly.field-0-0)) c.in_ok-copy.ensures exactly)
