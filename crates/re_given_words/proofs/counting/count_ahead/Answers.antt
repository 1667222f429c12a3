use Rattle.std.proofs.Common.{◌-◌, arith, subst}
use Rattle.re_given_words.specs.Ahead.{IsTold}
use Rattle.re_problem.specs.NamedProblems.{unnamed}
use Rattle.re_given_words.proofs.AheadCounts.{told-all, told-exactly, told-stopped, told-wider}
use Rattle.re_given_words.specs.declared.looking.Ahead.TheVariants as ahead
use Rattle.re_given_words.proofs.counting.count_ahead.Goals as goal

pub overflow_add-enough : goal.overflow_add-enough
overflow_add-enough c =
    let told = subst (IsTold (unnamed c.args.current.now) c.min-left.result) c.in-Exactly.is c.in_ok-more.ensures in
    omega (arith, told.1, c.min-left.ensures, c.requires.below, c.requires.most)

pub overflow_add-told : goal.overflow_add-told
overflow_add-told c =
    let told = subst (IsTold (unnamed c.args.current.now) c.min-left.result) c.in-MoreThan.is c.in_ok-more.ensures in
    omega (arith, told.0, c.min-left.ensures, c.requires.below, c.requires.most)

pub returns-in-Exactly-clause-told : goal.returns-in-Exactly-clause-told
returns-in-Exactly-clause-told c = λ problem is here counts.
    told-exactly problem is (unnamed c.args.current.now) c.args.steps c.args.rounds c.args.most c.args.limit c.requires.behind here counts c.in-Exactly.more
    (told-wider (unnamed c.args.current.now) c.min-left.result (c.args.most - c.args.steps) (ahead.Exactly c.in-Exactly.more) (omega (arith, c.min-left.ensures))
    (subst (IsTold (unnamed c.args.current.now) c.min-left.result) c.in-Exactly.is c.in_ok-more.ensures))

pub returns-else-few-most-clause-told : goal.returns-else-few-most-clause-told
returns-else-few-most-clause-told c = λ problem is here counts.
    told-stopped problem is (unnamed c.args.current.now) c.args.steps c.args.rounds c.args.most c.args.limit c.requires.behind here counts c.max-few.result c.in-MoreThan.more c.max-few.ensures
    (told-wider (unnamed c.args.current.now) c.min-left.result (c.args.most - c.args.steps) (ahead.MoreThan c.in-MoreThan.more) (omega (arith, c.min-left.ensures))
    (subst (IsTold (unnamed c.args.current.now) c.min-left.result) c.in-MoreThan.is c.in_ok-more.ensures)) c.if-few-most.false

pub returns-then-few-most-clause-told : goal.returns-then-few-most-clause-told
returns-then-few-most-clause-told c = λ problem is here counts.
    told-all problem is (unnamed c.args.current.now) c.args.steps c.args.rounds c.args.most c.args.limit c.requires.behind here counts c.max-few.result c.in-MoreThan.more c.max-few.ensures
    (told-wider (unnamed c.args.current.now) c.min-left.result (c.args.most - c.args.steps) (ahead.MoreThan c.in-MoreThan.more) (omega (arith, c.min-left.ensures))
    (subst (IsTold (unnamed c.args.current.now) c.min-left.result) c.in-MoreThan.is c.in_ok-more.ensures)) c.if-few-most.true
