use Rattle.std.proofs.Common.{subst, sym}
use Rattle.std.specs.Prelude.{IfOk, option_map}
use Rattle.re_problem.specs.NamedProblems.{unnamed}
use Rattle.re_given_words.specs.Counting.{IsCounted, MayTell}
use Rattle.re_given_words.specs.declared.counting.Counted.TheVariants.{Passed}
use Rattle.re_given_words.proofs.counting.count_passed.Goals as goal

pub count_alone-requires-clause-counted : goal.count_alone-requires-clause-counted
count_alone-requires-clause-counted c = subst (λ o. IsCounted (unnamed c.args.texts.now.problem) (option_map unnamed o) c.args.most (Passed c.args.rounds c.args.limit)) c.in-None.is c.requires.counted

pub returns-in-None-clause-told : goal.returns-in-None-clause-told
returns-in-None-clause-told c =
    subst (λ o. IfOk c.count_alone.result (MayTell (unnamed c.args.texts.now.problem) (option_map unnamed o) c.args.most)) (sym c.in-None.is) c.count_alone.ensures.told
