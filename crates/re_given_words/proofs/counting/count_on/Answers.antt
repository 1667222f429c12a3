use Rattle.std.proofs.Common.{◌≡◌, ◌∙◌, ap, arith, subst, sym}
use Rattle.std.specs.Prelude.{IfSome, option_map}
use Rattle.re_problem.specs.NamedProblems.{unnamed}
use Rattle.re_step.specs.Derivations.{step_limit}
use Rattle.re_search.proofs.Counts.{next_is, none_passed_next}
use Rattle.re_given_words.proofs.CountingMeans.{few_next, few_suc}
use Rattle.re_given_words.specs.Counting.{Tells}
use Rattle.re_given_words.proofs.counting.count_on.Goals as goal

pub returns-in-Some-clause-counted : goal.returns-in-Some-clause-counted
returns-in-Some-clause-counted c = (
  omega (arith, c.loop-rounds-test.true),
  ap step_limit (sym c.loop-rounds.invariant.here) ∙ sym c.in_ok-limit.ensures.limit ∙ c.in-Some.is,
  few_suc (unnamed c.args.texts.now.problem) (option_map unnamed c.args.texts.now.input) c.loop-rounds.rounds c.loop-rounds.invariant.few
      (subst (Tells (unnamed c.args.texts.now.problem) (option_map unnamed c.args.texts.now.input) c.loop-rounds.rounds) c.in-Few.is c.in_ok-tell.ensures),
  c.loop-rounds.invariant.limit,
)

pub loop-rounds-preserved : goal.loop-rounds-preserved
loop-rounds-preserved c = record {
  here = next_is (unnamed c.args.texts.now.problem) c.loop-rounds.rounds c.loop-rounds.current c.derive.new.current c.loop-rounds.invariant.here (c.in_ok-limit.ensures.derived c.in-None.is);
  few = few_next (unnamed c.args.texts.now.problem) (option_map unnamed c.args.texts.now.input) c.loop-rounds.rounds c.loop-rounds.invariant.few
      (subst (Tells (unnamed c.args.texts.now.problem) (option_map unnamed c.args.texts.now.input) c.loop-rounds.rounds) c.in-Few.is c.in_ok-tell.ensures);
  limit = none_passed_next (unnamed c.args.texts.now.problem) c.loop-rounds.rounds (unnamed c.loop-rounds.current) c.loop-rounds.invariant.here (sym c.in_ok-limit.ensures.limit ∙ c.in-None.is) c.loop-rounds.invariant.limit;
}

pub returns-in-Some-clause-last : goal.returns-in-Some-clause-last
returns-in-Some-clause-last c =
    let kept = subst (λ o. IfSome o (λ limit. c.derive.new.current ≡ c.loop-rounds.current)) c.in-Some.is c.in_ok-limit.ensures.kept in
    ap unnamed kept ∙ c.loop-rounds.invariant.here
