use Rattle.std.proofs.Common.{◌∙◌, ap, sym}
use Rattle.std.proofs.lemmas.Option.{none-some}
use Rattle.re_problem.specs.NamedProblems.{unnamed}
use Rattle.re_search.proofs.Counts.{next_is}
use Rattle.re_step.specs.Derivations.{step_limit}
use Rattle.re_given_words.proofs.counting.derived_after.Goals as goal

pub unreachable-requires : goal.unreachable-requires
unreachable-requires c =
    none-some c.in-Some.field-0 (sym (c.requires c.loop-done._done c.loop-done-test.true) ∙ ap step_limit (sym c.loop-done.invariant) ∙ sym c.in_ok-derive.ensures.limit ∙ c.in-Some.is)

pub loop-done-preserved : goal.loop-done-preserved
loop-done-preserved c = next_is (unnamed c.args.problem.now) c.loop-done._done c.loop-done.current c.derive.new.current c.loop-done.invariant (c.in_ok-derive.ensures.derived c.in-None.is)
