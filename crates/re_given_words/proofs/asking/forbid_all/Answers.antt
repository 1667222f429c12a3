use Rattle.std.proofs.Common.{◌∙◌, subst, sym}
use Rattle.std.specs.Prelude.{Contains}
use Rattle.std.proofs.lemmas.List.Elements.{Contains-get_or}
use Rattle.re_given_words.proofs.asking.forbid_all.Goals as goal

pub loop-tuple-preserved : goal.loop-tuple-preserved
loop-tuple-preserved c = λ values none satisfied.
    let at : Contains c.args.tuples.now c.numbers.result.now = subst (Contains c.args.tuples.now) (sym (c.numbers.ensures.numbers ∙ c.tuple-item.is)) (Contains-get_or c.args.tuples.now c.loop-tuple.tuple-index c.tuple-item.result c.loop-tuple-test.true) in
    c.in_ok-forbid.ensures values (none c.numbers.result.now at) (c.loop-tuple.invariant values none satisfied)
