use Rattle.re_step.proofs.RestLemmas.{rests_alike, rests_in_order}
use Rattle.std.proofs.lemmas.Result.{IfOk-weaker}
use Rattle.re_step.proofs.rests.rests.Goals as goal

pub returns-clause-rests : goal.returns-clause-rests
returns-clause-rests c = IfOk-weaker c.each_once.result _ _
    (λ rests f. rests_in_order c.args.configs.now c.args.set c.in_ok-all.all.items c.sort.new.self.items c.as_slice.result.now rests.items c.in_ok-all.ensures.rise c.in_ok-all.ensures.rests c.sort.ensures.permutation c.as_slice.ensures.value f)
    c.each_once.ensures

pub returns-clause-alike : goal.returns-clause-alike
returns-clause-alike c = IfOk-weaker c.each_once.result _ _
    (λ rests f. rests_alike c.args.configs.now c.args.set rests.items c.args.size c.requires.alike
    (rests_in_order c.args.configs.now c.args.set c.in_ok-all.all.items c.sort.new.self.items c.as_slice.result.now rests.items c.in_ok-all.ensures.rise c.in_ok-all.ensures.rests c.sort.ensures.permutation c.as_slice.ensures.value f))
    c.each_once.ensures
