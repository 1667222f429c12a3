use Rattle.std.proofs.Common.{subst, sym, take}
use Rattle.re_given_words.proofs.Serving.{left-more}
use Rattle.re_given_words.proofs.SetsAdded.{seen-more}
use Rattle.re_given_words.specs.Searching.{AreLeft}
use Rattle.re_given_words.proofs.searching.all_left.Goals as goal

pub loop-before-preserved : goal.loop-before-preserved
loop-before-preserved c =
    subst (λ seen. AreLeft c.args.active.now c.args.standing.now seen c.put.new.opens.items) (sym (seen-more c.args.opens.now c.loop-before.before-index c.before-item.result c.loop-before-test.true c.before-item.is))
    (left-more c.args.active.now c.args.standing.now (take c.loop-before.before-index c.args.opens.now) c.loop-before.left.items c.put.new.opens.items c.before-item.result c.in_ok-more.more c.loop-before.invariant c.in_ok-more.ensures c.in_ok-put.ensures)
