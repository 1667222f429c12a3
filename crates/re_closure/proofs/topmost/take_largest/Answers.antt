use Rattle.std.proofs.Common.{◌<◌, length, subst}
use Rattle.re_closure.proofs.Keeping.{taken}
use Rattle.re_closure.proofs.topmost.take_largest.Goals as goal

pub returns-clause-taken : goal.returns-clause-taken
returns-clause-taken c = taken c.args.waiting.now.items c.swap_remove.new.self.items c.largest-place.result c.swap_remove.result
    (subst (λ l. c.largest-place.result < length l) c.as_slice.ensures.value c.largest-place.ensures) c.swap_remove.ensures.value c.swap_remove.ensures.items
