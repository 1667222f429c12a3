use Rattle.std.proofs.Common.{◌++◌, refl, arith}
use Rattle.re_io.proofs.LineSteps.{takes_on}
use Rattle.re_io.proofs.lines.Lines.skip_rest.Goals as goal

pub pieces-preserved : goal.pieces-preserved
pieces-preserved g c =
    let first = c.pieces.invariant.taken in
    let next = c.refill.ensures.takes in
    record {
      taken = (first.0 ++ next.0, takes_on _ _ _ _ _ _ _ _ _ first.1 refl next.1);
      later = omega (arith, c.pieces.invariant.later, c.refill.ensures.later);
      few = c.in-Ok-true.ensures.few;
      stopped = c.refill.ensures.same;
    }

pub returns-in-Err-clause-takes : goal.returns-in-Err-clause-takes
returns-in-Err-clause-takes g c =
    let first = c.pieces.invariant.taken in
    let next = c.refill.ensures.takes in
    (first.0 ++ next.0, takes_on _ _ _ _ _ _ _ _ _ first.1 refl next.1, tt)
