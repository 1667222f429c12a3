use Rattle.std.proofs.Common.{arith, length-drop}
use Rattle.std.proofs.lemmas.List.{take_rest}
use Rattle.re_io.proofs.Taken.{appends_next}
use Rattle.re_io.proofs.standard.StdSinkSink.put.Goals as goal

pub pieces-preserved : goal.pieces-preserved
pieces-preserved g c =
    let bound = rw (take_rest c.args.piece.now c.pieces.at) at c.in-Ok.ensures.bound in
    record {
      inside = omega (arith, bound, length-drop c.pieces.at c.args.piece.now);
      appended = appends_next _ _ _ _ _ _ c.pieces.invariant.appended c.in-Ok.ensures.bytes;
      faults = c.pieces.invariant.faults;
    }
