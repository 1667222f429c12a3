use Rattle.std.proofs.Common.{arith, length-append, length-take, refl, rules, take}
use Rattle.std.proofs.KnownBytes.{Consumes-trans}
use Rattle.re_io.proofs.read.read_all.Goals as goal

pub returns-then-len-count-gt-MAX_BYTES-clause-takes : goal.returns-then-len-count-gt-MAX_BYTES-clause-takes
returns-then-len-count-gt-MAX_BYTES-clause-takes g c =
    let size = length-append c.pieces.all.items (take c.in-Ok.count c.read.new.buf) in
    let front = length-take c.in-Ok.count c.read.new.buf in (
      _,
      Consumes-trans _ _ _ _ _ c.pieces.invariant.taken c.in-Ok.ensures.bytes.0,
      (λ _. omega (arith, size, front, c.len.ensures, c.in-Ok.ensures.bound.0, c.if-len-count-gt-MAX_BYTES.true), λ _. refl),
    )

pub returns-in_err-extend_from_slice-clause-takes : goal.returns-in_err-extend_from_slice-clause-takes
returns-in_err-extend_from_slice-clause-takes g c =
    let size = length-append c.pieces.all.items (take c.in-Ok.count c.read.new.buf) in
    let front = length-take c.in-Ok.count c.read.new.buf in (
      _,
      Consumes-trans _ _ _ _ _ c.pieces.invariant.taken c.in-Ok.ensures.bytes.0,
      (
        λ is. search rules,
        λ over. absurd (omega (arith, size, front, over, c.len.ensures, c.in-Ok.ensures.bound.0, c.if-len-count-gt-MAX_BYTES.false)),
      ),
    )
