use Rattle.std.proofs.Common.{◌≡◌, ◌+◌, ◌-◌, ◌≤◌, false, length, List}
use Rattle.re_io.specs.LineReading.{LineText}
use Rattle.re_io.specs.declared.read.TheConstants.{MAX_BYTES}
use Rattle.re_cert.specs.CertificateTexts.{State}
use Rattle.re_check.specs.Following.{Checked, HasGiven, HasTaken}
use Rattle.re_check.proofs.stream.read_parts.Given as goal

abbrev pub invariant-lines : goal.invariant-lines
invariant-lines g l = record {
  before : List LineText;
  s : State;
  checked : Checked l.checking l.reader before s;
  given : HasGiven (g.S.Source.left l.fn.source) (g.S.Source.left l.source) l.lines before;
  taken : HasTaken (g.S.Source.left l.fn.source) (g.S.Source.left l.source) l.lines;
  byte : s.byte + length l.lines.pending ≤ l.lines.taken;
  few : l.lines.taken ≤ MAX_BYTES;
  going : l.lines.stopped ≡ false;
  later : g.S.Source.faults l.fn.source ≤ g.S.Source.faults l.source;
}

abbrev pub decreases-lines : goal.decreases-lines
decreases-lines g l = MAX_BYTES + length l.lines.pending - l.lines.taken
