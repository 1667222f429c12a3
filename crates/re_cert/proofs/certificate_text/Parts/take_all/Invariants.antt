use Rattle.std.proofs.Common.{◌≡◌, ◌+◌, ◌≤◌, ◌++◌, length, List}
use Rattle.re_io.specs.LineReading.{LineText}
use Rattle.re_cert.specs.CertificateTexts.{State, text_lines}
use Rattle.re_cert.specs.Collecting.{Collected}
use Rattle.re_cert.proofs.certificate_text.Parts.take_all.Given as goal

abbrev pub invariant-lines : goal.invariant-lines
invariant-lines l = record {
  before : List LineText;
  s : State;
  collected : Collected l.self l.reader before s;
  lines : text_lines l.text ≡ before ++ text_lines l.rest;
  byte : s.byte + length l.rest ≤ length l.text;
}

abbrev pub decreases-lines : goal.decreases-lines
decreases-lines l = length l.rest
