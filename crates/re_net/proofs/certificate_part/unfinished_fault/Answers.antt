use Rattle.std.proofs.Common.{◌∙◌, ap, arith, sym}
use Rattle.re_cert.specs.CertificateTexts.{is_whole}
use Rattle.re_net.proofs.FrontLines.{unfinished_is}
use Rattle.re_net.proofs.ForeignSections.{long_enough}
use Rattle.re_net.proofs.FrontLines.{no_mark}
use Rattle.re_net.proofs.certificate_part.unfinished_fault.Goals as goal

pub feed-requires-clause-within : goal.feed-requires-clause-within
feed-requires-clause-within c =
    let long = long_enough c.args.line.now (sym c.is_deliveries_line.ensures ∙ c.if-not-is_deliveries_line.false) in
    let within = c.requires.within in
    omega arith

pub unreachable-requires : goal.unreachable-requires
unreachable-requires c =
    let fed = c.requires.fed in
    no_mark fed.0 c.args.reader.now c.feed.new.reader fed.1 (c.requires.goes_on fed.0 fed.1) (c.in-Ok.ensures fed.0 fed.1.0 fed.1.1 fed.1)

pub returns : goal.returns
returns c = λ before s byte number is stands.
    unfinished_is byte number s c.args.line.now (ap is_whole (sym is) ∙ c.requires.goes_on before stands) (sym c.is_deliveries_line.ensures ∙ c.if-not-is_deliveries_line.false) c.feed.new.reader before c.in-Err.fault
    (c.in-Err.ensures before s is stands)
