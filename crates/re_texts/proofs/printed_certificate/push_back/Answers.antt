use Rattle.std.proofs.Common.{◌∙◌, ap, sym}
use Rattle.re_problem.specs.NamedProblems.{NamedProblem}
use Rattle.re_cert.specs.Bounds.{is_fixed}
use Rattle.re_texts.proofs.FittingParts.{lefts_ready, rights_ready}
use Rattle.re_texts.proofs.printed_certificate.push_back.Goals as goal

pub target-requires : goal.target-requires
target-requires c = ap is_fixed (sym c.kind.ensures.kind) ∙ sym c.goes_back.ensures ∙ c.if-not-goes_back.false

pub push_pairs-requires-clause-last : goal.push_pairs-requires-clause-last
push_pairs-requires-clause-last c =
    lefts_ready c.args.certificate.now c.kind.ensures.bound (ap is_fixed (sym c.kind.ensures.kind) ∙ sym c.goes_back.ensures ∙ c.if-not-goes_back.false) c.renaming.result.now c.renaming.ensures.renaming c.names.result.now
    (c.names.ensures.names ∙ ap (λ (p : NamedProblem). p.names) c.last.ensures)

pub push_pairs-requires-clause-target : goal.push_pairs-requires-clause-target
push_pairs-requires-clause-target c =
    rights_ready c.args.certificate.now c.kind.ensures.bound (ap is_fixed (sym c.kind.ensures.kind) ∙ sym c.goes_back.ensures ∙ c.if-not-goes_back.false) c.renaming.result.now c.renaming.ensures.renaming c.names-2.result.now
    (c.names-2.ensures.names ∙ ap (λ (p : NamedProblem). p.names) c.target.ensures)
