use Rattle.std.proofs.Common.{◌≡◌, ◌∷◌, ◌++◌, [], ◌∙◌, append_assoc, ap, arith, length, refl, sym, subst, None, Some}
use Rattle.re_cert.proofs.LineTexts.{first_line_is}
use Rattle.re_problem.proofs.ReadTexts.{nothing_left}
use Rattle.re_cert.specs.Bounds.{Bound}
use Rattle.re_cert.specs.CertificateTexts.{State, is_whole, start}
use Rattle.re_cert.specs.Collecting.{Makes}
use Rattle.re_cert.proofs.Collected.{bound_is, ends_early, err_read, first_once_ended, no_fault, same_start}
use Rattle.re_cert.proofs.FittingStates.{whole_bound}
use Rattle.re_cert.proofs.certificate_text.Parts.take_all.Goals as goal

pub lines-init : goal.lines-init
lines-init c =
    let held = c.requires.begun.1 in
    let same : start ≡ c.requires.begun.0 = same_start c.requires.begun.0 held.behind_is in
    record {
      before = [];
      s = c.requires.begun.0;
      collected = held;
      lines = refl;
      byte = omega (arith, ap (λ (t : State). t.byte) same);
    }

pub returns-in-Err : goal.returns-in-Err
returns-in-Err c =
    let i = c.lines.invariant in
    err_read c.args.text.now c.lines.reader i.before _ _ c.in-Err.fault (i.lines ∙ ap (λ rest. i.before ++ rest) (first_line_is c.lines.rest.now _ c.cut_line-ended.result.1.now None c.cut_line-ended.ensures.first)) c.in-Err.ensures (i.s, i.collected.behind_is, i.collected.at)

pub lines-preserved : goal.lines-preserved
lines-preserved c =
    let i = c.lines.invariant in
    let more = c.in-Ok.ensures i.before i.s i.collected in
    let size = c.cut_line-ended.ensures.size in
    let byte = more.2 in
    let old = i.byte in
    record {
      before = i.before ++ _ ∷ [];
      s = more.0;
      collected = more.1;
      lines = i.lines ∙ ap (λ rest. i.before ++ rest) (first_line_is c.lines.rest.now _ c.cut_line-ended.result.1.now None c.cut_line-ended.ensures.first) ∙ sym (append_assoc i.before _ _);
      byte = omega arith;
    }

pub returns-then-not-ended : goal.returns-then-not-ended
returns-then-not-ended c =
    let i = c.lines.invariant in
    ends_early c.args.text.now c.lines.rest.now i.before i.s i.lines (nothing_left (length c.lines.rest.now) c.lines-test.ensures) i.collected.behind_is
    (ap is_whole (sym i.collected.behind_is) ∙ sym (c.ended.ensures i.before (i.s, i.collected.behind_is, i.collected.at)) ∙ c.if-not-ended.true)

pub returns : goal.returns
returns c =
    let i = c.lines.invariant in
    let none = nothing_left (length c.lines.rest.now) c.lines-test.ensures in
    let ended = ap is_whole (sym i.collected.behind_is) ∙ sym (c.ended.ensures i.before (i.s, i.collected.behind_is, i.collected.at)) ∙ c.if-not-ended.false in (
      no_fault c.args.text.now c.lines.rest.now i.before i.s i.lines none i.collected.behind_is ended,
      subst (Makes c.lines.self) (sym (bound_is c.args.text.now c.lines.rest.now i.before i.s i.lines none i.collected.behind_is))
          (record {
            rest = i.collected.held.rest;
            first_is = i.collected.held.first_is (first_once_ended i.s.phase ended);
            whole = whole_bound i.before i.s i.collected.behind_is ended;
          }),
    )
