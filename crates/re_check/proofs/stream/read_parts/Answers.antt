use Rattle.std.proofs.Common.{◌≡◌, ◌+◌, ◌<◌, ◌≤◌, ◌∙◌, ◌++◌, ◌∷◌, [], ap, append-nil, arith, sym, subst, length, List, ℕ, Option, Some, None, Ok, Err}
use Rattle.std.proofs.KnownBytes.{Consumes-nil}
use Rattle.std.specs.Prelude.{is_none}
use Rattle.re_io.specs.LineReading.{LinesHeld}
use Rattle.re_cert.proofs.Collected.{same_start}
use Rattle.re_cert.specs.CertificateTexts.{State, start}
use Rattle.re_check.proofs.Streamed.{all_given, emptied, fault_is, limit_line, line_at, line_counted, line_filled, line_given, line_limit, line_within, none_at, nothing_given, passed_end, passed_input, passed_limit, past_limit, taken_limit, taken_on}
use Rattle.re_check.specs.Following.{HasGiven}
use Rattle.re_check.proofs.stream.read_parts.Goals as goal

pub lines-init : goal.lines-init
lines-init g c =
    let held = c.requires.new in
    let checked = c.requires.begun.1 in
    let same : start ≡ c.requires.begun.0 = same_start c.requires.begun.0 checked.behind_is in
    record {
      before = [];
      s = c.requires.begun.0;
      checked = checked;
      given = subst (λ (lines : LinesHeld). HasGiven (g.S.Source.left c.args.source.now) (g.S.Source.left c.args.source.now) lines []) (sym held) (nothing_given (g.S.Source.left c.args.source.now));
      taken = ([], Consumes-nil (g.S.Source.left c.args.source.now), sym (ap (λ (lines : LinesHeld). lines.taken) held));
      byte = omega (arith, ap (λ (t : State). t.byte) same, ap (λ (lines : LinesHeld). length lines.pending) held, ap (λ (lines : LinesHeld). lines.taken) held);
      few = omega (arith, ap (λ (lines : LinesHeld). lines.taken) held);
      going = ap (λ (lines : LinesHeld). lines.stopped) held;
      later = omega arith;
    }

pub returns-in_err-line-clause-too_long : goal.returns-in_err-line-clause-too_long
returns-in_err-line-clause-too_long g c over all is =
    let i = c.lines.invariant in
    let takes = c.in_err-line.ensures.takes in
    let long = line_limit c.from_residual.result c.in_err-line.field-0.0 c.from_residual.ensures.1 over in
    past_limit _ _ _ c.lines.lines c.next_line.new.self i.before takes.0 all i.given takes.1 is (c.in_err-line.ensures.too_long.0 (ap Err long))

pub returns-in_err-line-clause-takes : goal.returns-in_err-line-clause-takes
returns-in_err-line-clause-takes g c =
    let takes = c.in_err-line.ensures.takes in
    taken_limit _ _ c.next_line.new.self c.from_residual.result (taken_on _ _ _ c.lines.lines c.next_line.new.self takes.0 c.lines.invariant.taken takes.1)
    (λ over. c.in_err-line.ensures.too_long.0 (ap Err (line_limit c.from_residual.result c.in_err-line.field-0.0 c.from_residual.ensures.1 over)))
    (λ many. limit_line c.from_residual.result c.in_err-line.field-0.0 c.from_residual.ensures.0 c.from_residual.ensures.1 (fault_is _ _ (c.in_err-line.ensures.too_long.1 many)))

pub returns-in_default-clause-takes : goal.returns-in_default-clause-takes
returns-in_default-clause-takes g c =
    let i = c.lines.invariant in
    let takes = c.in_ok-line.ensures.takes in
    let few = line_within c.in_ok-line.field-0 c.next_line.new.self.taken c.in_ok-line.ensures.too_long.1 in
    taken_limit {T = Unit {0}} _ _ c.next_line.new.self (Ok tt) (taken_on _ _ _ c.lines.lines c.next_line.new.self takes.0 i.taken takes.1)
    (λ over. absurd (cc)) (λ many. absurd (omega (arith, few, many)))

pub returns-in-Err-clause-takes : goal.returns-in-Err-clause-takes
returns-in-Err-clause-takes g c =
    let takes = c.in_ok-line.ensures.takes in
    let first = taken_on _ _ _ c.lines.lines c.next_line.new.self takes.0 c.lines.invariant.taken takes.1 in
    let rest = c.pass_over.ensures.takes in
    taken_limit {T = Unit {0}} _ _ c.pass_over.new.lines (Err c.pass_over.result) (taken_on _ _ _ c.next_line.new.self c.pass_over.new.lines rest.0 first rest.1)
    (λ over. c.pass_over.ensures.too_long.0 (fault_is _ _ over)) (λ many. ap Err (c.pass_over.ensures.too_long.1 many))

pub returns-in_default-clause-read : goal.returns-in_default-clause-read
returns-in_default-clause-read g c =
    let i = c.lines.invariant in
    let takes = c.in_ok-line.ensures.takes in
    let none = none_at _ c.in_ok-line.field-0 _ _ c.in_default.is takes.2 in (
      i.before,
      i.s,
      i.checked,
      λ all is. all_given _ _ _ c.lines.lines c.next_line.new.self i.before takes.0 all i.given takes.1 none is ∙ append-nil i.before,
    )

pub returns-in_default-clause-emptied : goal.returns-in_default-clause-emptied
returns-in_default-clause-emptied g c all is judged =
    let i = c.lines.invariant in
    let takes = c.in_ok-line.ensures.takes in
    let none = none_at _ c.in_ok-line.field-0 _ _ c.in_default.is takes.2 in
    emptied _ _ _ c.lines.lines c.next_line.new.self i.before takes.0 all i.given takes.1 none.2 is (line_within c.in_ok-line.field-0 c.next_line.new.self.taken c.in_ok-line.ensures.too_long.1)

pub take-requires-clause-within : goal.take-requires-clause-within
take-requires-clause-within g c =
    let i = c.lines.invariant in
    let takes = c.in_ok-line.ensures.takes in
    let first = line_at _ c.in_ok-line.field-0 c.in-Some.line _ _ c.in-Some.is takes.2 in
    let count = line_counted c.lines.lines c.next_line.new.self _ _ takes.0 c.in-Some.line takes.1 first in
    let few = line_within c.in_ok-line.field-0 c.next_line.new.self.taken c.in_ok-line.ensures.too_long.1 in
    let byte = i.byte in
    let place = i.checked.at.counts.byte_is in
    omega arith

pub returns-in-Err-clause-input : goal.returns-in-Err-clause-input
returns-in-Err-clause-input g c all is =
    let i = c.lines.invariant in
    let takes = c.in_ok-line.ensures.takes in
    let first = line_at _ c.in_ok-line.field-0 c.in-Some.line _ _ c.in-Some.is takes.2 in
    let given = line_given _ _ _ c.lines.lines c.next_line.new.self i.before takes.0 c.in-Some.line i.given takes.1 first in
    passed_input (Unit {0}) _ _ _ c.next_line.new.self c.pass_over.new.lines i.before c.in-Some.line c.in-Err.fault all given is c.lines.reader c.pass_over.result (i.s, i.checked.behind_is, i.checked.at) c.in-Err.ensures c.pass_over.ensures.passes

pub returns-in-Err-clause-too_long : goal.returns-in-Err-clause-too_long
returns-in-Err-clause-too_long g c over all is =
    let i = c.lines.invariant in
    let takes = c.in_ok-line.ensures.takes in
    let first = line_at _ c.in_ok-line.field-0 c.in-Some.line _ _ c.in-Some.is takes.2 in
    let given = line_given _ _ _ c.lines.lines c.next_line.new.self i.before takes.0 c.in-Some.line i.given takes.1 first in
    passed_limit (Unit {0}) _ _ _ c.next_line.new.self c.pass_over.new.lines i.before c.in-Some.line c.in-Err.fault all given is c.pass_over.result c.pass_over.ensures.passes over

pub returns-in-Err-clause-emptied : goal.returns-in-Err-clause-emptied
returns-in-Err-clause-emptied g c all is judged =
    let i = c.lines.invariant in
    let takes = c.in_ok-line.ensures.takes in
    let first = line_at _ c.in_ok-line.field-0 c.in-Some.line _ _ c.in-Some.is takes.2 in
    let given = line_given _ _ _ c.lines.lines c.next_line.new.self i.before takes.0 c.in-Some.line i.given takes.1 first in
    passed_end (Unit {0}) _ _ _ c.next_line.new.self c.pass_over.new.lines i.before c.in-Some.line c.in-Err.fault all given is c.pass_over.result c.pass_over.ensures.passes judged

pub lines-smaller : goal.lines-smaller
lines-smaller g c =
    let takes = c.in_ok-line.ensures.takes in
    let first = line_at _ c.in_ok-line.field-0 c.in-Some.line _ _ c.in-Some.is takes.2 in
    let count = line_counted c.lines.lines c.next_line.new.self _ _ takes.0 c.in-Some.line takes.1 first in
    let few = line_within c.in_ok-line.field-0 c.next_line.new.self.taken c.in_ok-line.ensures.too_long.1 in
    let some = line_filled _ c.in-Some.line _ _ first in
    omega arith

pub lines-preserved : goal.lines-preserved
lines-preserved g c =
    let i = c.lines.invariant in
    let takes = c.in_ok-line.ensures.takes in
    let first = line_at _ c.in_ok-line.field-0 c.in-Some.line _ _ c.in-Some.is takes.2 in
    let count = line_counted c.lines.lines c.next_line.new.self _ _ takes.0 c.in-Some.line takes.1 first in
    let more = c.in-Ok.ensures i.before i.s i.checked in
    let low = more.2 in
    let byte = i.byte in
    record {
      before = i.before ++ c.in-Some.line ∷ [];
      s = more.0;
      checked = more.1;
      given = line_given _ _ _ c.lines.lines c.next_line.new.self i.before takes.0 c.in-Some.line i.given takes.1 first;
      taken = taken_on _ _ _ c.lines.lines c.next_line.new.self takes.0 i.taken takes.1;
      byte = omega arith;
      few = line_within c.in_ok-line.field-0 c.next_line.new.self.taken c.in_ok-line.ensures.too_long.1;
      going = c.in_ok-line.ensures.stopped ∙ ap is_none c.in-Some.is;
      later = omega (arith, i.later, c.next_line.ensures.later);
    }
