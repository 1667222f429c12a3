use Rattle.std.proofs.Common.{◌≡◌, ◌+◌, ◌++◌, ◌∷◌, [], Bool, None, arith, false, length, length-append, subst, true}
use Rattle.re_io.specs.LineReading.{IsFirstLine, line_bytes}
use Rattle.re_problem.proofs.ReadTexts.{nothing_left}
use Rattle.re_net.proofs.FrontLines.{all_fed, end_told, line_ends, line_fed, line_refused, lines_bytes, nothing_fed, room_left, still_open, unfinished_there}
use Rattle.re_net.proofs.certificate_part.end_behind.Goals as goal

pub lines-init : goal.lines-init
lines-init c = nothing_fed c.args.text.now c.args.reader.now c.requires.new

pub unfinished_fault-requires-clause-fed : goal.unfinished_fault-requires-clause-fed
unfinished_fault-requires-clause-fed c = let f = c.lines.invariant in (f.fed, (f.state, f.behind_is, f.at))

pub unfinished_fault-requires-clause-goes_on : goal.unfinished_fault-requires-clause-goes_on
unfinished_fault-requires-clause-goes_on c = still_open c.args.text.now c.lines.rest.now c.lines.reader c.lines.number c.lines.invariant

pub unfinished_fault-requires-clause-within : goal.unfinished_fault-requires-clause-within
unfinished_fault-requires-clause-within c =
    let room = room_left c.args.text.now c.lines.rest.now c.lines.reader c.lines.number c.lines.invariant in
    let size = c.cut_line-ended.ensures.size in
    let whole = c.cut_line-ended.ensures.whole in
    let most = c.requires.within in
    omega arith

pub returns-then-not-ended-clause-refused : goal.returns-then-not-ended-clause-refused
returns-then-not-ended-clause-refused c =
    let f = c.lines.invariant in
    let first = subst (λ (t : Bool). IsFirstLine c.lines.rest.now (record { text = c.cut_line-ended.result.0.now; ended = t }) c.cut_line-ended.result.1.now None) c.if-not-ended.true c.cut_line-ended.ensures.first in
    unfinished_there c.args.text.now c.lines.rest.now c.lines.reader c.lines.number f c.cut_line-ended.result.0.now c.cut_line-ended.result.1.now first c.unfinished_fault.result
    (c.unfinished_fault.ensures f.fed f.state (length (lines_bytes f.fed)) c.lines.number f.behind_is (f.state, f.behind_is, f.at))

pub feed-requires-clause-fed : goal.feed-requires-clause-fed
feed-requires-clause-fed c = let f = c.lines.invariant in (f.fed, (f.state, f.behind_is, f.at))

pub feed-requires-clause-within : goal.feed-requires-clause-within
feed-requires-clause-within c =
    let room = room_left c.args.text.now c.lines.rest.now c.lines.reader c.lines.number c.lines.invariant in
    let size : length (c.cut_line-ended.result.0.now ++ 10 ∷ []) + length c.cut_line-ended.result.1.now ≡ length c.lines.rest.now =
    subst (λ (t : Bool). length (line_bytes (record { text = c.cut_line-ended.result.0.now; ended = t })) + length c.cut_line-ended.result.1.now ≡ length c.lines.rest.now) c.if-not-ended.false c.cut_line-ended.ensures.size in
    let one = length-append c.cut_line-ended.result.0.now (10 ∷ []) in
    let most = c.requires.within in
    omega arith

pub returns-in-Err-clause-refused : goal.returns-in-Err-clause-refused
returns-in-Err-clause-refused c =
    let f = c.lines.invariant in
    let first = subst (λ (t : Bool). IsFirstLine c.lines.rest.now (record { text = c.cut_line-ended.result.0.now; ended = t }) c.cut_line-ended.result.1.now None) c.if-not-ended.false c.cut_line-ended.ensures.first in
    line_refused c.args.text.now c.lines.rest.now c.lines.reader c.lines.number f c.cut_line-ended.result.0.now c.cut_line-ended.result.1.now first c.feed.new.reader c.in-Err.fault
    (c.in-Err.ensures f.fed f.state f.behind_is (f.state, f.behind_is, f.at))

pub returns-then-ended-clause-ends : goal.returns-then-ended-clause-ends
returns-then-ended-clause-ends c =
    let f = c.lines.invariant in
    let first = subst (λ (t : Bool). IsFirstLine c.lines.rest.now (record { text = c.cut_line-ended.result.0.now; ended = t }) c.cut_line-ended.result.1.now None) c.if-not-ended.false c.cut_line-ended.ensures.first in
    let stands = c.in-Ok.ensures f.fed f.state f.behind_is (f.state, f.behind_is, f.at) in
    line_ends c.args.text.now c.lines.rest.now c.lines.reader c.lines.number f c.cut_line-ended.result.0.now c.cut_line-ended.result.1.now first c.feed.new.reader stands
    (end_told c.feed.new.reader (f.fed ++ record { text = c.cut_line-ended.result.0.now; ended = true } ∷ []) stands true c.ended.result (c.ended.ensures (f.fed ++ record { text = c.cut_line-ended.result.0.now; ended = true } ∷ []) stands) c.if-ended.true)

pub lines-preserved : goal.lines-preserved
lines-preserved c =
    let f = c.lines.invariant in
    let first = subst (λ (t : Bool). IsFirstLine c.lines.rest.now (record { text = c.cut_line-ended.result.0.now; ended = t }) c.cut_line-ended.result.1.now None) c.if-not-ended.false c.cut_line-ended.ensures.first in
    let stands = c.in-Ok.ensures f.fed f.state f.behind_is (f.state, f.behind_is, f.at) in
    line_fed c.args.text.now c.lines.rest.now c.lines.reader c.lines.number f c.cut_line-ended.result.0.now c.cut_line-ended.result.1.now first c.feed.new.reader stands
    (end_told c.feed.new.reader (f.fed ++ record { text = c.cut_line-ended.result.0.now; ended = true } ∷ []) stands false c.ended.result (c.ended.ensures (f.fed ++ record { text = c.cut_line-ended.result.0.now; ended = true } ∷ []) stands) c.if-ended.false)

pub returns-clause-refused : goal.returns-clause-refused
returns-clause-refused c =
    all_fed c.args.text.now c.lines.rest.now c.lines.reader c.lines.number c.lines.invariant (nothing_left (length c.lines.rest.now) c.lines-test.ensures)
