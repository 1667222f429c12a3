use Rattle.std.proofs.Common.{inr, subst, ◌∙◌}
use Rattle.std.specs.Io.KnownBytes.{Appends}
use Rattle.re_io.specs.Sink.{AppendsPrefix, LeavesPiece}
use Rattle.re_explore.proofs.Pieces.{both_answer, stops_at_front, stops_in_front, stops_in_rest}
use Rattle.re_explore.proofs.telling.put_claims.Goals as goal

pub returns-in-Ok-put-clause-answer : goal.returns-in-Ok-put-clause-answer
returns-in-Ok-put-clause-answer g c answers =
    let written = g.K.Sink.written in
    let (rest, follows, answered) = c.put_rest.ensures.answer answers in
    let front = subst (Appends (written c.args.sink.now) (written c.put.new.self)) (c.as_slice.ensures.value ∙ c.in-Ok.ensures.lines) c.in-Ok-put.ensures.bytes in
    (rest, follows, both_answer c.args.claimed.now rest c.put_rest.result (written c.args.sink.now) (written c.put.new.self) (written c.put_rest.new.sink) front answered)

pub returns-in-Ok-put-clause-partly : goal.returns-in-Ok-put-clause-partly
returns-in-Ok-put-clause-partly g c failed =
    let written = g.K.Sink.written in
    let (rest, follows, within) = c.put_rest.ensures.partly failed in
    let front = subst (Appends (written c.args.sink.now) (written c.put.new.self)) (c.as_slice.ensures.value ∙ c.in-Ok.ensures.lines) c.in-Ok-put.ensures.bytes in
    (rest, follows, stops_in_rest c.args.claimed.now rest (written c.args.sink.now) (written c.put.new.self) (written c.put_rest.new.sink) c.front.ensures.ended front within)

pub returns-in-Ok-put-clause-no_memory : goal.returns-in-Ok-put-clause-no_memory
returns-in-Ok-put-clause-no_memory g c ended =
    let written = g.K.Sink.written in
    let (rest, follows) = c.front.ensures.begins in
    let front = subst (Appends (written c.args.sink.now) (written c.put.new.self)) (c.as_slice.ensures.value ∙ c.in-Ok.ensures.lines) c.in-Ok-put.ensures.bytes in
    let kept = c.put_rest.ensures.no_memory ended in
    inr (rest, follows, stops_at_front c.args.claimed.now rest (written c.args.sink.now) (written c.put.new.self) (written c.put_rest.new.sink) c.front.ensures.ended front kept)

pub returns-in-Err-Failed-clause-partly : goal.returns-in-Err-Failed-clause-partly
returns-in-Err-Failed-clause-partly g c failed =
    let written = g.K.Sink.written in
    let (rest, follows) = c.front.ensures.begins in
    let piece = subst (LeavesPiece (written c.args.sink.now) (written c.put.new.self) c.as_slice.result.now) c.in-Err-Failed.field-0-is c.in-Err-Failed.ensures.bytes in
    let front = subst (AppendsPrefix (written c.args.sink.now) (written c.put.new.self)) (c.as_slice.ensures.value ∙ c.in-Ok.ensures.lines) piece in
    (rest, follows, stops_in_front c.args.claimed.now rest (written c.args.sink.now) (written c.put.new.self) c.front.ensures.ended front)
