use Rattle.std.proofs.Common.{ap, arith, length-take, take}
use Rattle.std.proofs.lemmas.List.{drop_all}
use Rattle.re_io.specs.LineReading.{LinesHeld}
use Rattle.re_io.proofs.LinePieces.{part_with_feed, part_without_feed}
use Rattle.re_io.proofs.lines.Lines.give.Goals as goal

pub returns-in_ok-extend_from_slice-in-Some-clause-given :
    goal.returns-in_ok-extend_from_slice-in-Some-clause-given
returns-in_ok-extend_from_slice-in-Some-clause-given c =
    part_with_feed _ _ _ _ _ (ap (λ (held : LinesHeld). held.pending) c.self.view_is) c.in-Some.place c.in-Some.ensures.place c.in_ok-extend_from_slice-in-Some.ensures.items

pub returns-in_ok-extend_from_slice-in-None-clause-given :
    goal.returns-in_ok-extend_from_slice-in-None-clause-given
returns-in_ok-extend_from_slice-in-None-clause-given c =
    part_without_feed (take c.self.inside.end c.self.inside.buffer) c.self.inside.at _ _ _ (ap (λ (held : LinesHeld). held.pending) c.self.view_is) _ c.in-None.ensures.place c.in_ok-extend_from_slice-in-None.ensures.items
    (drop_all c.self.inside.end _ (omega (arith, length-take c.self.inside.end c.self.inside.buffer)))
