use Rattle.std.proofs.Common.{ℕ, subst, sym}
use Rattle.re_labels.proofs.Sets.{IsIn-meet, IsIn-meet_cases}
use Rattle.re_labels.specs.Sets.{IsIn}
use Rattle.re_flexible.proofs.Parts.{meet_row}
use Rattle.re_flexible.proofs.walking.part_of.Goals as goal
use Rattle.re_flexible.specs.Relations.{Relates}

pub returns : goal.returns
returns c =
    let F = λ (y : ℕ). Relates c.args.walks.now.forth.items c.args.label y in
    let B = λ (y : ℕ). Relates c.args.walks.now.behind.items c.args.label y in
    let A = λ (y : ℕ). Relates c.args.walks.now.from_active.items c.args.label y in
    let P = λ (y : ℕ). Relates c.args.walks.now.from_passive.items c.args.label y in
    let even = meet_row F B c.row-forth.result c.row-behind.result c.meet-even.result c.meet-even.ensures c.row-forth.ensures c.row-behind.ensures in
    let odd = meet_row A P c.row-from_active.result c.row-from_passive.result c.meet-odd.result c.meet-odd.ensures c.row-from_active.ensures c.row-from_passive.ensures in
    let all = meet_row (λ y. F y × B y) (λ y. A y × P y) c.meet-even.result c.meet-odd.result c.meet-all.result c.meet-all.ensures even odd in
    λ y. (
      λ held. let two = IsIn-meet_cases c.args.set c.meet-all.result y (subst (IsIn y) c.meet.ensures held) in let four = (all y).0 two.1 in (two.0, four.0.0, four.0.1, four.1.0, four.1.1),
      λ five. subst (IsIn y) (sym c.meet.ensures) (IsIn-meet c.args.set c.meet-all.result y five.0 ((all y).1 ((five.1, five.2), (five.3, five.4)))),
    )
