use Rattle.std.proofs.Common.{◌≡◌, ◌∙◌, ◌<◌, [], arith, get_or, length, subst, sym}
use Rattle.re_labels.proofs.Membership.{Contains-none}
use Rattle.re_labels.specs.Sets.{IsIn}
use Rattle.re_labels.proofs.Placing.{read_at}
use Rattle.re_flexible.proofs.Building.{built_all, built_more}
use Rattle.re_flexible.proofs.tables.alone.Goals as goal
use Rattle.re_flexible.proofs.tables.alone.Goals.{else-other-label, then-other-label}
use Rattle.re_flexible.specs.Relations.{Relates}

pub loop-other-preserved : goal.loop-other-preserved
loop-other-preserved c = elim c.if-other-label.branch [
  | then-other-label w ↦
      let low : c.args.label < length c.args.table.now = (let below = c.requires.label in let same = c.requires.count in omega (arith, below, same)) in
      let row : w.index-table-label.result ≡ get_or c.args.table.now c.args.label [] = read_at c.args.table.now c.args.label w.index-table-label.result low w.index-table-label.is in
      built_more (λ x y. (x ≡ c.args.label) × Relates c.args.table.now x y) c.loop-other.sole.items c.if-other-label.sole.items c.loop-other.other w.index-table-label.result c.loop-other.invariant
      ((λ i. (w.sole-is i).items) ∙ w.push.ensures.items)
      (λ y. (
        λ held. (w.if-other-label.true, subst (λ k. Relates c.args.table.now k y) (sym w.if-other-label.true) (subst (IsIn y) row held)),
        λ both. subst (IsIn y) (sym row) (subst (λ k. Relates c.args.table.now k y) w.if-other-label.true both.1),
      ))
  | else-other-label w ↦
      built_more (λ x y. (x ≡ c.args.label) × Relates c.args.table.now x y) c.loop-other.sole.items c.if-other-label.sole.items c.loop-other.other w.empty.result c.loop-other.invariant
      ((λ i. (w.sole-is i).items) ∙ w.push-else-other-label.ensures.items)
      (λ y. (λ held. absurd (Contains-none y (subst (IsIn y) w.empty.ensures held)), λ both. absurd (w.if-other-label.false both.0)))
]

pub returns-clause-alone : goal.returns-clause-alone
returns-clause-alone c = built_all (λ x y. (x ≡ c.args.label) × Relates c.args.table.now x y) c.loop-other.sole.items c.loop-other.other c.loop-other.invariant
    (λ x y both. let same : x ≡ c.args.label = both.0 in let past = c.loop-other-test.false in let below = c.requires.label in omega (arith, same, past, below))
