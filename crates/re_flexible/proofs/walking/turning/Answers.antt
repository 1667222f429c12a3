use Rattle.std.proofs.Common.{◌≡◌, ◌∙◌, ◌<◌, ◌+◌, true, [], arith, get_or, inl, inr, length, subst, sym}
use Rattle.std.specs.Prelude.{◌↔◌}
use Rattle.std.proofs.lemmas.Bool.{false≢true}
use Rattle.re_labels.proofs.Sets.{IsIn-has, has-IsIn}
use Rattle.re_labels.proofs.Tests.{not_told}
use Rattle.re_labels.specs.Sets.{IsIn}
use Rattle.re_labels.proofs.Placing.{read_at}
use Rattle.re_problem.specs.NamedProblems.{unnamed}
use Rattle.re_flexible.proofs.Parts.{AreTested, TurnsIn, tested_all, tested_more, tested_none, tested_past}
use Rattle.re_flexible.proofs.walking.turning.Goals as goal
use Rattle.re_flexible.proofs.walking.turning.Goals.{else-has, else-has-via-else-has, else-has-via-then-has+else-not-has, then-has+then-not-has+else-rounds, then-has+then-not-has+then-rounds}
use Rattle.re_flexible.specs.Relations.{Relates, Rounds}

pub loop-label-init : goal.loop-label-init
loop-label-init c = tested_none (unnamed c.args.problem.now) c.args.sets.now c.args.parts.now c.empty-seen.result c.empty-turning.result c.empty-seen.ensures c.empty-turning.ensures

pub rounds-requires-clause-converse : goal.rounds-requires-clause-converse
rounds-requires-clause-converse c = λ x y.
    subst (λ t. Relates c.as_slice-then-not-has.result.now x y ↔ Relates t y x) (sym c.as_slice.ensures.value)
    (subst (λ t. Relates t x y ↔ Relates c.args.walks.now.two.items y x) (sym c.as_slice-then-not-has.ensures.value) (c.requires.walks.converse x y))

pub loop-label-preserved : goal.loop-label-preserved
loop-label-preserved c =
    let problem = unnamed c.args.problem.now in
    let sets = c.args.sets.now in
    let parts = c.args.parts.now in
    let n = c.loop-label.label in
    let part = c.index-parts-label.result in
    let low : n < length parts = (let below = c.loop-label-test.true in let same = c.requires.count in omega (arith, below, same)) in
    let at : part ≡ get_or parts n [] = read_at parts n part low c.index-parts-label.is in
    let held : c.has.result ≡ true → IsIn n part = λ t. has-IsIn part n (sym c.has.ensures ∙ t) in
    let turns : c.has.result ≡ true → Rounds c.args.walks.now.two.items n ↔ TurnsIn problem sets parts n =
    λ t. c.requires.walks.turns_are n ((c.requires.parts n n).0 (subst (IsIn n) at (held t))) in
    elim c.if-has.branch [
      | then-has+then-not-has+then-rounds w ↦ tested_more problem sets parts c.requires.apart c.requires.parts c.loop-label.seen c.loop-label.turning part c.if-has.seen c.if-has.turning n c.loop-label.invariant at
          (held w.if-has.true) (w.seen-is ∙ w.union-seen.ensures)
          (inl (
            (turns w.if-has.true).0 (subst (λ t. Rounds t n) w.as_slice.ensures.value (w.rounds.ensures.0 w.if-rounds.true)),
            w.turning-is ∙ w.union-turning.ensures,
          ))
      | then-has+then-not-has+else-rounds w ↦ tested_more problem sets parts c.requires.apart c.requires.parts c.loop-label.seen c.loop-label.turning part c.if-has.seen c.if-has.turning n c.loop-label.invariant at
          (held w.if-has.true) (w.seen-is ∙ w.union-seen.ensures)
          (inr (
            (λ turning. not_told w.rounds.result w.rounds.ensures w.if-rounds.false (subst (λ t. Rounds t n) (sym w.as_slice.ensures.value) ((turns w.if-has.true).1 turning))),
            w.turning-is,
          ))
      | else-has w ↦
          subst (λ s. AreTested problem sets parts s c.if-has.turning (n + 1)) (sym w.seen-is)
          (subst (λ s. AreTested problem sets parts c.loop-label.seen s (n + 1)) (sym w.turning-is)
          (tested_past problem sets parts c.loop-label.seen c.loop-label.turning n c.loop-label.invariant (λ self. elim w.else-has.branch [
            | else-has-via-then-has+else-not-has v ↦ has-IsIn c.loop-label.seen n (sym v.has-then-has.ensures ∙ v.if-not-has.false)
            | else-has-via-else-has v ↦ absurd (false≢true (sym (sym c.has.ensures ∙ v.if-has.false) ∙ IsIn-has part n (subst (IsIn n) (sym at) self)))
          ])))
    ]

pub returns : goal.returns
returns c = tested_all (unnamed c.args.problem.now) c.args.sets.now c.args.parts.now c.requires.apart c.requires.parts c.loop-label.seen c.loop-label.turning c.loop-label.label c.loop-label.invariant
    (let past = c.loop-label-test.false in let same = c.requires.count in omega (arith, past, same))
