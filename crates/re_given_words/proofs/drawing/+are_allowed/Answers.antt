use Rattle.std.proofs.Common.{◌≡◌, ◌∙◌, ◌++◌, ◌∷◌, [], arith, length, subst, sym, take}
use Rattle.std.specs.Prelude.{Contains}
use Rattle.std.proofs.lemmas.Result.{IfOk-weaker}
use Rattle.re_given_words.proofs.SetsAdded.{new-allowed, new-missed, other-missed, others-allowed, others-more, seen-all, seen-held, seen-more, whole-allowed, whole-missed}
use Rattle.re_given_words.specs.Searching.{AreAllowed, IsMissed}
use Rattle.re_given_words.specs.declared.standing.Standing.{Standing}
use Rattle.re_given_words.proofs.drawing.+are_allowed.Goals as goal
use Rattle.re_given_words.proofs.drawing.+are_allowed.Goals.{else-port-other, then-port-other+in_ok-are_allowed+else-not-branch}

pub returns-then-port-degree-clause-yes : goal.returns-then-port-degree-clause-yes
returns-then-port-degree-clause-yes t c = λ yes. whole-allowed c.args.standing.now c.args.new.now c.args.active.now c.args.drawn.now (omega (arith, c.if-port-degree.true, c.degree.ensures.degree)) (sym c.is_allowed.ensures ∙ yes)

pub returns-then-port-degree-clause-no : goal.returns-then-port-degree-clause-no
returns-then-port-degree-clause-no t c = λ no. whole-missed c.args.standing.now c.args.new.now c.args.active.now c.args.drawn.now (omega (arith, c.if-port-degree.true, c.degree.ensures.degree)) (sym c.is_allowed.ensures ∙ no)

pub returns-then-port-new-clause-yes : goal.returns-then-port-new-clause-yes
returns-then-port-new-clause-yes t c =
    IfOk-weaker c.are_allowed.result _ _ (λ all allowed yes. new-allowed c.args.standing.now c.args.new.now c.args.active.now c.args.drawn.now (omega (arith, c.if-port-degree.false, c.degree.ensures.degree)) c.if-port-new.true
    (subst (AreAllowed c.args.active.now c.args.standing.now c.args.new.now) (c.as_slice.ensures.value ∙ c.with_behind-more.ensures) (allowed yes))) c.are_allowed.ensures.yes

pub returns-then-port-new-clause-no : goal.returns-then-port-new-clause-no
returns-then-port-new-clause-no t c =
    IfOk-weaker c.are_allowed.result _ _ (λ all missed no. new-missed c.args.standing.now c.args.new.now c.args.active.now c.args.drawn.now (omega (arith, c.if-port-degree.false, c.degree.ensures.degree)) c.if-port-new.true
    (subst (IsMissed c.args.active.now c.args.standing.now c.args.new.now) (c.as_slice.ensures.value ∙ c.with_behind-more.ensures) (missed no))) c.are_allowed.ensures.no

pub returns-then-not-branch-clause-no : goal.returns-then-not-branch-clause-no
returns-then-not-branch-clause-no t c = λ same. other-missed c.args.standing.now c.args.new.now c.args.active.now c.args.drawn.now c.other-item.result (omega (arith, c.if-port-degree.false, c.degree.ensures.degree)) c.if-port-new.false
    (seen-held c.args.standing.now c.loop-other.other-index c.other-item.result c.loop-other-test.true c.other-item.is) c.if-port-other.true
    (subst (IsMissed c.args.active.now c.args.standing.now c.args.new.now) (c.as_slice-then-port-other.ensures.value ∙ c.with_behind-more-then-port-other.ensures) (c.in_ok-are_allowed.ensures.no c.if-not-branch.true))

pub loop-other-preserved : goal.loop-other-preserved
loop-other-preserved t c =
    subst (λ seen. (other : Standing) → Contains seen other → other.port ≡ length c.args.drawn.now → AreAllowed c.args.active.now c.args.standing.now c.args.new.now (c.args.drawn.now ++ other.set ∷ []))
    (sym (seen-more c.args.standing.now c.loop-other.other-index c.other-item.result c.loop-other-test.true c.other-item.is))
    (others-more c.args.standing.now c.args.new.now c.args.active.now c.args.drawn.now (take c.loop-other.other-index c.args.standing.now) c.other-item.result c.loop-other.invariant last)
  where
    last : c.other-item.result.port ≡ length c.args.drawn.now → AreAllowed c.args.active.now c.args.standing.now c.args.new.now (c.args.drawn.now ++ c.other-item.result.set ∷ [])
    last here =
        elim c.if-port-other.branch [
          | then-port-other+in_ok-are_allowed+else-not-branch w ↦
              subst (AreAllowed c.args.active.now c.args.standing.now c.args.new.now) (w.as_slice-then-port-other.ensures.value ∙ w.with_behind-more-then-port-other.ensures) (w.in_ok-are_allowed.ensures.yes w.if-not-branch.false)
          | else-port-other w ↦ absurd (w.if-port-other.false (sym here))
        ]

pub returns-clause-yes : goal.returns-clause-yes
returns-clause-yes t c = λ same.
    others-allowed c.args.standing.now c.args.new.now c.args.active.now c.args.drawn.now (omega (arith, c.if-port-degree.false, c.degree.ensures.degree)) c.if-port-new.false
    (subst (λ seen. (other : Standing) → Contains seen other → other.port ≡ length c.args.drawn.now → AreAllowed c.args.active.now c.args.standing.now c.args.new.now (c.args.drawn.now ++ other.set ∷ []))
    (seen-all c.args.standing.now c.loop-other.other-index c.loop-other.auto.other-index-end c.loop-other-test.false) c.loop-other.invariant)
