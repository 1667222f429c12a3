use Rattle.std.proofs.Common.{◌≡◌, ℕ, true, not, [], ◌∷◌, ◌∙◌, ap, subst, sym}
use Rattle.re_clauses.specs.Clauses.{Satisfies}
use Rattle.re_labels.proofs.Sets.{has-IsIn}
use Rattle.re_labels.specs.Sets.{IsIn}
use Rattle.re_given_words.proofs.Asked.{implied, more-push}
use Rattle.re_given_words.specs.Asking.{variable}
use Rattle.re_given_words.proofs.asking.ask_stronger.Goals.{then-other-label+then-has+in_ok-add, else-other-label}
use Rattle.re_given_words.proofs.asking.ask_stronger.Goals as goal

pub loop-other-preserved : goal.loop-other-preserved
loop-other-preserved c = λ values follows satisfied. elim c.if-other-label.branch [
  | then-other-label+then-has+in_ok-add w ↦ subst (Satisfies values) (sym w.clauses-is)
      (more-push c.loop-other.clauses w.add.new.clauses (c.negative-weak.result ∷ w.positive-strong.result ∷ [])
      (λ values. (other : ℕ) → IsIn other c.args.stronger → values (variable c.args.labels c.args.set c.args.label) ≡ true → values (variable c.args.labels c.args.set other) ≡ true) w.in_ok-add.ensures
      (λ values follows. implied values c.negative-weak.result w.positive-strong.result (values (variable c.args.labels c.args.set c.args.label)) (values (variable c.args.labels c.args.set c.loop-other.other))
      (c.negative-weak.ensures values ∙ ap (λ v. not (values v)) c.variable.ensures.variable) (w.positive-strong.ensures values ∙ ap values w.variable-then-has.ensures.variable)
      (follows c.loop-other.other (has-IsIn c.args.stronger c.loop-other.other (sym w.has.ensures ∙ w.if-has.true))))
      values follows (c.loop-other.invariant values follows satisfied))
  | else-other-label w ↦ subst (Satisfies values) (sym w.clauses-is) (c.loop-other.invariant values follows satisfied)
]
