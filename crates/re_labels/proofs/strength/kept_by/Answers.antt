use Rattle.std.proofs.Common.{◌≡◌, ◌∙◌, ap, false, sym}
use Rattle.std.proofs.lemmas.Bool.{false≢true}
use Rattle.re_labels.proofs.Replacing.{has-support_of}
use Rattle.re_labels.proofs.Sets.{IsIn-has}
use Rattle.re_labels.specs.Sets.{has}
use Rattle.re_labels.proofs.Strengths.{filter-whole, may_replace-none}
use Rattle.re_labels.specs.Strength.{may_replace}
use Rattle.re_labels.proofs.strength.kept_by.Goals as goal

pub returns-then-not-has : goal.returns-then-not-has
returns-then-not-has c =
    let absent : has c.args.config.now c.args.weak ≡ false =
    sym (has-support_of c.args.config.now c.args.weak) ∙ ap (λ s. has s c.args.weak) (sym c.support.ensures) ∙ sym c.has.ensures ∙ c.if-not-has.true in
    sym (filter-whole (λ strong. may_replace c.args.constraint.now strong c.args.weak c.args.config.now) c.args.labels
    (λ strong held. may_replace-none c.args.constraint.now strong c.args.weak c.args.config.now (λ there. false≢true (sym absent ∙ IsIn-has c.args.config.now c.args.weak there))))
