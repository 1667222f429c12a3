use Rattle.std.proofs.Common.{◌∙◌, refl, sym}
use Rattle.std.proofs.lemmas.Bool.{false≢true}
use Rattle.re_labels.specs.Configs.{replaced}
use Rattle.re_labels.proofs.SaidChoices.{found-is}
use Rattle.re_labels.proofs.Strengths.{may_replace-none, may_replace-some}
use Rattle.re_labels.proofs.strength.may_replace.Goals as goal

pub returns-in-Some : goal.returns-in-Some
returns-in-Some c =
    found-is c.args.constraint.now (replaced c.args.weak c.args.strong c.args.config.now) c.in-Some.replaced c.contains.result c.contains.ensures c.in-Some.ensures.replaced
    ∙ sym (may_replace-some c.args.constraint.now c.args.strong c.args.weak c.args.config.now (c.in-Some.ensures.held.0 refl))

pub returns-in-None : goal.returns-in-None
returns-in-None c = sym (may_replace-none c.args.constraint.now c.args.strong c.args.weak c.args.config.now (λ held. false≢true (c.in-None.ensures.held.1 held)))
