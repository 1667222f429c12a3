use Rattle.std.proofs.Common.{◌∙◌, arith, ap, sym, subst}
use Rattle.std.specs.Prelude.{filter}
use Rattle.re_labels.proofs.Numbers.{IsLabelSet-filter}
use Rattle.re_labels.specs.Sets.{IsLabelSet}
use Rattle.re_labels.proofs.Strengths.{filter-first_in, filter-first_out, rest-smaller}
use Rattle.re_labels.specs.Strength.{may_replace}
use Rattle.re_labels.proofs.strength.+stronger_in.Goals as goal
use Rattle.re_labels.specs.declared.TheConstants.{MAX_LABELS}

pub stronger_in-rest-requires : goal.stronger_in-rest-requires
stronger_in-rest-requires t c = (
  omega (arith, c.decreases, rest-smaller c.args.labels c.remove.result c.in-Some.strong c.requires.0 (sym c.in-Some.ensures) c.remove.ensures),
  subst (IsLabelSet MAX_LABELS) (sym c.remove.ensures) (IsLabelSet-filter _ MAX_LABELS c.args.labels c.requires),
)

pub returns-then-may_replace : goal.returns-then-may_replace
returns-then-may_replace t c =
    c.insert.ensures
    ∙ filter-first_in (λ strong. may_replace c.args.constraint.now strong c.args.weak c.args.config.now) c.args.labels c.in-Some.strong c.requires.0 (sym c.in-Some.ensures) c.stronger_in-rest.result
    (c.stronger_in-rest.ensures ∙ ap (filter (λ strong. may_replace c.args.constraint.now strong c.args.weak c.args.config.now)) c.remove.ensures) (sym c.may_replace.ensures ∙ c.if-may_replace.true)

pub returns-else-may_replace : goal.returns-else-may_replace
returns-else-may_replace t c =
    filter-first_out (λ strong. may_replace c.args.constraint.now strong c.args.weak c.args.config.now) c.args.labels c.in-Some.strong c.requires.0 (sym c.in-Some.ensures) c.stronger_in-rest.result
    (c.stronger_in-rest.ensures ∙ ap (filter (λ strong. may_replace c.args.constraint.now strong c.args.weak c.args.config.now)) c.remove.ensures) (sym c.may_replace.ensures ∙ c.if-may_replace.false)
