use Rattle.std.proofs.Common.{◌≡◌, ◌≤◌, false, length, refl, subst, sym, ◌∙◌, arith, rules}
use Rattle.re_shaping.specs.Extensions.{AreSmall, continued}
use Rattle.std.proofs.lemmas.Bool.{false≢true}
use Rattle.re_shaping.proofs.Continued.{accepted, not_small, whole}
use Rattle.re_shaping.proofs.extending.extended.Goals as goal

pub returns-in-Accepted-clause-goes_on : goal.returns-in-Accepted-clause-goes_on
returns-in-Accepted-clause-goes_on c =
    let few : length c.args.extension.steps.items ≤ c.args.most = grind arith in
    let small : AreSmall c.args.labels c.args.extension.steps.items = search rules in
    accepted c.args.extension.kind c.args.most c.args.labels c.args.extension.back c.args.chain.now c.in-Some.certificate c.args.extension.steps.items c.args.extension.renaming.items c.check.result c.in-Accepted.kind c.in-Accepted.steps
    (sym c.in_ok-certificate.ensures ∙ c.in-Some.is) c.over_problems.ensures few small c.check.ensures.verdict c.in-Accepted.is c.check.ensures.means

pub returns-in-Accepted-clause-whole : goal.returns-in-Accepted-clause-whole
returns-in-Accepted-clause-whole c =
    whole c.args.extension.kind c.args.extension.back c.args.chain.now c.in-Some.certificate c.args.extension.steps.items c.args.extension.renaming.items (sym c.in_ok-certificate.ensures ∙ c.in-Some.is)

pub returns-then-not-are_small-clause-none : goal.returns-then-not-are_small-clause-none
returns-then-not-are_small-clause-none c = λ none on.
    let large : c.are_small.result ≡ false = search rules in
    not_small c.args.extension.kind c.args.most c.args.labels c.args.chain.now (continued c.args.chain.now c.args.extension) c.args.extension.steps.items refl
    (λ small. false≢true (sym large ∙ c.are_small.ensures.1 (subst (AreSmall c.args.labels) (sym c.as_slice.ensures.value) small))) on
