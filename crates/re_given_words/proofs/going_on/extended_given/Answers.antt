use Rattle.std.proofs.Common.{◌≡◌, ◌≤◌, false, length, refl, subst, sym, ◌∙◌, arith, rules}
use Rattle.std.proofs.lemmas.Bool.{false≢true}
use Rattle.re_shaping.proofs.Continued.{whole}
use Rattle.re_shaping.specs.Extensions.{AreSmall, continued}
use Rattle.re_given_words.proofs.GoingOn.{goes_on, not_small}
use Rattle.re_settings.specs.Taken.{IsTaken}
use Rattle.re_given_words.proofs.going_on.extended_given.Goals as goal

pub returns-then-not-are_small-clause-none : goal.returns-then-not-are_small-clause-none
returns-then-not-are_small-clause-none c = λ none on.
    let large : c.are_small.result ≡ false = search rules in
    not_small c.args.input.now c.args.extension.kind c.args.most c.args.labels c.args.chain.now (continued c.args.chain.now c.args.extension) c.args.extension.steps.items refl
    (λ small. false≢true (sym large ∙ c.are_small.ensures.1 (subst (AreSmall c.args.labels) (sym c.as_slice.ensures.value) small))) on

pub returns-then-branch-clause-whole : goal.returns-then-branch-clause-whole
returns-then-branch-clause-whole c =
    whole c.args.extension.kind c.args.extension.back c.args.chain.now c.in-Some.certificate c.args.extension.steps.items c.args.extension.renaming.items (sym c.in_ok-certificate.ensures ∙ c.in-Some.is)

pub returns-then-branch-clause-goes_on : goal.returns-then-branch-clause-goes_on
returns-then-branch-clause-goes_on c =
    let few : length c.args.extension.steps.items ≤ c.args.most = grind arith in
    let small : AreSmall c.args.labels c.args.extension.steps.items = search rules in
    let taken : IsTaken c.args.input.now c.in-Some.certificate = c.in_ok-is_taken_given.ensures.0 c.if-branch.true in
    goes_on c.args.input.now c.args.extension.kind c.args.most c.args.labels c.args.extension.back c.args.chain.now c.in-Some.certificate c.args.extension.steps.items c.args.extension.renaming.items c.names-names.ensures.problem
    (sym c.in_ok-certificate.ensures ∙ c.in-Some.is) c.over_problems.ensures few small taken
