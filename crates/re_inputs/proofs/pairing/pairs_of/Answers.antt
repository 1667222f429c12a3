use Rattle.std.proofs.Common.{◌≡◌, ◌<◌, ◌≤◌, ◌∙◌, ◌++◌, Err, ap, arith, length, subst}
use Rattle.re_given.specs.Products.{pairs_of}
use Rattle.re_inputs.proofs.PairingLemmas.{all_listed}
use Rattle.re_inputs.specs.Pairings.{all_pairings}
use Rattle.re_labels.specs.ListSets.{list_set}
use Rattle.re_labels.specs.declared.constraint_table.InsertFault.TheVariants.{TooManyConfigurations}
use Rattle.re_labels.specs.declared.constraint_table.TheConstants.{MAX_CONFIGURATIONS}
use Rattle.re_inputs.proofs.pairing.pairs_of.Goals as goal

pub returns-in-Ok-clause-pairs : goal.returns-in-Ok-clause-pairs
returns-in-Ok-clause-pairs c =
    let degree = c.in-Ok.ensures.degree ∙ c.new-constraint.ensures.degree ∙ c.degree.ensures.degree in
    let configs = c.in-Ok.ensures.configs ∙ ap (λ old. list_set (old ++ all_pairings c.args.m c.args.own.now c.args.given.now)) c.new-constraint.ensures.empty
    ∙ all_listed c.args.n c.args.m c.args.own.now c.args.given.now c.requires.own c.requires.given c.requires.same in
    (λ i. record { degree = degree i; configs = configs i })

pub returns-in-Ok-clause-within : goal.returns-in-Ok-clause-within
returns-in-Ok-clause-within c =
    let configs : c.put_all_pairings.new.constraint.configs ≡ (pairs_of c.args.n c.args.m c.args.own.now c.args.given.now).configs =
    c.in-Ok.ensures.configs ∙ ap (λ old. list_set (old ++ all_pairings c.args.m c.args.own.now c.args.given.now)) c.new-constraint.ensures.empty
    ∙ all_listed c.args.n c.args.m c.args.own.now c.args.given.now c.requires.own c.requires.given c.requires.same in
    subst (λ configs. length configs ≤ MAX_CONFIGURATIONS) configs (omega (arith, c.len-within.ensures.len, c.len-within.ensures.most))

pub returns-in-Err-clause-many : goal.returns-in-Err-clause-many
returns-in-Err-clause-many c = λ many.
    let is : c.in-Err.fault ≡ TooManyConfigurations = cc in
    subst (λ configs. MAX_CONFIGURATIONS < length configs)
    (ap (λ old. list_set (old ++ all_pairings c.args.m c.args.own.now c.args.given.now)) c.new-constraint.ensures.empty
    ∙ all_listed c.args.n c.args.m c.args.own.now c.args.given.now c.requires.own c.requires.given c.requires.same)
    (c.in-Err.ensures.many (ap Err is))
