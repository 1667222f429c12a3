use Rattle.std.proofs.Common.{◌≡◌, Err, ◌∷◌, ◌++◌, [], None, arith, drop, sym, ap, ◌∙◌}
use Rattle.std.specs.Prelude.{slice_range}
use Rattle.re_problem.proofs.HeldLabels.{name_added, names_alone, nothing_in_front, same_name, too_many}
use Rattle.re_problem.specs.Items.{labels_from, labels_of, with_name}
use Rattle.re_labels.specs.declared.name_list.NamesFault.TheVariants.{TooMany}
use Rattle.re_problem.proofs.labels.names_into.Goals as goal

pub labels-init : goal.labels-init
labels-init c = (omega arith, [], record { whole = nothing_in_front (labels_of c.args.text.now); added = names_alone c.args.names.now c.len-count.ensures.names.ascends })

pub returns-in-Err-clause-many : goal.returns-in-Err-clause-many
returns-in-Err-clause-many c = λ many.
    let name = same_name (slice_range c.args.text.now c.in-Label.from c.in-Label.to) c.in-Some.name c.in-Some.ensures c.in-Label.ensures.5 in
    let is : c.in-Err.fault ≡ TooMany = cc in
    let full = c.in-Err.ensures.many.0 (ap Err is) in
    too_many c.args.names.now c.args.text.now c.labels.invariant.1 c.labels.names c.in-Some.name (labels_from None (drop c.in-Label.next c.args.text.now))
    (labels_from None (drop c.labels.at c.args.text.now))
    (c.in-Label.ensures.0 ∙ ap (λ n. with_name n (labels_from None (drop c.in-Label.next c.args.text.now))) (sym name))
    full.0 full.1 c.requires c.labels.invariant.2

pub labels-preserved : goal.labels-preserved
labels-preserved c =
    let name = same_name (slice_range c.args.text.now c.in-Label.from c.in-Label.to) c.in-Some.name c.in-Some.ensures c.in-Label.ensures.5 in (
      c.in-Label.ensures.2,
      c.labels.invariant.1 ++ c.in-Some.name ∷ [],
      name_added c.args.names.now c.args.text.now c.labels.invariant.1 c.labels.names c.in-Some.name (labels_from None (drop c.in-Label.next c.args.text.now))
          (labels_from None (drop c.labels.at c.args.text.now)) _
          (c.in-Label.ensures.0 ∙ ap (λ n. with_name n (labels_from None (drop c.in-Label.next c.args.text.now))) (sym name))
          c.in-Ok.ensures.ok.0 c.labels.invariant.2,
    )
