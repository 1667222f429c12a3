use Rattle.std.proofs.Common.{ap, inl, inr, refl, ◌∙◌}
use Rattle.re_settle.specs.Measures.{greatest_degree, longest_labels}
use Rattle.re_settle.proofs.bounds_given.longest_from.Goals as goal

pub longest_to-requires-clause-labels : goal.longest_to-requires-clause-labels
longest_to-requires-clause-labels c = inl refl

pub longest_to-requires-2-clause-labels : goal.longest_to-requires-2-clause-labels
longest_to-requires-2-clause-labels c = inr
    (c.longest_labels-labels.ensures ∙ ap (λ d. longest_labels d c.doublings-doublings.result) c.greatest_degree.ensures
    ∙ ap (longest_labels (greatest_degree c.args.problem.now)) c.doublings-doublings.ensures.value)
