use Rattle.re_words.proofs.WorkingLemmas.{classes_below, strong_in, strong_named, weak_in, weak_named}
use Rattle.re_changes.specs.Diagrams.{Diagram}
use Rattle.std.proofs.Common.{ap, ◌∙◌}
use Rattle.re_words.proofs.working.diagram_output.Goals as goal

pub print_diagram-requires-clause-named : goal.print_diagram-requires-clause-named
print_diagram-requires-clause-named c = classes_below c.constraint_at.result.now (c.len.result) _ c.as_slice.result.now c.len.ensures.len (c.as_slice.ensures.value ∙ ap (λ (d : Diagram). d.classes) (c.drawn.view_is ∙ c.in_ok-drawn.ensures))

pub print_diagram-requires-clause-weak : goal.print_diagram-requires-clause-weak
print_diagram-requires-clause-weak c = weak_in c.constraint_at.result.now c.len.result c.as_slice.result.now c.as_slice-2.result.now (c.as_slice.ensures.value ∙ ap (λ (d : Diagram). d.classes) (c.drawn.view_is ∙ c.in_ok-drawn.ensures)) (c.as_slice-2.ensures.value ∙ ap (λ (d : Diagram). d.edges) (c.drawn.view_is ∙ c.in_ok-drawn.ensures))

pub print_diagram-requires-clause-strong : goal.print_diagram-requires-clause-strong
print_diagram-requires-clause-strong c = strong_in c.constraint_at.result.now c.len.result c.as_slice.result.now c.as_slice-2.result.now (c.as_slice.ensures.value ∙ ap (λ (d : Diagram). d.classes) (c.drawn.view_is ∙ c.in_ok-drawn.ensures)) (c.as_slice-2.ensures.value ∙ ap (λ (d : Diagram). d.edges) (c.drawn.view_is ∙ c.in_ok-drawn.ensures))

pub print_diagram-requires-clause-weak_named : goal.print_diagram-requires-clause-weak_named
print_diagram-requires-clause-weak_named c = weak_named c.constraint_at.result.now c.len.result _ c.as_slice.result.now c.as_slice-2.result.now c.len.ensures.len (c.as_slice.ensures.value ∙ ap (λ (d : Diagram). d.classes) (c.drawn.view_is ∙ c.in_ok-drawn.ensures)) (c.as_slice-2.ensures.value ∙ ap (λ (d : Diagram). d.edges) (c.drawn.view_is ∙ c.in_ok-drawn.ensures))

pub print_diagram-requires-clause-strong_named : goal.print_diagram-requires-clause-strong_named
print_diagram-requires-clause-strong_named c = strong_named c.constraint_at.result.now c.len.result _ c.as_slice.result.now c.as_slice-2.result.now c.len.ensures.len (c.as_slice.ensures.value ∙ ap (λ (d : Diagram). d.classes) (c.drawn.view_is ∙ c.in_ok-drawn.ensures)) (c.as_slice-2.ensures.value ∙ ap (λ (d : Diagram). d.edges) (c.drawn.view_is ∙ c.in_ok-drawn.ensures))
