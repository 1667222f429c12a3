use Rattle.std.proofs.Common.{◌≡◌, ap, subst, sym, true, ◌∙◌}
use Rattle.re_inputs.specs.NamedInputs.{fits, input_of}
use Rattle.re_labels.specs.Constraints.{Constraint}
use Rattle.re_evidence.proofs.FewColours.{colouring_input}
use Rattle.re_evidence.proofs.colours.colouring_of.Goals as goal

pub returns-clause-colouring : goal.returns-clause-colouring
returns-clause-colouring c =
    colouring_input c.args.problem.now c.in_ok-input.field-0 c.args.side c.degree-active.result c.degree-passive.result c.from.result c.from-2.result c.from-3.result c.args.colours
    c.names-names.ensures.problem.problem
    (c.degree-active.ensures.degree ∙ ap (λ (side : Constraint). side.degree) c.active.ensures.active)
    (c.degree-passive.ensures.degree ∙ ap (λ (side : Constraint). side.degree) c.passive.ensures.passive)
    c.from.ensures c.from-2.ensures c.from-3.ensures c.requires
    (subst (λ kind. fits kind c.from.result c.from-2.result c.from-3.result ≡ true) c.input_kind-kind.ensures (sym c.fits.ensures ∙ c.if-not-fits.false))
    (c.in_ok-input.ensures ∙ ap (λ kind. input_of kind c.degree-active.result c.degree-passive.result c.args.colours) c.input_kind-kind.ensures)
