use Rattle.std.proofs.Common.{◌≡◌, ◌∙◌, ap, subst, sym, true}
use Rattle.re_bridge.specs.Bridges.{IsFound, has_many_rows}
use Rattle.re_bridge.specs.Laws.{IsAnswer}
use Rattle.re_cert.specs.Bounds.{step_fits, step_with}
use Rattle.re_cert.specs.declared.certificate.Kind.TheVariants.{Lower}
use Rattle.re_bridge.proofs.Fitting.{found-bridged, found-fits}
use Rattle.re_bridge.proofs.chains.bridge.Goals as goal

pub over-requires-clause-fits : goal.over-requires-clause-fits
over-requires-clause-fits c =
    subst (λ last. step_fits Lower last (step_with c.args.next.now c.in-Some.parts) ≡ true) c.last-last.ensures
    (found-fits c.last-last.result.now c.args.next.now c.args.tries c.in-Some.parts c.names-last.ensures.problem c.names-next.ensures.problem
    (subst (IsFound c.last-last.result.now c.args.next.now c.args.tries) c.in-Some.is c.in_ok-parts.ensures.found)
    (subst (IsAnswer c.last-last.result.now c.args.next.now) c.in-Some.is c.in_ok-parts.ensures.answer))

pub returns-in_ok-over-in-Some-clause-bridged : goal.returns-in_ok-over-in-Some-clause-bridged
returns-in_ok-over-in-Some-clause-bridged c =
    found-bridged c.args.chain.now.certificate c.in_ok-over-in-Some.field-0 c.last-last.result.now c.args.next.now c.args.tries c.in-Some.parts c.last-last.ensures
    (subst (IsFound c.last-last.result.now c.args.next.now c.args.tries) c.in-Some.is c.in_ok-parts.ensures.found)
    c.in_ok-over-in-Some.ensures.chain c.in_ok-over-in-Some.ensures.sound

pub returns-in_ok-over-in-Some-clause-few : goal.returns-in_ok-over-in-Some-clause-few
returns-in_ok-over-in-Some-clause-few c = ap (λ last. has_many_rows last c.args.next.now) (sym c.last-last.ensures) ∙ c.in_ok-parts.ensures.few
