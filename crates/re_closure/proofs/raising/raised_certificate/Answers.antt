use Rattle.std.proofs.Common.{ap, subst, sym, true, ◌∙◌}
use Rattle.std.proofs.lemmas.Result.{IfOk-weaker}
use Rattle.std.specs.List.{AllByRecursion}
use Rattle.re_algo.specs.Constructions.{IsSeen}
use Rattle.re_cert.specs.Bounds.{Bound, is_bound}
use Rattle.re_closure.proofs.Joined.{map_sets}
use Rattle.re_closure.proofs.RaisedJoined.{all_rows_seen, few_tops, made-closed, made-fits}
use Rattle.re_closure.specs.Closed.{made_bound}
use Rattle.re_closure.proofs.raising.raised_certificate.Goals as goal

pub raised_step-requires-clause-few : goal.raised_step-requires-clause-few
raised_step-requires-clause-few c = few_tops c.args.relaxed.now c.names-names.ensures.problem c.args.closure c.requires.closure

pub raised_step-requires-clause-seen : goal.raised_step-requires-clause-seen
raised_step-requires-clause-seen c =
    subst (AllByRecursion (IsSeen _)) (sym c.requires.rows)
    (all_rows_seen c.args.chain.now.certificate c.steps-steps.ensures.bound c.args.chain.now.chain c.over_problems.ensures c.args.relaxed.now c.names-names.ensures.problem c.requires.labels c.requires.relaxed c.requires.few)

pub certificate_by-requires-clause-out : goal.certificate_by-requires-clause-out
certificate_by-requires-clause-out c = map_sets _ _ _ c.args.closure.out c.requires.closure.computed.out_is

pub certificate_by-requires-clause-back : goal.certificate_by-requires-clause-back
certificate_by-requires-clause-back c = map_sets _ _ _ c.args.closure.back c.requires.closure.computed.back_is

pub certificate_by-requires-clause-fits : goal.certificate_by-requires-clause-fits
certificate_by-requires-clause-fits c =
    ap (λ (b : Bound). is_bound (made_bound true b c.in_ok-first.first c.args.closure)) c.in_ok-written.ensures.written
    ∙ made-fits c.args.chain.now.certificate c.steps-steps.ensures.bound c.args.chain.now.chain c.over_problems.ensures c.args.relaxed.now c.names-names.ensures.problem c.requires.labels c.requires.relaxed c.requires.few c.requires.room
    c.args.closure c.requires.closure c.requires.not_zero c.args.rows.items c.requires.rows c.in_ok-first.first c.in_ok-first.ensures

pub returns : goal.returns
returns c = λ edges same may.
    IfOk-weaker c.certificate_by.result _ _
    (λ made e.
    made-closed c.args.chain.now.certificate c.steps-steps.ensures.bound c.args.chain.now.chain c.over_problems.ensures c.args.relaxed.now c.names-names.ensures.problem c.requires.labels c.requires.relaxed c.requires.few c.requires.room
    c.args.closure c.requires.closure c.requires.not_zero c.args.rows.items c.requires.rows c.in_ok-first.first c.in_ok-first.ensures edges same may made
    (e ∙ ap (λ (b : Bound). made_bound true b c.in_ok-first.first c.args.closure) c.in_ok-written.ensures.written)) c.certificate_by.ensures
