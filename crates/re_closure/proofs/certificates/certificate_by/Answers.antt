use Rattle.std.proofs.Common.{◌≡◌, ◌+◌, None, Some, cond, length, suc, sym, ap, ◌∙◌, arith}
use Rattle.re_cert.specs.Bounds.{built}
use Rattle.re_closure.proofs.Joined.{held}
use Rattle.re_closure.specs.Closed.{made_bound}
use Rattle.re_closure.proofs.certificates.certificate_by.Goals as goal

pub unreachable-requires : goal.unreachable-requires
unreachable-requires c =
    let back : length c.steps.result.now + 1 ≡ suc (length c.args.chain.now.steps) = (let e = ap length c.steps.ensures.steps in omega (arith, e)) in
    let bound = made_bound c.args.by_rows c.args.chain.now c.args.first c.args.closure in
    let there : None ≡ Some bound =
    sym c.in-None.is ∙ c.build.ensures
    ∙ ap built (held c.args.by_rows c.args.chain.now c.args.first c.args.closure _ _ _ _ c.len.result back (c.in_ok-start.ensures ∙ c.first.ensures.first) c.in_ok-steps.ensures c.in_ok-renaming.ensures
    (c.len.ensures.len ∙ ap length c.names.ensures.names))
    ∙ ap (λ b. cond b (Some bound) None) c.requires.fits in
    cc

pub returns : goal.returns
returns c =
    let back : length c.steps.result.now + 1 ≡ suc (length c.args.chain.now.steps) = (let e = ap length c.steps.ensures.steps in omega (arith, e)) in
    let bound = made_bound c.args.by_rows c.args.chain.now c.args.first c.args.closure in
    let there : Some c.in-Some.certificate ≡ Some bound =
    sym c.in-Some.is ∙ c.build.ensures
    ∙ ap built (held c.args.by_rows c.args.chain.now c.args.first c.args.closure _ _ _ _ c.len.result back (c.in_ok-start.ensures ∙ c.first.ensures.first) c.in_ok-steps.ensures c.in_ok-renaming.ensures
    (c.len.ensures.len ∙ ap length c.names.ensures.names))
    ∙ ap (λ b. cond b (Some bound) None) c.requires.fits in
    cc
