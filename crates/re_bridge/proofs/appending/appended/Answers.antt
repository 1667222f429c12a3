use Rattle.std.proofs.Common.{◌≡◌, ◌∷◌, ◌++◌, [], None, Some, ap, sym, subst, ◌∙◌}
use Rattle.re_cert.specs.Bounds.{Bound}
use Rattle.re_chains.specs.Chains.{IsSound, chain_with}
use Rattle.re_bridge.proofs.MoreSteps.{held-more, more-bound, more-sound, surely-built}
use Rattle.re_bridge.proofs.appending.appended.Goals as goal

pub unreachable-requires : goal.unreachable-requires
unreachable-requires c =
    let longer : Bound = chain_with c.args.kind c.args.chain.now.first (c.args.chain.now.steps ++ c.args.step ∷ []) in
    let held = held-more c.args.kind c.args.chain.now c.args.step c.in_ok-first.first c.push.new.self.items c.new.result.items c.requires.open (c.in_ok-first.ensures ∙ c.first.ensures.first)
    (c.in_ok-push.ensures.items ∙ ap (λ steps. steps ++ c.args.step ∷ []) (c.in_ok-steps.ensures ∙ c.steps.ensures.steps)) c.new.ensures.items in
    let there : None ≡ Some longer
    = sym c.in-None.is ∙ c.build.ensures ∙ surely-built longer _ held (more-bound c.args.kind c.args.chain.now c.args.step c.requires.open c.kind-kind.ensures.bound c.requires.kind c.requires.room c.requires.fits c.requires.form) in
    cc

pub returns-clause-chain : goal.returns-clause-chain
returns-clause-chain c =
    let longer : Bound = chain_with c.args.kind c.args.chain.now.first (c.args.chain.now.steps ++ c.args.step ∷ []) in
    let held = held-more c.args.kind c.args.chain.now c.args.step c.in_ok-first.first c.push.new.self.items c.new.result.items c.requires.open (c.in_ok-first.ensures ∙ c.first.ensures.first)
    (c.in_ok-push.ensures.items ∙ ap (λ steps. steps ++ c.args.step ∷ []) (c.in_ok-steps.ensures ∙ c.steps.ensures.steps)) c.new.ensures.items in
    let there : Some c.in-Some.longer ≡ Some longer
    = sym c.in-Some.is ∙ c.build.ensures ∙ surely-built longer _ held (more-bound c.args.kind c.args.chain.now c.args.step c.requires.open c.kind-kind.ensures.bound c.requires.kind c.requires.room c.requires.fits c.requires.form) in
    let same : c.in-Some.longer ≡ longer = cc in
    same

pub returns-clause-sound : goal.returns-clause-sound
returns-clause-sound c =
    let longer : Bound = chain_with c.args.kind c.args.chain.now.first (c.args.chain.now.steps ++ c.args.step ∷ []) in
    let held = held-more c.args.kind c.args.chain.now c.args.step c.in_ok-first.first c.push.new.self.items c.new.result.items c.requires.open (c.in_ok-first.ensures ∙ c.first.ensures.first)
    (c.in_ok-push.ensures.items ∙ ap (λ steps. steps ++ c.args.step ∷ []) (c.in_ok-steps.ensures ∙ c.steps.ensures.steps)) c.new.ensures.items in
    let there : Some c.in-Some.longer ≡ Some longer
    = sym c.in-Some.is ∙ c.build.ensures ∙ surely-built longer _ held (more-bound c.args.kind c.args.chain.now c.args.step c.requires.open c.kind-kind.ensures.bound c.requires.kind c.requires.room c.requires.fits c.requires.form) in
    let same : longer ≡ c.in-Some.longer = cc in
    subst IsSound same (more-sound c.args.kind c.args.chain.now c.args.step c.requires.sound c.requires.meets)
