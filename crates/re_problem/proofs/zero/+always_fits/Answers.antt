use Rattle.re_labels.proofs.SaidChoices.{popped-is}
use Rattle.std.proofs.Common.{◌≡◌, length, ap, sym, ◌∙◌, subst}
use Rattle.std.specs.Prelude.{Contains, IsTrue, ◌↔◌}
use Rattle.re_labels.specs.Configs.{sorted}
use Rattle.re_problem.proofs.Drawing.{others-are, says-both, says-fails, says-full, says-none, says-twice}
use Rattle.re_problem.proofs.zero.+always_fits.Goals as goal

pub returns-then-len-degree-clause-fits : goal.returns-then-len-degree-clause-fits
returns-then-len-degree-clause-fits t c =
    let full : length c.args.drawn.now.items ≡ c.args.constraint.now.degree = sym c.len.ensures.value ∙ c.if-len-degree.true ∙ c.degree.ensures.degree in
    says-full c.args.constraint.now c.args.drawn.now.items c.args.labels.now c.contains.result full
    (subst (λ config. IsTrue c.contains.result ↔ Contains c.args.constraint.now.configs config) (c.from_labels.ensures ∙ ap sorted c.as_slice.ensures.value) c.contains.ensures)

pub returns-in_default-clause-fits : goal.returns-in_default-clause-fits
returns-in_default-clause-fits t c =
    says-none c.args.constraint.now c.args.drawn.now.items c.args.labels.now (λ full. c.if-len-degree.false (c.len.ensures.value ∙ full ∙ sym c.degree.ensures.degree)) c.in_default.len_below

pub returns-then-first-second-clause-fits : goal.returns-then-first-second-clause-fits
returns-then-first-second-clause-fits t c =
    says-twice c.args.constraint.now c.args.drawn.now.items c.args.labels.now _ c.always_fits.result (others-are c.args.labels.now) c.in-len1-up.len_at_least c.in-len1-up-others.len_at_least c.if-first-second.true c.always_fits.ensures.fits

pub returns-then-with_first-clause-fits : goal.returns-then-with_first-clause-fits
returns-then-with_first-clause-fits t c =
    let next = c.always_fits-with_first.ensures.drawn ∙ c.push.ensures.items in
    let back : c.pop.new.self.items ≡ c.args.drawn.now.items = popped-is c.args.drawn.now.items c.always_fits-with_first.new.drawn.items c.pop.new.self.items _ next c.pop.ensures.rest in
    says-both c.args.constraint.now c.args.drawn.now.items c.push.new.self.items c.pop.new.self.items c.args.labels.now _ c.always_fits-with_first.result c.always_fits-then-with_first.result
    c.in-len1-up.len_at_least c.push.ensures.items c.always_fits-with_first.ensures.fits c.if-with_first.true back (others-are c.args.labels.now) c.always_fits-then-with_first.ensures.fits

pub returns-else-with_first-clause-fits : goal.returns-else-with_first-clause-fits
returns-else-with_first-clause-fits t c =
    says-fails c.args.constraint.now c.args.drawn.now.items c.push.new.self.items c.args.labels.now c.always_fits-with_first.result c.in-len1-up.len_at_least c.push.ensures.items c.always_fits-with_first.ensures.fits c.if-with_first.false
