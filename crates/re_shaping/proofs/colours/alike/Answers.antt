use Rattle.std.proofs.Common.{◌≡◌, ap, arith, ◌∙◌}
use Rattle.re_shaping.specs.Colours.{colours_by}
use Rattle.re_shaping.specs.declared.colours.TheConstants.{FIRST}
use Rattle.re_shaping.proofs.Coding.{colours_by_more}
use Rattle.re_shaping.proofs.colours.alike.Goals as goal

pub loop-label-preserved : goal.loop-label-preserved
loop-label-preserved c = record {
  colours = c.push.ensures.items ∙ colours_by_more (λ label. FIRST) c.loop-label.held.items c.loop-label._label c.loop-label.invariant.colours;
  count = omega (arith, c.push.ensures.len, c.loop-label.invariant.count);
}

pub returns : goal.returns
returns c = let e : c.loop-label._label ≡ c.args.labels = omega arith in c.loop-label.invariant.colours ∙ ap (colours_by (λ label. FIRST)) e
