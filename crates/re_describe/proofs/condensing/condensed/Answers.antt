use Rattle.std.proofs.Common.{sym, subst, arith}
use Rattle.re_describe.specs.Spelling.{AreApart, AreTaken, Spells}
use Rattle.re_describe.proofs.Grouping.{groups_told, sources_moved}
use Rattle.re_describe.proofs.condensing.condensed.Goals as goal

pub covering-requires-clause-spells : goal.covering-requires-clause-spells
covering-requires-clause-spells c =
    subst (Spells c.args.constraint.now) (sym c.as_slice.ensures.value)
    (sources_moved c.args.constraint.now c.args.labels c.in_ok-rows.rows.items c.sort_unstable_by.new.self.items c.sort_unstable_by.ensures.permutation c.in_ok-rows.ensures).spells

pub covering-requires-clause-apart : goal.covering-requires-clause-apart
covering-requires-clause-apart c =
    subst AreApart (sym c.as_slice.ensures.value)
    (sources_moved c.args.constraint.now c.args.labels c.in_ok-rows.rows.items c.sort_unstable_by.new.self.items c.sort_unstable_by.ensures.permutation c.in_ok-rows.ensures).apart

pub returns : goal.returns
returns c = (
  (let low = c.if-len-gt-MOST_LISTED.false in omega (arith, low, c.len.ensures.len)),
  groups_told c.args.constraint.now c.args.labels c.sort_unstable_by.new.self.items c.in_ok-few.few.items c.sort_unstable_by-2.new.self.items
      (sources_moved c.args.constraint.now c.args.labels c.in_ok-rows.rows.items c.sort_unstable_by.new.self.items c.sort_unstable_by.ensures.permutation c.in_ok-rows.ensures)
      (subst (λ rows. AreTaken c.args.constraint.now rows c.in_ok-few.few.items) c.as_slice.ensures.value c.in_ok-few.ensures) c.sort_unstable_by-2.ensures.permutation,
)
