use Rattle.std.proofs.Common.{◌∙◌, sym, subst, arith}
use Rattle.std.specs.Prelude.{Contains}
use Rattle.std.proofs.lemmas.Bool.{false≢true}
use Rattle.re_step.proofs.Keeping.{push_kept, push_many}
use Rattle.re_step.proofs.settling.FoundKeeper.settle.Goals as goal
use Rattle.re_labels.specs.declared.TheConstants.{MAX_ROWS}

pub returns-then-len-gt-MAX_ROWS-clause-refused : goal.returns-then-len-gt-MAX_ROWS-clause-refused
returns-then-len-gt-MAX_ROWS-clause-refused c = λ e.
    push_many c.args.constraint.now c.args.strength.now.labels MAX_ROWS c.args.self.now.rows.items c.push.new.self.items c.grown-row.result c.args.sets.now c.requires.serves.0 c.grown-row.ensures.maximal c.grown-row.ensures.dominates
    (λ held. false≢true (sym c.if-is_listed.false ∙ c.is_listed.ensures.1 (subst (λ l. Contains l c.grown-row.result) (sym c.as_slice.ensures.value) held))) c.in_default.ensures.items
    (let more = c.if-len-gt-MAX_ROWS.true in omega (arith, more, c.len.ensures))

pub returns-clause-serves : goal.returns-clause-serves
returns-clause-serves c = (
  push_kept c.args.constraint.now c.args.strength.now.labels MAX_ROWS c.args.self.now.rows.items c.push.new.self.items c.grown-row.result c.args.sets.now c.requires.serves.0 c.grown-row.ensures.maximal c.grown-row.ensures.dominates
      (λ held. false≢true (sym c.if-is_listed.false ∙ c.is_listed.ensures.1 (subst (λ l. Contains l c.grown-row.result) (sym c.as_slice.ensures.value) held))) c.in_default.ensures.items
      (let few = c.if-len-gt-MAX_ROWS.false in omega (arith, few, c.len.ensures)),
  c.grown-row.ensures.right,
)
