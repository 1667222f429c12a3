use Rattle.std.proofs.Common.{◌<◌, length, rules, sym, subst}
use Rattle.std.proofs.lemmas.Result.{IfOk-weaker}
use Rattle.re_labels.specs.declared.TheConstants.{MAX_ROWS}
use Rattle.re_labels.specs.GoodRows.{max_rows}
use Rattle.re_describe.specs.Spelling.{AreSources}
use Rattle.re_describe.proofs.Grouping.{alone_sources, max_sources}
use Rattle.re_describe.proofs.condensing.spelling.Goals as goal

pub returns-in-Ok : goal.returns-in-Ok
returns-in-Ok c = subst (AreSources c.args.constraint.now c.args.labels) (sym c.in-Ok.ensures.rows) (max_sources c.args.constraint.now c.args.labels c.requires.constraint)

pub returns-in-Err-TooManyRows : goal.returns-in-Err-TooManyRows
returns-in-Err-TooManyRows c =
    let many : MAX_ROWS < length (max_rows c.args.constraint.now c.args.labels) = search rules in
    IfOk-weaker c.rows_alone.result _ _ (λ rows told. alone_sources c.args.constraint.now c.args.labels rows.items c.requires.constraint many told.0 told.1) c.rows_alone.ensures
