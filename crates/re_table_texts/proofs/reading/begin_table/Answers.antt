use Rattle.std.proofs.Common.{[], refl}
use Rattle.re_table_texts.proofs.JudgedLines.{fresh-begun, table-begins}
use Rattle.re_table_texts.specs.TableTexts.State.{InTable}
use Rattle.re_table_texts.proofs.reading.begin_table.Goals as goal

pub returns-in-Ok : goal.returns-in-Ok
returns-in-Ok c = λ byte.
    let counted = c.in-Ok.ensures in (
      InTable c.args.first c.args.owner c.args.radius [],
      table-begins c.args.form c.args.number c.args.first c.args.owner c.args.radius c.in-Ok.count counted.0 counted.1 counted.2,
      (refl, refl, refl, c.new.ensures.items, fresh-begun c.args.form _ counted.0 c.requires counted.1 counted.2 c.new.ensures.items),
    )
