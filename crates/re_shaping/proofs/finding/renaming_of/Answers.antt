use Rattle.re_labels.proofs.Tests.{not_told}
use Rattle.re_shaping.proofs.Answering.{lost, no_map}
use Rattle.re_shaping.proofs.finding.renaming_of.Goals as goal

pub returns-else-is_renaming-clause-answer : goal.returns-else-is_renaming-clause-answer
returns-else-is_renaming-clause-answer c =
    no_map c.args.from.now c.args.to.now c.requires.from c.requires.to c.args.colours.now c.args.others.now c.in-Some.map c.requires.apart c.in-Some.ensures
    (not_told c.is_renaming.result c.is_renaming.ensures c.if-is_renaming.false)

pub returns-in-None-clause-answer : goal.returns-in-None-clause-answer
returns-in-None-clause-answer c = lost c.args.from.now c.args.to.now c.requires.from c.requires.to c.args.colours.now c.args.others.now c.in-None.ensures
