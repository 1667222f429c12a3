use Rattle.std.proofs.Common.{◌<◌, ◌∙◌, ◌++◌, Err, ap, arith, length, map, refl, subst, sym}
use Rattle.std.specs.List.{AllByRecursion}
use Rattle.re_labels.specs.Configs.{sorted}
use Rattle.re_labels.specs.Rows.{choices}
use Rattle.re_labels.specs.ListSets.{list_set}
use Rattle.re_labels.specs.Sets.{IsLabelSet}
use Rattle.re_problem.specs.declared.fault.InputFault.TheVariants.{TooManyConfigurations as TooManyInBlock}
use Rattle.re_problem.proofs.FedConfigs.{active_many, passive_many, row_labelled, takes_active, takes_passive}
use Rattle.re_problem.proofs.text_reader.TextReader.add_sets.Goals as goal
use Rattle.re_labels.specs.declared.constraint_table.TheConstants.{MAX_CONFIGURATIONS}
use Rattle.re_labels.specs.declared.TheConstants.{MAX_LABELS}

pub spell-requires-clause-sets : goal.spell-requires-clause-sets
spell-requires-clause-sets c =
    let (byte, start, before, s) = c.requires.named in
    subst (AllByRecursion (IsLabelSet MAX_LABELS)) (sym c.requires.sets)
    (row_labelled c.args.self.now byte start before c.args.line.now s c.requires.filled c.requires.room c.len-count.ensures.names.few)

pub spell-requires-2-clause-sets : goal.spell-requires-2-clause-sets
spell-requires-2-clause-sets c =
    let (byte, start, before, s) = c.requires.named in
    subst (AllByRecursion (IsLabelSet MAX_LABELS)) (sym c.requires.sets)
    (row_labelled c.args.self.now byte start before c.args.line.now s c.requires.filled c.requires.room c.len-count.ensures.names.few)

pub returns-in-Err-TooManyConfigurations : goal.returns-in-Err-TooManyConfigurations
returns-in-Err-TooManyConfigurations c = λ byte start before s. (
  ap TooManyInBlock s.line_is,
  active_many c.args.self.now byte start before c.args.line.now s c.requires.filled c.requires.room c.requires.items c.requires.empty c.if-self-eq0.true
      (subst (λ sets. MAX_CONFIGURATIONS < length (list_set (c.args.self.now.active.configs ++ map sorted (choices sets)))) c.requires.sets
      (c.in-Err-TooManyConfigurations.ensures.many (ap Err c.in-Err-TooManyConfigurations.field-0-is))),
)

pub returns-in-Err-TooManyConfigurations-spell : goal.returns-in-Err-TooManyConfigurations-spell
returns-in-Err-TooManyConfigurations-spell c = λ byte start before s.
    let low : c.args.self.now.closed < 2 = c.requires.room in
    let apart = c.if-self-eq0.false in (
      ap TooManyInBlock s.line_is,
      passive_many c.args.self.now byte start before c.args.line.now s c.requires.filled c.requires.room c.requires.items c.requires.empty (omega arith)
          (subst (λ sets. MAX_CONFIGURATIONS < length (list_set (c.args.self.now.passive.configs ++ map sorted (choices sets)))) c.requires.sets
          (c.in-Err-TooManyConfigurations-spell.ensures.many (ap Err c.in-Err-TooManyConfigurations-spell.field-0-is))),
    )

pub returns-then-self-eq0 : goal.returns-then-self-eq0
returns-then-self-eq0 c = λ byte start before s.
    takes_active c.args.self.now byte start before c.args.line.now s c.requires.filled c.requires.room c.requires.items c.requires.empty _ refl refl refl refl refl refl
    c.len-count.ensures.names.few c.requires.degree c.if-self-eq0.true c.spell.ensures.degree
    (c.in-Ok.ensures.ok ∙ ap (λ sets. list_set (c.args.self.now.active.configs ++ map sorted (choices sets))) c.requires.sets) refl c.in-Ok.ensures.few

pub returns : goal.returns
returns c = λ byte start before s.
    let low : c.args.self.now.closed < 2 = c.requires.room in
    let apart = c.if-self-eq0.false in
    takes_passive c.args.self.now byte start before c.args.line.now s c.requires.filled c.requires.room c.requires.items c.requires.empty _ refl refl refl refl refl refl
    c.len-count.ensures.names.few c.requires.degree (omega arith) c.spell-2.ensures.degree
    (c.in-Ok-spell.ensures.ok ∙ ap (λ sets. list_set (c.args.self.now.passive.configs ++ map sorted (choices sets))) c.requires.sets) refl c.in-Ok-spell.ensures.few
