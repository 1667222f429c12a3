use Rattle.std.proofs.Common.{◌∙◌, Err, Ok, [], ap, cond, subst, sym}
use Rattle.re_net.specs.FiniteTrees.{FiniteTree, IsFiniteTree}
use Rattle.re_problem.specs.declared.fault.InputFault.TheVariants.{BadEntry}
use Rattle.re_net.specs.RunReading.{AreMessages}
use Rattle.re_net.specs.RunTexts.{tree_ends}
use Rattle.re_net.specs.RunTexts.State.{InDeliveries}
use Rattle.re_net.proofs.Tested.{numbered_no, numbered_yes}
use Rattle.re_net.proofs.reading.end_tree.Goals as goal

pub returns-then-numbered : goal.returns-then-numbered
returns-then-numbered c = λ bound same.
    let built : IsFiniteTree c.args.tree = subst (λ (t : FiniteTree). IsFiniteTree t) c.tree.view_is c.tree.invariant.built in
    let first = numbered_yes c.args.tree built c.numbered.result c.numbered.ensures c.if-numbered.true in (
      ap (tree_ends bound c.args.tree c.args.number) c.in-Deliveries.is ∙ ap (λ t. cond t (Ok (InDeliveries bound c.args.tree [])) (Err (BadEntry c.args.number))) first
          ∙ ap (λ deliveries. Ok (InDeliveries bound c.args.tree deliveries)) (sym c.new.ensures.items),
      (same, c.numbered.ensures.0 c.if-numbered.true, subst (AreMessages c.args.tree _) (sym c.new.ensures.items) tt),
    )

pub returns-else-numbered : goal.returns-else-numbered
returns-else-numbered c = λ bound same.
    let built : IsFiniteTree c.args.tree = subst (λ (t : FiniteTree). IsFiniteTree t) c.tree.view_is c.tree.invariant.built in
    let last = numbered_no c.args.tree built c.numbered.result c.numbered.ensures c.if-numbered.false in
    ap (tree_ends bound c.args.tree c.args.number) c.in-Deliveries.is ∙ ap (λ t. cond t (Ok (InDeliveries bound c.args.tree [])) (Err (BadEntry c.args.number))) last
