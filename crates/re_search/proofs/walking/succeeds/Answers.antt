use Rattle.std.proofs.Common.{not, sym, ap, arith, ◌∙◌}
use Rattle.std.specs.Prelude.{◌&&◌, is_some}
use Rattle.re_search.specs.Nodes.{succeeds, way_back}
use Rattle.re_search.proofs.Walks.{way-found}
use Rattle.re_search.specs.Walking.{node_at}
use Rattle.re_search.proofs.walking.succeeds.Goals as goal

pub returns-then-not-zero : goal.returns-then-not-zero
returns-then-not-zero c =
    c.is_some.ensures ∙ way-found c.way_back.result (way_back c.args.tree.now.first.now (node_at c.args.tree.now.first.now c.args.path.now c.args.left)) (c.way_back.ensures c.args.left)
    ∙ ap (λ z. not z && is_some (way_back c.args.tree.now.first.now (node_at c.args.tree.now.first.now c.args.path.now c.args.left))) (sym c.if-not-zero.true ∙ c.requires.zero)
    ∙ ap (λ kind. succeeds kind c.args.tree.now.first.now (node_at c.args.tree.now.first.now c.args.path.now c.args.left)) (sym c.in-Fixed.is)

pub way_back-requires : goal.way_back-requires
way_back-requires c = let s = c.requires.short in omega arith
