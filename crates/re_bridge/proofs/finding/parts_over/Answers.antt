use Rattle.std.proofs.Common.{◌≡◌, ◌≤◌, ℕ, List, length, cond, ap, subst, ◌∙◌, true}
use Rattle.std.specs.Prelude.{MatchOption}
use Rattle.re_labels.specs.declared.TheConstants.{MAX_ROWS}
use Rattle.re_cert.specs.Bounds.{BoundStep, map_of}
use Rattle.re_bridge.specs.Bridges.{missing, over, set_bridge, walk_by_set}
use Rattle.re_bridge.proofs.finding.parts_over.Goals as goal

pub returns-in-Some-clause-found : goal.returns-in-Some-clause-found
returns-in-Some-clause-found c =
    let bridge = set_bridge c.args.before.now c.args.next.now c.args.tries (walk_by_set c.args.before.now c.args.next.now c.args.tries) in
    let is : bridge ≡ over (map_of c.in-Some.map) = subst (λ o. MatchOption o (bridge ≡ missing) (λ m. bridge ≡ over (map_of m))) c.in-Some.is c.in_ok-map.ensures.map in (
      map_of c.in-Some.map,
      ap (λ b. cond b bridge missing) c.requires.exchanged ∙ is,
      ap (λ rows. let s : BoundStep = record { lower = true; next = c.args.next.now; rows = rows; map = map_of c.in-Some.map } in s) c.requires.rows,
      subst (λ (rows : List (List (List ℕ))). length rows ≤ MAX_ROWS) c.requires.rows c.requires.few,
    )
