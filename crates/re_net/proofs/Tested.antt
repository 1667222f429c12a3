-- What the tests of joins, trees and messages say.
use Rattle.std.proofs.Common.{◌≡◌, ℕ, zero, suc, ◌+◌, ◌-◌, ◌≤◌, ◌<◌, Bool, true, false, ltb, leb, ◌&&◌, ◌||◌, Option, Some, None, refl, sym, ◌∙◌, ap, arith, add-zero}
use Rattle.std.specs.Prelude.{IsSome, is_none, is_some, ◌↔◌}
use Rattle.std.proofs.lemmas.Bool.{le-leb, leb-true}
use Rattle.re_labels.proofs.Tests.{and-false, and-true, below-true, or-left, or-right, true-and, true-below}
use Rattle.re_labels.specs.Sides.{degree_of, opposite}
use Rattle.re_net.proofs.Edges.{edge_of}
use Rattle.re_net.proofs.Rounds.{all_below, below_all}
use Rattle.re_net.specs.FiniteTrees.{CanJoin, FiniteTree, IsFiniteTree, IsNumbered, most_ports, neighbour, node_count, side_of}
use Rattle.re_net.specs.Rounds.{IsMessage}
use Rattle.re_net.specs.declared.joins.Join.{Join}
use Rattle.re_net.specs.declared.joins.Neighbour.{Neighbour}
use Rattle.re_net.specs.declared.messages.Message.{Message}
use Rattle.re_net.specs.TreeTests.{can_join, can_send, has_first_ports, is_numbered}

nothing : (o : Option Neighbour) → is_none o ≡ true → o ≡ None
nothing None is = refl
nothing (Some x) is = absurd (cc)

-- ---- joins
module _ (tree : FiniteTree) (join : Join) where
  abbrev node : Bool
  node = ltb join.to (node_count tree)

  abbrev least : Bool
  least = leb 1 join.port

  abbrev most : Bool
  most = leb join.port (most_ports tree join.to)

  abbrev free : Bool
  free = is_none (neighbour tree join.to join.port)

  abbrev own_least : Bool
  own_least = leb 1 join.own

  abbrev own_most : Bool
  own_most = leb join.own (degree_of tree.degrees (opposite (side_of tree join.to)))

  tested_join : can_join tree join ≡ true → CanJoin tree join
  tested_join is =
      let a = and-true node (least && (most && (free && (own_least && own_most)))) is in
      let b = and-true least (most && (free && (own_least && own_most))) a.1 in
      let c = and-true most (free && (own_least && own_most)) b.1 in
      let d = and-true free (own_least && own_most) c.1 in
      let e = and-true own_least own_most d.1 in
      record {
        node = below-true join.to (node_count tree) a.0;
        least = leb-true 1 join.port b.0;
        most = leb-true join.port (most_ports tree join.to) c.0;
        free = nothing (neighbour tree join.to join.port) d.0;
        own_least = leb-true 1 join.own e.0;
        own_most = leb-true join.own (degree_of tree.degrees (opposite (side_of tree join.to))) e.1;
      }

  passes_join : CanJoin tree join → can_join tree join ≡ true
  passes_join can =
      true-and node (least && (most && (free && (own_least && own_most)))) (true-below join.to (node_count tree) can.node)
      (true-and least (most && (free && (own_least && own_most))) (le-leb 1 join.port can.least)
      (true-and most (free && (own_least && own_most)) (le-leb join.port (most_ports tree join.to) can.most)
      (true-and free (own_least && own_most) (ap is_none can.free)
      (true-and own_least own_most (le-leb 1 join.own can.own_least) (le-leb join.own (degree_of tree.degrees (opposite (side_of tree join.to))) can.own_most)))))

  pub join_told : (can_join tree join ≡ true) ↔ CanJoin tree join
  join_told = (tested_join, passes_join)

-- ---- messages
module _ (tree : FiniteTree) (bound : ℕ) (message : Message) where
  abbrev sent_over : Option Neighbour
  sent_over = neighbour tree message.from message.port

  pub message_told : (can_send tree bound message ≡ true) ↔ IsMessage tree bound message
  message_told = (
    λ is.
        let a = and-true (ltb message.from (node_count tree)) (is_some sent_over && ltb message.number bound) is in
        let b = and-true (is_some sent_over) (ltb message.number bound) a.1 in
        record { node = below-true message.from (node_count tree) a.0; port = b.0; number = below-true message.number bound b.1 },
    λ (m : IsMessage tree bound message).
        true-and (ltb message.from (node_count tree)) (is_some sent_over && ltb message.number bound) (true-below message.from (node_count tree) m.node)
        (true-and (is_some sent_over) (ltb message.number bound) m.port (true-below message.number bound m.number)),
  )

-- ---- numbered trees
module _ (tree : FiniteTree) (is_tree : IsFiniteTree tree) where
  -- where no port of a node is taken above one that is free, each port below a taken one is taken
  taken_below : (v q k : ℕ) → has_first_ports tree v ≡ true → 1 ≤ q → q + k ≤ most_ports tree v → IsSome (neighbour tree v (q + k)) → IsSome (neighbour tree v q)
  taken_below v q zero first low within taken = rw add-zero at taken
  taken_below v q (suc k) first low within taken =
      let more : q + suc k ≡ suc (q + k) = omega arith in
      let taken' : IsSome (neighbour tree v (suc (q + k))) = rw more at taken in
      let here = all_below (λ p. is_some (neighbour tree v p) || is_none (neighbour tree v (suc p))) 1 (most_ports tree v) first (q + k) (omega arith) (omega arith) in
      taken_below v q k first low (omega arith) (by_next (neighbour tree v (suc (q + k))) taken' here)
    where
      by_here : (o : Option Neighbour) → (is_some o || false) ≡ true → IsSome o
      by_here None here = absurd (cc)
      by_here (Some one) here = refl

      by_next : (o : Option Neighbour) → IsSome o → (is_some (neighbour tree v (q + k)) || is_none o) ≡ true → IsSome (neighbour tree v (q + k))
      by_next None some here = absurd (cc)
      by_next (Some one) some here = by_here (neighbour tree v (q + k)) here

  pub tested_numbers : is_numbered tree ≡ true → IsNumbered tree
  tested_numbers is v p q low below taken = by_value (neighbour tree v p) refl taken
    where
      by_value : (o : Option Neighbour) → neighbour tree v p ≡ o → IsSome o → IsSome (neighbour tree v q)
      by_value None e some = absurd (cc)
      by_value (Some one) e some =
          let edge = edge_of tree is_tree v p one e in
          let node = edge.node in
          let most = edge.most in
          let first = all_below (has_first_ports tree) 0 (node_count tree) is v (omega arith) (omega arith) in
          let at : q + (p - q) ≡ p = omega arith in
          taken_below v q (p - q) first low (omega arith) (rw at taken)

  pub passes_numbers : IsNumbered tree → is_numbered tree ≡ true
  passes_numbers numbered =
      below_all (has_first_ports tree) 0 (node_count tree) (λ v _ _.
      below_all (λ p. is_some (neighbour tree v p) || is_none (neighbour tree v (suc p))) 1 (most_ports tree v) (λ p low _. by_next v p low (neighbour tree v (suc p)) refl))
    where
      by_next : (v p : ℕ) → 1 ≤ p → (o : Option Neighbour) → neighbour tree v (suc p) ≡ o → (is_some (neighbour tree v p) || is_none o) ≡ true
      by_next v p low None e = or-right (is_some (neighbour tree v p)) true refl
      by_next v p low (Some one) e = or-left (is_some (neighbour tree v p)) false (numbered v (suc p) p low (omega arith) (ap is_some e))

  pub numbers_told : (is_numbered tree ≡ true) ↔ IsNumbered tree
  numbers_told = (tested_numbers, passes_numbers)

-- ---- ports that no side has
pub no_such_port : (tree : FiniteTree) → IsFiniteTree tree → (v p : ℕ) → most_ports tree v < p → neighbour tree v p ≡ None
no_such_port tree is_tree v p above = by_value (neighbour tree v p) refl
  where
    by_value : (o : Option Neighbour) → neighbour tree v p ≡ o → o ≡ None
    by_value None is = refl
    by_value (Some one) is = (let most = (edge_of tree is_tree v p one is).most in absurd (omega arith))

pub not_sent : (tree : FiniteTree) → IsFiniteTree tree → (bound from port number : ℕ) → most_ports tree from < port
    → false ≡ can_send tree bound (record { from = from; port = port; number = number })
not_sent tree is_tree bound from port number above =
    sym (ap (λ o. ltb from (node_count tree) && (is_some o && ltb number bound)) (no_such_port tree is_tree from port above) ∙ and-false (ltb from (node_count tree)))

-- the test of a tree, by what a tree says of itself
pub numbered_yes : (tree : FiniteTree) → IsFiniteTree tree → (result : Bool) → (result ≡ true) ↔ IsNumbered tree → result ≡ true → is_numbered tree ≡ true
numbered_yes tree is_tree result told is = passes_numbers tree is_tree (told.0 is)

pub numbered_no : (tree : FiniteTree) → IsFiniteTree tree → (result : Bool) → (result ≡ true) ↔ IsNumbered tree → result ≡ false → is_numbered tree ≡ false
numbered_no tree is_tree result told isnt = by_test (is_numbered tree) refl
  where
    by_test : (t : Bool) → is_numbered tree ≡ t → t ≡ false
    by_test true is = (let there = told.1 (tested_numbers tree is_tree is) in absurd (cc))
    by_test false is = refl
