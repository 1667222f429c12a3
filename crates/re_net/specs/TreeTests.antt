-- Tests of trees and messages, as an input of `run` is judged by them.
use Rattle.std.specs.Prelude.{◌≡◌, ℕ, suc, nat_le, nat_lt, Bool, true, ◌&&◌, ◌||◌, ◌↔◌, is_none, is_some}
use Rattle.std.specs.List.{list_all}
use Rattle.re_labels.specs.Lists.{count_from}
use Rattle.re_labels.specs.Sides.{degree_of, opposite}
use Rattle.re_net.specs.FiniteTrees.{CanJoin, FiniteTree, IsFiniteTree, IsNumbered, most_ports, neighbour, node_count, ports_of, side_of}
use Rattle.re_net.specs.Rounds.{IsMessage}
use Rattle.re_net.specs.declared.joins.Join.{Join}
use Rattle.re_net.specs.declared.messages.Message.{Message}

-- whether a node may be joined there
abbrev pub can_join : FiniteTree → Join → Bool
can_join tree join =
    nat_lt join.to (node_count tree)
    && (nat_le 1 join.port && (nat_le join.port (most_ports tree join.to)
    && (is_none (neighbour tree join.to join.port)
    && (nat_le 1 join.own && nat_le join.own (degree_of tree.degrees (opposite (side_of tree join.to)))))))

-- whether no port of the node is taken above one that is free
abbrev pub has_first_ports : FiniteTree → ℕ → Bool
has_first_ports tree v = list_all (λ p. is_some (neighbour tree v p) || is_none (neighbour tree v (suc p))) (ports_of tree v)

-- whether at each node the ports taken are those from 1 to their number
abbrev pub is_numbered : FiniteTree → Bool
is_numbered tree = list_all (has_first_ports tree) (count_from 0 (node_count tree))

-- whether it is a message of a node over a port that is taken, with a number below the bound
abbrev pub can_send : FiniteTree → ℕ → Message → Bool
can_send tree bound message =
    nat_lt message.from (node_count tree) && (is_some (neighbour tree message.from message.port) && nat_lt message.number bound)

-- ---- the tests say what they are named for
abbrev pub JoinLaw : Type 0
JoinLaw = (tree : FiniteTree) (join : Join) → (can_join tree join ≡ true) ↔ CanJoin tree join

abbrev pub NumberedLaw : Type 0
NumberedLaw = (tree : FiniteTree) → IsFiniteTree tree → (is_numbered tree ≡ true) ↔ IsNumbered tree

abbrev pub MessageLaw : Type 0
MessageLaw = (tree : FiniteTree) (bound : ℕ) (message : Message) → (can_send tree bound message ≡ true) ↔ IsMessage tree bound message
