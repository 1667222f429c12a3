-- How the messages delivered are held: a set of ports for each node and each number.
use Rattle.std.specs.Prelude.{◌≡◌, ℕ, ◌+◌, ◌*◌, ◌≤◌, ◌<◌, ◌==◌, Bool, List, [], map, filter, fold, slice_index_or}
use Rattle.std.specs.BTreeSet.{insert_key}
use Rattle.std.specs.Int.{bit_at}
use Rattle.std.specs.List.{flat_map}
use Rattle.std.specs.Ordering.{is_eq}
use Rattle.std.specs.Set.{remove_key}
use Rattle.re_labels.specs.Lists.{count_from}
use Rattle.re_net.specs.declared.messages.Message.{Message}
use Rattle.re_net.specs.declared.port_sets.PortSet.{PortSet}
use Rattle.re_net.specs.FiniteTrees.{node_count}
use Rattle.re_net.specs.Nets.{IsNet, NetState, message_cmp}

-- how many nodes and numbers there is room for, and the messages delivered in order
pub record DeliveryState : Type 0 where
  pub nodes : ℕ
  pub bound : ℕ
  pub messages : List Message

-- a message of these nodes over a port from 1 to 6, with a number below the bound
pub record IsInRoom (nodes bound : ℕ) (message : Message) : Type 0 where
  pub node : message.from < nodes
  pub least : 1 ≤ message.port
  pub most : message.port ≤ 6
  pub number : message.number < bound

-- whether the port is in the set
abbrev pub has_port : PortSet → ℕ → Bool
has_port set i = bit_at set.bits i == 1

-- the ports over which message number j of node u is delivered; the sets of a node's numbers stand together
abbrev pub ports_at : ℕ → List PortSet → ℕ → ℕ → PortSet
ports_at bound sets u j = slice_index_or sets (u * bound + j) (record { bits = 0 })

-- whether the message is marked
abbrev pub is_marked : ℕ → List PortSet → Message → Bool
is_marked bound sets message = has_port (ports_at bound sets message.from message.number) message.port

-- the messages that there is room for
abbrev pub messages_in_room : ℕ → ℕ → List Message
messages_in_room nodes bound =
    flat_map (λ u. flat_map (λ i. map (λ j. record { from = u; port = i; number = j }) (count_from 0 bound)) (count_from 1 6)) (count_from 0 nodes)

-- the marked messages, in order
unfoldable pub marked : ℕ → ℕ → List PortSet → List Message
marked nodes bound sets = fold (insert_key message_cmp) [] (filter (is_marked bound sets) (messages_in_room nodes bound))

-- the messages without one of them
abbrev pub without_message : List Message → Message → List Message
without_message messages message = remove_key (λ x. is_eq (message_cmp message x)) messages

-- a net whose messages are held in room for the tree's nodes and for the numbers below the bound
pub record IsHeldNet (net : NetState) (deliveries : DeliveryState) (histories : List (List ℕ)) : Type 0 where
  pub stands : IsNet net histories
  pub nodes : deliveries.nodes ≡ node_count net.tree
  pub numbers : deliveries.bound ≡ net.bound
