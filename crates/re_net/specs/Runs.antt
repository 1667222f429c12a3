-- Runs on a finite tree: deliveries made one after another, and what the nodes output behind them.
use Rattle.std.specs.Prelude.{◌≡◌, ℕ, ◌==◌, nat_le, Bool, true, false, ◌&&◌, ◌↔◌, List, [], ◌∷◌, ◌++◌, map, if◌then◌else◌, Option, None, Some}
use Rattle.re_labels.specs.Lists.{count_from}
use Rattle.re_labels.specs.declared.sides.Side.{Side}
use Rattle.re_labels.specs.declared.sides.Side.TheVariants.{Active, Passive}
use Rattle.re_laws.specs.Algorithms.{Plain, SolvesBy, at_port}
use Rattle.re_net.specs.FiniteTrees.{FiniteTree, IsFiniteTree, IsNumbered, neighbour, neighbours, node_count, side_of, surroundings, unmarked}
use Rattle.re_net.specs.FullTrees.{has_all_ports, is_full}
use Rattle.re_net.specs.Rounds.{IsLegal, round}
use Rattle.re_net.specs.declared.joins.Neighbour.{Neighbour}
use Rattle.re_net.specs.declared.messages.Message.{Message}
use Rattle.re_problem.specs.Problems.{Problem}
use Rattle.re_labels.specs.Constraints.{Has}
use Rattle.re_net.specs.RunReading.{AreMessages}
use Rattle.re_net.specs.declared.reading.Delivery.{Delivery}
use Rattle.re_net.specs.declared.runs.Run.{Run}
use Rattle.re_net.specs.declared.runs.Run.TheVariants.{Illegal, Legal}
use Rattle.re_net.specs.declared.runs.Standing.{Standing}

-- the messages of deliveries, in order
abbrev pub messages_of : List Delivery → List Message
messages_of deliveries = map (λ (delivery : Delivery). delivery.message) deliveries

-- the line of the first delivery that isn't legal behind these messages: the number of its message is above the round of its node
abbrev pub first_illegal : FiniteTree → ℕ → List Message → List Delivery → Option ℕ
first_illegal tree bound before [] = None
first_illegal tree bound before (delivery ∷ deliveries) =
    if nat_le delivery.message.number (round tree bound before delivery.message.from) then first_illegal tree bound (before ++ delivery.message ∷ []) deliveries
    else Some delivery.line

-- ---- outputs
abbrev pub is_active : Side → Bool
is_active Active = true
is_active Passive = false

-- whether a node outputs: it is active, its round is the bound, and its surroundings are full
abbrev pub has_output : FiniteTree → ℕ → List Message → ℕ → Bool
has_output tree bound messages v = is_active (side_of tree v) && (round tree bound messages v == bound && is_full tree v bound)

-- what a node outputs, if it does: the labels of the algorithm at its surroundings, whose radius is the bound
abbrev pub output_of : FiniteTree → ℕ → List Message → (Plain → List ℕ) → ℕ → Option (List ℕ)
output_of tree bound messages algorithm v = if has_output tree bound messages v then Some (algorithm (surroundings tree unmarked v bound)) else None

-- where a node stands: its round, and its labels, if it outputs
abbrev pub standing_of : FiniteTree → ℕ → List Message → (Plain → List ℕ) → ℕ → Standing
standing_of tree bound messages algorithm v = record { round = round tree bound messages v; labels = output_of tree bound messages algorithm v }

-- where the nodes stand, in order
abbrev pub standings_of : FiniteTree → ℕ → List Message → (Plain → List ℕ) → List Standing
standings_of tree bound messages algorithm = map (standing_of tree bound messages algorithm) (count_from 0 (node_count tree))

-- what comes of deliveries: the line of the first one that isn't legal, or else where the nodes stand behind all of them
abbrev pub Comes : FiniteTree → ℕ → List Delivery → (Plain → List ℕ) → Run → Type 0
Comes tree bound deliveries algorithm (Illegal line) = first_illegal tree bound [] deliveries ≡ Some line
Comes tree bound deliveries algorithm (Legal standings) =
    (first_illegal tree bound [] deliveries ≡ None) × (standings.items ≡ standings_of tree bound (messages_of deliveries) algorithm)

-- ---- around a node
-- the label that a node outputs at a port; 0 where it outputs none
abbrev pub label_at : Option (List ℕ) → ℕ → ℕ
label_at None port = 0
label_at (Some labels) port = at_port labels port

-- the labels that a node's neighbours output for the shared edges, in the order of its ports
abbrev pub labels_around : FiniteTree → ℕ → List Message → (Plain → List ℕ) → ℕ → List ℕ
labels_around tree bound messages algorithm v =
    map (λ (one : Neighbour). label_at (output_of tree bound messages algorithm one.node) one.port) (neighbours tree v)

-- ---- laws
-- no delivery of messages of the tree is the first that isn't legal exactly where the list of their messages is legal
abbrev pub LegalLaw : Type 0
LegalLaw = (tree : FiniteTree) (bound : ℕ) (deliveries : List Delivery) → AreMessages tree bound deliveries →
    (first_illegal tree bound [] deliveries ≡ None) ↔ IsLegal tree bound [] (messages_of deliveries)

-- a passive node with as many edges as its side allows, all of whose neighbours output what an algorithm that solves a problem gives,
-- gets a passive configuration of the problem
abbrev pub PassiveLaw : Type 0
PassiveLaw = (problem : Problem) (algorithm : Plain → List ℕ) (tree : FiniteTree) (bound : ℕ) (messages : List Message) (v : ℕ) →
    SolvesBy problem bound algorithm → IsFiniteTree tree → IsNumbered tree → tree.degrees.active ≡ problem.active.degree → tree.degrees.passive ≡ problem.passive.degree →
    side_of tree v ≡ Passive → has_all_ports tree v ≡ true → ((p : ℕ) (one : Neighbour) → neighbour tree v p ≡ Some one → has_output tree bound messages one.node ≡ true) →
    Has problem.passive (labels_around tree bound messages algorithm v)
