-- Deliveries made one after another, and what the nodes output behind them.
use Rattle.std.proofs.Common.{◌≡◌, ℕ, suc, ◌+◌, ◌≤◌, ◌<◌, Bool, true, false, cond, eqb, leb, ◌&&◌, List, [], ◌∷◌, ◌++◌, length, take, drop, get_or, map, Option, Some, None, refl, sym, ap, ◌∙◌, subst, arith}
use Rattle.std.specs.List.{cons_option}
use Rattle.std.specs.Prelude.{IfSome, IsSome, fold, ◌↔◌}
use Rattle.std.proofs.lemmas.Bool.{le-leb, leb-true, lt-leb}
use Rattle.std.proofs.lemmas.List.{drop_more, map-append, take_more}
use Rattle.std.proofs.lemmas.List.Sums.{fold-append}
use Rattle.re_labels.proofs.Membership.{count_from-last}
use Rattle.re_labels.proofs.Tests.{and-true, eqb-same, eqb-true, true-and}
use Rattle.re_labels.specs.Lists.{count_from}
use Rattle.re_labels.specs.Sides.{degree_of, opposite}
use Rattle.re_labels.specs.declared.sides.Side.{Side}
use Rattle.re_labels.specs.declared.sides.Side.TheVariants.{Active, Passive}
use Rattle.re_laws.specs.Algorithms.{Plain, SolvesBy, around, at_port}
use Rattle.re_net.proofs.Around.{around_node}
use Rattle.re_net.proofs.FullViews.{full_around, full_view}
use Rattle.re_net.proofs.NetSteps.{round-fold}
use Rattle.re_net.specs.FiniteTrees.{FiniteTree, IsFiniteTree, IsNumbered, most_ports, neighbour, neighbours_over, node_count, ports_of, side_of, surroundings, unmarked}
use Rattle.re_net.specs.FullTrees.{has_all_ports, is_full}
use Rattle.re_net.specs.Nets.{NetState, with_message}
use Rattle.re_net.specs.Rounds.{IsLegal, round}
use Rattle.re_net.specs.declared.joins.Neighbour.{Neighbour}
use Rattle.re_net.specs.declared.messages.Message.{Message}
use Rattle.re_problem.specs.Problems.{Problem}
use Rattle.re_labels.specs.Constraints.{Has}
use Rattle.re_laws.specs.Trees.{IsView}
use Rattle.re_net.specs.RunReading.{AreMessages}
use Rattle.re_net.specs.Runs.{first_illegal, has_output, is_active, label_at, labels_around, messages_of, output_of, standing_of, standings_of}
use Rattle.re_net.specs.declared.reading.Delivery.{Delivery}
use Rattle.re_net.specs.declared.runs.Standing.{Standing}

-- ---- deliveries
not_less : (a b : ℕ) → leb a b ≡ false → a ≤ b → ⊥
not_less a b is low = let yes = le-leb a b low in cc

pub legal_told : (tree : FiniteTree) (bound : ℕ) (before : List Message) (deliveries : List Delivery) → AreMessages tree bound deliveries
    → (first_illegal tree bound before deliveries ≡ None) ↔ IsLegal tree bound before (messages_of deliveries)
legal_told tree bound before [] are = (λ _. tt, λ _. refl)
legal_told tree bound before (delivery ∷ deliveries) are =
    let later = legal_told tree bound (before ++ delivery.message ∷ []) deliveries are.1 in
    by_test later (leb delivery.message.number (round tree bound before delivery.message.from)) refl
  where
    by_test : (first_illegal tree bound (before ++ delivery.message ∷ []) deliveries ≡ None) ↔ IsLegal tree bound (before ++ delivery.message ∷ []) (messages_of deliveries)
        → (t : Bool) → leb delivery.message.number (round tree bound before delivery.message.from) ≡ t
        → (cond t (first_illegal tree bound (before ++ delivery.message ∷ []) deliveries) (Some delivery.line) ≡ None) ↔ IsLegal tree bound before (messages_of (delivery ∷ deliveries))
    by_test later true is = (λ none. (are.0, leb-true _ _ is, later.0 none), λ legal. later.1 legal.2)
    by_test later false is = (λ none. absurd (cc), λ legal. absurd (not_less _ _ is legal.1))

-- the deliveries up to this place are made, and all of them are legal
pub record Made (tree : FiniteTree) (bound : ℕ) (deliveries : List Delivery) (net : NetState) (count : ℕ) : Type 0 where
  pub tree_is : net.tree ≡ tree
  pub bound_is : net.bound ≡ bound
  pub delivered_is : net.delivered ≡ fold with_message [] (messages_of (take count deliveries))
  pub so_far : first_illegal tree bound [] deliveries ≡ first_illegal tree bound (messages_of (take count deliveries)) (drop count deliveries)

module _ (tree : FiniteTree) (is_tree : IsFiniteTree tree) (bound : ℕ) (deliveries : List Delivery) (net : NetState) (count : ℕ) (other : Delivery) (made : Made tree bound deliveries net count)
    (within : count < length deliveries) where
  abbrev delivery : Delivery
  delivery = get_or deliveries count other

  abbrev before : List Message
  before = messages_of (take count deliveries)

  round_is : round net.tree net.bound net.delivered delivery.message.from ≡ round tree bound before delivery.message.from
  round_is =
      (λ i. round (made.tree_is i) (made.bound_is i) (made.delivered_is i) delivery.message.from) ∙ round-fold tree is_tree bound before delivery.message.from

  here : first_illegal tree bound [] deliveries ≡ cond (leb delivery.message.number (round tree bound before delivery.message.from)) (first_illegal tree bound (before ++ delivery.message ∷ []) (drop (count + 1) deliveries)) (Some delivery.line)
  here = made.so_far ∙ ap (first_illegal tree bound before) (drop_more deliveries count other within)

  before_more : messages_of (take (count + 1) deliveries) ≡ before ++ delivery.message ∷ []
  before_more =
      ap messages_of (take_more deliveries count other within)
      ∙ map-append (λ (d : Delivery). d.message) (take count deliveries) (delivery ∷ [])

  pub illegal_here : round net.tree net.bound net.delivered delivery.message.from < delivery.message.number → first_illegal tree bound [] deliveries ≡ Some delivery.line
  illegal_here above =
      let same = round_is in
      let test : leb delivery.message.number (round tree bound before delivery.message.from) ≡ false = lt-leb _ _ (omega arith) in
      here ∙ ap (λ t. cond t (first_illegal tree bound (before ++ delivery.message ∷ []) (drop (count + 1) deliveries)) (Some delivery.line)) test

  pub one_made : (new : NetState) → delivery.message.number ≤ round net.tree net.bound net.delivered delivery.message.from → new.tree ≡ net.tree → new.bound ≡ net.bound
      → new.delivered ≡ with_message net.delivered delivery.message → Made tree bound deliveries new (count + 1)
  one_made new low same_tree same_bound more =
      let same = round_is in
      let test : leb delivery.message.number (round tree bound before delivery.message.from) ≡ true = le-leb _ _ (omega arith) in
      record {
        tree_is = same_tree ∙ made.tree_is;
        bound_is = same_bound ∙ made.bound_is;
        delivered_is = more ∙ ap (λ d. with_message d delivery.message) made.delivered_is ∙ sym (fold-append with_message [] before (delivery.message ∷ [])) ∙ ap (fold with_message []) (sym before_more);
        so_far = here ∙ ap (λ t. cond t (first_illegal tree bound (before ++ delivery.message ∷ []) (drop (count + 1) deliveries)) (Some delivery.line)) test
            ∙ ap (λ messages. first_illegal tree bound messages (drop (count + 1) deliveries)) (sym before_more);
      }

-- ---- outputs
active_side : (side : Side) → is_active side ≡ true → side ≡ Active
active_side Active is = refl
active_side Passive is = absurd (cc)

module _ (tree : FiniteTree) (bound : ℕ) (messages : List Message) (v : ℕ) where
  pub outputs : has_output tree bound messages v ≡ true → (side_of tree v ≡ Active) × (round tree bound messages v ≡ bound) × (is_full tree v bound ≡ true)
  outputs is =
      let a = and-true (is_active (side_of tree v)) (eqb (round tree bound messages v) bound && is_full tree v bound) is in
      let b = and-true (eqb (round tree bound messages v) bound) (is_full tree v bound) a.1 in
      (active_side (side_of tree v) a.0, eqb-true _ _ b.0, b.1)

  outputs_from : (side_of tree v ≡ Active) × (round tree bound messages v ≡ bound) × (is_full tree v bound ≡ true) → has_output tree bound messages v ≡ true
  outputs_from is =
      true-and (is_active (side_of tree v)) (eqb (round tree bound messages v) bound && is_full tree v bound) (ap is_active is.0)
      (true-and (eqb (round tree bound messages v) bound) (is_full tree v bound) (ap (λ r. eqb r bound) is.1 ∙ eqb-same bound) is.2)

  pub output_is : (algorithm : Plain → List ℕ) (answer : Option (List ℕ)) → (IsSome answer ↔ ((side_of tree v ≡ Active) × (round tree bound messages v ≡ bound) × (is_full tree v bound ≡ true)))
      → IfSome answer (λ labels. labels ≡ algorithm (surroundings tree unmarked v bound)) → answer ≡ output_of tree bound messages algorithm v
  output_is algorithm None gives labels = by_test (has_output tree bound messages v) refl
    where
      by_test : (t : Bool) → has_output tree bound messages v ≡ t → None ≡ cond t (Some (algorithm (surroundings tree unmarked v bound))) None
      by_test true is = (let some = gives.1 (outputs is) in absurd (cc))
      by_test false is = refl
  output_is algorithm (Some x) gives labels =
      ap Some labels ∙ ap (λ t. cond t (Some (algorithm (surroundings tree unmarked v bound))) None) (sym (outputs_from (gives.0 refl)))

-- where the first nodes stand
pub standings_more : (tree : FiniteTree) (bound : ℕ) (messages : List Message) (algorithm : Plain → List ℕ) (all : List Standing) (n : ℕ) (one : Standing)
    → all ≡ map (standing_of tree bound messages algorithm) (count_from 0 n) → one ≡ standing_of tree bound messages algorithm n
    → all ++ one ∷ [] ≡ map (standing_of tree bound messages algorithm) (count_from 0 (suc n))
standings_more tree bound messages algorithm all n one so_far this =
    let same : 0 + n ≡ n = omega arith in
    (λ i. so_far i ++ this i ∷ [])
    ∙ sym (ap (map (standing_of tree bound messages algorithm)) (count_from-last 0 n ∙ ap (λ k. count_from 0 n ++ k ∷ []) same) ∙ map-append (standing_of tree bound messages algorithm) (count_from 0 n) (n ∷ []))

-- by the messages delivered one after another the nodes stand where they do by the list
pub standings_fold : (tree : FiniteTree) → IsFiniteTree tree → (bound : ℕ) (messages : List Message) (algorithm : Plain → List ℕ)
    → standings_of tree bound (fold with_message [] messages) algorithm ≡ standings_of tree bound messages algorithm
standings_fold tree is_tree bound messages algorithm = ap (λ f. map f (count_from 0 (node_count tree))) (λ i v. same v i)
  where
    same : (v : ℕ) → standing_of tree bound (fold with_message [] messages) algorithm v ≡ standing_of tree bound messages algorithm v
    same v =
        let r = round-fold tree is_tree bound messages v in
        (λ i. record { round = r i; labels = cond (is_active (side_of tree v) && (eqb (r i) bound && is_full tree v bound)) (Some (algorithm (surroundings tree unmarked v bound))) None })

-- ---- around a passive node
module _ (problem : Problem) (algorithm : Plain → List ℕ) (tree : FiniteTree) (bound : ℕ) (messages : List Message) (v : ℕ) (is_tree : IsFiniteTree tree)
    (all : (p : ℕ) (one : Neighbour) → neighbour tree v p ≡ Some one → has_output tree bound messages one.node ≡ true) where
  label_is : (p : ℕ) (one : Neighbour) → neighbour tree v p ≡ Some one → label_at (output_of tree bound messages algorithm one.node) one.port ≡ at_port (algorithm (surroundings tree unmarked one.node bound)) one.port
  label_is p one is = ap (λ t. label_at (cond t (Some (algorithm (surroundings tree unmarked one.node bound))) None) one.port) (all p one is)

  labels_over : (ports : List ℕ) → map (λ (one : Neighbour). label_at (output_of tree bound messages algorithm one.node) one.port) (neighbours_over tree v ports)
      ≡ map (λ (one : Neighbour). at_port (algorithm (surroundings tree unmarked one.node bound)) one.port) (neighbours_over tree v ports)
  labels_over [] = refl
  labels_over (p ∷ ports) = by_value (neighbour tree v p) refl (labels_over ports)
    where
      by_value : (o : Option Neighbour) → neighbour tree v p ≡ o → map (λ (one : Neighbour). label_at (output_of tree bound messages algorithm one.node) one.port) (neighbours_over tree v ports)
          ≡ map (λ (one : Neighbour). at_port (algorithm (surroundings tree unmarked one.node bound)) one.port) (neighbours_over tree v ports)
          → map (λ (one : Neighbour). label_at (output_of tree bound messages algorithm one.node) one.port) (cons_option o (neighbours_over tree v ports))
          ≡ map (λ (one : Neighbour). at_port (algorithm (surroundings tree unmarked one.node bound)) one.port) (cons_option o (neighbours_over tree v ports))
      by_value None is later = later
      by_value (Some one) is later = (λ i. label_is p one is i ∷ later i)

  pub passive_gets : SolvesBy problem bound algorithm → IsNumbered tree → tree.degrees.active ≡ problem.active.degree → tree.degrees.passive ≡ problem.passive.degree → side_of tree v ≡ Passive
      → has_all_ports tree v ≡ true → Has problem.passive (labels_around tree bound messages algorithm v)
  passive_gets solves numbered active passive side has =
      let full : is_full tree v (suc bound) ≡ true = full_around tree is_tree v bound has (λ p one is. (outputs tree bound messages one.node (all p one is)).2) in
      let view = full_view tree unmarked is_tree v (suc bound) full in
      let own : degree_of tree.degrees (side_of tree v) ≡ problem.passive.degree = ap (degree_of tree.degrees) side ∙ passive in
      let other : degree_of tree.degrees (opposite (side_of tree v)) ≡ problem.active.degree = ap (λ s. degree_of tree.degrees (opposite s)) side ∙ active in
      let seen : IsView problem.passive.degree problem.active.degree (suc bound) (surroundings tree unmarked v (suc bound)) = subst (λ d. IsView d problem.active.degree (suc bound) (surroundings tree unmarked v (suc bound))) own (subst (λ e. IsView (most_ports tree v) e (suc bound) (surroundings tree unmarked v (suc bound))) other view) in
      let here = solves.passive (surroundings tree unmarked v (suc bound)) seen in
      let around_is = around_node tree is_tree numbered bound algorithm v has in
      let ports : around problem.passive.degree bound algorithm (surroundings tree unmarked v (suc bound)) ≡ around (most_ports tree v) bound algorithm (surroundings tree unmarked v (suc bound)) = ap (λ d. around d bound algorithm (surroundings tree unmarked v (suc bound))) (sym own) in
      subst (Has problem.passive) (ports ∙ around_is ∙ sym (labels_over (ports_of tree v))) here
