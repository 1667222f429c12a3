-- What a delivery does to a net.
use Rattle.std.proofs.Common.{◌≡◌, ◌≢◌, ℕ, zero, suc, ◌+◌, ◌-◌, ◌≤◌, ◌<◌, ◌⊎◌, inl, inr, Bool, true, false, not, eqb, ◌&&◌, ◌||◌, List, [], ◌∷◌, ◌++◌, length, get_or, set, Some, refl, sym, ◌∙◌, ap, subst, arith, replicate, length-append}
use Rattle.std.specs.BTreeSet.{insert_key}
use Rattle.std.specs.List.Sorted.{IsStrictlySortedBy}
use Rattle.std.specs.List.{list_any}
use Rattle.std.specs.Ordering.{is_eq, match_ordering}
use Rattle.std.specs.Set.{remove_key}
use Rattle.std.specs.declared.cmp.Ordering.{Ordering}
use Rattle.std.specs.declared.cmp.Ordering.TheVariants.{Less, Equal, Greater}
use Rattle.std.proofs.lemmas.Bool.Decides.{eqb_tells}
use Rattle.std.specs.Prelude.{IsSome, fold}
use Rattle.std.proofs.lemmas.Bool.{cases_lt, eq-eqb}
use Rattle.re_laws.specs.Trees.{leaf}
use Rattle.std.proofs.Math.Seq.{get_or-append_seam}
use Rattle.std.proofs.lemmas.List.{get_or_append_left, length-replicate, get_or-replicate, get_or-set_other, get_or-set_same, length-set}
use Rattle.re_labels.proofs.Tests.{and-true, eqb-true, or-true, or-right, or_swap, or-false}
use Rattle.re_net.specs.declared.joins.Neighbour.{Neighbour}
use Rattle.re_net.specs.declared.messages.Message.{Message}
use Rattle.re_net.specs.FiniteTrees.{FiniteTree, IsFiniteTree, IsNumbered, neighbour, node_count}
use Rattle.re_net.specs.Nets.{AreHistories, AreSent, IsHistory, IsNet, NetState, message_cmp}
use Rattle.re_net.specs.Rounds.{has_heard, is_delivered, is_message, round}
use Rattle.re_net.proofs.Edges.{edge_of}
use Rattle.re_net.proofs.Rounds.{greatest-most, heard-from, round-elsewhere, round-heard, round-more}
use Rattle.re_net.proofs.Steps.{kept_histories, kept_history, read_history, same_message}
use Rattle.re_pool.specs.declared.shape.Shape.{Shape}
use Rattle.re_pool.proofs.Growing.{Keeps-refl, Keeps-trans}
use Rattle.re_pool.specs.Pools.{Keeps, tree_at}
use Rattle.re_net.specs.declared.nets.TheConstants.{MAX_ROUNDS}

-- ---- one message more
or_same : (a b : Bool) → a ≡ b → (c : Bool) → (b || c) ≡ (a || (b || c))
or_same true b e c = (let t : b ≡ true = sym e in rw t refl)
or_same false b e c = refl

-- equal messages are told alike
told_alike : (m x : Message) → message_cmp m x ≡ Equal → (u i j : ℕ) → is_message u i j m ≡ is_message u i j x
told_alike m x e u i j =
    let same : is_message m.from m.port m.number x ≡ true = sym (same_message m x) ∙ ap is_eq e in
    let first = and-true (eqb x.from m.from) (eqb x.port m.port && eqb x.number m.number) same in
    let second = and-true (eqb x.port m.port) (eqb x.number m.number) first.1 in
    let f = eqb-true x.from m.from first.0 in
    let p = eqb-true x.port m.port second.0 in
    let n = eqb-true x.number m.number second.1 in
    (λ k. eqb (sym f k) u && (eqb (sym p k) i && eqb (sym n k) j))

-- the messages after one more are the new one and those before
pub delivered-insert : (keys : List Message) (m : Message) (u i j : ℕ) → is_delivered (insert_key message_cmp keys m) u i j ≡ (is_message u i j m || is_delivered keys u i j)
delivered-insert [] m u i j = refl
delivered-insert (x ∷ keys) m u i j = by_order (message_cmp m x) refl (delivered-insert keys m u i j)
  where
    by_order : (o : Ordering) → message_cmp m x ≡ o → is_delivered (insert_key message_cmp keys m) u i j ≡ (is_message u i j m || is_delivered keys u i j) →
        is_delivered (match_ordering o (m ∷ x ∷ keys) (x ∷ keys) (x ∷ insert_key message_cmp keys m)) u i j ≡ (is_message u i j m || (is_message u i j x || is_delivered keys u i j))
    by_order Less e later = refl
    by_order Equal e later = or_same (is_message u i j m) (is_message u i j x) (told_alike m x e u i j) (is_delivered keys u i j)
    by_order Greater e later = ap (λ b. is_message u i j x || b) later ∙ or_swap (is_message u i j x) (is_message u i j m) (is_delivered keys u i j)

-- a new message that is taken out again leaves the messages as they were
pub remove-insert : (keys : List Message) (m : Message) → list_any (λ x. is_eq (message_cmp m x)) keys ≡ false → is_eq (message_cmp m m) ≡ true → remove_key (λ x. is_eq (message_cmp m x)) (insert_key message_cmp keys m) ≡ keys
remove-insert [] m new self = rw self refl
remove-insert (x ∷ keys) m new self = by_order (message_cmp m x) refl new (λ rest. remove-insert keys m rest self)
  where
    by_order : (o : Ordering) → message_cmp m x ≡ o → (is_eq o || list_any (λ x. is_eq (message_cmp m x)) keys) ≡ false → (list_any (λ x. is_eq (message_cmp m x)) keys ≡ false → remove_key (λ x. is_eq (message_cmp m x)) (insert_key message_cmp keys m) ≡ keys) →
        remove_key (λ x. is_eq (message_cmp m x)) (match_ordering o (m ∷ x ∷ keys) (x ∷ keys) (x ∷ insert_key message_cmp keys m)) ≡ x ∷ keys
    by_order Less e none later = rw self refl
    by_order Equal e none later = absurd (cc)
    by_order Greater e none later = rw e (ap (λ l. x ∷ l) (later none))

pub self_same : (m : Message) → is_eq (message_cmp m m) ≡ true
self_same m =
    let f : eqb m.from m.from ≡ true = eq-eqb m.from m.from refl in
    let p : eqb m.port m.port ≡ true = eq-eqb m.port m.port refl in
    let n : eqb m.number m.number ≡ true = eq-eqb m.number m.number refl in
    same_message m m ∙ rw (f, p, n) refl

-- ---- the histories of round 0
pub first_round : (tree : FiniteTree) (pool : List Shape) (v id : ℕ) → id < length pool → tree_at pool id ≡ leaf → IsHistory tree pool v (id ∷ [])
first_round tree pool v id inside is zero l = record { held = inside; view = is }
first_round tree pool v id inside is (suc r) l = absurd (omega arith)

pub first_all : (tree : FiniteTree) (pool : List Shape) (n id : ℕ) (all : List (List ℕ)) → n ≡ node_count tree → id < length pool → tree_at pool id ≡ leaf → all ≡ replicate n (id ∷ []) → AreHistories tree pool all
first_all tree pool n id all count inside is are = record {
  count = ap length are ∙ (length-replicate n (id ∷ []) ∙ count);
  views = λ v l. rw (are, get_or-replicate n v (id ∷ []) [] (omega arith)) (first_round tree pool v id inside is);
}

-- ---- what a delivery leaves
pub net_failed : (net : NetState) (histories : List (List ℕ)) (pool : List Shape) → IsNet net histories → Keeps net.pool pool → IsNet (record net { pool = pool }) histories
net_failed net histories pool is keeps = record {
  built = is.built;
  numbered = is.numbered;
  few = is.few;
  ordered = is.ordered;
  views = kept_histories net.tree net.pool pool histories keeps is.views;
  stands = is.stands;
  sent = is.sent;
}

-- the history that is read ends at the node's round
pub read_round : (net : NetState) (histories : List (List ℕ)) (v : ℕ) (history : List ℕ) → IsNet net histories → v < node_count net.tree → history ≡ get_or histories v history → (length history ≡ suc (round net.tree net.bound net.delivered v)) × (round net.tree net.bound net.delivered v ≤ net.bound)
read_round net histories v history is node read =
    (ap length (read_history net.tree net.pool histories v history is.views node read) ∙ is.stands v node, greatest-most (has_heard net.tree net.delivered v) net.bound)

-- one message of a node over one of its ports, to a neighbour
module _ (net : NetState) (histories : List (List ℕ)) (m : Message) (one : Neighbour) (is_net : IsNet net histories) (node : m.from < node_count net.tree) (is : neighbour net.tree m.from m.port ≡ Some one) (number : m.number < net.bound) (sent : m.number ≤ round net.tree net.bound net.delivered m.from) where
  abbrev after_one : List Message
  after_one = insert_key message_cmp net.delivered m

  still : (u i j : ℕ) → is_delivered net.delivered u i j ≡ true → is_delivered after_one u i j ≡ true
  still u i j h = delivered-insert net.delivered m u i j ∙ or-right (is_message u i j m) (is_delivered net.delivered u i j) h

  new_or_old : (u i j : ℕ) → is_delivered after_one u i j ≡ true → (is_message u i j m ≡ true) ⊎ (is_delivered net.delivered u i j ≡ true)
  new_or_old u i j h = or-true (is_message u i j m) (is_delivered net.delivered u i j) (sym (delivered-insert net.delivered m u i j) ∙ h)

  -- the parts of a message that is told
  parts : (u i j : ℕ) → is_message u i j m ≡ true → (m.from ≡ u) × (m.port ≡ i) × (m.number ≡ j)
  parts u i j h =
      let first = and-true (eqb m.from u) (eqb m.port i && eqb m.number j) h in
      let second = and-true (eqb m.port i) (eqb m.number j) first.1 in
      (eqb-true m.from u first.0, eqb-true m.port i second.0, eqb-true m.number j second.1)

  there : one.node < node_count net.tree
  there = (edge_of net.tree is_net.built m.from m.port one is).other

  pub sent_after : AreSent net.tree net.bound after_one histories
  sent_after u i j h = elim (new_or_old u i j h) [
    | inr old ↦ is_net.sent u i j old
    | inl new ↦ (
        let (f, p, n) = parts u i j new in
        let stands = is_net.stands m.from node in
        let inside : m.number < length (get_or histories m.from []) = omega arith in
        let there : IsSome (neighbour net.tree m.from m.port) = rw is refl in
        rw (← f, ← p, ← n) (record { node = node; port = there; number = number }, inside))
  ]

  pub most_after : length (get_or histories one.node []) ≤ suc net.bound
  most_after = let stands = is_net.stands one.node there in let most = greatest-most (has_heard net.tree net.delivered one.node) net.bound in omega arith

  pub some_after : 1 ≤ length (get_or histories one.node [])
  some_after = let stands = is_net.stands one.node there in omega arith

  pub heard_after : has_heard net.tree after_one one.node (length (get_or histories one.node []) - 1) ≡ true
  heard_after =
      let stands = is_net.stands one.node there in
      let last : length (get_or histories one.node []) - 1 ≡ round net.tree net.bound net.delivered one.node = omega arith in
      let heard = (round-heard net.tree is_net.built net.bound net.delivered one.node (round net.tree net.bound net.delivered one.node) (omega arith)).1 in
      ap (has_heard net.tree after_one one.node) last
      ∙ heard-from net.tree after_one one.node (round net.tree net.bound net.delivered one.node) (record { each = λ p x at j below. still x.node x.port j (heard.each p x at j below) })

  module _ (pool : List Shape) (history : List ℕ) (keeps : Keeps net.pool pool) (views : IsHistory net.tree pool one.node history) (stands : length history ≡ suc (round net.tree net.bound after_one one.node)) (ordered : IsStrictlySortedBy message_cmp after_one) where
    inside_list : one.node < length histories
    inside_list = let count = is_net.views.count in let t = there in omega arith

    at_one : get_or (set histories one.node history) one.node [] ≡ history
    at_one = get_or-set_same histories one.node history [] inside_list

    at_other : (v : ℕ) → v ≢ one.node → get_or (set histories one.node history) v [] ≡ get_or histories v []
    at_other v apart = get_or-set_other histories one.node v history [] apart

    grows : (v : ℕ) → v < node_count net.tree → length (get_or histories v []) ≤ length (get_or (set histories one.node history) v [])
    grows v l = elim (eqb_tells v one.node) [
      | inl same ↦ (
          let e : v ≡ one.node = same.1 in
          let old = is_net.stands one.node there in
          let more = round-more net.tree is_net.built net.bound net.delivered after_one one.node still in
          rw (e, at_one) (omega arith))
      | inr apart ↦ (let other = apart.1 in rw (at_other v other) (omega arith))
    ]

    pub net_after : IsNet (record net { delivered = after_one; pool = pool }) (set histories one.node history)
    net_after = record {
      built = is_net.built;
      numbered = is_net.numbered;
      few = is_net.few;
      ordered = ordered;
      views = record {
        count = length-set histories one.node history ∙ is_net.views.count;
        views = λ v l. elim (eqb_tells v one.node) as (λ _. IsHistory net.tree pool v (get_or (set histories one.node history) v [])) [
          | inl same ↦ (let e : v ≡ one.node = same.1 in rw (e, at_one) views)
          | inr apart ↦ (let other = apart.1 in rw (at_other v other) (kept_history net.tree net.pool pool v (get_or histories v []) keeps (is_net.views.views v l)))
        ];
      };
      stands = λ v l. elim (eqb_tells v one.node) as (λ _. length (get_or (set histories one.node history) v []) ≡ suc (round net.tree net.bound after_one v)) [
        | inl same ↦ (let e : v ≡ one.node = same.1 in rw (e, at_one) stands)
        | inr apart ↦ (
            let other = apart.1 in
            let same_round = round-elsewhere net.tree is_net.built net.bound net.delivered after_one m.from m.port one v is other still before_elsewhere in
            rw (at_other v other) (is_net.stands v l ∙ ap suc (sym same_round)))
      ];
      sent = λ u i j h.
          let (message, inside) = sent_after u i j h in
          let more = grows u message.node in
          (message, omega arith);
    }
      where
        before_elsewhere : (u i j : ℕ) → (u ≡ m.from → i ≡ m.port → ⊥) → is_delivered after_one u i j ≡ true → is_delivered net.delivered u i j ≡ true
        before_elsewhere u i j apart h = elim (new_or_old u i j h) [
          | inl new ↦ (let (f, p, n) = parts u i j new in absurd (apart (sym f) (sym p)))
          | inr old ↦ old
        ]

pub was_new : (is_new held : Bool) → is_new ≡ not held → is_new ≡ true → held ≡ false
was_new is_new true told new = absurd (let h : false ≡ true = sym told ∙ new in cc)
was_new is_new false told new = refl

-- ---- a new net
-- the first nodes have their histories, and the pool has kept what it held
pub record AreStarted (tree : FiniteTree) (bound : ℕ) (start pool : List Shape) (histories : List (List ℕ)) (n : ℕ) : Type 0 where
  pub keeps : Keeps start pool
  pub count : length histories ≡ n
  pub views : (v : ℕ) → v < n → IsHistory tree pool v (get_or histories v [])
  pub stands : (v : ℕ) → v < n → length (get_or histories v []) ≡ suc (round tree bound [] v)

pub started_none : (tree : FiniteTree) (bound : ℕ) (start : List Shape) → AreStarted tree bound start start [] 0
started_none tree bound start = record { keeps = Keeps-refl start; count = refl; views = λ v l. absurd (omega arith); stands = λ v l. absurd (omega arith) }

pub started_more : (tree : FiniteTree) (bound : ℕ) (start pool next : List Shape) (histories : List (List ℕ)) (n : ℕ) (history : List ℕ) → AreStarted tree bound start pool histories n → Keeps pool next
    → IsHistory tree next n history → length history ≡ suc (round tree bound [] n) → AreStarted tree bound start next (histories ++ history ∷ []) (n + 1)
started_more tree bound start pool next histories n history are keeps views stands = record {
  keeps = Keeps-trans start pool next are.keeps keeps;
  count = length-append histories (history ∷ []) ∙ ap (λ k. k + 1) are.count;
  views = λ v l. (let count = are.count in elim (cases_lt v n) as (λ _. IsHistory tree next v (get_or (histories ++ history ∷ []) v [])) [
    | inl less ↦ rw (get_or_append_left histories (history ∷ []) [] v (omega arith)) (kept_history tree pool next v (get_or histories v []) keeps (are.views v less))
    | inr above ↦ (let same : v ≡ length histories = omega arith in let n' : v ≡ n = omega arith in subst (λ h. IsHistory tree next v h) (sym (ap (λ k. get_or (histories ++ history ∷ []) k []) same ∙ get_or-append_seam histories history [] [])) (rw n' views))
  ]);
  stands = λ v l. (let count = are.count in elim (cases_lt v n) as (λ _. length (get_or (histories ++ history ∷ []) v []) ≡ suc (round tree bound [] v)) [
    | inl less ↦ ap length (get_or_append_left histories (history ∷ []) [] v (omega arith)) ∙ are.stands v less
    | inr above ↦ (let same : v ≡ length histories = omega arith in let n' : v ≡ n = omega arith in ap length (ap (λ k. get_or (histories ++ history ∷ []) k []) same ∙ get_or-append_seam histories history [] []) ∙ rw n' stands)
  ]);
}

pub net_started : (tree : FiniteTree) (bound : ℕ) (start pool : List Shape) (histories : List (List ℕ)) → IsFiniteTree tree → IsNumbered tree → bound ≤ MAX_ROUNDS → AreStarted tree bound start pool histories (node_count tree)
    → IsNet (record { tree = tree; bound = bound; delivered = []; pool = pool }) histories
unfolding IsStrictlySortedBy
net_started tree bound start pool histories built numbered few are = record {
  built = built;
  numbered = numbered;
  few = few;
  ordered = tt;
  views = record { count = are.count; views = are.views };
  stands = are.stands;
  sent = λ u i j h. absurd (cc);
}

-- a delivery moves no node but the one that the message comes to
pub moves_one : (tree : FiniteTree) → IsFiniteTree tree → (bound : ℕ) (delivered : List Message) (m : Message) (one : Neighbour) → neighbour tree m.from m.port ≡ Some one → (v : ℕ) → v ≢ one.node → round tree bound (insert_key message_cmp delivered m) v ≡ round tree bound delivered v
moves_one tree is_tree bound delivered m one is v apart =
    round-elsewhere tree is_tree bound delivered (insert_key message_cmp delivered m) m.from m.port one v is apart
    (λ u i j h. delivered-insert delivered m u i j ∙ or-right (is_message u i j m) (is_delivered delivered u i j) h)
    (λ u i j other h. elim (or-true (is_message u i j m) (is_delivered delivered u i j) (sym (delivered-insert delivered m u i j) ∙ h)) [
      | inl new ↦ (
          let first = and-true (eqb m.from u) (eqb m.port i && eqb m.number j) new in
          let second = and-true (eqb m.port i) (eqb m.number j) first.1 in
          absurd (other (sym (eqb-true m.from u first.0)) (sym (eqb-true m.port i second.0))))
      | inr old ↦ old
    ])

-- ---- one delivery after another
or_turn : (a b c : Bool) → (a || (b || c)) ≡ ((b || a) || c)
or_turn true true c = refl
or_turn true false c = refl
or_turn false true c = refl
or_turn false false c = refl

delivered_after : (start messages : List Message) (u i j : ℕ) → is_delivered (fold (insert_key message_cmp) start messages) u i j ≡ (is_delivered messages u i j || is_delivered start u i j)
delivered_after start [] u i j = refl
delivered_after start (m ∷ messages) u i j =
    delivered_after (insert_key message_cmp start m) messages u i j
    ∙ (ap (λ b. is_delivered messages u i j || b) (delivered-insert start m u i j) ∙ or_turn (is_delivered messages u i j) (is_message u i j m) (is_delivered start u i j))

pub delivered-fold : (messages : List Message) (u i j : ℕ) → is_delivered (fold (insert_key message_cmp) [] messages) u i j ≡ is_delivered messages u i j
delivered-fold messages u i j = delivered_after [] messages u i j ∙ or-false (is_delivered messages u i j)

pub round-fold : (tree : FiniteTree) → IsFiniteTree tree → (bound : ℕ) (messages : List Message) (v : ℕ) → round tree bound (fold (insert_key message_cmp) [] messages) v ≡ round tree bound messages v
round-fold tree is_tree bound messages v =
    let up = round-more tree is_tree bound (fold (insert_key message_cmp) [] messages) messages v (λ u i j h. sym (delivered-fold messages u i j) ∙ h) in
    let down = round-more tree is_tree bound messages (fold (insert_key message_cmp) [] messages) v (λ u i j h. delivered-fold messages u i j ∙ h) in
    omega arith
