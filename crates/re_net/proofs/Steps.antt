-- What one step of a node's move does.
use Rattle.re_labels.proofs.Membership.{count_from-last}
use Rattle.std.proofs.Common.{◌≡◌, ℕ, zero, suc, pred, ◌+◌, ◌-◌, ◌≤◌, ◌<◌, ◌⊎◌, inl, inr, Bool, true, false, cond, eqb, ltb, ◌&&◌, ◌||◌, List, [], ◌∷◌, ◌++◌, length, map, get_or, Option, Some, None, refl, sym, ◌∙◌, ap, subst, arith, length-append}
use Rattle.std.specs.Prelude.{remove}
use Rattle.std.specs.List.{cons_option, list_all, list_any}
use Rattle.std.specs.Ordering.{is_eq, nat_cmp, ordering_then}
use Rattle.std.specs.declared.cmp.Ordering.{Ordering}
use Rattle.std.specs.declared.cmp.Ordering.TheVariants.{Less, Equal, Greater}
use Rattle.std.proofs.lemmas.Bool.{eq-eqb, cases_lt}
use Rattle.std.proofs.lemmas.Bool.Decides.{eqb_tells, nat_tests}
use Rattle.std.proofs.lemmas.List.{append-nil, get_or_append_left, get_or_default}
use Rattle.std.proofs.lemmas.List.Elements.{filter_map-append}
use Rattle.std.proofs.Math.Seq.{get_or-append_seam}
use Rattle.re_labels.specs.Lists.{count_from}
use Rattle.re_net.specs.declared.joins.Neighbour.{Neighbour}
use Rattle.re_net.specs.declared.messages.Message.{Message}
use Rattle.re_net.specs.FiniteTrees.{FiniteTree, IsFiniteTree, IsNumbered, neighbour, neighbours, neighbours_over, most_ports, node_count, ports_of, surroundings, unmarked}
use Rattle.re_net.specs.Nets.{AreHistories, IsHistory, IsViewOf, message_cmp}
use Rattle.re_net.specs.Rounds.{content, has_heard, is_delivered, is_message, round}
use Rattle.re_net.proofs.Edges.{edge_of}
use Rattle.re_net.proofs.Growing.{grown}
use Rattle.re_net.proofs.Rounds.{Heard, greatest-most, heard-from, heard-round, heard-to, all_over, over_all, round-heard}
use Rattle.re_pool.specs.declared.shape.Link.{Link}
use Rattle.re_pool.proofs.Growing.{Keeps-trans}
use Rattle.re_pool.proofs.Links.{Made, made_more}
use Rattle.re_pool.specs.declared.shape.Shape.{Shape}
use Rattle.re_pool.specs.Pools.{AreLinksHeld, Keeps, children_of, tree_at}
use Rattle.re_laws.proofs.ShownLemmas.{after}
use Rattle.re_laws.specs.Ends.{End, branchwise}
use Rattle.re_laws.specs.Trees.{Tree, end, leaf, more, others}

-- ---- one port more
pub over_more : (tree : FiniteTree) (v n : ℕ) → neighbours_over tree v (count_from 1 (n + 1)) ≡ neighbours_over tree v (count_from 1 n) ++ neighbours_over tree v ((n + 1) ∷ [])
over_more tree v n =
    let e : n + 1 ≡ suc n = omega arith in
    let e' : 1 + n ≡ n + 1 = omega arith in
    ap (λ m. neighbours_over tree v (count_from 1 m)) e
    ∙ (ap (neighbours_over tree v) (count_from-last 1 n)
    ∙ (filter_map-append (neighbour tree v) (count_from 1 n) ((1 + n) ∷ [])
    ∙ ap (λ m. neighbours_over tree v (count_from 1 n) ++ neighbours_over tree v (m ∷ [])) e'))

pub over_free : (tree : FiniteTree) (v n : ℕ) → neighbour tree v (n + 1) ≡ None → neighbours_over tree v (count_from 1 (n + 1)) ≡ neighbours_over tree v (count_from 1 n)
over_free tree v n none = over_more tree v n ∙ (ap (λ o. neighbours_over tree v (count_from 1 n) ++ cons_option o []) none ∙ append-nil (neighbours_over tree v (count_from 1 n)))

pub over_taken : (tree : FiniteTree) (v n : ℕ) (one : Neighbour) → neighbour tree v (n + 1) ≡ Some one → neighbours_over tree v (count_from 1 (n + 1)) ≡ neighbours_over tree v (count_from 1 n) ++ one ∷ []
over_taken tree v n one is = over_more tree v n ∙ ap (λ o. neighbours_over tree v (count_from 1 n) ++ cons_option o []) is

pub length-over : (tree : FiniteTree) (v i n : ℕ) → length (neighbours_over tree v (count_from i n)) ≤ n
length-over tree v i zero = omega arith
length-over tree v i (suc n) = by_value (neighbour tree v i) (length-over tree v (suc i) n)
  where
    by_value : (o : Option Neighbour) → length (neighbours_over tree v (count_from (suc i) n)) ≤ n → length (cons_option o (neighbours_over tree v (count_from (suc i) n))) ≤ suc n
    by_value None l = omega arith
    by_value (Some x) l = omega arith

-- ---- tests over all neighbours
all-append : {X : Type 0} (test : X → Bool) (xs ys : List X) → list_all test xs ≡ true → list_all test ys ≡ true → list_all test (xs ++ ys) ≡ true
all-append test [] ys h h' = h'
all-append test (x ∷ xs) ys h h' = elim (test x) as (λ b. (b && list_all test xs) ≡ true → (b && list_all test (xs ++ ys)) ≡ true) [
  | true ↦ λ both. all-append test xs ys both h'
  | false ↦ λ both. absurd (cc)
] h

pub all_taken : (tree : FiniteTree) (test : Neighbour → Bool) (v n : ℕ) (one : Neighbour) → neighbour tree v (n + 1) ≡ Some one → list_all test (neighbours_over tree v (count_from 1 n)) ≡ true → test one ≡ true → list_all test (neighbours_over tree v (count_from 1 (n + 1))) ≡ true
all_taken tree test v n one is before here =
    rw (over_taken tree v n one is) (all-append test (neighbours_over tree v (count_from 1 n)) (one ∷ []) before (rw here refl))

pub fails_at : (tree : FiniteTree) (test : Neighbour → Bool) (v p : ℕ) (one : Neighbour) → 1 ≤ p → p ≤ most_ports tree v → neighbour tree v p ≡ Some one → test one ≡ false → false ≡ list_all test (neighbours tree v)
fails_at tree test v p one low high is fails = by_value (list_all test (neighbours tree v)) refl
  where
    by_value : (b : Bool) → list_all test (neighbours tree v) ≡ b → false ≡ b
    by_value false h = refl
    by_value true h = (let passes : test one ≡ true = over_all tree test v 1 (most_ports tree v) h p one low (omega arith) is in absurd (cc))

-- ---- messages by their order
pub same_message : (m x : Message) → is_eq (message_cmp m x) ≡ is_message m.from m.port m.number x
same_message m x = then_same (nat_cmp m.from x.from) (eqb x.from m.from) (ordering_then (nat_cmp m.port x.port) (nat_cmp m.number x.number)) (eqb x.port m.port && eqb x.number m.number) (nat_same m.from x.from)
    (then_same (nat_cmp m.port x.port) (eqb x.port m.port) (nat_cmp m.number x.number) (eqb x.number m.number) (nat_same m.port x.port) (nat_same m.number x.number))
  where
    nat_same : (a b : ℕ) → is_eq (nat_cmp a b) ≡ eqb b a
    nat_same a b = elim (eqb_tells b a) [
      | inl same ↦ (
          let e = same.1 in
          let t : eqb a b ≡ true = eq-eqb a b (sym e) in
          let l : ltb a b ≡ false = grind (arith, nat_tests) in
          rw (same.0, l, t) refl)
      | inr apart ↦ (
          let other = apart.1 in
          let t : eqb a b ≡ false = grind (arith, nat_tests) in
          rw (apart.0, t) (elim (ltb a b) as (λ b. is_eq (cond b Less (cond false Equal Greater)) ≡ false) [ true ↦ refl | false ↦ refl ]))
    ]

    then_same : (o : Ordering) (b : Bool) (o' : Ordering) (b' : Bool) → is_eq o ≡ b → is_eq o' ≡ b' → is_eq (ordering_then o o') ≡ (b && b')
    then_same Less b o' b' h h' = rw (← h) refl
    then_same Equal b o' b' h h' = rw (← h) h'
    then_same Greater b o' b' h h' = rw (← h) refl

pub contains_message : (keys : List Message) (m : Message) → list_any (λ x. is_eq (message_cmp m x)) keys ≡ is_delivered keys m.from m.port m.number
contains_message [] m = refl
contains_message (x ∷ keys) m =
    let here = same_message m x in
    let later = contains_message keys m in
    (λ i. here i || later i)

-- ---- rounds
pub heard_none : (tree : FiniteTree) (delivered : List Message) (v : ℕ) → has_heard tree delivered v 0 ≡ true
heard_none tree delivered v = heard-from tree delivered v 0 (record { each = λ p one is j none. absurd (omega arith) })

pub heard_more : (tree : FiniteTree) → IsFiniteTree tree → (delivered : List Message) (v r : ℕ) → has_heard tree delivered v r ≡ true → list_all (λ one. is_delivered delivered one.node one.port r) (neighbours tree v) ≡ true → has_heard tree delivered v (suc r) ≡ true
heard_more tree is_tree delivered v r before all =
    let heard = heard-to tree is_tree delivered v r before in
    heard-from tree delivered v (suc r) (record {
      each = λ p one is j below.
          let edge = edge_of tree is_tree v p one is in
          let least = edge.least in let most = edge.most in
          elim (cases_lt j r) [
            | inl less ↦ heard.each p one is j less
            | inr above ↦ (
                let same : j ≡ r = omega arith in
                rw same (over_all tree (λ x. is_delivered delivered x.node x.port r) v 1 (most_ports tree v) all p one least (omega arith) is))
          ];
    })

-- a node stands at the round that it has heard, where it is the last one or some neighbour lacks a message
pub round_is : (tree : FiniteTree) → IsFiniteTree tree → (bound : ℕ) (delivered : List Message) (v r : ℕ) → has_heard tree delivered v r ≡ true → r ≤ bound → (bound ≤ r) ⊎ (list_all (λ one. is_delivered delivered one.node one.port r) (neighbours tree v) ≡ false) → r ≡ round tree bound delivered v
round_is tree is_tree bound delivered v r before within stops =
    let heard = heard-to tree is_tree delivered v r before in
    let up = heard-round tree bound delivered v r within heard in
    let top = greatest-most (has_heard tree delivered v) bound in
    elim (cases_lt r (round tree bound delivered v)) [
      | inl less ↦ elim stops [
        | inl last ↦ absurd (omega arith)
        | inr lacks ↦ absurd (
            let next = (round-heard tree is_tree bound delivered v (suc r) less).1 in
            let all : list_all (λ one. is_delivered delivered one.node one.port r) (neighbours tree v) ≡ true = all_of next in
            fails all lacks)
      ]
      | inr above ↦ omega arith
    ]
  where
    fails : {b : Bool} → b ≡ true → b ≡ false → ⊥
    fails t f = cc

    all_of : Heard tree delivered v (suc r) → list_all (λ one. is_delivered delivered one.node one.port r) (neighbours tree v) ≡ true
    all_of next = all_over tree (λ one. is_delivered delivered one.node one.port r) v (ports_of tree v) (λ p one is. next.each p one is r (omega arith))

-- ---- histories
pub kept_view : (tree : FiniteTree) (old new : List Shape) (v r id : ℕ) → Keeps old new → IsViewOf tree old v r id → IsViewOf tree new v r id
kept_view tree old new v r id keeps is = record { held = (let a = keeps.held in let b = is.held in omega arith); view = keeps.trees id is.held ∙ is.view }

pub kept_history : (tree : FiniteTree) (old new : List Shape) (v : ℕ) (history : List ℕ) → Keeps old new → IsHistory tree old v history → IsHistory tree new v history
kept_history tree old new v history keeps is = λ r l. kept_view tree old new v r (get_or history r 0) keeps (is r l)

pub kept_histories : (tree : FiniteTree) (old new : List Shape) (histories : List (List ℕ)) → Keeps old new → AreHistories tree old histories → AreHistories tree new histories
kept_histories tree old new histories keeps are = record { count = are.count; views = λ v l. kept_history tree old new v (get_or histories v []) keeps (are.views v l) }

pub history_more : (tree : FiniteTree) (pool : List Shape) (v : ℕ) (history : List ℕ) (id : ℕ) → IsHistory tree pool v history → IsViewOf tree pool v (length history) id → IsHistory tree pool v (history ++ id ∷ [])
history_more tree pool v history id is here = λ r l.
    let count : length (history ++ id ∷ []) ≡ length history + 1 = length-append history (id ∷ []) in
    elim (cases_lt r (length history)) [
      | inl less ↦ rw (get_or_append_left history (id ∷ []) 0 r less) (is r less)
      | inr above ↦ (let same : r ≡ length history = omega arith in rw (same, get_or-append_seam history id [] 0) here)
    ]

-- ---- messages put together
pub branchwise-append : (xs ys : List End) → branchwise (xs ++ ys) ≡ after (branchwise xs) (branchwise ys)
branchwise-append [] ys = refl
branchwise-append (x ∷ xs) ys = ap (more x.port tt (others (pred x.port) x.view)) (branchwise-append xs ys)

contents-append : (tree : FiniteTree) (r : ℕ) (xs ys : List Neighbour) → map (λ one. content tree one.node one.port r) (xs ++ ys) ≡ map (λ one. content tree one.node one.port r) xs ++ map (λ one. content tree one.node one.port r) ys
contents-append tree r [] ys = refl
contents-append tree r (x ∷ xs) ys = ap (λ l. content tree x.node x.port r ∷ l) (contents-append tree r xs ys)

-- what the messages of the neighbours over these ports make
abbrev pub made_of : FiniteTree → ℕ → List Neighbour → Tree (Unit {0})
made_of tree r list = branchwise (map (λ one. content tree one.node one.port r) list)

pub made_taken : (tree : FiniteTree) (v r n : ℕ) (one : Neighbour) → neighbour tree v (n + 1) ≡ Some one →
    after (made_of tree r (neighbours_over tree v (count_from 1 n))) (more one.port tt (others (pred one.port) (surroundings tree unmarked one.node r)) end) ≡ made_of tree r (neighbours_over tree v (count_from 1 (n + 1)))
made_taken tree v r n one is =
    sym (ap (made_of tree r) (over_taken tree v n one is)
    ∙ (ap branchwise (contents-append tree r (neighbours_over tree v (count_from 1 n)) (one ∷ []))
    ∙ branchwise-append (map (λ one. content tree one.node one.port r) (neighbours_over tree v (count_from 1 n))) (content tree one.node one.port r ∷ [])))

-- ---- links left out
pub others_leaf : (k : ℕ) (x : Tree (Unit {0})) → x ≡ leaf → x ≡ others k x
others_leaf k x is = is ∙ ap (others k) (sym is)

pub held-remove : (bound : ℕ) (xs : List Link) (i : ℕ) → AreLinksHeld bound xs → AreLinksHeld bound (remove xs i)
held-remove bound [] zero held = tt
held-remove bound [] (suc i) held = tt
held-remove bound (x ∷ xs) zero held = held.1
held-remove bound (x ∷ xs) (suc i) held = (held.0, held-remove bound xs i held.1)

pub children_of-remove : (known : List (Tree (Unit {0}))) (xs : List Link) (i : ℕ) → children_of known (remove xs i) ≡ others i (children_of known xs)
children_of-remove known [] zero = refl
children_of-remove known [] (suc i) = refl
children_of-remove known (x ∷ xs) zero = refl
children_of-remove known (x ∷ xs) (suc i) = ap (more x.back tt (get_or known x.below leaf)) (children_of-remove known xs i)

-- ---- a node on its way
-- the history so far is one, ends at a round that the node has heard, and the pool has kept what it held
pub record IsMoving (tree : FiniteTree) (bound : ℕ) (delivered : List Message) (start pool : List Shape) (v : ℕ) (history : List ℕ) : Type 0 where
  pub keeps : Keeps start pool
  pub views : IsHistory tree pool v history
  pub some : 1 ≤ length history
  pub most : length history ≤ suc bound
  pub heard : has_heard tree delivered v (length history - 1) ≡ true

-- one round more
pub moved : (tree : FiniteTree) (bound : ℕ) (delivered : List Message) (start pool next : List Shape) (v : ℕ) (history : List ℕ) (id : ℕ) → IsFiniteTree tree → IsNumbered tree → IsMoving tree bound delivered start pool v history → length history ≤ bound
    → list_all (λ one. is_delivered delivered one.node one.port (length history - 1)) (neighbours tree v) ≡ true → Keeps pool next → id < length next → tree_at next id ≡ made_of tree (length history - 1) (neighbours tree v)
    → IsMoving tree bound delivered start next v (history ++ id ∷ [])
moved tree bound delivered start pool next v history id is_tree numbered moving room all keeps inside is =
    let some = moving.some in
    let count : length (history ++ id ∷ []) ≡ length history + 1 = length-append history (id ∷ []) in
    let last : suc (length history - 1) ≡ length history = omega arith in
    let new : length (history ++ id ∷ []) - 1 ≡ length history = omega arith in
    let view : tree_at next id ≡ surroundings tree unmarked v (length history) = is ∙ (sym (grown tree is_tree numbered v (length history - 1)) ∙ ap (surroundings tree unmarked v) last) in
    let heard : has_heard tree delivered v (suc (length history - 1)) ≡ true = heard_more tree is_tree delivered v (length history - 1) moving.heard all in
    record {
      keeps = Keeps-trans start pool next moving.keeps keeps;
      views = history_more tree next v history id (kept_history tree pool next v history keeps moving.views) (record { held = inside; view = view });
      some = omega arith;
      most = omega arith;
      heard = ap (has_heard tree delivered v) (new ∙ sym last) ∙ heard;
    }

-- ---- the contents that are read
-- the history that is read
pub read_history : (tree : FiniteTree) (pool : List Shape) (histories : List (List ℕ)) (v : ℕ) (history : List ℕ) → AreHistories tree pool histories → v < node_count tree → history ≡ get_or histories v history → history ≡ get_or histories v []
read_history tree pool histories v history are node is = (let count = are.count in is ∙ get_or_default histories v history [] (omega arith))

-- the view that is read
pub read_view : (tree : FiniteTree) (start here : List Shape) (histories : List (List ℕ)) (v r : ℕ) (history : List ℕ) (id : ℕ) → AreHistories tree start histories → v < node_count tree → history ≡ get_or histories v [] → r < length history → id ≡ get_or history r 0 → Keeps start here → IsViewOf tree here v r id
read_view tree start here histories v r history id are node is less at keeps =
    let inside : r < length (get_or histories v []) = rw is at less in
    let there : IsViewOf tree start v r (get_or (get_or histories v []) r 0) = are.views v node r inside in
    let same : get_or (get_or histories v []) r 0 ≡ id = sym (at ∙ ap (λ h. get_or h r 0) is) in
    kept_view tree start here v r id keeps (subst (λ n. IsViewOf tree start v r n) same there)

-- one link more
pub made_step : (tree : FiniteTree) (start here next : List Shape) (links links' : List Link) (v r n below view : ℕ) (one : Neighbour) → neighbour tree v (n + 1) ≡ Some one
    → Made start here links (length (neighbours_over tree v (count_from 1 n))) (made_of tree r (neighbours_over tree v (count_from 1 n)))
    → IsViewOf tree here one.node r view → Keeps here next → below < length next → tree_at next below ≡ others (pred one.port) (tree_at here view) → links' ≡ links ++ record { back = one.port; below = below } ∷ []
    → Made start next links' (length (neighbours_over tree v (count_from 1 (n + 1)))) (made_of tree r (neighbours_over tree v (count_from 1 (n + 1))))
made_step tree start here next links links' v r n below view one is made of keeps inside tree_is are =
    let count : length (neighbours_over tree v (count_from 1 n)) + 1 ≡ length (neighbours_over tree v (count_from 1 (n + 1))) = sym (ap length (over_taken tree v n one is) ∙ length-append (neighbours_over tree v (count_from 1 n)) (one ∷ [])) in
    subst (λ k. Made start next links' k (made_of tree r (neighbours_over tree v (count_from 1 (n + 1))))) count
    (made_more start here next links links' (length (neighbours_over tree v (count_from 1 n))) one.port below (made_of tree r (neighbours_over tree v (count_from 1 n))) (made_of tree r (neighbours_over tree v (count_from 1 (n + 1)))) (others (pred one.port) (surroundings tree unmarked one.node r))
    made keeps inside (tree_is ∙ ap (others (pred one.port)) of.view) are (made_taken tree v r n one is))

-- no link more
pub made_same : (tree : FiniteTree) (start here : List Shape) (links : List Link) (v r n : ℕ) → neighbour tree v (n + 1) ≡ None
    → Made start here links (length (neighbours_over tree v (count_from 1 n))) (made_of tree r (neighbours_over tree v (count_from 1 n)))
    → Made start here links (length (neighbours_over tree v (count_from 1 (n + 1)))) (made_of tree r (neighbours_over tree v (count_from 1 (n + 1))))
made_same tree start here links v r n none made = subst (λ list. Made start here links (length list) (made_of tree r list)) (sym (over_free tree v n none)) made

-- where a node stops is its round
pub stood : (tree : FiniteTree) (bound : ℕ) (delivered : List Message) (start pool : List Shape) (v : ℕ) (history : List ℕ) → IsFiniteTree tree → IsMoving tree bound delivered start pool v history
    → (bound ≤ length history - 1) ⊎ (list_all (λ one. is_delivered delivered one.node one.port (length history - 1)) (neighbours tree v) ≡ false) → length history ≡ suc (round tree bound delivered v)
stood tree bound delivered start pool v history is_tree moving stops =
    let some = moving.some in
    let most = moving.most in
    let is = round_is tree is_tree bound delivered v (length history - 1) moving.heard (omega arith) stops in
    omega arith
