-- What marks of messages come to.
use Rattle.std.proofs.Common.{◌≡◌, ◌≢◌, ℕ, ◌+◌, ◌*◌, ◌<◌, inl, inr, Bool, true, false, not, eqb, ◌&&◌, ◌||◌, List, [], ◌∷◌, length, map, filter, get_or, set, replicate, refl, sym, ◌∙◌, ap, subst, arith}
use Rattle.std.specs.BTreeSet.{insert_key}
use Rattle.std.specs.Cmp.{IsTotalOrder, nat_cmp_total, on_total}
use Rattle.std.specs.List.{AllByRecursion, flat_map}
use Rattle.std.specs.List.Sorted.{IsStrictlySortedBy}
use Rattle.std.specs.Ordering.{is_eq, match_ordering, ordering_reverse}
use Rattle.std.specs.Prelude.{fold}
use Rattle.std.specs.declared.cmp.Ordering.{Ordering}
use Rattle.std.specs.declared.cmp.Ordering.TheVariants.{Less, Equal, Greater}
use Rattle.std.proofs.lemmas.Bool.{cases_lt, eq-eqb}
use Rattle.std.proofs.lemmas.Bool.Decides.{eqb_tells}
use Rattle.std.proofs.lemmas.Cmp.{then_total}
use Rattle.std.proofs.lemmas.List.{get_or-replicate, get_or_default, get_or-set_other, get_or-set_same, get_or_past, length-replicate}
use Rattle.std.proofs.lemmas.Map.Lookups.{CmpEqualImpliesEq, btree_set_from_contains}
use Rattle.std.proofs.lemmas.Nat.Bits.{bit_at-zero}
use Rattle.std.proofs.lemmas.Nat.{mul-add-lt, same_from_place}
use Rattle.std.proofs.Math.Nat.{mul_comm}
use Rattle.re_labels.specs.Lists.{count_from}
use Rattle.re_labels.proofs.Membership.{Contains-In, Contains-count_from, In, In-Contains, In-filter, In-filter_from, In-flat_map, In-flat_map_from, In-map, In-map_from, any-In, any-In_from, count_from_range}
use Rattle.re_labels.proofs.Tests.{and-true, eqb-true, or-left, same_tests, true-and}
use Rattle.re_net.specs.declared.messages.Message.{Message}
use Rattle.re_net.specs.declared.port_sets.PortSet.{PortSet}
use Rattle.re_net.specs.Marks.{IsInRoom, has_port, is_marked, marked, messages_in_room, ports_at, without_message}
use Rattle.re_net.specs.Nets.{message_cmp, with_message}
use Rattle.re_net.specs.Rounds.{is_delivered, is_message}
use Rattle.re_net.proofs.NetSteps.{delivered-fold, delivered-insert, remove-insert, self_same}
use Rattle.re_net.proofs.Steps.{contains_message, same_message}

-- ---- lists in order
module _ {K : Type 0} {R : K → K → Ordering} (o : IsTotalOrder R) where
  all_inserted : (P : K → Type 0) (k : K) (ks : List K) → AllByRecursion P ks → P k → AllByRecursion P (insert_key R ks k)
  all_inserted P k [] all here = (here, tt)
  all_inserted P k (x ∷ ks) all here = by_order (R k x) (all_inserted P k ks all.1 here)
    where
      by_order : (r : Ordering) → AllByRecursion P (insert_key R ks k) → AllByRecursion P (match_ordering r (k ∷ x ∷ ks) (x ∷ ks) (x ∷ insert_key R ks k))
      by_order Less later = (here, all)
      by_order Equal later = all
      by_order Greater later = (all.0, later)

  above_too : (k x : K) (ks : List K) → R k x ≡ Less → AllByRecursion (λ y. R x y ≡ Less) ks → AllByRecursion (λ y. R k y ≡ Less) ks
  above_too k x [] below all = tt
  above_too k x (y ∷ ks) below all = (o.trans k x y below all.0, above_too k x ks below all.1)

  pub ordered_inserted : (ks : List K) (k : K) → IsStrictlySortedBy R ks → IsStrictlySortedBy R (insert_key R ks k)
  unfolding IsStrictlySortedBy
  ordered_inserted [] k sorted = (tt, tt)
  ordered_inserted (x ∷ ks) k sorted = by_order (R k x) refl (ordered_inserted ks k sorted.1)
    where
      by_order : (r : Ordering) → R k x ≡ r → IsStrictlySortedBy R (insert_key R ks k) → IsStrictlySortedBy R (match_ordering r (k ∷ x ∷ ks) (x ∷ ks) (x ∷ insert_key R ks k))
      by_order Less e later = ((e, above_too k x ks e sorted.0), sorted)
      by_order Equal e later = sorted
      by_order Greater e later = (all_inserted (λ y. R x y ≡ Less) k ks sorted.0 (o.antisymm x k ∙ ap ordering_reverse e), later)

  ordered_from : (start ks : List K) → IsStrictlySortedBy R start → IsStrictlySortedBy R (fold (insert_key R) start ks)
  ordered_from start [] sorted = sorted
  ordered_from start (k ∷ ks) sorted = ordered_from (insert_key R start k) ks (ordered_inserted start k sorted)

  pub ordered_all : (ks : List K) → IsStrictlySortedBy R (fold (insert_key R) [] ks)
  unfolding IsStrictlySortedBy
  ordered_all ks = ordered_from [] ks tt

-- ---- the order of messages
pub message_order : IsTotalOrder message_cmp
message_order = then_total (on_total (λ (m : Message). m.from) nat_cmp_total) (then_total (on_total (λ (m : Message). m.port) nat_cmp_total) (on_total (λ (m : Message). m.number) nat_cmp_total))

-- a message that the test tells
pub told : (u i j : ℕ) (m : Message) → is_message u i j m ≡ true → (m.from ≡ u) × (m.port ≡ i) × (m.number ≡ j)
told u i j m h =
    let first = and-true (eqb m.from u) (eqb m.port i && eqb m.number j) h in
    let second = and-true (eqb m.port i) (eqb m.number j) first.1 in
    (eqb-true m.from u first.0, eqb-true m.port i second.0, eqb-true m.number j second.1)

pub tells : (u i j : ℕ) (m : Message) → m.from ≡ u → m.port ≡ i → m.number ≡ j → is_message u i j m ≡ true
tells u i j m f p n = true-and (eqb m.from u) (eqb m.port i && eqb m.number j) (eq-eqb m.from u f) (true-and (eqb m.port i) (eqb m.number j) (eq-eqb m.port i p) (eq-eqb m.number j n))

message_of : (m x : Message) → is_message m.from m.port m.number x ≡ true → m ≡ x
message_of m x h =
    let (f, p, n) = told m.from m.port m.number x h in
    (λ i. record { from = sym f i; port = sym p i; number = sym n i })

own_message : (m : Message) → is_message m.from m.port m.number m ≡ true
own_message m = tells m.from m.port m.number m refl refl refl

exact_messages : CmpEqualImpliesEq message_cmp
exact_messages m x e = message_of m x (sym (same_message m x) ∙ ap is_eq e)

-- two lists in order with the same messages are equal
pub same_messages : (xs ys : List Message) → IsStrictlySortedBy message_cmp xs → IsStrictlySortedBy message_cmp ys → ((q : Message) → is_delivered xs q.from q.port q.number ≡ is_delivered ys q.from q.port q.number) → xs ≡ ys
same_messages xs ys sorted sorted' same =
    btree_set_from_contains message_order (record { keys = xs }) (record { keys = ys }) sorted sorted' (λ q. contains_message xs q ∙ (same q ∙ sym (contains_message ys q))) exact_messages

-- ---- a message that is put among others, and taken back
pub held_after : (keys : List Message) (m : Message) → is_delivered (with_message keys m) m.from m.port m.number ≡ true
held_after keys m = delivered-insert keys m m.from m.port m.number ∙ or-left (is_message m.from m.port m.number m) (is_delivered keys m.from m.port m.number) (own_message m)

pub back_again : (keys : List Message) (m : Message) → is_delivered keys m.from m.port m.number ≡ false → without_message (with_message keys m) m ≡ keys
back_again keys m new = remove-insert keys m (contains_message keys m ∙ new) (self_same m)

pub was_held : (is_new held : Bool) → is_new ≡ not held → is_new ≡ false → held ≡ true
was_held is_new true told old = refl
was_held is_new false told old = absurd (let h : true ≡ false = sym told ∙ old in cc)

-- one that is among them already changes nothing
pub with_held : (keys : List Message) (m : Message) → IsStrictlySortedBy message_cmp keys → is_delivered keys m.from m.port m.number ≡ true → with_message keys m ≡ keys
with_held keys m sorted held =
    same_messages (with_message keys m) keys (ordered_inserted message_order keys m sorted) sorted (λ q. delivered-insert keys m q.from q.port q.number ∙ by_test q (is_message q.from q.port q.number m) refl)
  where
    by_test : (q : Message) (b : Bool) → is_message q.from q.port q.number m ≡ b → (b || is_delivered keys q.from q.port q.number) ≡ is_delivered keys q.from q.port q.number
    by_test q true t = sym (subst (λ (x : Message). is_delivered keys x.from x.port x.number ≡ true) (sym (message_of q m t)) held)
    by_test q false t = refl

-- ---- the messages that there is room for
in_room_from : (nodes bound : ℕ) (m : Message) → In m (messages_in_room nodes bound) → IsInRoom nodes bound m
in_room_from nodes bound m inside =
    let (u, at_u, here) = In-flat_map_from (λ u. flat_map (λ i. map (λ j. record { from = u; port = i; number = j }) (count_from 0 bound)) (count_from 1 6)) m (count_from 0 nodes) inside in
    let (i, at_i, there) = In-flat_map_from (λ i. map (λ j. record { from = u; port = i; number = j }) (count_from 0 bound)) m (count_from 1 6) here in
    let (j, at_j, is) = In-map_from (λ j. record { from = u; port = i; number = j }) m (count_from 0 bound) there in
    let node = count_from_range 0 nodes u (In-Contains u (count_from 0 nodes) at_u) in
    let port = count_from_range 1 6 i (In-Contains i (count_from 1 6) at_i) in
    let number = count_from_range 0 bound j (In-Contains j (count_from 0 bound) at_j) in
    subst (IsInRoom nodes bound) (sym is) (record { node = omega arith; least = port.0; most = omega arith; number = omega arith })

in_room : (nodes bound : ℕ) (m : Message) → IsInRoom nodes bound m → In m (messages_in_room nodes bound)
in_room nodes bound m room =
    In-flat_map (λ u. flat_map (λ i. map (λ j. record { from = u; port = i; number = j }) (count_from 0 bound)) (count_from 1 6)) m.from m (count_from 0 nodes)
    (Contains-In m.from (count_from 0 nodes) (Contains-count_from 0 nodes m.from (omega arith) (let l = room.node in omega arith)))
    (In-flat_map (λ i. map (λ j. record { from = m.from; port = i; number = j }) (count_from 0 bound)) m.port m (count_from 1 6)
    (Contains-In m.port (count_from 1 6) (Contains-count_from 1 6 m.port room.least (let l = room.most in omega arith)))
    (In-map (λ j. record { from = m.from; port = m.port; number = j }) m.number (count_from 0 bound)
    (Contains-In m.number (count_from 0 bound) (Contains-count_from 0 bound m.number (omega arith) (let l = room.number in omega arith)))))

-- ---- the marked messages
pub ordered_marked : (nodes bound : ℕ) (sets : List PortSet) → IsStrictlySortedBy message_cmp (marked nodes bound sets)
unfolding marked
ordered_marked nodes bound sets = ordered_all message_order (filter (is_marked bound sets) (messages_in_room nodes bound))

pub marked_from : (nodes bound : ℕ) (sets : List PortSet) (m : Message) → is_delivered (marked nodes bound sets) m.from m.port m.number ≡ true → IsInRoom nodes bound m × (is_marked bound sets m ≡ true)
unfolding marked
marked_from nodes bound sets m h =
    let all = filter (is_marked bound sets) (messages_in_room nodes bound) in
    let (x, inside, same) = any-In_from (is_message m.from m.port m.number) all (sym (delivered-fold all m.from m.port m.number) ∙ h) in
    let is : m ≡ x = message_of m x same in
    let (room, mark) = In-filter_from (is_marked bound sets) x (messages_in_room nodes bound) inside in
    subst (λ (y : Message). IsInRoom nodes bound y × (is_marked bound sets y ≡ true)) (sym is) (in_room_from nodes bound x room, mark)

pub marked_is : (nodes bound : ℕ) (sets : List PortSet) (m : Message) → IsInRoom nodes bound m → is_marked bound sets m ≡ true → is_delivered (marked nodes bound sets) m.from m.port m.number ≡ true
unfolding marked
marked_is nodes bound sets m room mark =
    let all = filter (is_marked bound sets) (messages_in_room nodes bound) in
    delivered-fold all m.from m.port m.number
    ∙ any-In (is_message m.from m.port m.number) m all (In-filter (is_marked bound sets) m (messages_in_room nodes bound) (in_room nodes bound m room) mark) (own_message m)

-- in its room the test of a message is that of its mark
pub delivered_mark : (nodes bound : ℕ) (sets : List PortSet) (m : Message) → IsInRoom nodes bound m → is_delivered (marked nodes bound sets) m.from m.port m.number ≡ is_marked bound sets m
delivered_mark nodes bound sets m room =
    same_tests (is_delivered (marked nodes bound sets) m.from m.port m.number) (is_marked bound sets m) (λ h. (marked_from nodes bound sets m h).1) (marked_is nodes bound sets m room)

-- outside of it nothing is delivered
pub delivered_outside : (nodes bound : ℕ) (sets : List PortSet) (m : Message) → (IsInRoom nodes bound m → ⊥) → false ≡ is_delivered (marked nodes bound sets) m.from m.port m.number
delivered_outside nodes bound sets m outside = by_value (is_delivered (marked nodes bound sets) m.from m.port m.number) refl
  where
    by_value : (b : Bool) → is_delivered (marked nodes bound sets) m.from m.port m.number ≡ b → false ≡ b
    by_value false h = refl
    by_value true h = absurd (outside (marked_from nodes bound sets m h).0)

-- ---- no marks
abbrev pub no_ports : PortSet
no_ports = record { bits = 0 }

pub marked_none : (nodes bound count : ℕ) → marked nodes bound (replicate count no_ports) ≡ []
unfolding IsStrictlySortedBy
marked_none nodes bound count =
    same_messages (marked nodes bound (replicate count no_ports)) [] (ordered_marked nodes bound (replicate count no_ports)) tt (λ q. by_value q (is_delivered (marked nodes bound (replicate count no_ports)) q.from q.port q.number) refl)
  where
    unset : (k : ℕ) → get_or (replicate count no_ports) k no_ports ≡ no_ports
    unset k = elim (cases_lt k count) [
      | inl less ↦ get_or-replicate count k no_ports no_ports less
      | inr above ↦ get_or_past (replicate count no_ports) k no_ports (let l = length-replicate count no_ports in omega arith)
    ]

    by_value : (q : Message) (b : Bool) → is_delivered (marked nodes bound (replicate count no_ports)) q.from q.port q.number ≡ b → b ≡ false
    by_value q false h = refl
    by_value q true h = (
        let mark = (marked_from nodes bound (replicate count no_ports) q h).1 in
        let none : has_port no_ports q.port ≡ false = ap (λ b. eqb b 1) (bit_at-zero q.port) in
        let is = ap (λ s. has_port s q.port) (unset (q.from * bound + q.number)) in
        absurd (cc))

-- the messages of more marks, which are one message's and those of fewer
module _ (nodes bound : ℕ) (less more : List PortSet) (m : Message) (room : IsInRoom nodes bound m) (here : is_marked bound more m ≡ true)
    (elsewhere : (q : Message) → IsInRoom nodes bound q → is_message q.from q.port q.number m ≡ false → is_marked bound more q ≡ is_marked bound less q) where
  down : (q : Message) → is_delivered (marked nodes bound more) q.from q.port q.number ≡ true → (is_message q.from q.port q.number m || is_delivered (marked nodes bound less) q.from q.port q.number) ≡ true
  down q h = by_test (is_message q.from q.port q.number m) refl (marked_from nodes bound more q h)
    where
      by_test : (b : Bool) → is_message q.from q.port q.number m ≡ b → IsInRoom nodes bound q × (is_marked bound more q ≡ true) → (b || is_delivered (marked nodes bound less) q.from q.port q.number) ≡ true
      by_test true t (at, mark) = refl
      by_test false t (at, mark) = marked_is nodes bound less q at (sym (elsewhere q at t) ∙ mark)

  same_one : (q : Message) → is_message q.from q.port q.number m ≡ true → is_delivered (marked nodes bound more) q.from q.port q.number ≡ true
  same_one q t = subst (λ (x : Message). is_delivered (marked nodes bound more) x.from x.port x.number ≡ true) (sym (message_of q m t)) (marked_is nodes bound more m room here)

  up : (q : Message) → (is_message q.from q.port q.number m || is_delivered (marked nodes bound less) q.from q.port q.number) ≡ true → is_delivered (marked nodes bound more) q.from q.port q.number ≡ true
  up q h = by_test (is_message q.from q.port q.number m) refl h
    where
      by_test : (b : Bool) → is_message q.from q.port q.number m ≡ b → (b || is_delivered (marked nodes bound less) q.from q.port q.number) ≡ true → is_delivered (marked nodes bound more) q.from q.port q.number ≡ true
      by_test true t h = same_one q t
      by_test false t h = (let (at, mark) = marked_from nodes bound less q h in marked_is nodes bound more q at (elsewhere q at t ∙ mark))

  pub with_mark : marked nodes bound more ≡ with_message (marked nodes bound less) m
  with_mark =
      same_messages (marked nodes bound more) (with_message (marked nodes bound less) m) (ordered_marked nodes bound more) (ordered_inserted message_order (marked nodes bound less) m (ordered_marked nodes bound less))
      (λ q. same_tests (is_delivered (marked nodes bound more) q.from q.port q.number) (is_message q.from q.port q.number m || is_delivered (marked nodes bound less) q.from q.port q.number) (down q) (up q)
      ∙ sym (delivered-insert (marked nodes bound less) m q.from q.port q.number))

-- ---- one mark set or taken back
inside_sets : (nodes bound : ℕ) (sets : List PortSet) (m : Message) → length sets ≡ nodes * bound → IsInRoom nodes bound m → m.from * bound + m.number < length sets
inside_sets nodes bound sets m count room = let l = mul-add-lt m.from bound m.number nodes room.node room.number in let turned = mul_comm bound nodes in omega arith

-- the set that is read at a message's place
pub set_read : (nodes bound : ℕ) (sets : List PortSet) (m : Message) (k : ℕ) (x : PortSet) → length sets ≡ nodes * bound → IsInRoom nodes bound m → k ≡ m.from * bound + m.number → x ≡ get_or sets k x → x ≡ ports_at bound sets m.from m.number
set_read nodes bound sets m k x count room at is =
    is ∙ (ap (λ k. get_or sets k x) at ∙ get_or_default sets (m.from * bound + m.number) x (record { bits = 0 }) (inside_sets nodes bound sets m count room))

module _ (nodes bound : ℕ) (sets : List PortSet) (m : Message) (after : PortSet) (count : length sets ≡ nodes * bound) (room : IsInRoom nodes bound m)
    (others : (i : ℕ) → i < 8 → i ≢ m.port → has_port after i ≡ has_port (ports_at bound sets m.from m.number) i) where
  abbrev changed : List PortSet
  changed = set sets (m.from * bound + m.number) after

  inside : m.from * bound + m.number < length sets
  inside = inside_sets nodes bound sets m count room

  pub mark_here : is_marked bound changed m ≡ has_port after m.port
  mark_here = ap (λ s. has_port s m.port) (get_or-set_same sets (m.from * bound + m.number) after (record { bits = 0 }) inside)

  mark_elsewhere : (q : Message) → IsInRoom nodes bound q → (is_message q.from q.port q.number m ≡ false) → is_marked bound changed q ≡ is_marked bound sets q
  mark_elsewhere q at apart = elim (eqb_tells (q.from * bound + q.number) (m.from * bound + m.number)) [
    | inl same ↦ (
        let (f, n) = same_from_place q.from q.number m.from m.number bound at.number room.number same.1 in
        let other : q.port ≢ m.port = λ p. (let one = tells q.from q.port q.number m (sym f) (sym p) (sym n) in let h : true ≡ false = sym one ∙ apart in absurd (cc)) in
        let here = get_or-set_same sets (m.from * bound + m.number) after (record { bits = 0 }) inside in
        let l = at.most in
        ap (λ k. has_port (get_or changed k (record { bits = 0 })) q.port) same.1
        ∙ (ap (λ s. has_port s q.port) here
        ∙ (others q.port (omega arith) other
        ∙ ap (λ k. has_port (get_or sets k (record { bits = 0 })) q.port) (sym same.1))))
    | inr other ↦ ap (λ s. has_port s q.port) (get_or-set_other sets (m.from * bound + m.number) (q.from * bound + q.number) after (record { bits = 0 }) other.1)
  ]

  -- a mark that is set
  pub marked_more : has_port after m.port ≡ true → marked nodes bound changed ≡ with_message (marked nodes bound sets) m
  marked_more held = with_mark nodes bound sets changed m room (mark_here ∙ held) mark_elsewhere

  -- one that is taken back
  pub marked_less : has_port after m.port ≡ false → is_marked bound sets m ≡ true → marked nodes bound changed ≡ without_message (marked nodes bound sets) m
  marked_less gone mark =
      let more : marked nodes bound sets ≡ with_message (marked nodes bound changed) m = with_mark nodes bound changed sets m room mark (λ q at apart. sym (mark_elsewhere q at apart)) in
      sym (ap (λ l. without_message l m) more ∙ back_again (marked nodes bound changed) m (delivered_mark nodes bound changed m room ∙ (mark_here ∙ gone)))
