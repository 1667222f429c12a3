-- Walks of labels, and where the tables lead.
use Rattle.std.proofs.Common.{◌≡◌, ◌∷◌, ◌∙◌, ◌+◌, ◌*◌, ℕ, zero, suc, ◌<◌, ◌≤◌, Bool, true, false, List, [], refl, sym, ap, subst, arith}
use Rattle.std.specs.Prelude.{Contains, ◌↔◌, not}
use Rattle.std.specs.List.{AllByRecursion}
use Rattle.re_labels.proofs.Sorting.{sorted-Rearranged}
use Rattle.re_labels.specs.Rearranging.{swapped}
use Rattle.re_forests.proofs.Leads.{after, after_even, after_odd, joined, joined_even, joined_odd, lead_as_long}
use Rattle.re_forests.specs.Flexible.{AreJoined, Joins, Leads, Turns, side}
use Rattle.re_forests.proofs.Rounds.{after_not}
use Rattle.re_labels.specs.Sets.{IsIn, IsWithin}
use Rattle.re_labels.proofs.Tests.{not_not}
use Rattle.re_problem.specs.Problems.{Problem}
use Rattle.re_labels.specs.Constraints.{Constraint}
use Rattle.re_flexible.specs.Families.{AreApart, AreJoins, set_with}
use Rattle.re_flexible.specs.Relations.{Composes, Reaches, Relates, Steps}

-- ---- joins both ways, and within a larger set
pub joins_back : (constraint : Constraint) (set : List ℕ) (x y : ℕ) → Joins constraint set x y → Joins constraint set y x
joins_back constraint set x y join = (join.0, join.1, subst (Contains constraint.configs) (sorted-Rearranged (swapped {x = x} {y = y} {xs = join.0})) join.2)

all_within : (other set : List ℕ) → IsWithin other set → (rest : List ℕ) → AllByRecursion (λ z. Contains other z) rest → AllByRecursion (λ z. Contains set z) rest
all_within other set inside [] all = tt
all_within other set inside (z ∷ rest) all = (inside z all.0, all_within other set inside rest all.1)

pub leads_within : (problem : Problem) (other set : List ℕ) → IsWithin other set → (active : Bool) (m x y : ℕ) → Leads problem other active m x y → Leads problem set active m x y
leads_within problem other set inside active zero x y walk = walk
leads_within problem other set inside active (suc m) x y walk =
    (walk.0, inside walk.0 walk.1, (walk.2.0, all_within other set inside walk.2.0 walk.2.1, walk.2.2), leads_within problem other set inside (not active) m walk.0 y walk.3)

-- ---- labels of one set
-- from each label of the set the table leads to those of it with which it is joined within it
abbrev pub AreJoinsOf : Constraint → List ℕ → List (List ℕ) → Type 0
AreJoinsOf constraint set table = (x y : ℕ) → IsIn x set → Relates table x y ↔ (IsIn y set × Joins constraint set x y)

pub joins_within : (constraint : Constraint) (other set : List ℕ) → IsWithin other set → (x y : ℕ) → Joins constraint other x y → Joins constraint set x y
joins_within constraint other set inside x y join = (join.0, all_within other set inside join.0 join.1, join.2)

pub joins_of : (constraint : Constraint) (sets table : List (List ℕ)) → AreApart sets → AreJoins constraint sets table → (x : ℕ) → AreJoinsOf constraint (set_with sets x) table
joins_of constraint sets table apart joins x y z there = (
  λ held. let (one, join) = (joins y z).0 held in
      (apart.on x y z there one, joins_within constraint (set_with sets y) (set_with sets x) (λ w own. apart.on x y w there own) y z join),
  λ both. (joins y z).1 (
    apart.on y x z (apart.back x y there) both.0,
    joins_within constraint (set_with sets x) (set_with sets y) (λ w own. apart.on y x w (apart.back x y there) own) y z both.1,
  ),
)

-- ---- kinds
after_twice : (active : Bool) (m : ℕ) → after (after active m) m ≡ active
after_twice active zero = refl
after_twice active (suc m) = after_not (after (not active) m) m ∙ ap not (after_twice (not active) m) ∙ not_not active

module _ (problem : Problem) (set : List ℕ) where
  -- a walk, turned round
  pub turned : (active : Bool) (m x y : ℕ) → Contains set x → Leads problem set active m x y → Leads problem set (not (after active m)) m y x
  turned active zero x y held walk = sym walk
  turned active (suc m) x y held walk =
      let (z, there, join, rest) = walk in
      let kind : Bool = not (after (not active) m) in
      let back : Leads problem set kind m y z = turned (not active) m z y there rest in
      let end : after kind m ≡ active = after_not (after (not active) m) m ∙ ap not (after_twice (not active) m) ∙ not_not active in
      lead_as_long problem set kind (m + 1) (suc m) y x (let e : m + 1 ≡ suc m = omega arith in e)
      (joined problem set kind m 1 y z x back (x, held, subst (λ k. Joins (side problem k) set z x) (sym end) (joins_back (side problem active) set x z join), refl))

  pub turned_even : (active : Bool) (l x y : ℕ) → Contains set x → Leads problem set (not active) (2 * l) x y → Leads problem set active (2 * l) y x
  turned_even active l x y held walk =
      subst (λ k. Leads problem set k (2 * l) y x) (ap not (after_even (not active) l) ∙ not_not active) (turned (not active) (2 * l) x y held walk)

  pub turned_odd : (active : Bool) (l x y : ℕ) → Contains set x → Leads problem set active (suc (2 * l)) x y → Leads problem set active (suc (2 * l)) y x
  turned_odd active l x y held walk =
      subst (λ k. Leads problem set k (suc (2 * l)) y x) (ap not (after_odd active l) ∙ not_not active) (turned active (suc (2 * l)) x y held walk)

  -- joined, by walks one way
  pub joined_by : (x y : ℕ) → Contains set x → Contains set y → ((active : Bool) → (l : ℕ) × Leads problem set active (suc (2 * l)) x y) → ((active : Bool) → (l : ℕ) × Leads problem set active (2 * l) x y)
      → AreJoined problem set x y
  joined_by x y first second odd even = record {
    first = first;
    second = second;
    odd = λ active. (odd active, ((odd active).0, turned_odd active (odd active).0 x y first (odd active).1));
    even = λ active. (even active, ((even (not active)).0, turned_even active (even (not active)).0 x y first (even (not active)).1));
  }

  pub joined_back : (x y : ℕ) → AreJoined problem set x y → AreJoined problem set y x
  joined_back x y both = record {
    first = both.second;
    second = both.first;
    odd = λ active. ((both.odd active).1, (both.odd active).0);
    even = λ active. ((both.even active).1, (both.even active).0);
  }

  pub joined_on : (x y z : ℕ) → AreJoined problem set x y → AreJoined problem set y z → AreJoined problem set x z
  joined_on x y z one two = joined_by x z one.first two.second
      (λ active. let (l, walk) = (one.odd active).0 in let (k, more) = (two.even (not active)).0 in
      (l + k, lead_as_long problem set active (suc (2 * l) + 2 * k) (suc (2 * (l + k))) x z (let e : suc (2 * l) + 2 * k ≡ suc (2 * (l + k)) = omega arith in e) (joined_odd problem set active l (2 * k) x y z walk more)))
      (λ active. let (l, walk) = (one.even active).0 in let (k, more) = (two.even active).0 in
      (l + k, lead_as_long problem set active (2 * l + 2 * k) (2 * (l + k)) x z (let e : 2 * l + 2 * k ≡ 2 * (l + k) = omega arith in e) (joined_even problem set active l (2 * k) x y z walk more)))

  -- ---- tables of steps of two nodes
  module _ (active : Bool) (first second table : List (List ℕ)) (one : AreJoinsOf (side problem active) set first) (two : AreJoinsOf (side problem (not active)) set second)
      (both : (x y : ℕ) → Relates table x y ↔ Composes first second x y) where
    pub even_leads : (l x y : ℕ) → IsIn x set → Steps table l x y → Leads problem set active (2 * l) x y
    even_leads zero x y held steps = steps
    even_leads (suc l) x y held steps =
        let (w, step, more) = steps in
        let (z, out, on) = (both x w).0 step in
        let a = (one x z held).0 out in
        let b = (two z w a.0).0 on in
        lead_as_long problem set active (suc (suc (2 * l))) (2 * suc l) x y (let e : suc (suc (2 * l)) ≡ 2 * suc l = omega arith in e)
        (z, a.0, a.1, (w, b.0, b.1, subst (λ k. Leads problem set k (2 * l) w y) (sym (not_not active)) (even_leads l w y b.0 more)))

    pub leads_even : (l x y : ℕ) → IsIn x set → Leads problem set active (2 * l) x y → Steps table l x y
    leads_even zero x y held walk = walk
    leads_even (suc l) x y held walk =
        let long : Leads problem set active (suc (suc (2 * l))) x y = lead_as_long problem set active (2 * suc l) (suc (suc (2 * l))) x y (let e : 2 * suc l ≡ suc (suc (2 * l)) = omega arith in e) walk in
        let (z, there, join, (w, own, link, rest)) = long in
        (w, (both x w).1 (z, (one x z held).1 (there, join), (two z w there).1 (own, link)), leads_even l w y own (subst (λ k. Leads problem set k (2 * l) w y) (not_not active) rest))

    pub even_is : (N : ℕ) (all : List (List ℕ)) → ((x : ℕ) → IsIn x set → x < N) → ((x y : ℕ) → x < N → Relates all x y ↔ Reaches table x y) → (x y : ℕ) → IsIn x set
        → Relates all x y ↔ ((l : ℕ) × Leads problem set active (2 * l) x y)
    even_is N all below closed x y held =
        let low : x < N = below x held in (
          λ there. let (l, steps) = (closed x y low).0 there in (l, even_leads l x y held steps),
          λ walk. (closed x y low).1 (walk.0, leads_even walk.0 x y held walk.1),
        )

  pub odd_is : (active : Bool) (first behind from : List (List ℕ)) → AreJoinsOf (side problem active) set first → ((x y : ℕ) → IsIn x set → Relates behind x y ↔ ((l : ℕ) × Leads problem set (not active) (2 * l) x y))
      → ((x y : ℕ) → Relates from x y ↔ Composes first behind x y) → (x y : ℕ) → IsIn x set → Relates from x y ↔ ((l : ℕ) × Leads problem set active (suc (2 * l)) x y)
  odd_is active first behind from one even both x y held = (
    λ there. let (z, out, on) = (both x y).0 there in let a = (one x z held).0 out in let (l, walk) = (even z y a.0).0 on in (l, (z, a.0, a.1, walk)),
    λ walk. let (z, there, join, rest) = walk.1 in (both x y).1 (z, (one x z held).1 (there, join), (even z y there).1 (walk.0, rest)),
  )

  -- ---- turning
  module _ (x : ℕ) (held : Contains set x) where
    -- rounds of 2 m nodes and of two more, so many times
    pub around : (m : ℕ) → ((active : Bool) → Leads problem set active (2 * m) x x) → ((active : Bool) → Leads problem set active (2 * suc m) x x) → (active : Bool) (k i : ℕ) → i ≤ k → Leads problem set active (2 * (m * k + i)) x x
    around m short long active zero i low = lead_as_long problem set active 0 (2 * (m * 0 + i)) x x (let e : 0 ≡ 2 * (m * 0 + i) = omega (arith, low) in e) refl
    around m short long active (suc k) zero low =
        lead_as_long problem set active (2 * m + 2 * (m * k + 0)) (2 * (m * suc k + 0)) x x (let e : 2 * m + 2 * (m * k + 0) ≡ 2 * (m * suc k + 0) = grind arith in e)
        (joined_even problem set active m (2 * (m * k + 0)) x x x (short active) (around m short long active k 0 (omega arith)))
    around m short long active (suc k) (suc i) low =
        lead_as_long problem set active (2 * suc m + 2 * (m * k + i)) (2 * (m * suc k + suc i)) x x (let e : 2 * suc m + 2 * (m * k + i) ≡ 2 * (m * suc k + suc i) = grind arith in e)
        (joined_even problem set active (suc m) (2 * (m * k + i)) x x x (long active) (around m short long active k i (omega (arith, low))))

    odd_loop : (active : Bool) (q r l : ℕ) → Leads problem set active (suc (2 * q)) x x → Leads problem set (not active) (2 * r) x x → q + r ≡ l → Leads problem set active (suc (2 * l)) x x
    odd_loop active q r l odd even e =
        lead_as_long problem set active (suc (2 * q) + 2 * r) (suc (2 * l)) x x (let long : suc (2 * q) + 2 * r ≡ suc (2 * l) = omega (arith, e) in long) (joined_odd problem set active q (2 * r) x x x odd even)

    pub kinds : (n : ℕ) → Leads problem set true (2 * n) x x → (active : Bool) → Leads problem set active (2 * n) x x
    kinds n walk true = walk
    kinds n walk false = turned_even false n x x held walk

    by_kind : (P : Bool → Type 0) → P true → P false → (active : Bool) → P active
    by_kind P one other true = one
    by_kind P one other false = other

    pub rounds_turn : (m : ℕ) → Leads problem set true (2 * m) x x → Leads problem set true (2 * suc m) x x → AreJoined problem set x x → (l : ℕ) × Turns problem set x l
    rounds_turn m short long own =
        let (q, odd) = (own.odd true).0 in
        let (p, other) = (own.odd false).0 in
        let k : ℕ = suc (q + p) in
        let all : (active : Bool) (i : ℕ) → i ≤ k → Leads problem set active (2 * (m * k + i)) x x = λ active i low. around m (kinds m short) (kinds (suc m) long) active k i low in (
          q + p + m * k,
          record {
            shorter = by_kind (λ active. Leads problem set active (suc (2 * (q + p + m * k))) x x)
                (odd_loop true q (m * k + p) (q + p + m * k) odd (all false p (omega arith)) (omega arith))
                (odd_loop false p (m * k + q) (q + p + m * k) other (all true q (omega arith)) (omega arith));
            longer = by_kind (λ active. Leads problem set active (suc (2 * suc (q + p + m * k))) x x)
                (odd_loop true q (m * k + suc p) (suc (q + p + m * k)) odd (all false (suc p) (omega arith)) (omega arith))
                (odd_loop false p (m * k + suc q) (suc (q + p + m * k)) other (all true (suc q) (omega arith)) (omega arith));
          },
        )

    -- and back
    pub turn_rounds : (l : ℕ) → Turns problem set x l → Leads problem set true (2 * suc (2 * l)) x x × Leads problem set true (2 * suc (suc (2 * l))) x x
    turn_rounds l turns = (
      lead_as_long problem set true (suc (2 * l) + suc (2 * l)) (2 * suc (2 * l)) x x (let e : suc (2 * l) + suc (2 * l) ≡ 2 * suc (2 * l) = omega arith in e)
          (joined_odd problem set true l (suc (2 * l)) x x x (turns.shorter true) (turns.shorter false)),
      lead_as_long problem set true (suc (2 * l) + suc (2 * suc l)) (2 * suc (suc (2 * l))) x x (let e : suc (2 * l) + suc (2 * suc l) ≡ 2 * suc (suc (2 * l)) = omega arith in e)
          (joined_odd problem set true l (suc (2 * suc l)) x x x (turns.shorter true) (turns.longer false)),
    )

-- ---- within a larger set
pub joined_within : (problem : Problem) (other set : List ℕ) → IsWithin other set → (x y : ℕ) → AreJoined problem other x y → AreJoined problem set x y
joined_within problem other set inside x y both = record {
  first = inside x both.first;
  second = inside y both.second;
  odd = λ active. (
    ((both.odd active).0.0, leads_within problem other set inside active (suc (2 * (both.odd active).0.0)) x y (both.odd active).0.1),
    ((both.odd active).1.0, leads_within problem other set inside active (suc (2 * (both.odd active).1.0)) y x (both.odd active).1.1),
  );
  even = λ active. (
    ((both.even active).0.0, leads_within problem other set inside active (2 * (both.even active).0.0) x y (both.even active).0.1),
    ((both.even active).1.0, leads_within problem other set inside active (2 * (both.even active).1.0) y x (both.even active).1.1),
  );
}

pub turns_within : (problem : Problem) (other set : List ℕ) → IsWithin other set → (x l : ℕ) → Turns problem other x l → Turns problem set x l
turns_within problem other set inside x l turns = record {
  shorter = λ active. leads_within problem other set inside active (suc (2 * l)) x x (turns.shorter active);
  longer = λ active. leads_within problem other set inside active (suc (2 * suc l)) x x (turns.longer active);
}
