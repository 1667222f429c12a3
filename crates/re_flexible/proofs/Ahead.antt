-- Two walks in step, one a step ahead of the other, and the pairs of labels that are missing.
use Rattle.std.proofs.Common.{◌≡◌, ◌+◌, ◌*◌, ℕ, zero, suc, ◌<◌, ◌≤◌, Bool, true, false, List, [], refl, sym, subst, arith, inl, inr, ◌⊎◌, get_or}
use Rattle.std.specs.Prelude.{◌↔◌, if◌then◌else◌}
use Rattle.std.proofs.lemmas.Bool.{false≢true}
use Rattle.re_labels.proofs.Sets.{IsIn-has, has-IsIn}
use Rattle.re_labels.proofs.Tests.{below-cases}
use Rattle.re_labels.specs.Sets.{has}
use Rattle.re_flexible.proofs.Closing.{steps_last}
use Rattle.re_flexible.specs.Relations.{Composes, IsWithin, Relates, Rounds, Steps}

-- the walks of so many steps from x come to u, and with one step more to v
abbrev pub ComesTo : List (List ℕ) → ℕ → ℕ → ℕ → Type 0
ComesTo table x u v = (m : ℕ) × Steps table m x u × Steps table (suc m) x v

pub record IsAhead (table : List (List ℕ)) (x : ℕ) (ahead : List (List ℕ)) : Type 0 where
  pub start : (v : ℕ) → Relates table x v → Relates ahead x v
  pub sound : (u v : ℕ) → Relates ahead u v → ComesTo table x u v

module _ (table back : List (List ℕ)) (x : ℕ) (converse : (a b : ℕ) → Relates back a b ↔ Relates table b a) where
  pub ahead_none : (ahead : List (List ℕ)) → ((u v : ℕ) → Relates ahead u v ↔ ((u ≡ x) × Relates table u v)) → IsAhead table x ahead
  ahead_none ahead alone = record {
    start = λ v held. (alone x v).1 (refl, held);
    sound = λ u v held. let (e, step) = (alone u v).0 held in (0, sym e, (v, subst (λ w. Relates table w v) e step, refl));
  }

  -- a step of both walks
  moved_sound : (ahead behind moved : List (List ℕ)) → IsAhead table x ahead → ((a b : ℕ) → Relates behind a b ↔ Composes back ahead a b) → ((a b : ℕ) → Relates moved a b ↔ Composes behind table a b)
      → (u v : ℕ) → Relates moved u v → ComesTo table x u v
  moved_sound ahead behind moved so_far first second u v held =
      let (b, there, ahead_step) = (second u v).0 held in
      let (a, led, pair) = (first u b).0 there in
      let (m, walk, longer) = so_far.sound a b pair in
      (suc m, steps_last table m x a u walk ((converse u a).0 led), steps_last table (suc m) x b v longer ahead_step)

  pub ahead_more : (ahead behind moved new : List (List ℕ)) → IsAhead table x ahead → ((a b : ℕ) → Relates behind a b ↔ Composes back ahead a b) → ((a b : ℕ) → Relates moved a b ↔ Composes behind table a b)
      → ((a b : ℕ) → Relates new a b ↔ (Relates ahead a b ⊎ Relates moved a b)) → IsAhead table x new
  ahead_more ahead behind moved new so_far first second either = record {
    start = λ v held. (either x v).1 (inl (so_far.start v held));
    sound = λ u v held. elim ((either u v).0 held) [ inl old ↦ so_far.sound u v old | inr new ↦ moved_sound ahead behind moved so_far first second u v new ];
  }

  -- where nothing is new, walks in step stay among the pairs
  stays : (ahead behind moved : List (List ℕ)) → ((a b : ℕ) → Relates behind a b ↔ Composes back ahead a b) → ((a b : ℕ) → Relates moved a b ↔ Composes behind table a b) → IsWithin moved ahead
      → (m a b u v : ℕ) → Relates ahead a b → Steps table m a u → Steps table m b v → Relates ahead u v
  stays ahead behind moved first second closed zero a b u v pair one two = subst (λ w. Relates ahead w v) one (subst (λ w. Relates ahead a w) two pair)
  stays ahead behind moved first second closed (suc m) a b u v pair one two =
      let (c, step, walk) = one in
      let (d, other, longer) = two in
      stays ahead behind moved first second closed m c d u v (closed c d ((second c d).1 (b, (first c b).1 (a, (converse c a).1 step, pair), other))) walk longer

  pub ahead_all : (ahead behind moved : List (List ℕ)) → IsAhead table x ahead → ((a b : ℕ) → Relates behind a b ↔ Composes back ahead a b) → ((a b : ℕ) → Relates moved a b ↔ Composes behind table a b) → IsWithin moved ahead
      → Relates ahead x x ↔ Rounds table x
  ahead_all ahead behind moved so_far first second closed = (
    so_far.sound x x,
    λ rounds. let (m, walk, (z, step, more)) = rounds in stays ahead behind moved first second closed m x z x x (so_far.start z step) walk more,
  )

-- ---- what is missing
-- how many labels below n the set doesn't have
pub missing_from : List ℕ → ℕ → ℕ
missing_from labels zero = 0
missing_from labels (suc n) = missing_from labels n + (if has labels n then 0 else 1)

-- how many of the labels below N the first n rows don't have
pub missing : ℕ → List (List ℕ) → ℕ → ℕ
missing N table zero = 0
missing N table (suc n) = missing N table n + missing_from (get_or table n []) N

-- no more than there are
one_most : (b : Bool) → (if b then 0 else 1) ≤ 1
one_most true = omega arith
one_most false = omega arith

pub missing_from_most : (labels : List ℕ) (n : ℕ) → missing_from labels n ≤ n
unfolding missing_from
missing_from_most labels zero = omega arith
missing_from_most labels (suc n) = let rest = missing_from_most labels n in let here = one_most (has labels n) in omega (arith, rest, here)

pub missing_most : (N : ℕ) (table : List (List ℕ)) (n : ℕ) → missing N table n ≤ n * N
unfolding missing
missing_most N table zero = omega arith
missing_most N table (suc n) =
    let rest = missing_most N table n in let here = missing_from_most (get_or table n []) N in let more : suc n * N ≡ n * N + N = grind arith in omega (arith, rest, here, more)

at_most : (b c : Bool) → (b ≡ true → c ≡ true) → (if c then 0 else 1) ≤ (if b then 0 else 1)
at_most true true h = omega arith
at_most true false h = absurd (false≢true (h refl))
at_most false true h = omega arith
at_most false false h = omega arith

less_at : (b c : Bool) → b ≡ false → c ≡ true → (if c then 0 else 1) < (if b then 0 else 1)
less_at true c e f = absurd (false≢true (sym e))
less_at false true e f = omega arith
less_at false false e f = absurd (false≢true f)

fewer_from : (s t : List ℕ) (n : ℕ) → ((y : ℕ) → has s y ≡ true → has t y ≡ true) → missing_from t n ≤ missing_from s n
unfolding missing_from
fewer_from s t zero h = omega arith
fewer_from s t (suc n) h = let rest = fewer_from s t n h in let here = at_most (has s n) (has t n) (h n) in omega (arith, rest, here)

pub less_from : (s t : List ℕ) (n y : ℕ) → ((y : ℕ) → has s y ≡ true → has t y ≡ true) → y < n → has s y ≡ false → has t y ≡ true → missing_from t n < missing_from s n
unfolding missing_from
less_from s t zero y h low e f = absurd (omega (arith, low))
less_from s t (suc n) y h low e f = elim (below-cases y n (omega (arith, low))) [
  | inl less ↦ let rest = less_from s t n y h less e f in let here = at_most (has s n) (has t n) (h n) in omega (arith, rest, here)
  | inr at ↦ let rest = fewer_from s t n h in
      let here = less_at (has s n) (has t n) (subst (λ i. has s i ≡ false) at e) (subst (λ i. has t i ≡ true) at f) in omega (arith, rest, here)
]

fewer : (N : ℕ) (old new : List (List ℕ)) (n : ℕ) → IsWithin old new → missing N new n ≤ missing N old n
unfolding missing
fewer N old new zero h = omega arith
fewer N old new (suc n) h =
    let rest = fewer N old new n h in
    let here = fewer_from (get_or old n []) (get_or new n []) N (λ y held. IsIn-has (get_or new n []) y (h n y (has-IsIn (get_or old n []) y held))) in
    omega (arith, rest, here)

-- a relation that leads further lacks less
pub lacks_less : (N : ℕ) (old new : List (List ℕ)) (n x y : ℕ) → IsWithin old new → x < n → y < N → (Relates old x y → ⊥) → Relates new x y → missing N new n < missing N old n
unfolding missing
lacks_less N old new zero x y h low under apart held = absurd (omega (arith, low))
lacks_less N old new (suc n) x y h low under apart held = elim (below-cases x n (omega (arith, low))) [
  | inl less ↦
      let rest = lacks_less N old new n x y h less under apart held in
      let here = fewer_from (get_or old n []) (get_or new n []) N (λ z there. IsIn-has (get_or new n []) z (h n z (has-IsIn (get_or old n []) z there))) in
      omega (arith, rest, here)
  | inr at ↦
      let rest = fewer N old new n h in
      let here = less_from (get_or old n []) (get_or new n []) N y (λ z there. IsIn-has (get_or new n []) z (h n z (has-IsIn (get_or old n []) z there))) under
      (absent (has (get_or old n []) y) (λ e. apart (subst (λ i. Relates old i y) (sym at) (has-IsIn (get_or old n []) y e))))
      (IsIn-has (get_or new n []) y (subst (λ i. Relates new i y) at held)) in
      omega (arith, rest, here)
]
  where
    absent : (b : Bool) → (b ≡ true → ⊥) → b ≡ false
    absent true h = absurd (h refl)
    absent false h = refl
