-- A set of labels is flexible where one of them turns with which each is joined, and only there.
use Rattle.std.proofs.Common.{◌≡◌, ℕ, zero, suc, ◌+◌, ◌-◌, ◌*◌, ◌/◌, ◌%◌, ◌≤◌, ◌<◌, Bool, List, refl, arith, inl, inr, ◌⊎◌}
use Rattle.std.specs.Prelude.{Contains, not}
use Rattle.std.proofs.Math.Nat.{mul-le-mul_right}
use Rattle.std.proofs.lemmas.Nat.{div-add-mod', mod_below}
use Rattle.re_forests.proofs.Leads.{bounded_both, joined_even, joined_odd, lead_as_long}
use Rattle.re_forests.specs.Flexible.{AreJoined, IsFlexible, Leads, Turns, TurningLaw}
use Rattle.re_problem.specs.Problems.{Problem}

module _ (problem : Problem) (set : List ℕ) where
  -- ---- walks from x to itself through each great even number of nodes, where x turns
  -- through twice the half and so many of those that are longer by two
  cycle : (x l : ℕ) → Turns problem set x l → (active : Bool) (t s : ℕ) → s ≤ t → Leads problem set active (2 * (suc (2 * l) * t + s)) x x
  cycle x l turns active zero s low = lead_as_long problem set active zero (2 * (suc (2 * l) * zero + s)) x x (omega arith) refl
  cycle x l turns active (suc t) zero low =
      lead_as_long problem set active (suc (2 * l) + (suc (2 * l) + 2 * (suc (2 * l) * t + zero))) (2 * (suc (2 * l) * suc t + zero)) x x (grind arith)
      (joined_odd problem set active l (suc (2 * l) + 2 * (suc (2 * l) * t + zero)) x x x (turns.shorter active)
      (joined_odd problem set (not active) l (2 * (suc (2 * l) * t + zero)) x x x (turns.shorter (not active)) (cycle x l turns (not (not active)) t zero (omega arith))))
  cycle x l turns active (suc t) (suc s) low =
      lead_as_long problem set active (suc (2 * l) + (suc (2 * suc l) + 2 * (suc (2 * l) * t + s))) (2 * (suc (2 * l) * suc t + suc s)) x x (grind arith)
      (joined_odd problem set active l (suc (2 * suc l) + 2 * (suc (2 * l) * t + s)) x x x (turns.shorter active)
      (joined_odd problem set (not active) (suc l) (2 * (suc (2 * l) * t + s)) x x x (turns.longer (not active)) (cycle x l turns (not (not active)) t s (omega arith))))

  cycles : (x l : ℕ) → Turns problem set x l → (active : Bool) (e : ℕ) → suc (2 * l) * suc (2 * l) ≤ e → Leads problem set active (2 * e) x x
  cycles x l turns active e high =
      let h : ℕ = suc (2 * l) in
      let parts : e / h * h + e % h ≡ e = div-add-mod' e h in
      let small : e % h < h = mod_below e h (omega arith) in
      let enough : e % h ≤ e / h = (elim (either (e / h) h) [ inl g ↦ omega arith | inr less ↦ absurd (too_few e h (e / h) (e % h) parts small less high) ]) in
      lead_as_long problem set active (2 * (h * (e / h) + e % h)) (2 * e) x x (grind (arith, parts)) (cycle x l turns active (e / h) (e % h) enough)
    where
      either : (a b : ℕ) → (b ≤ a) ⊎ (a < b)
      either zero zero = inl (omega arith)
      either zero (suc b) = inr (omega arith)
      either (suc a) zero = inl (omega arith)
      either (suc a) (suc b) = elim (either a b) [ inl l ↦ inl (omega arith) | inr l ↦ inr (omega arith) ]

      too_few : (e h t s : ℕ) → t * h + s ≡ e → s < h → t < h → h * h ≤ e → ⊥
      too_few e h t s parts small less high =
          let product : suc t * h ≤ h * h = mul-le-mul_right h less in
          let more : suc t * h ≡ t * h + h = grind arith in
          omega (arith, product, more)

  -- ---- from a label that turns
  flexible : (x l : ℕ) → Turns problem set x l → ((y : ℕ) → Contains set y → AreJoined problem set x y) → Contains set x → (k : ℕ) × IsFlexible problem set k
  flexible x l turns linked own =
      let (A, to) = bounded_both (λ active y n. Leads problem set active (2 * n) y x) set (λ active y held. ((linked y held).even active).1) in
      let (B, from) = bounded_both (λ active y n. Leads problem set active (suc (2 * n)) x y) set (λ active y held. ((linked y held).odd active).0) in
      let h : ℕ = suc (2 * l) * suc (2 * l) in (
        A + h + B,
        record {
          some = (x, own);
          leads = λ active y z first second.
              (let (a, low, enter) = to active y first in
              let (b, short, leave) = from active z second in
              let e : ℕ = (A - a) + h + (B - b) in
              let round : Leads problem set active (2 * e) x x = cycles x l turns active e (omega arith) in
              lead_as_long problem set active (2 * a + (2 * e + suc (2 * b))) (suc (2 * (A + h + B))) y z (omega (arith, low, short))
              (joined_even problem set active a (2 * e + suc (2 * b)) y x z enter (joined_even problem set active e (suc (2 * b)) x x z round leave)));
        },
      )

  -- ---- to each label of a flexible set
  two_more : (k : ℕ) → IsFlexible problem set k → (active : Bool) (x y : ℕ) → Contains set x → Contains set y → Leads problem set active (suc (2 * suc k)) x y
  two_more k flexible active x y first second =
      let (z, held, join, on) = flexible.leads active x y first second in
      let (w, there, link, more) = flexible.leads (not active) z y held second in
      lead_as_long problem set active (suc (suc (suc (2 * k)))) (suc (2 * suc k)) x y (omega arith) (z, held, join, (w, there, link, flexible.leads (not (not active)) w y there second))

  evenly : (k : ℕ) → IsFlexible problem set k → (active : Bool) (x y : ℕ) → Contains set x → Contains set y → Leads problem set active (2 * suc (2 * k)) x y
  evenly k flexible active x y first second =
      lead_as_long problem set active (suc (2 * k) + suc (2 * k)) (2 * suc (2 * k)) x y (omega arith)
      (joined_odd problem set active k (suc (2 * k)) x x y (flexible.leads active x x first first) (flexible.leads (not active) x y first second))

  turns_all : (k : ℕ) → IsFlexible problem set k → (x y : ℕ) → Contains set x → Contains set y → ((l : ℕ) × Turns problem set x l) × AreJoined problem set x y
  turns_all k flexible x y first second = (
    (k, record { shorter = λ active. flexible.leads active x x first first; longer = λ active. two_more k flexible active x x first first }),
    record {
      first = first;
      second = second;
      odd = λ active. ((k, flexible.leads active x y first second), (k, flexible.leads active y x second first));
      even = λ active. ((suc (2 * k), evenly k flexible active x y first second), (suc (2 * k), evenly k flexible active y x second first));
    },
  )

pub turning : TurningLaw
turning problem set = (flexible problem set, turns_all problem set)
