-- Each good row is dominated where those are that lack their least label at one place.
use Rattle.std.proofs.lemmas.List.{append-nil}
use Rattle.re_labels.proofs.Numbers.{rising_tail}
use Rattle.std.proofs.Common.{◌≡◌, ℕ, ◌<◌, List, [], ◌∷◌, ◌++◌, length, map, sym, ◌∙◌, subst, inl, inr, arith}
use Rattle.std.specs.List.{AllByRecursion, AllZip}
use Rattle.re_labels.proofs.ChoicesOfRows.{IsChoice-under}
use Rattle.re_labels.proofs.Placing.{Dominates-trans}
use Rattle.re_labels.proofs.Rearranging.{Rearranged-refl, Rearranged-sym, length-AllZip}
use Rattle.re_labels.specs.Rearranging.{Rearranged}
use Rattle.re_labels.specs.Rows.{IsChoice, IsUnder, singles}
use Rattle.re_labels.proofs.Membership.{Contains-cases, Contains-here, Contains-none, length-map'}
use Rattle.re_labels.proofs.Sets.{IsIn-more, IsIn-union, IsIn-union_cases}
use Rattle.re_labels.specs.Lists.{IsRising}
use Rattle.re_labels.specs.Sets.{IsIn, IsWithin}
use Rattle.re_labels.proofs.Closure.{Choice-singles, singles_push, under_part}
use Rattle.re_labels.specs.Constraints.{Constraint, Has}
use Rattle.re_labels.specs.GoodRows.{IsDominated, IsGood}
use Rattle.re_boxes.specs.Boxes.{IsStrength, IsUp, with_stronger}

pub one_label : (x y : ℕ) → IsIn x (y ∷ []) → x ≡ y
one_label x y h = elim (Contains-cases x y [] h) [ inl e ↦ e | inr i ↦ absurd (Contains-none x i) ]

pub IsIn-filled : (x : ℕ) (s : List ℕ) → IsIn x s → 0 < length s
IsIn-filled x s (k, l, e) = omega arith

-- no set is empty
abbrev pub AreFilled : List (List ℕ) → Type 0
AreFilled r = AllByRecursion (λ s. 0 < length s) r

pub IsGood-under : (constraint : Constraint) (r t : List (List ℕ)) → IsUnder r t → AreFilled r → IsGood constraint t → IsGood constraint r
IsGood-under constraint r t h filled good = record {
  count = length-AllZip IsWithin r t h ∙ good.count;
  filled = filled;
  choice = λ c k. good.choice c (IsChoice-under c r t h k);
}

-- a row is dominated by what dominates a row above it, in whatever order
pub dominated_under : (rows : List (List (List ℕ))) (r t u : List (List ℕ)) → IsUnder r t → Rearranged t u → IsDominated rows u → IsDominated rows r
dominated_under rows r t u h p (top, held, dom) = (top, held, Dominates-trans top u r dom (t, Rearranged-sym p, h))

-- ---- up sets
abbrev pub raised : (ℕ → List ℕ) → List (List ℕ) → List (List ℕ)
raised ups r = map (with_stronger ups) r

abbrev pub AreUp : (ℕ → List ℕ) → List (List ℕ) → Type 0
AreUp ups r = AllByRecursion (IsUp ups) r

pub of_with_stronger : (ups : ℕ → List ℕ) (s : List ℕ) (z : ℕ) → IsIn z (with_stronger ups s) → (x : ℕ) × IsIn x s × IsIn z (ups x)
of_with_stronger ups [] z h = absurd (Contains-none z h)
of_with_stronger ups (x ∷ s) z h = elim (IsIn-union_cases (with_stronger ups s) (ups x) z h) [
  | inl i ↦ let r = of_with_stronger ups s z i in (r.0, IsIn-more x s r.0 r.1, r.2)
  | inr i ↦ (x, Contains-here x s, i)
]

pub in_with_stronger : (ups : ℕ → List ℕ) (s : List ℕ) (x z : ℕ) → IsIn x s → IsIn z (ups x) → IsIn z (with_stronger ups s)
in_with_stronger ups [] x z h k = absurd (Contains-none x h)
in_with_stronger ups (y ∷ s) x z h k = IsIn-union (with_stronger ups s) (ups y) z (elim (Contains-cases x y s h) [
  | inl e ↦ inr (subst (λ w. IsIn z (ups w)) e k)
  | inr i ↦ inl (in_with_stronger ups s x z i k)
])

-- ---- the ladder of a set: its labels rise, and what is above a label in number and strength is in the set
pub record IsLadder (ups : ℕ → List ℕ) (s : List ℕ) : Type 0 where
  pub rises : IsRising (λ x y. x < y) s
  pub above : (x y : ℕ) → IsIn x s → IsIn y (ups x) → x < y → IsIn y s

pub head_least : (x : ℕ) (s : List ℕ) → IsRising (λ x y. x < y) (x ∷ s) → (z : ℕ) → IsIn z s → x < z
head_least x [] h z c = absurd (Contains-none z c)
head_least x (y ∷ s) h z c = elim (Contains-cases z y s c) [
  | inl e ↦ subst (λ w. x < w) (sym e) h.0
  | inr i ↦ let l = head_least y s h.1 z i in omega (arith, l, h.0)
]

ladder_tail : (ups : ℕ → List ℕ) (x : ℕ) (s : List ℕ) → IsLadder ups (x ∷ s) → IsLadder ups s
ladder_tail ups x s lad = record {
  rises = rising_tail x s lad.rises;
  above = λ u v c k l. elim (Contains-cases v x s (lad.above u v (IsIn-more x s u c) k l)) [
    | inl e ↦ let lu = head_least x s lad.rises u c in let same : v ≡ x = e in absurd (omega (arith, lu, l, same))
    | inr i ↦ i
  ];
}

pub ladder_up : (ups : ℕ → List ℕ) (s : List ℕ) → IsRising (λ x y. x < y) s → IsUp ups s → IsLadder ups s
ladder_up ups s rises up = record { rises = rises; above = λ x y c k l. up x c y k }

module _ (constraint : Constraint) (ups : ℕ → List ℕ) (strong : IsStrength constraint ups) where
  pub under_raised : (r : List (List ℕ)) → IsUnder r (raised ups r)
  under_raised [] = tt
  under_raised (s ∷ r) = ((λ x c. in_with_stronger ups s x x c (strong.holds x)), under_raised r)

  pub AreUp-raised : (r : List (List ℕ)) → AreUp ups (raised ups r)
  AreUp-raised [] = tt
  AreUp-raised (s ∷ r) =
      ((λ x c w k. let a = of_with_stronger ups s x c in in_with_stronger ups s a.0 w a.1 (strong.goes_on a.0 x a.2 w k)), AreUp-raised r)

  AreFilled-raised : (r : List (List ℕ)) → AreFilled r → AreFilled (raised ups r)
  AreFilled-raised [] h = tt
  AreFilled-raised ([] ∷ r) h = absurd (omega (arith, h.0))
  AreFilled-raised ((x ∷ s) ∷ r) h =
      (IsIn-filled x (with_stronger ups (x ∷ s)) (in_with_stronger ups (x ∷ s) x x (Contains-here x s) (strong.holds x)), AreFilled-raised r h.1)

  lowered : (r : List (List ℕ)) (c : List ℕ) → IsChoice c (raised ups r) → (e : List ℕ) × IsChoice e r × AllZip (λ x y. IsIn y (ups x)) e c
  lowered [] [] h = ([], tt, tt)
  lowered [] (x ∷ c) h = absurd h
  lowered (s ∷ r) [] h = absurd h
  lowered (s ∷ r) (x ∷ c) h =
      let a = of_with_stronger ups s x h.0 in
      let more = lowered r c h.1 in
      (a.0 ∷ more.0, (a.1, more.1), (a.2, more.2))

  pub IsGood-raised : (r : List (List ℕ)) → IsGood constraint r → IsGood constraint (raised ups r)
  IsGood-raised r good = record {
    count = length-map' (with_stronger ups) r ∙ good.count;
    filled = AreFilled-raised r good.filled;
    choice = λ c h. let a = lowered r c h in strong.keeps a.0 c a.2 (good.choice a.0 a.1);
  }

  AreFilled-part : (a s : List ℕ) → 0 < length a → (p q : List (List ℕ)) → AreFilled (p ++ s ∷ q) → AreFilled (p ++ a ∷ q)
  AreFilled-part a s h [] q k = (h, k.1)
  AreFilled-part a s h (o ∷ p) q k = (k.0, AreFilled-part a s h p q k.1)

  module _ (rows : List (List (List ℕ)))
      (base : (c : List ℕ) → Has constraint c → IsDominated rows (map ups c))
      (step : (p q : List (List ℕ)) (x y : ℕ) (s : List ℕ) → IsDominated rows (raised ups (p ++ (y ∷ s) ∷ q)) → IsLadder ups (x ∷ y ∷ s)
      → IsGood constraint (p ++ (x ∷ y ∷ s) ∷ q) → IsDominated rows (raised ups (p ++ (x ∷ y ∷ s) ∷ q))) where
    abbrev Claim : List (List ℕ) → Type 0
    Claim r = IsGood constraint r → IsDominated rows (raised ups r)

    head_of : (q : List (List ℕ)) → ((c : List ℕ) → Claim (singles c ++ q)) → (s : List ℕ) (c : List ℕ) → IsLadder ups s → Claim (singles c ++ s ∷ q)
    head_of q more [] c lad = λ good. absurd (no_empty (singles c) good.filled)
      where
        no_empty : (p : List (List ℕ)) → AreFilled (p ++ [] ∷ q) → ⊥
        no_empty [] h = absurd (omega (arith, h.0))
        no_empty (o ∷ p) h = no_empty p h.1
    head_of q more (x ∷ []) c lad = subst Claim (singles_push c x q) (more (c ++ x ∷ []))
    head_of q more (x ∷ y ∷ s) c lad = λ good.
        let part : IsGood constraint (singles c ++ (y ∷ s) ∷ q) = IsGood-under constraint (singles c ++ (y ∷ s) ∷ q) (singles c ++ (x ∷ y ∷ s) ∷ q)
        (under_part (y ∷ s) (x ∷ y ∷ s) (IsIn-more x (y ∷ s)) (singles c) q)
        (AreFilled-part (y ∷ s) (x ∷ y ∷ s) (omega arith) (singles c) q good.filled) good in
        step (singles c) q x y s (head_of q more (y ∷ s) c (ladder_tail ups x (y ∷ s) lad) part) lad good

    raised_singles : (c : List ℕ) → IsUnder (raised ups (singles c)) (map ups c)
    raised_singles [] = tt
    raised_singles (x ∷ c) =
        ((λ z h. let a = of_with_stronger ups (x ∷ []) z h in subst (λ w. IsIn z (ups w)) (one_label a.0 x a.1) a.2), raised_singles c)

    spread_from : (q : List (List ℕ)) (c : List ℕ) → AllByRecursion (IsLadder ups) q → Claim (singles c ++ q)
    spread_from [] c lad = subst Claim (sym (append-nil (singles c)))
        (λ good. dominated_under rows (raised ups (singles c)) (map ups c) (map ups c) (raised_singles c) (Rearranged-refl (map ups c))
        (base c (good.choice c (Choice-singles c))))
    spread_from (s ∷ q) c lad = head_of q (λ e. spread_from q e lad.1) s c lad.0

    -- each good row whose sets are ladders is dominated
    pub spread : (r : List (List ℕ)) → AllByRecursion (IsLadder ups) r → IsGood constraint r → IsDominated rows r
    spread r lad good =
        dominated_under rows r (raised ups r) (raised ups r) (under_raised r) (Rearranged-refl (raised ups r)) (spread_from r [] lad good)
