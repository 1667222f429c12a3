-- Labels at the ports of a node, of which one or two are given: they are all those to be placed, and stand where they were given.
use Rattle.std.proofs.Common.{◌≡◌, ℕ, suc, ◌+◌, ◌<◌, false, cond, eqb, List, [], ◌∷◌, length, get_or, refl, sym, ap, ◌∙◌, subst, inl, inr, arith}
use Rattle.std.specs.Prelude.{Contains}
use Rattle.std.specs.List.{AllByRecursion, position_or_len}
use Rattle.std.proofs.lemmas.Bool.{cond_both, eqb-true, eqb-false, ne_eqb, cases_Bool}
use Rattle.re_labels.proofs.Rearranging.{Rearranged-refl}
use Rattle.re_labels.specs.Rearranging.{Rearranged, chained, kept, swapped}
use Rattle.re_labels.proofs.Membership.{Contains-cases, Contains-none}

-- the port that leads to a node
abbrev pub port : List ℕ → ℕ → ℕ
port near a = position_or_len (λ w. eqb w a) near

-- the labels in order, and d where they don't suffice
abbrev pub filled : ℕ → List ℕ → List ℕ → List ℕ
filled d rest [] = []
filled d [] (w ∷ near) = d ∷ filled d [] near
filled d (z ∷ rest) (w ∷ near) = z ∷ filled d rest near

abbrev pub first : ℕ → List ℕ → ℕ
first d [] = d
first d (z ∷ rest) = z

abbrev pub later : List ℕ → List ℕ
later [] = []
later (z ∷ rest) = rest

-- x at the port to a, and the others in order
abbrev pub one_given : ℕ → ℕ → ℕ → List ℕ → List ℕ → List ℕ
one_given d a x rest [] = []
one_given d a x rest (w ∷ near) = cond (eqb w a) (x ∷ filled d rest near) (first d rest ∷ one_given d a x (later rest) near)

-- x at the port to a, y at the one to b, and the others in order
abbrev pub two_given : ℕ → ℕ → ℕ → ℕ → ℕ → List ℕ → List ℕ → List ℕ
two_given d a b x y rest [] = []
two_given d a b x y rest (w ∷ near) =
    cond (eqb w a) (x ∷ one_given d b y rest near) (cond (eqb w b) (y ∷ one_given d a x rest near) (first d rest ∷ two_given d a b x y (later rest) near))

-- ---- how many
length-filled : (d : ℕ) (rest near : List ℕ) → length (filled d rest near) ≡ length near
length-filled d rest [] = refl
length-filled d [] (w ∷ near) = ap suc (length-filled d [] near)
length-filled d (z ∷ rest) (w ∷ near) = ap suc (length-filled d rest near)

pub length-one_given : (d a x : ℕ) (rest near : List ℕ) → length (one_given d a x rest near) ≡ length near
length-one_given d a x rest [] = refl
length-one_given d a x rest (w ∷ near) =
    cond_both (eqb w a) (x ∷ filled d rest near) (first d rest ∷ one_given d a x (later rest) near) (λ labels. length labels ≡ suc (length near))
    (λ e. ap suc (length-filled d rest near)) (λ e. ap suc (length-one_given d a x (later rest) near))

pub length-two_given : (d a b x y : ℕ) (rest near : List ℕ) → length (two_given d a b x y rest near) ≡ length near
length-two_given d a b x y rest [] = refl
length-two_given d a b x y rest (w ∷ near) =
    cond_both (eqb w a) (x ∷ one_given d b y rest near) (cond (eqb w b) (y ∷ one_given d a x rest near) (first d rest ∷ two_given d a b x y (later rest) near))
    (λ labels. length labels ≡ suc (length near)) (λ e. ap suc (length-one_given d b y rest near)) (λ e.
    cond_both (eqb w b) (y ∷ one_given d a x rest near) (first d rest ∷ two_given d a b x y (later rest) near) (λ labels. length labels ≡ suc (length near))
    (λ e. ap suc (length-one_given d a x rest near)) (λ e. ap suc (length-two_given d a b x y (later rest) near)))

-- ---- where all are of one sort
module _ (P : ℕ → Type 0) (d : ℕ) (at_d : P d) where
  first_all : (rest : List ℕ) → AllByRecursion P rest → P (first d rest)
  first_all [] all = at_d
  first_all (z ∷ rest) all = all.0

  later_all : (rest : List ℕ) → AllByRecursion P rest → AllByRecursion P (later rest)
  later_all [] all = tt
  later_all (z ∷ rest) all = all.1

  filled_all : (rest near : List ℕ) → AllByRecursion P rest → AllByRecursion P (filled d rest near)
  filled_all rest [] all = tt
  filled_all [] (w ∷ near) all = (at_d, filled_all [] near tt)
  filled_all (z ∷ rest) (w ∷ near) all = (all.0, filled_all rest near all.1)

  pub one_given_all : (a x : ℕ) (rest near : List ℕ) → P x → AllByRecursion P rest → AllByRecursion P (one_given d a x rest near)
  one_given_all a x rest [] at_x all = tt
  one_given_all a x rest (w ∷ near) at_x all =
      cond_both (eqb w a) (x ∷ filled d rest near) (first d rest ∷ one_given d a x (later rest) near) (AllByRecursion P)
      (λ e. (at_x, filled_all rest near all)) (λ e. (first_all rest all, one_given_all a x (later rest) near at_x (later_all rest all)))

  pub two_given_all : (a b x y : ℕ) (rest near : List ℕ) → P x → P y → AllByRecursion P rest → AllByRecursion P (two_given d a b x y rest near)
  two_given_all a b x y rest [] at_x at_y all = tt
  two_given_all a b x y rest (w ∷ near) at_x at_y all =
      cond_both (eqb w a) (x ∷ one_given d b y rest near) (cond (eqb w b) (y ∷ one_given d a x rest near) (first d rest ∷ two_given d a b x y (later rest) near))
      (AllByRecursion P) (λ e. (at_x, one_given_all b y rest near at_y all)) (λ e.
      cond_both (eqb w b) (y ∷ one_given d a x rest near) (first d rest ∷ two_given d a b x y (later rest) near) (AllByRecursion P)
      (λ e. (at_y, one_given_all a x rest near at_x all)) (λ e. (first_all rest all, two_given_all a b x y (later rest) near at_x at_y (later_all rest all))))

-- ---- they are those to be placed, where they suffice
filled_whole : (d : ℕ) (rest near : List ℕ) → length near ≡ length rest → filled d rest near ≡ rest
filled_whole d [] [] count = refl
filled_whole d (z ∷ rest) [] count = absurd (omega arith)
filled_whole d [] (w ∷ near) count = absurd (omega arith)
filled_whole d (z ∷ rest) (w ∷ near) count = ap (λ labels. z ∷ labels) (filled_whole d rest near (omega arith))

-- the node is a, or stands behind
behind : (w a : ℕ) (near : List ℕ) → Contains (w ∷ near) a → eqb w a ≡ false → Contains near a
behind w a near held apart = elim (Contains-cases a w near held) [ inl e ↦ absurd (eqb-false w a apart (sym e)) | inr there ↦ there ]

some_left : (a : ℕ) (near : List ℕ) → Contains near a → 0 < length near
some_left a near (k, low, is) = omega arith

pub one_given_is : (d a x : ℕ) (rest near : List ℕ) → Contains near a → length near ≡ suc (length rest)
    → Rearranged (x ∷ rest) (one_given d a x rest near)
one_given_is d a x rest [] held count = absurd (Contains-none a held)
one_given_is d a x rest (w ∷ near) held count =
    cond_both (eqb w a) (x ∷ filled d rest near) (first d rest ∷ one_given d a x (later rest) near) (Rearranged (x ∷ rest))
    (λ e. subst (λ labels. Rearranged (x ∷ rest) (x ∷ labels)) (sym (filled_whole d rest near (omega arith))) (Rearranged-refl (x ∷ rest)))
    (λ e. let there : Contains near a = behind w a near held e in go rest count there (λ zs c. one_given_is d a x zs near there c))
  where
    go : (rest : List ℕ) → suc (length near) ≡ suc (length rest) → Contains near a
        → ((zs : List ℕ) → length near ≡ suc (length zs) → Rearranged (x ∷ zs) (one_given d a x zs near))
        → Rearranged (x ∷ rest) (first d rest ∷ one_given d a x (later rest) near)
    go [] count there less = let some = some_left a near there in absurd (omega (arith, some))
    go (z ∷ rest) count there less = chained swapped (kept (less rest (omega arith)))

-- two nodes take two ports
two_apart : (a b : ℕ) (near : List ℕ) → Contains near a → Contains near b → (a ≡ b → ⊥) → 1 < length near
two_apart a b [] at_a at_b apart = absurd (Contains-none a at_a)
two_apart a b (w ∷ []) at_a at_b apart = elim (Contains-cases a w [] at_a) [
  | inl e ↦ elim (Contains-cases b w [] at_b) [ inl f ↦ absurd (apart (e ∙ sym f)) | inr none ↦ absurd (Contains-none b none) ]
  | inr none ↦ absurd (Contains-none a none)
]
two_apart a b (w ∷ v ∷ near) at_a at_b apart = omega arith

pub two_given_is : (d a b x y : ℕ) (rest near : List ℕ) → Contains near a → Contains near b → (a ≡ b → ⊥) → length near ≡ suc (suc (length rest))
    → Rearranged (x ∷ y ∷ rest) (two_given d a b x y rest near)
two_given_is d a b x y rest [] at_a at_b apart count = absurd (Contains-none a at_a)
two_given_is d a b x y rest (w ∷ near) at_a at_b apart count =
    cond_both (eqb w a) (x ∷ one_given d b y rest near) (cond (eqb w b) (y ∷ one_given d a x rest near) (first d rest ∷ two_given d a b x y (later rest) near))
    (Rearranged (x ∷ y ∷ rest))
    (λ e. kept (one_given_is d b y rest near (behind w b near at_b (ne_eqb w b (λ f. apart (sym (eqb-true w a e) ∙ f)))) (omega arith)))
    (λ e. let there : Contains near a = behind w a near at_a e in
    cond_both (eqb w b) (y ∷ one_given d a x rest near) (first d rest ∷ two_given d a b x y (later rest) near) (Rearranged (x ∷ y ∷ rest))
    (λ f. chained swapped (kept (one_given_is d a x rest near there (omega arith))))
    (λ f. let also : Contains near b = behind w b near at_b f in go rest count there also (λ zs c. two_given_is d a b x y zs near there also apart c)))
  where
    go : (rest : List ℕ) → suc (length near) ≡ suc (suc (length rest)) → Contains near a → Contains near b
        → ((zs : List ℕ) → length near ≡ suc (suc (length zs)) → Rearranged (x ∷ y ∷ zs) (two_given d a b x y zs near))
        → Rearranged (x ∷ y ∷ rest) (first d rest ∷ two_given d a b x y (later rest) near)
    go [] count there also less = let more = two_apart a b near there also apart in absurd (omega (arith, more))
    go (z ∷ rest) count there also less = chained (kept swapped) (chained swapped (kept (less rest (omega arith))))

-- ---- they stand where they were given
later_at : (z n : ℕ) (labels : List ℕ) → get_or (z ∷ labels) (1 + n) 0 ≡ get_or labels n 0
later_at z n labels = let e : suc n ≡ 1 + n = omega arith in subst (λ k. get_or (z ∷ labels) k 0 ≡ get_or labels n 0) e refl

pub one_given_at : (d a x : ℕ) (rest near : List ℕ) → Contains near a → get_or (one_given d a x rest near) (port near a) 0 ≡ x
one_given_at d a x rest [] held = absurd (Contains-none a held)
one_given_at d a x rest (w ∷ near) held = elim (cases_Bool (eqb w a)) [
  | inl e ↦ rw e refl
  | inr e ↦ rw e (later_at (first d rest) (port near a) (one_given d a x (later rest) near) ∙ one_given_at d a x (later rest) near (behind w a near held e))
]

pub two_given_first : (d a b x y : ℕ) (rest near : List ℕ) → Contains near a → get_or (two_given d a b x y rest near) (port near a) 0 ≡ x
two_given_first d a b x y rest [] held = absurd (Contains-none a held)
two_given_first d a b x y rest (w ∷ near) held = elim (cases_Bool (eqb w a)) [
  | inl e ↦ rw e refl
  | inr e ↦ elim (cases_Bool (eqb w b)) [
    | inl f ↦ rw (e, f) (later_at y (port near a) (one_given d a x rest near) ∙ one_given_at d a x rest near (behind w a near held e))
    | inr f ↦ rw (e, f) (later_at (first d rest) (port near a) (two_given d a b x y (later rest) near) ∙ two_given_first d a b x y (later rest) near (behind w a near held e))
  ]
]

pub two_given_second : (d a b x y : ℕ) (rest near : List ℕ) → Contains near b → (a ≡ b → ⊥) → get_or (two_given d a b x y rest near) (port near b) 0 ≡ y
two_given_second d a b x y rest [] held apart = absurd (Contains-none b held)
two_given_second d a b x y rest (w ∷ near) held apart = elim (cases_Bool (eqb w a)) [
  | inl e ↦ let f : eqb w b ≡ false = ne_eqb w b (λ g. apart (sym (eqb-true w a e) ∙ g)) in
      rw (e, f) (later_at x (port near b) (one_given d b y rest near) ∙ one_given_at d b y rest near (behind w b near held f))
  | inr e ↦ elim (cases_Bool (eqb w b)) [
    | inl f ↦ rw (e, f) refl
    | inr f ↦ rw (e, f) (later_at (first d rest) (port near b) (two_given d a b x y (later rest) near) ∙ two_given_second d a b x y (later rest) near (behind w b near held f) apart)
  ]
]
