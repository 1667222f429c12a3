-- Views of the nodes of any graph with ports, infinite ones too: that of a neighbour is the view as it is seen there.
use Rattle.std.proofs.Common.{◌≡◌, ℕ, zero, suc, pred, ◌+◌, ◌≤◌, ◌<◌, Bool, true, false, not, Some, refl, sym, ◌∙◌, ap, subst, arith}
use Rattle.std.specs.Prelude.{if◌then◌else◌}
use Rattle.std.proofs.Math.Bool.{not-not}
use Rattle.re_laws.proofs.ViewLaws.{others-cut, put-others, shift-at}
use Rattle.re_laws.specs.Trees.{Child, IsTree, IsView, Tree, child_at, cut, end, leaf, more, others, shift}
use Rattle.re_given.proofs.LabelledViews.{others-shown}

-- a graph: the kinds and colours of its nodes, how many ports each kind has, and for each port, from 0 on, the neighbour and the number of its port to here
pub record Ported (X E : Type 0) : Type 0 where
  pub active : X → Bool
  pub colour : X → E
  pub degree : Bool → ℕ
  pub next : X → ℕ → X
  pub back : X → ℕ → ℕ

-- good nodes have good neighbours of the other kind at all ports, over the ports of which they stand themselves
pub record IsPorted {X E : Type 0} (P : Ported X E) (good : X → Type 0) : Type 0 where
  pub stays : (x : X) (k : ℕ) → good x → k < P.degree (P.active x) → good (P.next x k)
  pub turns : (x : X) (k : ℕ) → good x → k < P.degree (P.active x) → P.active (P.next x k) ≡ not (P.active x)
  pub within : (x : X) (k : ℕ) → good x → k < P.degree (P.active x) → P.back x k < P.degree (not (P.active x))
  pub there : (x : X) (k : ℕ) → good x → k < P.degree (P.active x) → P.next (P.next x k) (P.back x k) ≡ x
  pub same : (x : X) (k : ℕ) → good x → k < P.degree (P.active x) → P.back (P.next x k) (P.back x k) ≡ k

-- the colour of the active end of an edge
abbrev pub payload : {X E : Type 0} → Ported X E → X → ℕ → E
payload P x k = if P.active x then P.colour x else P.colour (P.next x k)

-- what x shows at a port, where its neighbours show these trees
abbrev pub child : {X E : Type 0} → Ported X E → (X → Tree E) → X → ℕ → Child E
child P trees x k = record { back = suc (P.back x k); payload = payload P x k; branch = others (P.back x k) (trees (P.next x k)) }

-- the children at n ports from k on
abbrev pub row : {X E : Type 0} → Ported X E → (X → Tree E) → X → ℕ → ℕ → Tree E
row P trees x k zero = end
row P trees x k (suc n) = more (suc (P.back x k)) (payload P x k) (others (P.back x k) (trees (P.next x k))) (row P trees x (suc k) n)

-- the view of radius t
abbrev pub view : {X E : Type 0} → Ported X E → ℕ → X → Tree E
view P zero x = leaf
view P (suc t) x = row P (λ y. view P t y) x 0 (P.degree (P.active x))

child_at-row : {X E : Type 0} (P : Ported X E) (trees : X → Tree E) (x : X) (k n i j : ℕ) → i < n → j ≡ k + i → child_at i (row P trees x k n) ≡ Some (child P trees x j)
child_at-row P trees x k zero i j l e = absurd (omega arith)
child_at-row P trees x k (suc n) zero j l e = let f : k ≡ j = omega arith in ap (λ m. Some (child P trees x m)) f
child_at-row P trees x k (suc n) (suc i) j l e = child_at-row P trees x (suc k) n i j (omega arith) (omega arith)

-- what the view has at a port
pub child_at-view : {X E : Type 0} (P : Ported X E) (t : ℕ) (x : X) (k : ℕ) → k < P.degree (P.active x) → child_at k (view P (suc t) x) ≡ Some (child P (λ y. view P t y) x k)
child_at-view P t x k l = child_at-row P (λ y. view P t y) x 0 (P.degree (P.active x)) k k l (omega arith)

-- a view cut is the view of the smaller radius
cut-row : {X E : Type 0} (P : Ported X E) (t : ℕ) (f g : X → Tree E) → ((y : X) → cut t (f y) ≡ g y) → (x : X) (k n : ℕ) → cut (suc t) (row P f x k n) ≡ row P g x k n
cut-row P t f g each x k zero = refl
cut-row {X} {E} P t f g each x k (suc n) =
    let here : cut t (others (P.back x k) (f (P.next x k))) ≡ others (P.back x k) (g (P.next x k)) = by t (P.next x k) (each (P.next x k)) in
    let rest : cut (suc t) (row P f x (suc k) n) ≡ row P g x (suc k) n = cut-row P t f g each x (suc k) n in
    cc
  where
    by : (t : ℕ) (y : X) → cut t (f y) ≡ g y → cut t (others (P.back x k) (f y)) ≡ others (P.back x k) (g y)
    by zero y e = ap (others (P.back x k)) e
    by (suc t) y e = sym (others-cut t (P.back x k) (f y)) ∙ ap (others (P.back x k)) e

pub cut-view : {X E : Type 0} (P : Ported X E) (t r : ℕ) (x : X) → t ≤ r → cut t (view P r x) ≡ view P t x
cut-view P zero r x l = refl
cut-view P (suc t) zero x l = absurd (omega arith)
cut-view P (suc t) (suc r) x l = cut-row P t (λ y. view P r y) (λ y. view P t y) (λ y. cut-view P t r y (omega arith)) x 0 (P.degree (P.active x))

IsTree-row : {X E : Type 0} (P : Ported X E) (good : X → Type 0) → IsPorted P good → (t : ℕ) (f : X → Tree E)
    → ((y : X) → good y → IsView (P.degree (P.active y)) (P.degree (not (P.active y))) t (f y))
    → (x : X) → good x → (k n : ℕ) → k + n ≤ P.degree (P.active x) → IsTree (P.degree (P.active x)) (P.degree (not (P.active x))) (suc t) n (row P f x k n)
IsTree-row P good is t f each x ok k zero l = tt
IsTree-row {X} {E} P good is t f each x ok k (suc n) l =
    let low : k < P.degree (P.active x) = omega arith in
    let turns : P.active (P.next x k) ≡ not (P.active x) = is.turns x k ok low in
    let less : P.back x k < P.degree (P.active (P.next x k)) = subst (λ b. P.back x k < P.degree b) (sym turns) (is.within x k ok low) in
    let tree : IsTree (P.degree (P.active (P.next x k))) (P.degree (not (P.active (P.next x k)))) t (pred (P.degree (P.active (P.next x k)))) (others (P.back x k) (f (P.next x k))) =
    others-shown (P.degree (P.active (P.next x k))) (P.degree (not (P.active (P.next x k)))) t (P.back x k) (f (P.next x k)) (each (P.next x k) (is.stays x k ok low)) less in (
      omega arith,
      is.within x k ok low,
      subst (λ b. IsTree (P.degree (not (P.active x))) (P.degree b) t (pred (P.degree (not (P.active x)))) (others (P.back x k) (f (P.next x k)))) (not-not (P.active x))
          (subst (λ b. IsTree (P.degree b) (P.degree (not b)) t (pred (P.degree b)) (others (P.back x k) (f (P.next x k)))) turns tree),
      IsTree-row P good is t f each x ok (suc k) n (omega arith),
    )

pub IsView-view : {X E : Type 0} (P : Ported X E) (good : X → Type 0) → IsPorted P good → (t : ℕ) (x : X) → good x
    → IsView (P.degree (P.active x)) (P.degree (not (P.active x))) t (view P t x)
IsView-view P good is zero x ok = tt
IsView-view P good is (suc t) x ok =
    IsTree-row P good is t (λ y. view P t y) (λ y fine. IsView-view P good is t y fine) x ok 0 (P.degree (P.active x)) (omega arith)

-- ---- the neighbour's view
pub payload-back : {X E : Type 0} (P : Ported X E) (good : X → Type 0) → IsPorted P good → (x : X) (k : ℕ) → good x → k < P.degree (P.active x)
    → payload P (P.next x k) (P.back x k) ≡ payload P x k
payload-back {X} {E} P good is x k ok low =
    by (P.active x) (P.active (P.next x k)) (P.colour x) (P.colour (P.next x k)) (P.colour (P.next (P.next x k) (P.back x k))) (is.turns x k ok low) (ap (λ (z : X). P.colour z) (is.there x k ok low))
  where
    by : (here there : Bool) (x y z : E) → there ≡ not here → z ≡ x → (if there then y else z) ≡ (if here then x else y)
    by true true x y z turns e = absurd (cc)
    by true false x y z turns e = e
    by false true x y z turns e = refl
    by false false x y z turns e = absurd (cc)

-- a child of these
abbrev pub shown : {E : Type 0} → ℕ → E → Tree E → Child E
shown back label branch = record { back = back; payload = label; branch = branch }

pub alike : {E : Type 0} (back back' : ℕ) (label label' : E) (branch branch' : Tree E) → back ≡ back' → label ≡ label' → branch ≡ branch'
    → shown back label branch ≡ shown back' label' branch'
alike back back' label label' branch branch' e f g = ap (λ b. shown b label branch) e ∙ ap (λ l. shown back' l branch) f ∙ ap (λ x. shown back' label' x) g

pub shift-view : {X E : Type 0} (P : Ported X E) (good : X → Type 0) → IsPorted P good → (t : ℕ) (x : X) (k : ℕ) → good x → k < P.degree (P.active x)
    → shift t (view P (suc t) x) (suc k) ≡ view P t (P.next x k)
shift-view P good is zero x k ok low = refl
shift-view {X} {E} P good is (suc t) x k ok low =
    let less : P.back x k < P.degree (P.active (P.next x k)) = subst (λ b. P.back x k < P.degree b) (sym (is.turns x k ok low)) (is.within x k ok low) in
    let at : child_at (P.back x k) (view P (suc t) (P.next x k)) ≡ Some here =
    child_at-view P t (P.next x k) (P.back x k) less ∙ ap (λ c. Some c) (alike (suc (P.back (P.next x k) (P.back x k))) (suc k)
    (payload P (P.next x k) (P.back x k)) (payload P x k)
    (others (P.back (P.next x k) (P.back x k)) (view P t (P.next (P.next x k) (P.back x k)))) (cut t (others k (view P (suc (suc t)) x)))
    (ap suc (is.same x k ok low)) (payload-back P good is x k ok low) (branch t)) in
    shift-at (suc t) (view P (suc (suc t)) x) (suc k) (child P (λ y. view P (suc t) y) x k) (child_at-view P (suc t) x k low)
    ∙ put-others (P.back x k) here (view P (suc t) (P.next x k)) at
  where
    here : Child E
    here = shown (suc k) (payload P x k) (cut t (others k (view P (suc (suc t)) x)))

    seen : (t : ℕ) → others k (view P t x) ≡ cut t (others k (view P (suc (suc t)) x))
    seen zero = refl
    seen (suc t) = ap (others k) (sym (cut-view P (suc t) (suc (suc (suc t))) x (omega arith))) ∙ others-cut t k (view P (suc (suc (suc t))) x)

    branch : (t : ℕ) → others (P.back (P.next x k) (P.back x k)) (view P t (P.next (P.next x k) (P.back x k))) ≡ cut t (others k (view P (suc (suc t)) x))
    branch t = rw (is.same x k ok low, is.there x k ok low) (seen t)

-- ---- views in two graphs
pub child-alike : {X E : Type 0} (P Q : Ported X E) (f g : X → Tree E) (x y : X) (k b : ℕ) → P.back x k ≡ b → Q.back x k ≡ b → P.next x k ≡ y → Q.next x k ≡ y
    → P.active x ≡ Q.active x → P.colour x ≡ Q.colour x → P.colour y ≡ Q.colour y → others b (f y) ≡ others b (g y) → child P f x k ≡ child Q g x k
child-alike {X} {E} P Q f g x y k b back back' next next' active colour far branch =
    from P f back next ∙ alike (suc b) (suc b) (if P.active x then P.colour x else P.colour y) (if Q.active x then Q.colour x else Q.colour y) (others b (f y)) (others b (g y))
    refl (rw (active, colour, far) refl) branch ∙ sym (from Q g back' next')
  where
    from : (P : Ported X E) (f : X → Tree E) → P.back x k ≡ b → P.next x k ≡ y
        → child P f x k ≡ shown (suc b) (if P.active x then P.colour x else P.colour y) (others b (f y))
    from P f back next =
        alike (suc (P.back x k)) (suc b) (payload P x k) (if P.active x then P.colour x else P.colour y) (others (P.back x k) (f (P.next x k))) (others b (f y))
        (ap suc back) (ap (λ (z : X). if P.active x then P.colour x else P.colour z) next) (ap (λ j. others j (f (P.next x k))) back ∙ ap (λ z. others b (f z)) next)

-- the same children in both give the same rows
row-alike : {X E : Type 0} (P Q : Ported X E) (f g : X → Tree E) (x : X) (k n : ℕ) → ((j : ℕ) → k ≤ j → child P f x j ≡ child Q g x j) → row P f x k n ≡ row Q g x k n
row-alike P Q f g x k zero each = refl
row-alike {X} {E} P Q f g x k (suc n) each =
    ap (λ (c : Child E). more c.back c.payload c.branch (row P f x (suc k) n)) (each k (omega arith))
    ∙ ap (more (suc (Q.back x k)) (payload Q x k) (others (Q.back x k) (g (Q.next x k)))) (row-alike P Q f g x (suc k) n (λ j l. each j (omega arith)))

-- the same children at all ports but the first give the same views but for the first
pub others-alike : {X E : Type 0} (P Q : Ported X E) (t : ℕ) (x : X) → P.degree (P.active x) ≡ Q.degree (Q.active x)
    → ((j : ℕ) → child P (λ y. view P t y) x (suc j) ≡ child Q (λ y. view Q t y) x (suc j)) → others 0 (view P (suc t) x) ≡ others 0 (view Q (suc t) x)
others-alike {X} {E} P Q t x same each = by (P.degree (P.active x)) (Q.degree (Q.active x)) same
  where
    later : (j : ℕ) → 1 ≤ j → child P (λ y. view P t y) x j ≡ child Q (λ y. view Q t y) x j
    later zero l = absurd (omega arith)
    later (suc j) l = each j

    by : (m n : ℕ) → m ≡ n → others 0 (row P (λ y. view P t y) x 0 m) ≡ others 0 (row Q (λ y. view Q t y) x 0 n)
    by zero zero e = refl
    by zero (suc n) e = absurd (omega arith)
    by (suc m) zero e = absurd (omega arith)
    by (suc m) (suc n) e = row-alike P Q (λ y. view P t y) (λ y. view Q t y) x 1 m later ∙ ap (row Q (λ y. view Q t y) x 1) (omega arith)

pub view-alike : {X E : Type 0} (P Q : Ported X E) (t : ℕ) (x : X) → P.degree (P.active x) ≡ Q.degree (Q.active x)
    → ((j : ℕ) → child P (λ y. view P t y) x j ≡ child Q (λ y. view Q t y) x j) → view P (suc t) x ≡ view Q (suc t) x
view-alike P Q t x same each =
    row-alike P Q (λ y. view P t y) (λ y. view Q t y) x 0 (P.degree (P.active x)) (λ j l. each j) ∙ ap (row Q (λ y. view Q t y) x 0) same
