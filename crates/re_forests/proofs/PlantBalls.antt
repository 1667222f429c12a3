-- No walk in a network that shows a whole named tree comes to a name twice.
use Rattle.std.proofs.Common.{◌≡◌, ℕ, zero, suc, pred, ◌+◌, ◌≤◌, Bool, not, cond, List, [], ◌∷◌, ◌++◌, refl, sym, ◌∙◌, ap, ap₂, subst, arith}
use Rattle.std.specs.Prelude.{◌==◌, filter, flat_map}
use Rattle.std.proofs.lemmas.Bool.{eq-eqb, ne_eqb}
use Rattle.re_forests.proofs.Counting.{is_at, is_at-same, often, often-append, often-contains}
use Rattle.re_forests.proofs.Moving.{Behind, Rooted}
use Rattle.re_forests.proofs.NamedTrees.{IsNode, insert, occurs, often-payloads}
use Rattle.re_forests.proofs.Plants.{IsPlant, Shaped}
use Rattle.re_layers.specs.Networks.{AreDifferent, Network, ball, branch, others}
use Rattle.re_given.specs.InputViews.{payloads}
use Rattle.re_laws.specs.Trees.{Tree, end, leaf, more}

-- the names of the nodes of at most k hops from the root, but the root
abbrev pub to_depth : ℕ → Tree ℕ → List ℕ
to_depth zero t = []
to_depth (suc k) leaf = []
to_depth (suc k) end = []
to_depth (suc k) (more back name branch rest) = (name ∷ to_depth k branch) ++ to_depth (suc k) rest

often-to_depth : (n k : ℕ) (t : Tree ℕ) → often n (to_depth k t) ≤ occurs n t
often-to_depth n zero t = omega arith
often-to_depth n (suc k) leaf = omega arith
often-to_depth n (suc k) end = omega arith
often-to_depth n (suc k) (more back name branch rest) =
    let here = often-to_depth n k branch in
    let there = often-to_depth n (suc k) rest in
    let both = often-append n (name ∷ to_depth k branch) (to_depth (suc k) rest) in
    omega arith

-- no leaf
abbrev pub IsWhole : Tree ℕ → Type 0
IsWhole leaf = ⊥
IsWhole end = Unit {0}
IsWhole (more back name branch rest) = IsWhole branch × IsWhole rest

IsWhole-node : (t : Tree ℕ) → IsWhole t → IsNode t
IsWhole-node leaf h = h
IsWhole-node end h = tt
IsWhole-node (more back name branch rest) h = tt

Shaped-whole : (a p M : ℕ) (G : Network) (act : Bool) (t : Tree ℕ) → Shaped a p M G act t → IsWhole t
Shaped-whole a p M G act leaf h = h
Shaped-whole a p M G act end h = tt
Shaped-whole a p M G act (more back name branch rest) h = (Shaped-whole a p M G (not act) branch h.3, Shaped-whole a p M G act rest h.4)

-- what stands nowhere in a list passes as a whole
filter-absent : (q : ℕ) (xs : List ℕ) → often q xs ≡ 0 → filter (λ w. not (w == q)) xs ≡ xs
filter-absent q [] h = refl
filter-absent q (x ∷ xs) h =
    let other : x ≡ q → ⊥ = λ e. (let one = is_at-same q x (sym e) in omega arith) in
    ap₂ (λ b ys. cond (not b) (x ∷ ys) ys) (ne_eqb x q other) (filter-absent q xs (omega arith))

filter-insert : (k q : ℕ) (xs : List ℕ) → often q xs ≡ 0 → filter (λ w. not (w == q)) (insert k q xs) ≡ xs
filter-insert zero q xs h = ap₂ (λ b ys. cond (not b) (q ∷ ys) ys) (eq-eqb q q refl) (filter-absent q xs h)
filter-insert (suc k) q [] h = ap (λ b. cond (not b) (q ∷ []) []) (eq-eqb q q refl)
filter-insert (suc k) q (x ∷ xs) h =
    let other : x ≡ q → ⊥ = λ e. (let one = is_at-same q x (sym e) in omega arith) in
    ap₂ (λ b ys. cond (not b) (x ∷ ys) ys) (ne_eqb x q other) (filter-insert k q xs (omega arith))

AreDifferent-often : (xs : List ℕ) → ((n : ℕ) → often n xs ≤ 1) → AreDifferent xs
AreDifferent-often [] h = tt
AreDifferent-often (x ∷ xs) h = (
  λ held. (let one = is_at-same x x refl in let two = often-contains x xs held in let most = h x in omega arith),
  AreDifferent-often xs (λ n. let most = h n in omega arith),
)

module _ (G : Network) where
  -- walks of k hops from each child
  walks_behind : (k q : ℕ) (t : Tree ℕ)
      → ((back m : ℕ) (sub : Tree ℕ) → IsWhole sub → (IsNode sub → G.near m ≡ insert (pred back) q (payloads sub)) → Behind G m sub → ((n : ℕ) → is_at n q + (is_at n m + occurs n sub) ≤ 1)
      → branch G k q m ≡ m ∷ to_depth k sub)
      → IsWhole t → Behind G q t → ((n : ℕ) → is_at n q + occurs n t ≤ 1) → flat_map (λ w. branch G k q w) (payloads t) ≡ to_depth (suc k) t
  walks_behind k q leaf each whole h apart = absurd whole
  walks_behind k q end each whole h apart = refl
  walks_behind k q (more back name sub rest) each whole h apart =
      ap₂ (λ xs ys. xs ++ ys) (each back name sub whole.0 h.0 h.1 (λ n. let most = apart n in omega arith))
      (walks_behind k q rest each whole.1 h.2 (λ n. let most = apart n in omega arith))

  branch_is : (k q back m : ℕ) (sub : Tree ℕ) → IsWhole sub → (IsNode sub → G.near m ≡ insert (pred back) q (payloads sub)) → Behind G m sub → ((n : ℕ) → is_at n q + (is_at n m + occurs n sub) ≤ 1)
      → branch G k q m ≡ m ∷ to_depth k sub
  branch_is zero q back m sub whole knows h apart = refl
  branch_is (suc k) q back m sub whole knows h apart =
      let none : often q (payloads sub) ≡ 0 = (let one = is_at-same q q refl in let most = apart q in let fewer = often-payloads q sub in omega arith) in
      let kept : others G q m ≡ payloads sub = ap (filter (λ w. not (w == q))) (knows (IsWhole-node sub whole)) ∙ filter-insert (pred back) q (payloads sub) none in
      ap (λ xs. m ∷ xs) (ap (flat_map (λ w. branch G k m w)) kept ∙ walks_behind k m sub (λ back' m' sub'. branch_is k m back' m' sub') whole h (λ n. let most = apart n in omega arith))

  ball_is : (k r : ℕ) (t : Tree ℕ) → IsWhole t → Rooted G r t → ((n : ℕ) → is_at n r + occurs n t ≤ 1) → ball G k r ≡ r ∷ to_depth k t
  ball_is zero r t whole h apart = refl
  ball_is (suc k) r t whole h apart =
      ap (λ xs. r ∷ xs) (ap (flat_map (λ w. branch G k r w)) h.near ∙ walks_behind k r t (λ back m sub. branch_is k r back m sub) whole h.behind apart)

  pub different_ball : (a p M : ℕ) (act : Bool) (r : ℕ) (t : Tree ℕ) → IsPlant a p M G act r t → (k : ℕ) → AreDifferent (ball G k r)
  different_ball a p M act r t plant k =
      subst AreDifferent (sym (ball_is k r t (Shaped-whole a p M G act t plant.shaped) plant.rooted plant.apart))
      (AreDifferent-often (r ∷ to_depth k t) (λ n. let most = plant.apart n in let fewer = often-to_depth n k t in omega arith))
