-- Walks over lists.
use Rattle.std.proofs.Common.{◌≡◌, ℕ, ◌+◌, ◌<◌, ◌≤◌, true, false, List, length, get_or, refl, ◌∙◌, subst, arith}
use Rattle.std.specs.Prelude.{Contains, IsTrue, ◌↔◌}
use Rattle.std.proofs.lemmas.Bool.{false≢true}
use borrow.Author.Count.{below_more}
use Rattle.re_labels.proofs.RowCalls.{read_within}

pub never : {P : Type 0} → (P → ⊥) → IsTrue false ↔ P
never lacks = ((λ t. absurd (false≢true t)), (λ p. absurd (lacks p)))

pub always : {P : Type 0} → P → IsTrue true ↔ P
always p = ((λ t. p), (λ q. refl))

-- one more element is looked at
pub one_more : {X : Type 0} (d : X) (P : X → Type 0) (xs : List X) (i : ℕ) (x : X) → i < length xs → x ≡ get_or xs i x → ((k : ℕ) → k < i → P (get_or xs k d)) → P x → (k : ℕ) → k < i + 1 → P (get_or xs k d)
one_more d P xs i x inside is before here = below_more (λ k. P (get_or xs k d)) i before (subst P (is ∙ read_within xs i x d inside) here)

-- the whole list was looked at
pub all_walked : {X : Type 0} (d : X) (P : X → Type 0) (xs : List X) (i : ℕ) → length xs ≤ i → ((k : ℕ) → k < i → P (get_or xs k d)) → (x : X) → Contains xs x → P x
all_walked d P xs i past h x (k, within, is) = subst P (read_within xs k d x within ∙ is) (h k (omega (arith, within, past)))
