-- Texts that grow piece by piece.
use Rattle.std.proofs.Common.{◌≡◌, ℕ, List, ◌++◌, refl, ap, ◌∙◌, append_assoc}
use Rattle.std.specs.Prelude.{Err, Ok, OnOk, Result}

-- two pieces at once
pub first2 : (t0 t1 a b : List ℕ) → t1 ≡ (t0 ++ a) ++ b → t1 ≡ t0 ++ (a ++ b)
first2 t0 t1 a b e = e ∙ append_assoc t0 a b

-- one piece more
pub then : (t0 t1 t2 a b : List ℕ) → t1 ≡ t0 ++ a → t2 ≡ t1 ++ b → t2 ≡ t0 ++ (a ++ b)
then t0 t1 t2 a b e f = f ∙ ap (λ t. t ++ b) e ∙ append_assoc t0 a b

pub then_ok : {T E : Type 0} (r : Result T E) (t0 t1 t2 a b : List ℕ) → t1 ≡ t0 ++ a → OnOk r (t2 ≡ t1 ++ b) → OnOk r (t2 ≡ t0 ++ (a ++ b))
then_ok (Ok x) t0 t1 t2 a b e f = then t0 t1 t2 a b e f
then_ok (Err x) t0 t1 t2 a b e f = f

-- two pieces more
pub then2_ok : {T E : Type 0} (r : Result T E) (t0 t1 t2 a b c : List ℕ) → t1 ≡ t0 ++ a → OnOk r (t2 ≡ (t1 ++ b) ++ c) → OnOk r (t2 ≡ t0 ++ ((a ++ b) ++ c))
then2_ok (Ok x) t0 t1 t2 a b c e f = then t0 (t1 ++ b) t2 (a ++ b) c (then t0 t1 (t1 ++ b) a b e refl) f
then2_ok (Err x) t0 t1 t2 a b c e f = f
