-- Texts that are put together piece by piece.
use Rattle.std.proofs.Common.{◌≡◌, ℕ, List, ◌++◌, append_assoc, sym, ap, ◌∙◌}

pub joined : (old more new front count end : List ℕ) → old ≡ front → more ≡ count ++ end → new ≡ old ++ more → new ≡ (front ++ count) ++ end
joined old more new front count end o m n = n ∙ ap (λ l. l ++ more) o ∙ ap (λ l. front ++ l) m ∙ sym (append_assoc front count end)
