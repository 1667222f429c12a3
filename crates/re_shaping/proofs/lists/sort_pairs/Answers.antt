use Rattle.std.proofs.Common.{ℕ, rules}
use Rattle.std.proofs.lemmas.List.Sorted.{answers_always, ranks_by}
use Rattle.std.specs.Cmp.{nat_cmp_total}
use Rattle.re_shaping.proofs.StableSorts.{sorted_in_order}
use Rattle.re_shaping.specs.Tidied.{pair_before}
use Rattle.re_shaping.proofs.lists.sort_pairs.Goals as goal

pub returns : goal.returns
returns c =
    sorted_in_order pair_before (ranks_by nat_cmp_total (λ (pair : ℕ × ℕ). pair.0)) _ _ (c.in_ok-sort_by_key.ensures.sorted (λ pair. pair.0) (answers_always _ _ _ (λ f a r g h. search rules)))
    (c.sort_by_key.ensures.stable (λ pair. pair.0) (answers_always _ _ _ (λ f a r g h. search rules)))
