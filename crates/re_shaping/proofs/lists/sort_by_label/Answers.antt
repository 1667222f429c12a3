use Rattle.std.proofs.Common.{rules}
use Rattle.std.proofs.lemmas.List.Sorted.{answers_always, ranks_by}
use Rattle.std.specs.Cmp.{nat_cmp_total}
use Rattle.re_problem.specs.Steps.{SetEntry}
use Rattle.re_shaping.proofs.StableSorts.{sorted_in_order}
use Rattle.re_shaping.specs.Tidied.{label_before}
use Rattle.re_shaping.proofs.lists.sort_by_label.Goals as goal

pub returns : goal.returns
returns c =
    sorted_in_order label_before (ranks_by nat_cmp_total (λ (entry : SetEntry). entry.label)) _ _ (c.in_ok-sort_by_key.ensures.sorted (λ entry. entry.label) (answers_always _ _ _ (λ f a r g h. search rules)))
    (c.sort_by_key.ensures.stable (λ entry. entry.label) (answers_always _ _ _ (λ f a r g h. search rules)))
