-- The sets around a view, and the choice from them.
use Rattle.std.proofs.Common.{◌≡◌, ℕ, get_or, ◌<◌, ◌+◌, List, [], length, map, ap, ◌∙◌, arith, Option, Some}
use Rattle.std.specs.Prelude.{unwrap_or}
use Rattle.std.proofs.lemmas.List.{get_or-map, length-map}
use Rattle.re_labels.specs.Rows.{set_at}
use Rattle.re_labels.proofs.Membership.{get_or-count_from, length-count_from}
use Rattle.re_labels.specs.Lists.{count_from}
use Rattle.re_laws.proofs.Ports.{length-ports}
use Rattle.re_laws.specs.Algorithms.{Plain}
use Rattle.re_algo.specs.Tables.{AnswerTable}
use Rattle.re_algo.specs.Choosing.{label_over, sets_around}

pub sets_around-at : (sets : List (List ℕ)) (d : ℕ) (table : AnswerTable) (v : Plain) (i : ℕ) → i < d → get_or (sets_around sets d table v) i [] ≡ set_at sets (label_over table v (i + 1))
sets_around-at sets d table v i below =
    let port : get_or (count_from 1 d) i 0 ≡ i + 1 = get_or-count_from 1 d i 0 below ∙ omega arith in
    get_or-map (set_at sets) (map (label_over table v) (count_from 1 d)) i 0 [] (omega (arith, length-ports (label_over table v) 1 d))
    ∙ ap (set_at sets) (get_or-map (label_over table v) (count_from 1 d) i 0 0 (omega (arith, length-count_from 1 d)) ∙ ap (label_over table v) port)

pub length-sets_around : (sets : List (List ℕ)) (d : ℕ) (table : AnswerTable) (v : Plain) → length (sets_around sets d table v) ≡ d
length-sets_around sets d table v = length-map (map (label_over table v) (count_from 1 d)) (set_at sets) ∙ length-ports (label_over table v) 1 d

pub some_of : (x : List ℕ) (o : Option (List ℕ)) → Some x ≡ o → x ≡ unwrap_or o []
some_of x o e = ap (λ o. unwrap_or o []) e
