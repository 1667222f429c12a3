use Rattle.std.proofs.Common.{◌≡◌, ◌++◌, ◌∷◌, map, take}
use Rattle.std.specs.Prelude.{flat_map}
use Rattle.re_texts.specs.SetTexts.{named_text}
use Rattle.re_words.proofs.running.push_labels.Given as goal

abbrev pub invariant-loop-label : goal.invariant-loop-label
invariant-loop-label l = l.text.items ≡ l.initial.text.items ++ flat_map (λ next. 32 ∷ next) (map (named_text l.names) (take l.label-index l.others))
