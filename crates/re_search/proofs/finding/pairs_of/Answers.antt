use Rattle.std.proofs.Common.{◌≡◌, ℕ, ◌+◌, ◌<◌, ◌≤◌, ◌++◌, ◌∷◌, [], List, zero, suc, length, take, get_or, refl, sym, ap, ◌∙◌, arith}
use Rattle.std.proofs.lemmas.List.{take_more}
use Rattle.re_search.specs.Paths.{pairs_of}
use Rattle.re_search.proofs.finding.pairs_of.Goals as goal

pairs-more : (label : ℕ) (images : List ℕ) (image : ℕ) → pairs_of label (images ++ image ∷ []) ≡ pairs_of label images ++ (label + length images, image) ∷ []
pairs-more label [] image = let same : label ≡ label + 0 = omega arith in ap (λ n. (n, image) ∷ []) same
pairs-more label (x ∷ images) image =
    let same : suc label + length images ≡ label + suc (length images) = omega arith in
    ap (λ l. (label, x) ∷ l) (pairs-more (suc label) images image ∙ ap (λ n. pairs_of (suc label) images ++ (n, image) ∷ []) same)

length-taken : (k : ℕ) (images : List ℕ) → k ≤ length images → length (take k images) ≡ k
length-taken zero images l = refl
length-taken (suc k) [] l = absurd (omega arith)
length-taken (suc k) (x ∷ images) l = ap suc (length-taken k images (omega arith))

pairs_more : (images : List ℕ) (k image : ℕ) (held after : List (ℕ × ℕ)) → k < length images → image ≡ get_or images k 0 → held ≡ pairs_of 0 (take k images) → after ≡ held ++ (k, image) ∷ [] → after ≡ pairs_of 0 (take (k + 1) images)
pairs_more images k image held after l at so_far push =
    let same : 0 + length (take k images) ≡ k = (let e = length-taken k images (omega arith) in omega arith) in
    push ∙ ap (λ h. h ++ (k, image) ∷ []) so_far ∙ ap (λ n. pairs_of 0 (take k images) ++ (n, image) ∷ []) (sym same) ∙ sym (pairs-more 0 (take k images) image) ∙ ap (pairs_of 0) (ap (λ x. take k images ++ x ∷ []) at ∙ sym (take_more images k 0 l))

pub loop-label-preserved : goal.loop-label-preserved
loop-label-preserved c = pairs_more c.args.images.now c.loop-label.label (get_or c.args.images.now c.loop-label.label 0) c.loop-label.pairs.items c.push.new.self.items c.loop-label-test.true refl c.loop-label.invariant c.in_ok-push.ensures.items
