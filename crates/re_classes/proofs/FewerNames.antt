-- With fewer identifiers an algorithm fails as rarely.
use Rattle.std.proofs.Common.{◌≡◌, ℕ, zero, suc, ◌+◌, ◌-◌, ◌*◌, ◌^◌, ◌≤◌, ◌<◌, Bool, not, inl, inr, List, [], ◌∷◌, length, filter, refl, sym, ◌∙◌, ap, subst, arith}
use Rattle.std.specs.Prelude.{Contains, map, replicate, slice_index}
use Rattle.std.proofs.Math.Nat.{mul-le-mul_right}
use Rattle.std.proofs.lemmas.Bool.{cases_lt}
use Rattle.std.proofs.lemmas.Nat.{pow-add}
use Rattle.re_labels.proofs.LawsOfRows.{multisets_law}
use Rattle.re_labels.specs.Configs.{IsConfig, sorted}
use Rattle.re_given.proofs.AllInputViews.{AreBelow}
use Rattle.re_given.specs.Given.{around_known}
use Rattle.re_given.specs.InputViews.{FitsAround, InputView, known}
use Rattle.re_labels.proofs.Membership.{AllByRecursion-weaker, Contains-count_from, Contains-map, Contains-map_cases, count_from_range}
use Rattle.re_labels.specs.Lists.{count_from}
use Rattle.re_local.specs.LocalAlgorithms.{identified}
use Rattle.re_classes.proofs.Drawn.{passing-strings, tally, tally-const, tally-same, total-same}
use Rattle.re_classes.proofs.Numbered.{active_view_below, passive_view_below}
use Rattle.re_classes.specs.RandomLaws.{FewerNamesLaw}
use Rattle.re_classes.specs.IdentifiedRandom.{with_strings}
use Rattle.re_classes.specs.RandomAlgorithms.{string_lists}
use Rattle.re_local.proofs.Counting.{one_if, total-scaled}
use Rattle.re_labels.specs.Constraints.{Constraint, Has, has_config}
use Rattle.re_laws.specs.Trees.{end, leaf, more}

-- f depends on the first N strings alone
abbrev AreFirst : ℕ → (List ℕ → ℕ) → Type 0
AreFirst N f = (strings strings' : List ℕ) → ((x : ℕ) → x < N → slice_index strings x ≡ slice_index strings' x) → f strings ≡ f strings'

-- then so many more strings count alike
tally-first_ones : (R N k : ℕ) (f : List ℕ → ℕ) → AreFirst N f → tally R (N + k) f ≡ tally R N f * R ^ k
tally-first_ones R zero k f first =
    let none : 0 + k ≡ k = omega arith in
    let all : tally R k f ≡ tally R k (λ strings. f []) =
    tally-same R k f (λ strings. f []) (λ strings. first strings [] (λ x l. absurd (omega (arith, l)))) in
    let turn : R ^ k * f [] ≡ f [] * R ^ k = omega arith in
    ap (λ n. tally R n f) none ∙ (all ∙ (tally-const R k (f []) ∙ turn))
tally-first_ones R (suc N) k f first =
    let next : suc N + k ≡ suc (N + k) = omega arith in
    ap (λ n. tally R n f) next
    ∙ (total-same (λ s. tally R (N + k) (λ strings. f (s ∷ strings))) (λ s. tally R N (λ strings. f (s ∷ strings)) * R ^ k) R
    (λ s. tally-first_ones R N k (λ strings. f (s ∷ strings)) (later s))
    ∙ total-scaled (λ s. tally R N (λ strings. f (s ∷ strings))) (R ^ k) R)
  where
    later : (s : ℕ) → AreFirst N (λ strings. f (s ∷ strings))
    later s strings strings' same = first (s ∷ strings) (s ∷ strings') each
      where
        each : (x : ℕ) → x < suc N → slice_index (s ∷ strings) x ≡ slice_index (s ∷ strings') x
        each zero l = refl
        each (suc x) l = same x (omega (arith, l))

-- the strings of identifiers below N are all that a view with such ones shows
with_strings-as : (R N : ℕ) (strings strings' : List ℕ) (v : InputView) → ((x : ℕ) → x < N → slice_index strings x ≡ slice_index strings' x)
    → AreBelow N v
    → with_strings R strings v ≡ with_strings R strings' v
with_strings-as R N strings strings' leaf same below = refl
with_strings-as R N strings strings' end same below = refl
with_strings-as R N strings strings' (more back label branch rest) same below =
    let own : slice_index strings label ≡ slice_index strings' label = same label below.0 in
    let here : with_strings R strings branch ≡ with_strings R strings' branch = with_strings-as R N strings strings' branch same below.1 in
    let there : with_strings R strings rest ≡ with_strings R strings' rest = with_strings-as R N strings strings' rest same below.2 in
    rw (own, here, there) refl

-- what is rare where N + k nodes draw is so where N do
rare_first : (R N k q : ℕ) (f : List ℕ → ℕ) → AreFirst N f → q * tally R (N + k) f < R ^ (N + k) → q * tally R N f < R ^ N
rare_first R N k q f first rare =
    compare (tally R N f) (tally R (N + k) f) (R ^ N) (R ^ k) (R ^ (N + k)) (tally-first_ones R N k f first) (pow-add R N k) rare
  where
    compare : (t u p p' w : ℕ) → u ≡ t * p' → w ≡ p * p' → q * u < w → q * t < p
    compare t u p p' w e e' l = elim (cases_lt (q * t) p) [
      | inl less ↦ less
      | inr large ↦
          (let up : p * p' ≤ q * t * p' = mul-le-mul_right p' large in
          let all : q * u ≡ q * (t * p') = ap (λ z. q * z) e in
          absurd (omega (arith, up, all, e', l)))
    ]

fewer_at : (R N wide q : ℕ) (event : List ℕ → Bool) → N ≤ wide
    → ((strings strings' : List ℕ) → ((x : ℕ) → x < N → slice_index strings x ≡ slice_index strings' x) → event strings ≡ event strings')
    → q * length (filter event (string_lists R wide)) < R ^ wide → q * length (filter event (string_lists R N)) < R ^ N
fewer_at R N wide q event l sees rare =
    let split : N + (wide - N) ≡ wide = omega (arith, l) in
    let counted : q * tally R wide (λ strings. one_if (event strings)) < R ^ wide = subst (λ c. q * c < R ^ wide) (passing-strings R wide event) rare in
    let parted : q * tally R (N + (wide - N)) (λ strings. one_if (event strings)) < R ^ (N + (wide - N)) =
    subst (λ n. q * tally R n (λ strings. one_if (event strings)) < R ^ n) (sym split) counted in
    subst (λ c. q * c < R ^ N) (sym (passing-strings R N event))
    (rare_first R N (wide - N) q (λ strings. one_if (event strings)) (λ strings strings' same. ap one_if (sees strings strings' same)) parted)

-- identifiers below N are so below wide
wider_active : (a p N wide : ℕ) → N ≤ wide → (labels : List ℕ) → Has (identified a p N).active labels → Has (identified a p wide).active labels
wider_active a p N wide l labels has =
    let (x, held, is) = Contains-map_cases (replicate a) (count_from 0 N) (sorted labels) has in
    let range = count_from_range 0 N x held in
    subst (Contains (map (replicate a) (count_from 0 wide))) is
    (Contains-map (replicate a) (count_from 0 wide) x (Contains-count_from 0 wide x (omega arith) (let m = range.1 in omega (arith, l, m))))

wider_passive : (a p N wide : ℕ) → N ≤ wide → (labels : List ℕ) → Has (identified a p N).passive labels → Has (identified a p wide).passive labels
wider_passive a p N wide l labels has =
    let is : IsConfig p N (sorted labels) = ((multisets_law p N).1 (sorted labels)).0 has in
    ((multisets_law p wide).1 (sorted labels)).1
    (record {
      count = is.count;
      below = AllByRecursion-weaker (λ x. x < N) (λ x. x < wide) (λ x i. omega (arith, i, l)) (sorted labels) is.below;
      ascends = is.ascends;
    })

fits_wider : (own other own' other' : Constraint) → ((labels : List ℕ) → Has own labels → Has own' labels)
    → ((labels : List ℕ) → Has other labels → Has other' labels) → (seen : List ℕ) (v : InputView)
    → FitsAround own other seen v → FitsAround own' other' seen v
fits_wider own other own' other' to to' seen leaf h = tt
fits_wider own other own' other' to to' seen end h = to seen h
fits_wider own other own' other' to to' seen (more back label branch rest) h =
    (fits_wider other own other' own' to' to (label ∷ []) branch h.0, fits_wider own other own' other' to to' (label ∷ seen) rest h.1)

pub fewer_names : FewerNamesLaw
fewer_names problem N wide R T q algorithm l fails =
    let a : ℕ = problem.active.degree in
    let p : ℕ = problem.passive.degree in
    record {
      active = λ v view fits apart.
          fewer_at R N wide q (λ strings. not (has_config problem.active (algorithm (known T (with_strings R strings v))))) l
          (λ strings strings' same. ap (λ w. not (has_config problem.active (algorithm (known T w))))
          (with_strings-as R N strings strings' v same (active_view_below a p N (suc T) a v view fits)))
          (fails.active v view (fits_wider (identified a p N).active (identified a p N).passive (identified a p wide).active (identified a p wide).passive
          (wider_active a p N wide l) (wider_passive a p N wide l) [] v fits) apart);
      passive = λ v view fits apart.
          fewer_at R N wide q (λ strings. not (has_config problem.passive (around_known p T algorithm (with_strings R strings v)))) l
          (λ strings strings' same. ap (λ w. not (has_config problem.passive (around_known p T algorithm w)))
          (with_strings-as R N strings strings' v same (passive_view_below a p N (suc (suc T)) p v view fits)))
          (fails.passive v view (fits_wider (identified a p N).passive (identified a p N).active (identified a p wide).passive (identified a p wide).active
          (wider_passive a p N wide l) (wider_active a p N wide l) [] v fits) apart);
    }
