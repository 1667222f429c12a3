-- Sets by their numbers, from rows at the meetings that show three rounds.
use Rattle.std.proofs.Common.{◌≡◌, ℕ, zero, suc, ◌+◌, ◌*◌, ◌/◌, ◌%◌, ◌<◌, ◌≤◌, inl, inr, List, [], ◌∷◌, length, map, get_or, refl, sym, ap, ◌∙◌, subst, arith, length-append}
use Rattle.std.specs.List.{AllByRecursion, AllZip, flat_map}
use Rattle.std.proofs.lemmas.List.{get_or_past}
use Rattle.std.proofs.lemmas.List.Elements.{Contains-get_or}
use Rattle.std.proofs.lemmas.Nat.{div-mul-add, div_below, mod-mul-add, mod_below, mul-add-lt}
use Rattle.re_given.specs.UpSets.{IsUpSet}
use Rattle.re_labels.specs.Configs.{IsConfig}
use Rattle.re_labels.specs.GoodRows.{IsGood}
use Rattle.re_labels.specs.Lists.{count_from}
use Rattle.re_labels.specs.Rows.{IsChoice, placed, set_at}
use Rattle.re_labels.proofs.LawsOfRows.{multisets_law}
use Rattle.re_labels.proofs.Membership.{AllByRecursion-contains, AllByRecursion-from_contains, Contains-flat_map_cases}
use Rattle.re_labels.proofs.Placing.{placed_whole}
use Rattle.re_labels.proofs.Sorting.{or_lower}
use Rattle.re_problem.specs.Problems.{IsProblem, Problem}
use Rattle.re_given_words.specs.Asking.{AreMade, IsChoiceOf, IsSetAt, port_spots}
use Rattle.re_given_words.specs.Three.{IsMadeAt, IsMeeting, ShownByMeetings, ShowsThree, port_of, spot_ports, types_of}

-- ---- spots
pub length-spots : (size : ℕ) (types : List (List ℕ)) → AllByRecursion (λ ports. length ports ≡ size) types → length (flat_map (λ ports. ports) types) ≡ length types * size
length-spots size [] all = omega arith
length-spots size (ports ∷ types) all = length-append ports (flat_map (λ ports. ports) types) ∙ omega (arith, all.0, length-spots size types all.1)

pub types-sized : (problem : Problem) → AllByRecursion (λ ports. length ports ≡ problem.active.degree) (types_of problem)
types-sized problem = AllByRecursion-from_contains (λ ports. length ports ≡ problem.active.degree) (types_of problem) (λ ports at.
    let is : IsConfig problem.active.degree problem.passive.degree ports = ((multisets_law problem.active.degree problem.passive.degree).1 ports).0 at in is.count)

ports-below : (problem : Problem) → 0 < problem.passive.degree → (spot : ℕ) → port_of problem spot < problem.passive.degree
ports-below problem least spot = elim (or_lower (length (spot_ports problem)) spot) [
  | inl past ↦ subst (λ port. port < problem.passive.degree) (sym (get_or_past (spot_ports problem) spot 0 past)) least
  | inr low ↦
      let (ports, among, at) = Contains-flat_map_cases (λ ports. ports) (types_of problem) (port_of problem spot) (Contains-get_or (spot_ports problem) spot 0 low) in
      let is : IsConfig problem.active.degree problem.passive.degree ports = ((multisets_law problem.active.degree problem.passive.degree).1 ports).0 among in
      AllByRecursion-contains (λ port. port < problem.passive.degree) ports (port_of problem spot) is.below at
]

-- ---- sets by their numbers
module _ (problem : Problem) (is : IsProblem problem) (made : List ℕ → List (List ℕ)) (shows : ShowsThree problem made) (meetings : List (List ℕ)) (are : AllByRecursion (IsMeeting problem) meetings) where
  abbrev p : ℕ
  p = problem.passive.degree

  positive : 0 < p
  positive = omega (arith, is.passive.least)

  abbrev row : ℕ → List (List ℕ)
  row k = made (get_or meetings k [])

  abbrev pub sets : ℕ → List ℕ
  sets s = set_at (row (s / p)) (s % p)

  meeting : (k : ℕ) → k < length meetings → IsMeeting problem (get_or meetings k [])
  meeting k low = AllByRecursion-contains (IsMeeting problem) meetings (get_or meetings k []) are (Contains-get_or meetings k [] low)

  set-of : (k i : ℕ) → i < p → sets (k * p + i) ≡ set_at (row k) i
  set-of k i low = λ j. set_at (row (div-mul-add k p i low j)) (mod-mul-add k p i low j)

  sets-of : (k i m : ℕ) → i + m ≡ p → map sets (count_from (k * p + i) m) ≡ map (set_at (row k)) (count_from i m)
  sets-of k i zero e = refl
  sets-of k i (suc m) e =
      let next : suc (k * p + i) ≡ k * p + suc i = omega arith in
      λ j. set-of k i (omega (arith, e)) j ∷ (ap (λ b. map sets (count_from b m)) next ∙ sets-of k (suc i) m (omega (arith, e))) j

  good : (k : ℕ) → k < length meetings → IsGood problem.passive (map sets (count_from (k * p) p))
  good k low =
      let is_good : IsGood problem.passive (row k) = shows.good (get_or meetings k []) (meeting k low) in
      let begin : k * p ≡ k * p + 0 = omega arith in
      let whole : map sets (count_from (k * p) p) ≡ row k = ap (λ b. map sets (count_from b p)) begin ∙ sets-of k 0 p (omega arith) ∙ ap (λ m. placed (row k) (count_from 0 m)) (sym is_good.count) ∙ placed_whole (row k) in
      subst (IsGood problem.passive) (sym whole) is_good

  up_sets : (s : ℕ) → s < length meetings * p → IsUpSet problem.passive problem.labels (sets s)
  up_sets s low =
      let k_low : s / p < length meetings = div_below s p (length meetings) positive low in
      let count : length (row (s / p)) ≡ p = (shows.good (get_or meetings (s / p) []) (meeting (s / p) k_low)).count in
      AllByRecursion-contains (IsUpSet problem.passive problem.labels) (row (s / p)) (sets s) (shows.up_sets (get_or meetings (s / p) []) (meeting (s / p) k_low))
      (Contains-get_or (row (s / p)) (s % p) [] (omega (arith, mod_below s p positive, count)))

  made-at : (spot s : ℕ) → IsSetAt (spot_ports problem) meetings p spot s → IsMadeAt problem made spot (sets s) × (s < length meetings * p)
  made-at spot s (k, low, met, same) =
      let port_low : port_of problem spot < p = ports-below problem positive spot in (
        (get_or meetings k [], meeting k low, met, sym (ap sets same ∙ set-of k (port_of problem spot) port_low)),
        omega (arith, same, mul-add-lt k p (port_of problem spot) (length meetings) low port_low),
      )

  all-made : (spots choice : List ℕ) → AllZip (IsSetAt (spot_ports problem) meetings p) spots choice → AllZip (IsMadeAt problem made) spots (map sets choice) × AllByRecursion (λ s. s < length meetings * p) choice
  all-made [] [] zip = (tt, tt)
  all-made [] (s ∷ choice) zip = absurd zip
  all-made (spot ∷ spots) [] zip = absurd zip
  all-made (spot ∷ spots) (s ∷ choice) zip =
      let (here, low) = made-at spot s zip.0 in
      let (others, lows) = all-made spots choice zip.1 in
      ((here, others), (low, lows))

  pub are_made : (choices : List (List ℕ)) → AllByRecursion (λ choice. (t : ℕ) × (t < length (types_of problem)) × IsChoiceOf (spot_ports problem) meetings p problem.active.degree t choice) choices
      → AreMade problem.active problem.passive problem.labels p (length meetings) choices sets
  are_made choices typed = record {
    good = good;
    up_sets = up_sets;
    choice = λ choice at.
        let (t, low, zip) = AllByRecursion-contains (λ choice. (t : ℕ) × (t < length (types_of problem)) × IsChoiceOf (spot_ports problem) meetings p problem.active.degree t choice) choices choice typed at in
        let (here, lows) = all-made (count_from (t * problem.active.degree) problem.active.degree) choice zip in
        (lows, shows.choice t low (map sets choice) here);
  }

-- where no sets are made, no rows at the meetings show three rounds
pub none-shown : (problem : Problem) → IsProblem problem → (ports : List ℕ) (d size types : ℕ) (meetings choices : List (List ℕ)) → ports ≡ spot_ports problem → d ≡ problem.passive.degree → size ≡ problem.active.degree
    → types ≡ length (types_of problem) → AllByRecursion (λ meeting. IsChoice meeting (map (port_spots ports) (count_from 0 d))) meetings
    → AllByRecursion (λ choice. (t : ℕ) × (t < types) × IsChoiceOf ports meetings d size t choice) choices
    → ((sets : ℕ → List ℕ) → AreMade problem.active problem.passive problem.labels problem.passive.degree (length meetings) choices sets → ⊥) → ShownByMeetings problem → ⊥
none-shown problem is ports d size types meetings choices ports_is d_is size_is types_is are typed none shown =
    let are_there : AllByRecursion (IsMeeting problem) meetings =
    subst (λ d. AllByRecursion (λ meeting. IsChoice meeting (map (port_spots (spot_ports problem)) (count_from 0 d))) meetings) d_is
    (subst (λ ports. AllByRecursion (λ meeting. IsChoice meeting (map (port_spots ports) (count_from 0 d))) meetings) ports_is are) in
    let typed_there : AllByRecursion (λ choice. (t : ℕ) × (t < length (types_of problem)) × IsChoiceOf (spot_ports problem) meetings problem.passive.degree problem.active.degree t choice) choices =
    subst (λ d. AllByRecursion (λ choice. (t : ℕ) × (t < length (types_of problem)) × IsChoiceOf (spot_ports problem) meetings d problem.active.degree t choice) choices) d_is
    (subst (λ size. AllByRecursion (λ choice. (t : ℕ) × (t < length (types_of problem)) × IsChoiceOf (spot_ports problem) meetings d size t choice) choices) size_is
    (subst (λ ports. AllByRecursion (λ choice. (t : ℕ) × (t < length (types_of problem)) × IsChoiceOf ports meetings d size t choice) choices) ports_is
    (subst (λ types. AllByRecursion (λ choice. (t : ℕ) × (t < types) × IsChoiceOf ports meetings d size t choice) choices) types_is typed))) in
    none (sets problem is shown.0 shown.1 meetings are_there) (are_made problem is shown.0 shown.1 meetings are_there choices typed_there)

-- all spots of the types have a port
pub spots-inside : (problem : Problem) (ports : List ℕ) (types : List (List ℕ)) (size : ℕ) → ports ≡ flat_map (λ ports. ports) types → types ≡ types_of problem → size ≡ problem.active.degree → length types * size ≤ length ports
spots-inside problem ports types size ports_are types_are size_is =
    let sized : AllByRecursion (λ ports. length ports ≡ size) types =
    subst (λ n. AllByRecursion (λ ports. length ports ≡ n) types) (sym size_is) (subst (AllByRecursion (λ ports. length ports ≡ problem.active.degree)) (sym types_are) (types-sized problem)) in
    let same : length ports ≡ length types * size = ap length ports_are ∙ length-spots size types sized in
    omega (arith, same)
