-- Lists as one element is put in or taken out.
use Rattle.std.proofs.Common.{◌≡◌, ◌≢◌, ℕ, ◌+◌, ◌-◌, ◌<◌, ◌≤◌, List, length, get_or, inl, inr, sym, subst, ap, ◌∙◌, arith}
use Rattle.std.specs.Prelude.{All, AllPairs, Contains}
use Rattle.std.specs.List.{insert, remove}
use Rattle.std.proofs.lemmas.Bool.{cases_eq, cases_lt}
use Rattle.std.proofs.lemmas.List.Edits.{length-insert, get_or-insert_at, get_or-insert_below, get_or-insert_above, length-remove, get_or-remove_below, get_or-remove_above}
use Rattle.sg_actor_states.specs.kept.Places.{IsPlace}

-- ---- put in
pub inserted : {X : Type 0} (xs : List X) (y : X) (place : ℕ) → place ≤ length xs → Contains (insert xs place y) y
inserted xs y place within = (place, omega (arith, length-insert xs place y within, within), get_or-insert_at xs place y y within)

pub still_in : {X : Type 0} (xs : List X) (y z : X) (place : ℕ) → place ≤ length xs → Contains xs z → Contains (insert xs place y) z
still_in xs y z place within has =
    let long = length-insert xs place y within in
    elim (cases_lt has.0 place) [
      | inl before ↦ (has.0, omega (arith, long, has.1), get_or-insert_below xs place y z has.0 before within ∙ has.2)
      | inr past ↦ (has.0 + 1, omega (arith, long, has.1), get_or-insert_above xs place y z has.0 past within ∙ has.2)
    ]

-- if P holds of it and of the others
pub all_inserted : {X : Type 0} (P : X → Type 0) (xs : List X) (y : X) (place : ℕ) → place ≤ length xs → P y → All P xs → All P (insert xs place y)
all_inserted P xs y place within new old = λ k d less.
    let long = length-insert xs place y within in
    elim (cases_lt k place) [
      | inl before ↦ subst P (sym (get_or-insert_below xs place y d k before within)) (old k d (omega (arith, before, within)))
      | inr past ↦ elim (cases_eq k place) [
        | inl same ↦ subst P (sym (ap (λ n. get_or (insert xs place y) n d) same ∙ get_or-insert_at xs place y d within)) new
        | inr apart ↦
            let shift : k - 1 + 1 ≡ k = omega (arith, past, apart) in
            let at : get_or (insert xs place y) k d ≡ get_or xs (k - 1) d = ap (λ n. get_or (insert xs place y) n d) (sym shift) ∙ get_or-insert_above xs place y d (k - 1) (omega (arith, past, apart)) within in
            subst P (sym at) (old (k - 1) d (omega (arith, shift, less, long)))
      ]
    ]

-- at its place, if it isn't there yet
pub rises_inserted : {X : Type 0} (key : X → ℕ) (xs : List X) (y : X) (place : ℕ) → AllPairs (λ a b. key a < key b) xs → IsPlace key xs (key y) place → ((k : ℕ) (d : X) → k < length xs → key (get_or xs k d) ≢ key y) → AllPairs (λ a b. key a < key b) (insert xs place y)
rises_inserted key xs y place rises is none i j d less within =
    let long = length-insert xs place y is.within in
    elim (cases_lt j place) [
      | inl before ↦
          let at_i = ap key (get_or-insert_below xs place y d i (omega (arith, less, before)) is.within) in
          let at_j = ap key (get_or-insert_below xs place y d j before is.within) in
          omega (arith, at_i, at_j, rises i j d less (omega (arith, before, is.within)))
      | inr past ↦ elim (cases_eq j place) [
        | inl same ↦
            let at_i = ap key (get_or-insert_below xs place y d i (omega (arith, less, same)) is.within) in
            let at_j : key (get_or (insert xs place y) j d) ≡ key y = ap (λ k. key (get_or (insert xs place y) k d)) same ∙ ap key (get_or-insert_at xs place y d is.within) in
            omega (arith, at_i, at_j, is.below i d (omega (arith, less, same)))
        | inr apart ↦
            let shift : j - 1 + 1 ≡ j = omega (arith, past, apart) in
            let from : place ≤ j - 1 = omega (arith, past, apart) in
            let short : j - 1 < length xs = omega (arith, shift, within, long) in
            let at_j : key (get_or (insert xs place y) j d) ≡ key (get_or xs (j - 1) d) = ap (λ k. key (get_or (insert xs place y) k d)) (sym shift) ∙ ap key (get_or-insert_above xs place y d (j - 1) from is.within) in
            let last : key y < key (get_or xs (j - 1) d) = omega (arith, is.above (j - 1) d from short, none (j - 1) d short) in
            elim (cases_lt i place) [
              | inl before ↦
                  let at_i = ap key (get_or-insert_below xs place y d i before is.within) in
                  omega (arith, at_i, at_j, last, is.below i d before)
              | inr after ↦ elim (cases_eq i place) [
                | inl same ↦
                    let at_i : key (get_or (insert xs place y) i d) ≡ key y = ap (λ k. key (get_or (insert xs place y) k d)) same ∙ ap key (get_or-insert_at xs place y d is.within) in
                    omega (arith, at_i, at_j, last)
                | inr differs ↦
                    let back : i - 1 + 1 ≡ i = omega (arith, after, differs) in
                    let at_i : key (get_or (insert xs place y) i d) ≡ key (get_or xs (i - 1) d) = ap (λ k. key (get_or (insert xs place y) k d)) (sym back) ∙ ap key (get_or-insert_above xs place y d (i - 1) (omega (arith, after, differs)) is.within) in
                    omega (arith, at_i, at_j, rises (i - 1) (j - 1) d (omega (arith, less, back, shift)) short)
              ]
            ]
      ]
    ]

-- ---- taken out
-- what is left stood at another place
pub removed_from : {X : Type 0} (xs : List X) (place k : ℕ) (d : X) → place < length xs → k < length (remove xs place) → (m : ℕ) × (m < length xs) × (m ≢ place) × (get_or (remove xs place) k d ≡ get_or xs m d)
removed_from xs place k d within less =
    let long = length-remove xs place within in
    elim (cases_lt k place) [
      | inl before ↦ (k, omega (arith, before, within), (λ e. omega (arith, e, before)), get_or-remove_below xs place d k before within)
      | inr past ↦ (k + 1, omega (arith, less, long), (λ e. omega (arith, e, past)), get_or-remove_above xs place d k past within)
    ]

pub left_in : {X : Type 0} (xs : List X) (z : X) (place : ℕ) → place < length xs → (has : Contains xs z) → has.0 ≢ place → Contains (remove xs place) z
left_in xs z place within has apart =
    let long = length-remove xs place within in
    elim (cases_lt has.0 place) [
      | inl before ↦ (has.0, omega (arith, long, before, within), get_or-remove_below xs place z has.0 before within ∙ has.2)
      | inr past ↦
          let back : has.0 - 1 + 1 ≡ has.0 = omega (arith, past, apart) in
          (has.0 - 1, omega (arith, long, back, has.1), get_or-remove_above xs place z (has.0 - 1) (omega (arith, past, apart)) within ∙ (ap (λ k. get_or xs k z) back ∙ has.2))
    ]

-- ---- where an element of rising keys stands
pub apart_keys : {X : Type 0} (key : X → ℕ) (xs : List X) (i j : ℕ) (d : X) → AllPairs (λ a b. key a < key b) xs → i < length xs → j < length xs → i ≢ j → key (get_or xs i d) ≢ key (get_or xs j d)
apart_keys key xs i j d rises within_i within_j apart same = elim (cases_lt i j) [
  | inl less ↦ omega (arith, same, rises i j d less within_j)
  | inr more ↦ omega (arith, same, rises j i d (omega (arith, more, apart)) within_i)
]

-- its place is where it stands
pub place_is : {X : Type 0} (key : X → ℕ) (xs : List X) (y : X) (place : ℕ) → AllPairs (λ a b. key a < key b) xs → IsPlace key xs (key y) place → (has : Contains xs y) → has.0 ≡ place
place_is key xs y place rises is has =
    let here : key (get_or xs has.0 y) ≡ key y = ap key has.2 in
    elim (cases_lt has.0 place) [
      | inl before ↦ absurd (omega (arith, here, is.below has.0 y before))
      | inr past ↦ elim (cases_eq has.0 place) [
        | inl same ↦ same
        | inr apart ↦
            let less : place < has.0 = omega (arith, past, apart) in
            absurd (omega (arith, here, rises place has.0 y less has.1, is.above place y (omega arith) (omega (arith, less, has.1))))
      ]
    ]
