-- A number is a member where it still stands in the order.
use Rattle.std.proofs.Common.{◌≡◌, ◌≢◌, ℕ, zero, suc, ◌+◌, ◌^◌, ◌<◌, ◌≤◌, ◌⊎◌, inl, inr, List, [], ◌∷◌, ◌++◌, length, take, get_or, set, get_or-set_same, get_or-set_other, Bool, true, false, ltb, eqb, ◌||◌, ◌&&◌, true≢false, eq-eqb, ne_eqb, lt-ltb, le-ltb, length-set, length-take, refl, sym, ap, subst, ◌∙◌, arith}
use Rattle.std.proofs.Math.Seq.{get_or-take}
use Rattle.std.proofs.lemmas.List.{length-append, get_or_default}
use Rattle.std.proofs.lemmas.Grind.{get_or_default_zero}
use Rattle.std.proofs.lemmas.Map.Steps.{length-le_from_distinct_below}
use Rattle.std.proofs.lemmas.Map.Keys.{IsDistinct-from_apart}
use Rattle.std.specs.List.{list_any}
use Rattle.sg_base.specs.MarkSet.{is_in}
use Rattle.sg_base.specs.kept.Sparse.{IsSparse}

lt_cases : (a b : ℕ) → (a < b) ⊎ (b ≤ a)
lt_cases a b = grind arith

eq_cases : (a b : ℕ) → (a ≡ b) ⊎ (a ≢ b)
eq_cases a b = grind arith

bool_cases : (b : Bool) → (b ≡ true) ⊎ (b ≡ false)
bool_cases true = inl refl
bool_cases false = inr refl

none : (number : ℕ) (xs : List ℕ) → ((i : ℕ) → i < length xs → get_or xs i 0 ≢ number) → is_in number xs ≡ false
none number [] h = refl
none number (x ∷ xs) h = rw (ne_eqb x number (h 0 (omega arith))) (none number xs (λ i k. h (suc i) (omega arith)))

some : (number : ℕ) (xs : List ℕ) (i : ℕ) → i < length xs → get_or xs i 0 ≡ number → is_in number xs ≡ true
some number [] i h e = absurd (omega arith)
some number (x ∷ xs) zero h e = ap (λ b. b || is_in number xs) (eq-eqb x number e)
some number (x ∷ xs) (suc i) h e = ap (λ b. eqb x number || b) (some number xs i (omega arith) e) ∙ or-true (eqb x number)
  where
    or-true : (b : Bool) → (b || true) ≡ true
    or-true true = refl
    or-true false = refl

-- where a member stands
record Stands (number : ℕ) (xs : List ℕ) : Type 0 where
  at : ℕ
  within : at < length xs
  is : get_or xs at 0 ≡ number

stands : (number : ℕ) (xs : List ℕ) → is_in number xs ≡ true → Stands number xs
stands number [] h = absurd (true≢false (sym h))
stands number (x ∷ xs) h = elim (eq_cases x number) [
  | inl e ↦ record { at = 0; within = omega arith; is = e }
  | inr ne ↦
      let s = stands number xs (sym (ap (λ b. b || is_in number xs) (ne_eqb x number ne)) ∙ h) in
      record { at = suc s.at; within = omega (arith, s.within); is = s.is }
]

below : (n q : ℕ) (xs : List ℕ) → ((i : ℕ) → i < length xs → get_or xs i 0 < n) → list_any (eqb q) xs ≡ true → q < n
below n q [] h e = absurd (true≢false (sym e))
below n q (x ∷ xs) h e = elim (eq_cases q x) [
  | inl same ↦ subst (λ y. y < n) (sym same) (h 0 (omega arith))
  | inr ne ↦ below n q xs (λ i k. h (suc i) (omega arith)) (sym (ap (λ b. b || list_any (eqb q) xs) (ne_eqb q x ne)) ∙ e)
]

front : (xs ys : List ℕ) (i : ℕ) → i < length xs → get_or (xs ++ ys) i 0 ≡ get_or xs i 0
front [] ys i h = absurd (omega arith)
front (x ∷ xs) ys zero h = refl
front (x ∷ xs) ys (suc i) h = front xs ys i (omega arith)

last_pushed : (xs : List ℕ) (x : ℕ) → get_or (xs ++ x ∷ []) (length xs) 0 ≡ x
last_pushed [] x = refl
last_pushed (y ∷ xs) x = last_pushed xs x

pub sparse_none : (place : List ℕ) (capacity : ℕ) → length place ≤ capacity → length place ≤ 2 ^ 32 → IsSparse [] place capacity
sparse_none place capacity space few = record { numbers = λ i h. absurd (omega (arith, h)); there = λ i h. absurd (omega (arith, h)); space = space; few = few }

module _ (order place : List ℕ) (capacity : ℕ) (s : IsSparse order place capacity) where
  -- no number stands twice
  pub once : (i j : ℕ) → i < length order → j < length order → get_or order i 0 ≡ get_or order j 0 → i ≡ j
  once i j h k e = sym (s.there i h) ∙ ap (λ n. get_or place n 0) e ∙ s.there j k

  pub apart : (i j d : ℕ) → i < j → j < length order → get_or order i d ≢ get_or order j d
  apart i j d l h e =
      let k : i < length order = omega arith in
      let same = once i j k h (get_or_default order i 0 d k ∙ e ∙ get_or_default order j d 0 h) in
      omega (arith, same, l)

  pub in_range : (k d : ℕ) → k < length order → get_or order k d < length place
  in_range k d h = subst (λ n. n < length place) (get_or_default order k 0 d h) (s.numbers k h)

  -- there are no more members than the room has numbers
  pub few_members : length order ≤ length place
  few_members =
      length-le_from_distinct_below order (length place)
      (IsDistinct-from_apart eqb order (λ i j d l h. ne_eqb (get_or order i d) (get_or order j d) (λ e. apart i j d l h e)))
      (λ q e. below (length place) q order s.numbers e)

  -- a member stands where its place says
  pub its_place : (number : ℕ) → is_in number order ≡ true → (get_or place number 0 < length order)
  its_place number e =
      let w = stands number order e in
      let at : get_or place number 0 ≡ w.at = ap (λ n. get_or place n 0) (sym w.is) ∙ s.there w.at w.within in
      omega (arith, at, w.within)

  pub there_is : (number : ℕ) → is_in number order ≡ true → get_or order (get_or place number 0) 0 ≡ number
  there_is number e =
      let w = stands number order e in
      ap (λ k. get_or order k 0) (ap (λ n. get_or place n 0) (sym w.is) ∙ s.there w.at w.within) ∙ w.is

  pub is_in-place : (number : ℕ) → is_in number order ≡ (ltb (get_or place number 0) (length order) && eqb (get_or order (get_or place number 0) 0) number)
  is_in-place number = elim (bool_cases (is_in number order)) [
    | inl e ↦ e ∙ sym (both (lt-ltb (get_or place number 0) (length order) (its_place number e)) (eq-eqb (get_or order (get_or place number 0) 0) number (there_is number e)))
    | inr e ↦ e ∙ sym (elim (lt_cases (get_or place number 0) (length order)) [
      | inl l ↦ second (ltb (get_or place number 0) (length order)) (ne_eqb (get_or order (get_or place number 0) 0) number (λ is. true≢false (sym (some number order (get_or place number 0) l is) ∙ e)))
      | inr m ↦ ap (λ b. b && eqb (get_or order (get_or place number 0) 0) number) (le-ltb (get_or place number 0) (length order) m)
    ])
  ]
    where
      both : {a b : Bool} → a ≡ true → b ≡ true → (a && b) ≡ true
      both p q = rw (p, q) refl

      second : (a : Bool) {b : Bool} → b ≡ false → (a && b) ≡ false
      second true q = q
      second false q = refl

  -- one more comes after the members
  module _ (number : ℕ) (h : number < length place) (new : is_in number order ≡ false) where
    other_there : (i : ℕ) → i < length order → get_or order i 0 ≢ number
    other_there i k e = true≢false (sym (some number order i k e) ∙ new)

    split : (i : ℕ) → i < length (order ++ number ∷ []) → (i < length order) ⊎ (i ≡ length order)
    split i k = let l : length (order ++ number ∷ []) ≡ length order + 1 = length-append order (number ∷ []) in cases i (length order) (omega (arith, k, l))
      where
        cases : (i n : ℕ) → i < n + 1 → (i < n) ⊎ (i ≡ n)
        cases i n l = grind arith

    last_is : (i : ℕ) → i ≡ length order → get_or (order ++ number ∷ []) i 0 ≡ number
    last_is i e = ap (λ k. get_or (order ++ number ∷ []) k 0) e ∙ last_pushed order number

    pub sparse_more : IsSparse (order ++ number ∷ []) (set place number (length order)) capacity
    sparse_more = record {
      numbers = λ i k. subst (λ n. get_or (order ++ number ∷ []) i 0 < n) (sym (length-set place number (length order))) (elim (split i k) [
        | inl l ↦ subst (λ n. n < length place) (sym (front order (number ∷ []) i l)) (s.numbers i l)
        | inr e ↦ subst (λ n. n < length place) (sym (last_is i e)) h
      ]);
      there = λ i k. elim (split i k) [
        | inl l ↦
            ap (λ n. get_or (set place number (length order)) n 0) (front order (number ∷ []) i l)
            ∙ get_or-set_other place number (get_or order i 0) (length order) 0 (other_there i l) ∙ s.there i l
        | inr e ↦ ap (λ n. get_or (set place number (length order)) n 0) (last_is i e) ∙ get_or-set_same place number (length order) 0 h ∙ sym e
      ];
      space = omega (arith, s.space, length-set place number (length order));
      few = omega (arith, s.few, length-set place number (length order));
    }

  -- a number goes, and the last member takes its place
  module _ (number at last other : ℕ) (h : number < length place) (at_is : at ≡ get_or place number 0) (is : is_in number order ≡ true) (last_is : last + 1 ≡ length order) (other_is : other ≡ get_or order last 0) where
    at_in : at < length order
    at_in = omega (arith, at_is, its_place number is)

    it_is : get_or order at 0 ≡ number
    it_is = ap (λ k. get_or order k 0) at_is ∙ there_is number is

    last_in : last < length order
    last_in = omega (arith, last_is)

    other_in : other < length place
    other_in = subst (λ n. n < length place) (sym other_is) (s.numbers last last_in)

    abbrev order' : List ℕ
    order' = take last (set order at other)

    abbrev place' : List ℕ
    place' = set place other at

    len : length order' ≡ last
    len = omega (arith, length-take last (set order at other), length-set order at other, last_is)

    below_last : (i : ℕ) → i < length order' → i < last
    below_last i k = omega (arith, k, len)

    read_other : (i : ℕ) → i < last → i ≢ at → get_or order' i 0 ≡ get_or order i 0
    read_other i k ne = get_or-take last (set order at other) i 0 k ∙ get_or-set_other order at i other 0 ne

    read_at : (i : ℕ) → i < last → i ≡ at → get_or order' i 0 ≡ other
    read_at i k e = get_or-take last (set order at other) i 0 k ∙ ap (λ j. get_or (set order at other) j 0) e ∙ get_or-set_same order at other 0 at_in

    not_last : (i : ℕ) → i < last → get_or order i 0 ≢ other
    not_last i k e = let same = once i last (omega (arith, k, last_in)) last_in (e ∙ other_is) in omega (arith, same, k)

    pub sparse_less : IsSparse (take last (set order at other)) (set place other at) capacity
    sparse_less = record {
      numbers = λ i k. subst (λ n. get_or order' i 0 < n) (sym (length-set place other at)) (elim (eq_cases i at) [
        | inl e ↦ subst (λ n. n < length place) (sym (read_at i (below_last i k) e)) other_in
        | inr ne ↦ subst (λ n. n < length place) (sym (read_other i (below_last i k) ne)) (s.numbers i (omega (arith, below_last i k, last_in)))
      ]);
      there = λ i k. elim (eq_cases i at) [
        | inl e ↦ ap (λ n. get_or place' n 0) (read_at i (below_last i k) e) ∙ get_or-set_same place other at 0 other_in ∙ sym e
        | inr ne ↦
            ap (λ n. get_or place' n 0) (read_other i (below_last i k) ne)
            ∙ get_or-set_other place other (get_or order i 0) at 0 (not_last i (below_last i k))
            ∙ s.there i (omega (arith, below_last i k, last_in))
      ];
      space = omega (arith, s.space, length-set place other at);
      few = omega (arith, s.few, length-set place other at);
    }

    pub one_gone : is_in number (take last (set order at other)) ≡ false
    one_gone = none number order' (λ i k e.
        let l = below_last i k in
        elim (eq_cases i at) [
          | inl at_it ↦
              let same = once last at last_in at_in (sym other_is ∙ sym (read_at i l at_it) ∙ e ∙ sym it_is) in
              omega (arith, same, at_it, l)
          | inr ne ↦ ne (once i at (omega (arith, l, last_in)) at_in (sym (read_other i l ne) ∙ e ∙ sym it_is))
        ])

    pub others_stay : (x : ℕ) → x ≢ number → is_in x (take last (set order at other)) ≡ is_in x order
    others_stay x ne = elim (bool_cases (is_in x order)) [
      | inl e ↦ stays (stands x order e) ∙ sym e
      | inr e ↦ none x order' (λ i k is_x.
          let l = below_last i k in
          elim (eq_cases i at) [
            | inl at_it ↦ true≢false (sym (some x order last last_in (sym other_is ∙ sym (read_at i l at_it) ∙ is_x)) ∙ e)
            | inr apart ↦ true≢false (sym (some x order i (omega (arith, l, last_in)) (sym (read_other i l apart) ∙ is_x)) ∙ e)
          ]) ∙ sym e
    ]
      where
        less : (i last n : ℕ) → i < n → last + 1 ≡ n → i ≢ last → i < last
        less i last n l e apart = grind arith

        stays : Stands x order → is_in x order' ≡ true
        stays w = elim (eq_cases w.at last) [
          | inl e ↦
              let is_x : other ≡ x = other_is ∙ ap (λ k. get_or order k 0) (sym e) ∙ w.is in
              let apart : at ≢ last = λ q. ne (sym is_x ∙ other_is ∙ ap (λ k. get_or order k 0) (sym q) ∙ it_is) in
              let l = less at last (length order) at_in last_is apart in
              some x order' at (omega (arith, l, len)) (read_at at l refl ∙ is_x)
          | inr apart ↦
              let l = less w.at last (length order) w.within last_is apart in
              some x order' w.at (omega (arith, l, len)) (read_other w.at l (λ q. ne (sym w.is ∙ ap (λ k. get_or order k 0) q ∙ it_is)) ∙ w.is)
        ]

-- a number that is no member leaves room for itself
pub room_for_more : (order place : List ℕ) (capacity : ℕ) → IsSparse order place capacity → (number : ℕ) → number < length place → is_in number order ≡ false → length order < length place
room_for_more order place capacity s number h new =
    omega (arith, few_members (order ++ number ∷ []) (set place number (length order)) capacity (sparse_more order place capacity s number h new), length-append order (number ∷ []), length-set place number (length order))

pub read : (xs : List ℕ) (i x : ℕ) → i < length xs → x ≡ get_or xs i x → x ≡ get_or xs i 0
read xs i x h e = e ∙ get_or_default_zero xs i x h
