-- Numbers that are listed once, as sums over all numbers; and the number of visits allowed.
use Rattle.std.proofs.Common.{◌≡◌, ◌≢◌, ℕ, zero, suc, ◌+◌, ◌-◌, ◌*◌, ◌<◌, ◌≤◌, ◌⊎◌, inl, inr, Bool, true, false, cond, eqb, eq-eqb, ne_eqb, max, AllPairs, IsTrue, IsSome, Option, Some, None, List, [], ◌∷◌, length, get_or, sum_by, mul-le-mul, refl, sym, ap, subst, ◌∙◌, arith}
use Rattle.std.proofs.lemmas.List.Sums.{sum_by-cons}
use Rattle.sg_base.specs.MarkSet.{is_in}
use Rattle.sg_maxmin.specs.Chained.{times, users_on}
use Rattle.sg_maxmin.specs.Fill.{Flow}
use Rattle.sg_maxmin.specs.Sharing.{Sharing, IsSound, flow_at, slot_part, uses_at}
use Rattle.sg_maxmin.specs.Numbered.{all_uses}
use Rattle.sg_maxmin_levels.specs.Joined.{joined_count, joined_part, joined_uses, spare_looks, sum_below}
use Rattle.sg_maxmin.proofs.Listed.{at_in, bool_cases, eq_cases, some_of, times-cons, times-once, times_in, times_out}
use Rattle.sg_maxmin.proofs.Users.{held_below, on_held, on_below, rows_once}

-- ---- sums over the numbers below one
pub below_le : (f g : ℕ → ℕ) (n : ℕ) → ((i : ℕ) → i < n → f i ≤ g i) → sum_below f n ≤ sum_below g n
unfolding sum_below
below_le f g zero le = omega arith
below_le f g (suc n) le = omega (arith, below_le f g n (λ i h. le i (omega (arith, h))), le n (omega arith))

below_add : (f g : ℕ → ℕ) (n : ℕ) → sum_below (λ i. f i + g i) n ≡ sum_below f n + sum_below g n
unfolding sum_below
below_add f g zero = refl
below_add f g (suc n) = omega (arith, below_add f g n)

below_same : (f g : ℕ → ℕ) (n : ℕ) → ((i : ℕ) → i < n → f i ≡ g i) → sum_below f n ≡ sum_below g n
unfolding sum_below
below_same f g zero same = refl
below_same f g (suc n) same = omega (arith, below_same f g n (λ i h. same i (omega (arith, h))), same n (omega arith))

below_zero : (f : ℕ → ℕ) (n : ℕ) → ((i : ℕ) → i < n → f i ≡ 0) → sum_below f n ≡ 0
unfolding sum_below
below_zero f zero none = refl
below_zero f (suc n) none = omega (arith, below_zero f n (λ i h. none i (omega (arith, h))), none n (omega arith))

abbrev at_one : (ℕ → ℕ) → ℕ → ℕ → ℕ
at_one w x i = cond (eqb x i) (w i) 0

one_below : (w : ℕ → ℕ) (x n : ℕ) → x < n → sum_below (at_one w x) n ≡ w x
unfolding sum_below
one_below w x zero h = absurd (omega (arith, h))
one_below w x (suc n) h = elim (eq_cases x n) [
  | inl e ↦
      let none : sum_below (at_one w x) n ≡ 0 = below_zero (at_one w x) n (λ i k. ap (λ b. cond b (w i) 0) (ne_eqb x i (apart i k e))) in
      let here : at_one w x n ≡ w x = ap (λ b. cond b (w n) 0) (eq-eqb x n e) ∙ ap w (sym e) in
      omega (arith, none, here)
  | inr ne ↦
      let away : at_one w x n ≡ 0 = ap (λ b. cond b (w n) 0) (ne_eqb x n ne) in
      omega (arith, one_below w x n (less ne), away)
]
  where
    apart : (i : ℕ) → i < n → x ≡ n → x ≢ i
    apart i k e z = omega (arith, k, e, z)

    less : x ≢ n → x < n
    less ne = grind (arith, h, ne)

-- a sum over a list counts each number as often as it stands there
pub list_below : (w : ℕ → ℕ) (xs : List ℕ) (n : ℕ) → ((i : ℕ) → i < length xs → get_or xs i 0 < n) → sum_by w xs ≡ sum_below (λ i. times i xs * w i) n
unfolding sum_below
list_below w [] n below = sym (below_zero (λ i. times i [] * w i) n (λ i h. none i))
  where
    zero_times : (k : ℕ) → 0 * k ≡ 0
    zero_times k = omega arith

    none : (i : ℕ) → times i [] * w i ≡ 0
    none i = zero_times (w i)
list_below w (x ∷ xs) n below =
    let rest = list_below w xs n (λ i h. below (suc i) (omega (arith, h))) in
    let first = one_below w x n (below 0 (omega arith)) in
    omega (arith, sum_by-cons w x xs, rest, first, split n)
  where
    each : (i : ℕ) → times i (x ∷ xs) * w i ≡ at_one w x i + times i xs * w i
    each i = elim (bool_cases (eqb x i)) [
      | inl q ↦ ap (λ k. k * w i) (times-cons i x xs ∙ ap {B = ℕ} (λ b. cond b 1 0 + times i xs) q) ∙ more (times i xs) (w i) ∙ sym (ap (λ b. cond b (w i) 0 + times i xs * w i) q)
      | inr q ↦ ap (λ k. k * w i) (times-cons i x xs ∙ ap {B = ℕ} (λ b. cond b 1 0 + times i xs) q) ∙ same (times i xs) (w i) ∙ sym (ap (λ b. cond b (w i) 0 + times i xs * w i) q)
    ]
      where
        more : (a b : ℕ) → (1 + a) * b ≡ b + a * b
        more a b = grind arith

        same : (a b : ℕ) → (0 + a) * b ≡ 0 + a * b
        same a b = grind arith

    split : (n : ℕ) → sum_below (λ i. times i (x ∷ xs) * w i) n ≡ sum_below (at_one w x) n + sum_below (λ i. times i xs * w i) n
    split zero = refl
    split (suc n) = omega (arith, split n, each n)

-- a list's length is a sum
ones : (xs : List ℕ) → length xs ≡ sum_by (λ x. 1) xs
ones [] = refl
ones (x ∷ xs) = omega (arith, ones xs, sum_by-cons (λ x. 1) x xs)

times_one : (k : ℕ) → k * 1 ≡ k
times_one k = omega arith

pub length_below : (xs : List ℕ) (n : ℕ) → ((i : ℕ) → i < length xs → get_or xs i 0 < n) → length xs ≡ sum_below (λ i. times i xs) n
unfolding sum_below
length_below xs n below = ones xs ∙ list_below (λ x. 1) xs n below ∙ same n
  where
    same : (n : ℕ) → sum_below (λ i. times i xs * 1) n ≡ sum_below (λ i. times i xs) n
    same zero = refl
    same (suc n) = omega (arith, same n, times_one (times n xs))

once_le : (xs : List ℕ) (i : ℕ) → AllPairs (λ a b. a ≢ b) xs → times i xs ≤ 1
once_le xs i once = subst (λ k. k ≤ 1) (sym (times-once xs i once)) (one (is_in i xs))
  where
    one : (b : Bool) → cond b 1 0 ≤ 1
    one true = omega arith
    one false = omega arith

-- ---- what is held and passes
part_one : (slots : List (Option Flow)) (p : ℕ → Bool) (id : ℕ) → IsTrue (p id) → IsSome (flow_at slots id) → joined_part slots (λ flow. 1) p id ≡ 1
part_one slots p id here held =
    let f = some_of (flow_at slots id) held in
    ap {B = ℕ} (λ b. cond b (slot_part (λ flow. 1) (flow_at slots id)) 0) here ∙ ap (slot_part (λ flow. 1)) f.1

part_uses : (slots : List (Option Flow)) (p : ℕ → Bool) (id : ℕ) → IsTrue (p id) → joined_part slots (λ flow. length flow.uses) p id ≡ length (uses_at slots id)
part_uses slots p id here = ap {B = ℕ} (λ b. cond b (slot_part (λ flow. length flow.uses) (flow_at slots id)) 0) here ∙ of (flow_at slots id) refl
  where
    of : (o : Option Flow) → flow_at slots id ≡ o → slot_part (λ flow. length flow.uses) (flow_at slots id) ≡ length (uses_at slots id)
    of None e = rw e refl
    of (Some f) e = rw e refl

times_le_length : (x : ℕ) (xs : List ℕ) → times x xs ≤ length xs
times_le_length x [] = omega arith
times_le_length x (y ∷ xs) = omega (arith, times-cons x y xs, times_le_length x xs, one (eqb y x))
  where
    one : (b : Bool) → cond b 1 0 ≤ 1
    one true = omega arith
    one false = omega arith

none_times : (k : ℕ) → 0 * k ≡ 0
none_times k = omega arith

uses_part : (slots : List (Option Flow)) (id : ℕ) → slot_part (λ flow. length flow.uses) (flow_at slots id) ≡ length (uses_at slots id)
uses_part slots id = of (flow_at slots id) refl
  where
    of : (o : Option Flow) → flow_at slots id ≡ o → slot_part (λ flow. length flow.uses) (flow_at slots id) ≡ length (uses_at slots id)
    of None e = rw e refl
    of (Some f) e = rw e refl

part_listed : (slots : List (Option Flow)) (p : ℕ → Bool) (xs : List ℕ) (amount : Flow → ℕ) → AllPairs (λ a b. a ≢ b) xs → ((id : ℕ) → IsSome (flow_at slots id) → p id ≡ is_in id xs) → (id : ℕ) → joined_part slots amount p id ≡ times id xs * slot_part amount (flow_at slots id)
part_listed slots p xs amount once same id = from (flow_at slots id) refl
  where
    zero_both : (b : Bool) (n : ℕ) {k : ℕ} → k ≡ 0 → cond b k 0 ≡ n * k
    zero_both b n e = none b e ∙ sym (ap (λ k. n * k) e ∙ n_zero n)
      where
        none : (b : Bool) {k : ℕ} → k ≡ 0 → cond b k 0 ≡ 0
        none true e = e
        none false e = refl

        n_zero : (n : ℕ) → n * 0 ≡ 0
        n_zero n = omega arith

    one_both : (b : Bool) (k : ℕ) → cond b k 0 ≡ cond b 1 0 * k
    one_both true k = omega arith
    one_both false k = omega arith

    from : (o : Option Flow) → flow_at slots id ≡ o → joined_part slots amount p id ≡ times id xs * slot_part amount (flow_at slots id)
    from None e = zero_both (p id) (times id xs) (ap (slot_part amount) e)
    from (Some f) e = ap {B = ℕ} (λ b. cond b (slot_part amount (flow_at slots id)) 0) (same id (subst IsSome (sym e) refl)) ∙ one_both (is_in id xs) (slot_part amount (flow_at slots id)) ∙ ap (λ n. n * slot_part amount (flow_at slots id)) (sym (times-once xs id once))

-- the users of a resource, if all pass
module _ (s : Sharing) (sound : IsSound s) (c : ℕ) where
  row : List ℕ
  row = users_on s.users c

  user_once : (id : ℕ) → times id (users_on s.users c) ≤ 1
  user_once id = omega (arith, sound.both id c, once_le (uses_at s.slots id) c (rows_once s sound id))

  pub row_count : (p : ℕ → Bool) → ((id : ℕ) → is_in id (users_on s.users c) ≡ true → IsTrue (p id)) → length (users_on s.users c) ≤ joined_count s.slots p
  row_count p pass = omega (
    arith,
    length_below (users_on s.users c) (length s.slots) (on_below s sound c),
    below_le (λ i. times i (users_on s.users c)) (joined_part s.slots (λ flow. 1) p) (length s.slots) (λ id h. elim (bool_cases (is_in id (users_on s.users c))) [
      | inl on ↦ let f = on_held s sound c id on in omega (arith, user_once id, part_one s.slots p id (pass id on) (subst IsSome (sym f.1) refl))
      | inr off ↦ omega (arith, times_out id (users_on s.users c) off)
    ]),
  )

  pub row_uses : (p : ℕ → Bool) → ((id : ℕ) → is_in id (users_on s.users c) ≡ true → IsTrue (p id)) → length (users_on s.users c) ≤ joined_uses s.slots p
  row_uses p pass = omega (
    arith,
    length_below (users_on s.users c) (length s.slots) (on_below s sound c),
    below_le (λ i. times i (users_on s.users c)) (joined_part s.slots (λ flow. length flow.uses) p) (length s.slots) (λ id h. elim (bool_cases (is_in id (users_on s.users c))) [
      | inl on ↦ omega (arith, sound.both id c, times_le_length c (uses_at s.slots id), part_uses s.slots p id (pass id on))
      | inr off ↦ omega (arith, times_out id (users_on s.users c) off)
    ]),
  )

  -- there are no more of them than numbers of flows
  pub row_few : length (users_on s.users c) ≤ length s.slots
  unfolding sum_below
  row_few = omega (arith, length_below (users_on s.users c) (length s.slots) (on_below s sound c), below_le (λ i. times i (users_on s.users c)) (λ i. 1) (length s.slots) (λ id h. user_once id), all (length s.slots))
    where
      all : (n : ℕ) → sum_below (λ i. 1) n ≡ n
      all zero = refl
      all (suc n) = omega (arith, all n)

-- if just what is listed passes of what is held
pub joined_listed : (slots : List (Option Flow)) (p : ℕ → Bool) (xs : List ℕ) → AllPairs (λ a b. a ≢ b) xs → ((i : ℕ) → i < length xs → IsSome (flow_at slots (get_or xs i 0))) → ((id : ℕ) → IsSome (flow_at slots id) → p id ≡ is_in id xs) →
    (joined_count slots p ≡ length xs) × (joined_uses slots p ≡ all_uses slots xs)
joined_listed slots p xs once held same = (
  below_same (joined_part slots (λ flow. 1) p) (λ i. times i xs) (length slots) (λ i. counted i) ∙ sym (length_below xs (length slots) in_slots),
  below_same (joined_part slots (λ flow. length flow.uses) p) (λ i. times i xs * length (uses_at slots i)) (length slots) (λ i h. part_listed slots p xs (λ flow. length flow.uses) once same i ∙ ap (λ n. times i xs * n) (uses_part slots i)) ∙ sym (list_below (λ i. length (uses_at slots i)) xs (length slots) in_slots),
)
  where
    in_slots : (i : ℕ) → i < length xs → get_or xs i 0 < length slots
    in_slots i h = held_below slots (get_or xs i 0) (held i h)

    counted : (id : ℕ) → id < length slots → joined_part slots (λ flow. 1) p id ≡ times id xs
    counted id h = part_listed slots p xs (λ flow. 1) once same id ∙ elim (bool_cases (is_in id xs)) [
      | inl on ↦
          let at = at_in id xs on in
          let f = some_of (flow_at slots id) (subst (λ n. IsSome (flow_at slots n)) at.2 (held at.0 at.1)) in
          ap (λ n. times id xs * n) (ap (slot_part (λ flow. 1)) f.1) ∙ times_one (times id xs)
      | inr off ↦ ap (λ n. n * slot_part (λ flow. 1) (flow_at slots id)) (times_out id xs off) ∙ none_times (slot_part (λ flow. 1) (flow_at slots id)) ∙ sym (times_out id xs off)
    ]

-- how many users a resource has, if each flow uses it as often, or one more does
module _ (s t : Sharing) (sound : IsSound s) (sound' : IsSound t) (c : ℕ) where
  in_s : (i : ℕ) → i < length (users_on s.users c) → get_or (users_on s.users c) i 0 < length s.slots + length t.slots
  in_s i h = omega (arith, on_below s sound c i h)

  in_t : (i : ℕ) → i < length (users_on t.users c) → get_or (users_on t.users c) i 0 < length s.slots + length t.slots
  in_t i h = omega (arith, on_below t sound' c i h)

  pub users_same : ((id : ℕ) → times c (uses_at t.slots id) ≡ times c (uses_at s.slots id)) → length (users_on t.users c) ≡ length (users_on s.users c)
  users_same same = length_below (users_on t.users c) (length s.slots + length t.slots) in_t ∙ below_same (λ i. times i (users_on t.users c)) (λ i. times i (users_on s.users c)) (length s.slots + length t.slots) (λ i h. sound'.both i c ∙ same i ∙ sym (sound.both i c)) ∙ sym (length_below (users_on s.users c) (length s.slots + length t.slots) in_s)

  pub users_more : (id : ℕ) → id < length s.slots + length t.slots → times c (uses_at s.slots id) ≡ 0 → ((other : ℕ) → other ≢ id → uses_at t.slots other ≡ uses_at s.slots other) → length (users_on t.users c) ≡ length (users_on s.users c) + times c (uses_at t.slots id)
  users_more id below none others =
      let n = length s.slots + length t.slots in
      let same = below_same (λ i. times i (users_on t.users c)) (λ i. times i (users_on s.users c) + at_one (λ i. times c (uses_at t.slots id)) id i) n (λ i h. elim (eq_cases i id) [
        | inl e ↦ omega (arith, sound'.both i c, sound.both i c, ap (λ j. times c (uses_at t.slots j)) e, ap (λ j. times c (uses_at s.slots j)) e, none, ap {B = ℕ} (λ b. cond b (times c (uses_at t.slots id)) 0) (eq-eqb id i (sym e)))
        | inr ne ↦ omega (arith, sound'.both i c, sound.both i c, ap (times c) (others i ne), ap {B = ℕ} (λ b. cond b (times c (uses_at t.slots id)) 0) (ne_eqb id i (λ e. ne (sym e))))
      ]) in
      omega (arith, length_below (users_on t.users c) n in_t, length_below (users_on s.users c) n in_s, same, below_add (λ i. times i (users_on s.users c)) (at_one (λ i. times c (uses_at t.slots id)) id) n, one_below (λ i. times c (uses_at t.slots id)) id n below)

-- flows of three lists: those of the first are in the second, and those of the third in the second or held and passing
pub noted_count : (s : Sharing) (p : ℕ → Bool) (n : ℕ) (xs ys zs : List ℕ) → length s.slots ≤ n → AllPairs (λ a b. a ≢ b) xs → AllPairs (λ a b. a ≢ b) zs →
    ((i : ℕ) → i < length xs → get_or xs i 0 < n) → ((i : ℕ) → i < length ys → get_or ys i 0 < n) → ((i : ℕ) → i < length zs → get_or zs i 0 < n) →
    ((id : ℕ) → is_in id xs ≡ true → (is_in id ys ≡ true) × (IsTrue (p id) × IsSome (flow_at s.slots id))) →
    ((id : ℕ) → is_in id zs ≡ true → (is_in id ys ≡ true) ⊎ (IsTrue (p id) × IsSome (flow_at s.slots id))) →
    length xs + length zs ≤ length ys + sum_below (joined_part s.slots (λ flow. 1) p) n
noted_count s p n xs ys zs few once once' bx by bz first third =
    omega (
      arith,
      length_below xs n bx,
      length_below ys n by,
      length_below zs n bz,
      below_add (λ i. times i xs) (λ i. times i zs) n,
      below_add (λ i. times i ys) (joined_part s.slots (λ flow. 1) p) n,
      below_le (λ i. times i xs + times i zs) (λ i. times i ys + joined_part s.slots (λ flow. 1) p i) n (λ id h. each id),
    )
  where
    each : (id : ℕ) → times id xs + times id zs ≤ times id ys + joined_part s.slots (λ flow. 1) p id
    each id = elim (bool_cases (is_in id xs)) [
      | inl on ↦ let f = first id on in omega (arith, once_le xs id once, once_le zs id once', times_in id ys f.0, part_one s.slots p id f.1.0 f.1.1)
      | inr off ↦ elim (bool_cases (is_in id zs)) [
        | inl on ↦ elim (third id on) [
          | inl old ↦ omega (arith, times_out id xs off, once_le zs id once', times_in id ys old)
          | inr held ↦ omega (arith, times_out id xs off, once_le zs id once', part_one s.slots p id held.0 held.1)
        ]
        | inr none ↦ omega (arith, times_out id xs off, times_out id zs none)
      ]
    ]

-- beyond the numbers of flows nothing is held
pub past_none : (slots : List (Option Flow)) (p : ℕ → Bool) (n : ℕ) → length slots ≤ n → ((id : ℕ) → length slots ≤ id → flow_at slots id ≡ None) → sum_below (joined_part slots (λ flow. 1) p) n ≡ joined_count slots p
unfolding sum_below
past_none slots p n few none = go (n - length slots) n (omega (arith, few))
  where
    gap : (id : ℕ) → length slots ≤ id → joined_part slots (λ flow. 1) p id ≡ 0
    gap id past = from (p id) (none id past)
      where
        from : (b : Bool) → flow_at slots id ≡ None → cond b (slot_part (λ flow. 1) (flow_at slots id)) 0 ≡ 0
        from true e = ap (slot_part (λ flow. 1)) e
        from false e = refl

    go : (k m : ℕ) → m ≡ length slots + k → sum_below (joined_part slots (λ flow. 1) p) m ≡ joined_count slots p
    go zero m e = ap (sum_below (joined_part slots (λ flow. 1) p)) (omega (arith, e))
    go (suc k) m e =
        ap (sum_below (joined_part slots (λ flow. 1) p)) (next e)
        ∙ omega (arith, go k (length slots + k) refl, gap (length slots + k) (omega arith))
      where
        next : m ≡ length slots + suc k → m ≡ suc (length slots + k)
        next e = omega (arith, e)

-- ---- the number of visits allowed
pub spare_more : (k k' u u' m : ℕ) → k ≤ k' → u ≤ u' → spare_looks k u m ≤ spare_looks k' u' m
spare_more k k' u u' m le le' =
    let a : (k + m) * (k + m + 1) ≤ (k' + m) * (k' + m + 1) = mul-le-mul (omega (arith, le)) (omega (arith, le)) in
    let b : (k + 4 * m - 1) * u ≤ (k' + 4 * m - 1) * u' = mul-le-mul (omega (arith, le)) le' in
    omega (arith, a, b)

-- a row longer than all that is known pays for a pass over it
pub spare_step : (k k' u u' m : ℕ) → k < k' → u ≤ u' → spare_looks k u m + k' ≤ spare_looks k' u' m
spare_step k k' u u' m less le' =
    let a : (k + m + 1) * (k + m + 1 + 1) ≤ (k' + m) * (k' + m + 1) = mul-le-mul (omega (arith, less)) (omega (arith, less)) in
    let b : (k + 4 * m - 1) * u ≤ (k' + 4 * m - 1) * u' = mul-le-mul (omega (arith, less)) le' in
    let c : (k' + m) * (k + m + 2) ≤ (k' + m) * (k' + m + 1) = mul-le-mul (le_self (k' + m)) (omega (arith, less)) in
    omega (arith, b, more (k + m) (k' + m) (omega (arith, less)))
  where
    le_self : (n : ℕ) → n ≤ n
    le_self n = omega arith

    -- with y = x + 1 + d
    more : (x y : ℕ) → x < y → 4 * (x * (x + 1)) + y ≤ 4 * (y * (y + 1))
    more x y h =
        let p : x * (x + 1) ≤ x * (y + 1) = mul-le-mul (le_self x) (omega (arith, h)) in
        let q : (x + 1) * (y + 1) ≤ y * (y + 1) = mul-le-mul (omega (arith, h)) (le_self (y + 1)) in
        let r : (x + 1) * (y + 1) ≡ x * (y + 1) + (y + 1) = grind arith in
        omega (arith, p, q, r)

pub first_fits : (k r u m spent : ℕ) → spent ≤ spare_looks k r m → spent + k ≤ spare_looks k r m → spent + u ≤ spare_looks (max k u) (max r u) m
first_fits k r u m spent few enough = elim (cases u k) [
  | inl le ↦ omega (arith, enough, le, spare_more k (max k u) r (max r u) m (omega arith) (omega arith))
  | inr less ↦ omega (arith, few, spare_step k (max k u) r (max r u) m (omega (arith, less)) (omega arith), is less)
]
  where
    cases : (a b : ℕ) → (a ≤ b) ⊎ (b < a)
    cases a b = grind arith

    is : k < u → max k u ≡ u
    is less = omega (arith, less)

-- a walk takes no more than was seen to suffice
pub walk_fits : (looks users times longest : ℕ) → users * (2 * longest + 1) ≤ looks → times ≤ 2 * users → users + times * longest ≤ looks
walk_fits looks users times longest enough few =
    let most : times * longest ≤ 2 * users * longest = mul-le-mul few (self longest) in
    omega (arith, enough, most, split users longest)
  where
    self : (n : ℕ) → n ≤ n
    self n = omega arith

    split : (n l : ℕ) → n * (2 * l + 1) ≡ 2 * n * l + n
    split n l = grind arith

pub spare_known : (k r u m spent : ℕ) → spent ≤ spare_looks k r m → spent ≤ spare_looks (max k u) (max r u) m
spare_known k r u m spent few = omega (arith, few, spare_more k (max k u) r (max r u) m (omega arith) (omega arith))
