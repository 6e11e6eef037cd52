-- Keys come in the order of their lists.
use Rattle.std.proofs.Common.{◌≡◌, ◌+◌, ◌*◌, ◌/◌, ◌<◌, ◌≤◌, ◌⊎◌, ℕ, zero, suc, List, [], ◌∷◌, length, inl, inr, refl, sym, subst, ap, ◌∙◌, arith}
use Rattle.sg_base.specs.declared.ids.LinkId.{LinkId}
use Rattle.sg_heap.specs.Agenda.{Key, IsNoLater}
use Rattle.sg_paths.specs.declared.ahead.Mark.{Mark}
use Rattle.sg_paths.specs.Ahead.{IsKeyOf, IsMark}
use Rattle.sg_paths.specs.Order.{IsNotAfter}
use Rattle.sg_paths.proofs.OrderLemmas.{greater_of, not_after_same, nothing_before}
use Rattle.sg_paths.proofs.PathLemmas.{label_before, label_last, label_more}

pub tri : (m n : ℕ) → (m < n) ⊎ ((m ≡ n) ⊎ (n < m))
tri zero zero = inr (inl refl)
tri zero (suc n) = inl (omega arith)
tri (suc m) zero = inr (inr (omega arith))
tri (suc m) (suc n) = go (tri m n)
  where
    go : ((m < n) ⊎ ((m ≡ n) ⊎ (n < m))) → (suc m < suc n) ⊎ ((suc m ≡ suc n) ⊎ (suc n < suc m))
    go (inl h) = inl (omega arith)
    go (inr (inl h)) = inr (inl (ap suc h))
    go (inr (inr h)) = inr (inr (omega arith))

-- lists by their ranks: the empty one first, none before another of a lower rank, and none with more links than its rank
pub record IsRanked (order : ℕ → List LinkId) (ranks : ℕ) : Type 0 where
  pub start : order 0 ≡ []
  pub some : 0 < ranks
  pub short : (j : ℕ) → j < ranks → length (order j) ≤ j
  pub rising : (j k : ℕ) → j ≤ k → k < ranks → IsNotAfter (order j) (order k)

-- a key that is no later has a list that is no later
pub key_order : (order : ℕ → List LinkId) (ranks : ℕ) (k j : Key) (a b : List LinkId) → IsRanked order ranks → IsKeyOf order ranks k a → IsKeyOf order ranks j b → IsNoLater k j → IsNotAfter a b
key_order order ranks k j [] b ranked p q before = nothing_before b
key_order order ranks k j (x ∷ a) [] ranked p q before = absurd (never before)
  where
    d : k.date ≡ (length a + 1) * 4294967296 + x.0
    d = let same = p.date in omega (arith, same)

    e : j.date ≡ 0
    e = let same = q.date in omega (arith, same)

    never : (k.date < j.date) ⊎ ((k.date ≡ j.date) × (k.serial ≤ j.serial)) → ⊥
    never (inl less) = let d' = d in let e' = e in omega (arith, d', e', less)
    never (inr same) = let d' = d in let e' = e in let s : k.date ≡ j.date = same.0 in omega (arith, d', e', s)
key_order order ranks k j (x ∷ a) (y ∷ b) ranked p q before = go (tri (length a) (length b)) before
  where
    d : k.date ≡ (length a + 1) * 4294967296 + x.0
    d = let same = p.date in omega (arith, same)

    e : j.date ≡ (length b + 1) * 4294967296 + y.0
    e = let same = q.date in omega (arith, same)

    fx : x.0 < 4294967296
    fx = p.fits

    fy : y.0 < 4294967296
    fy = q.fits

    tails : k.serial ≤ j.serial → IsNotAfter a b
    tails le =
        let rising = ranked.rising k.serial j.serial le q.rank in
        subst (λ (l : List LinkId). IsNotAfter l b) (sym p.rest) (subst (λ (l : List LinkId). IsNotAfter (order k.serial) l) (sym q.rest) rising)

    go : ((length a < length b) ⊎ ((length a ≡ length b) ⊎ (length b < length a))) → (k.date < j.date) ⊎ ((k.date ≡ j.date) × (k.serial ≤ j.serial)) → IsNotAfter (x ∷ a) (y ∷ b)
    go (inl less) h = inl (omega arith)
    go (inr (inl same)) (inl less) =
        let d' = d in let e' = e in
        let lower : x.0 < y.0 = omega (arith, d', e', same, less) in
        inr (ap suc same, inl lower)
    go (inr (inl same)) (inr both) =
        let d' = d in let e' = e in let s : k.date ≡ j.date = both.0 in
        let equal : x.0 ≡ y.0 = omega (arith, d', e', same, s) in
        inr (ap suc same, inr (equal, greater_of a b (tails both.1) same))
    go (inr (inr more)) (inl less) = let d' = d in let e' = e in let f = fy in absurd (omega (arith, d', e', f, more, less))
    go (inr (inr more)) (inr both) = let d' = d in let e' = e in let f = fy in let s : k.date ≡ j.date = both.0 in absurd (omega (arith, d', e', f, more, s))

-- a next list has no more links than there are ranks
pub at_hand_short : (order : ℕ → List LinkId) (ranks : ℕ) (key : Key) (links : List LinkId) → IsRanked order ranks → IsKeyOf order ranks key links → length links ≤ key.serial + 1
at_hand_short order ranks key [] ranked is = omega arith
at_hand_short order ranks key (x ∷ links) ranked is =
    let n : length links ≡ length (order key.serial) = ap (length {A = LinkId}) is.rest in
    let s = ranked.short key.serial is.rank in
    omega (arith, n, s)

pub date_small : (order : ℕ → List LinkId) (ranks : ℕ) (key : Key) (links : List LinkId) → IsRanked order ranks → IsKeyOf order ranks key links → ranks ≤ 18446744073709551616 → key.date < 1267650600228229401496703205376
date_small order ranks key links ranked is few =
    let s = at_hand_short order ranks key links ranked is in
    let r = is.rank in
    let d = is.date in
    let f = is.fits in
    omega (arith, s, r, d, f, few)

-- ---- one more list takes a rank

below_or_last : (j n : ℕ) → j < n + 1 → (j < n) ⊎ (j ≡ n)
below_or_last j n h = go (tri j n)
  where
    go : ((j < n) ⊎ ((j ≡ n) ⊎ (n < j))) → (j < n) ⊎ (j ≡ n)
    go (inl l) = inl l
    go (inr (inl e)) = inr e
    go (inr (inr l)) = absurd (omega arith)

-- what holds of each list by its rank, and of the new one, holds of each then
pub each_more : (P : List LinkId → Type 0) (order : ℕ → List LinkId) (ranks : ℕ) (links : List LinkId) → ((j : ℕ) → j < ranks → P (order j)) → P links → (j : ℕ) → j < ranks + 1 → P (label_more order ranks links j)
each_more P order ranks links old new j h = go (below_or_last j ranks h)
  where
    go : (j < ranks) ⊎ (j ≡ ranks) → P (label_more order ranks links j)
    go (inl l) = subst P (sym (label_before order ranks links j l)) (old j l)
    go (inr e) = subst P (sym (ap (label_more order ranks links) e ∙ label_last order ranks links)) new

pub ranked_more : (order : ℕ → List LinkId) (ranks : ℕ) (links : List LinkId) → IsRanked order ranks → length links ≤ ranks → ((j : ℕ) → j < ranks → IsNotAfter (order j) links) → IsRanked (label_more order ranks links) (ranks + 1)
ranked_more order ranks links ranked few before = record {
  start = let some = ranked.some in label_before order ranks links 0 some ∙ ranked.start;
  some = omega arith;
  short = λ j h. short j (below_or_last j ranks h);
  rising = λ j k le h. rising j k le (below_or_last k ranks h);
}
  where
    order' : ℕ → List LinkId
    order' = label_more order ranks links

    short : (j : ℕ) → (j < ranks) ⊎ (j ≡ ranks) → length (order' j) ≤ j
    short j (inl l) = subst (λ (xs : List LinkId). length xs ≤ j) (sym (label_before order ranks links j l)) (ranked.short j l)
    short j (inr e) = subst (λ (xs : List LinkId). length xs ≤ j) (sym (ap order' e ∙ label_last order ranks links)) (omega arith)

    rising : (j k : ℕ) → j ≤ k → (k < ranks) ⊎ (k ≡ ranks) → IsNotAfter (order' j) (order' k)
    rising j k le (inl l) =
        subst (λ (xs : List LinkId). IsNotAfter xs (order' k)) (sym (label_before order ranks links j (omega arith)))
        (subst (λ (xs : List LinkId). IsNotAfter (order j) xs) (sym (label_before order ranks links k l)) (ranked.rising j k le l))
    rising j k le (inr e) =
        subst (λ (xs : List LinkId). IsNotAfter (order' j) xs) (sym (ap order' e ∙ label_last order ranks links))
        (each_more (λ xs. IsNotAfter xs links) order ranks links before (not_after_same links) j (omega arith))

pub key_more : (order : ℕ → List LinkId) (ranks : ℕ) (more : List LinkId) (key : Key) (links : List LinkId) → IsKeyOf order ranks key links → IsKeyOf (label_more order ranks more) (ranks + 1) key links
key_more order ranks more key links is = record {
  date = is.date;
  fits = is.fits;
  rank = let r = is.rank in omega (arith, r);
  rest = is.rest ∙ sym (label_before order ranks more key.serial is.rank);
}

-- the next list takes the next rank
pub mark_of : (order : ℕ → List LinkId) (ranks : ℕ) (key : Key) (links : List LinkId) → IsKeyOf order ranks key links
    → IsMark (label_more order ranks links) (ranks + 1) (record { date = key.date; serial = key.serial; rank = ranks }) links
mark_of order ranks key links is = record { key = key_more order ranks links key links is; rank = omega arith; at = label_last order ranks links }

-- the key of a list with one more link before it
pub key_with : (order : ℕ → List LinkId) (ranks : ℕ) (mark : Mark) (links : List LinkId) (link : LinkId) → IsMark order ranks mark links → link.0 < 4294967296
    → IsKeyOf order ranks (record { date = (mark.date / 4294967296 + 1) * 4294967296 + link.0; serial = mark.rank }) (link ∷ links)
key_with order ranks mark links link is fits =
    let d = (is.key).date in
    let f = (is.key).fits in
    let n : mark.date / 4294967296 ≡ length links = omega (arith, d, f) in
    record { date = omega (arith, n); fits = fits; rank = is.rank; rest = sym is.at }
