-- The reverse of a reverse route.
use Rattle.std.proofs.Common.{◌≡◌, ◌+◌, ◌-◌, ◌<◌, ◌≤◌, ◌⊎◌, inl, inr, ℕ, zero, suc, List, [], ◌∷◌, ◌++◌, length, length-append, get_or, arith, refl, sym, ◌∙◌, ap}
use Rattle.std.proofs.lemmas.List.{get_or_append_left, get_or-append_right, map-append, reverse-append, reverse-reverse}
use Rattle.std.specs.Prelude.{map, reverse, All}
use Rattle.sg_base.specs.declared.ids.LinkId.{LinkId}
use Rattle.sg_platform_rows.specs.Ends.{back_of, ends_from, ends_of, link_end, link_ends}
use Rattle.sg_platform_rows.specs.Platform.{Platform}
use Rattle.sg_platform_rows.specs.declared.ends.LinkEnd.{LinkEnd}
use Rattle.sg_platform_rows.specs.declared.rows.LinkRow.{LinkRow}
use Rattle.sg_platform_rows.specs.declared.rows.Policy.{Policy}
use Rattle.sg_platform_rows.specs.declared.rows.Policy.TheVariants.{Shared, Fatpipe, SplitDuplex}
use Rattle.sg_route_laws.specs.Laws.{WayBackReturns}

-- ---- the other direction of the other direction

-- the number of the other direction of the link with this index
abbrev back : List LinkEnd → ℕ → ℕ
back ends i = (get_or ends i (link_end 0 0)).back.0

-- it is among these links, which are numbered from `first` on, and its other direction is the link itself
record ReturnsAt (first : ℕ) (ends : List LinkEnd) (i : ℕ) : Type 0 where
  low : first ≤ back ends i
  high : back ends i < first + length ends
  returns : back ends (back ends i - first) ≡ first + i

abbrev Returns : ℕ → List LinkEnd → Type 0
Returns first ends = (i : ℕ) → i < length ends → ReturnsAt first ends i

either : (i n : ℕ) → (i < n) ⊎ (n ≤ i)
either i zero = inr (omega arith)
either zero (suc n) = inl (omega arith)
either (suc i) (suc n) = go (either i n)
  where
    go : ((i < n) ⊎ (n ≤ i)) → (suc i < suc n) ⊎ (suc n ≤ suc i)
    go (inl h) = inl (omega arith)
    go (inr h) = inr (omega arith)

back_left : (xs ys : List LinkEnd) (i : ℕ) → i < length xs → back (xs ++ ys) i ≡ back xs i
back_left xs ys i few = ap (λ e. e.back.0) (get_or_append_left xs ys (link_end 0 0) i few)

back_right : (xs ys : List LinkEnd) (i : ℕ) → length xs ≤ i → back (xs ++ ys) i ≡ back ys (i - length xs)
back_right xs ys i many = ap (λ e. e.back.0) (get_or-append_right xs ys (length xs) i (link_end 0 0) refl many)

append_returns : (first : ℕ) (xs ys : List LinkEnd) → Returns first xs → Returns (first + length xs) ys → Returns first (xs ++ ys)
append_returns first xs ys rx ry i few = go (either i (length xs))
  where
    go : ((i < length xs) ⊎ (length xs ≤ i)) → ReturnsAt first (xs ++ ys) i
    go (inl h) =
        let r = rx i h in
        let low = r.low in
        let high = r.high in
        let n = length-append xs ys in
        let e : back (xs ++ ys) i ≡ back xs i = back_left xs ys i h in
        record {
          low = omega (arith, e, low);
          high = omega (arith, e, high, n);
          returns = ap (λ k. back (xs ++ ys) (k - first)) e ∙ back_left xs ys (back xs i - first) (omega arith) ∙ r.returns;
        }
    go (inr h) =
        let n = length-append xs ys in
        let r = ry (i - length xs) (omega (arith, n, few, h)) in
        let low = r.low in
        let high = r.high in
        let e : back (xs ++ ys) i ≡ back ys (i - length xs) = back_right xs ys i h in
        let same : (back ys (i - length xs) - first) - length xs ≡ back ys (i - length xs) - (first + length xs) = omega arith in
        let sum : (first + length xs) + (i - length xs) ≡ first + i = omega arith in
        record {
          low = omega (arith, e, low);
          high = omega (arith, e, high, n);
          returns = ap (λ k. back (xs ++ ys) (k - first)) e ∙ back_right xs ys (back ys (i - length xs) - first) (omega arith)
              ∙ ap (back ys) same ∙ r.returns ∙ sum;
        }

one_returns : (first n latency : ℕ) → n ≡ first → Returns first (link_end n latency ∷ [])
one_returns first n latency is zero few =
    let e : n - first ≡ 0 = omega arith in
    let z : n ≡ first + 0 = omega arith in
    record { low = omega arith; high = omega arith; returns = ap (back (link_end n latency ∷ [])) e ∙ z }
one_returns first n latency is (suc i) few = absurd (omega arith)

two_return : (first latency : ℕ) → Returns first (link_end (first + 1) latency ∷ (link_end first latency ∷ []))
two_return first latency zero few =
    let e : first + 1 - first ≡ 1 = omega arith in
    let z : first ≡ first + 0 = omega arith in
    record { low = omega arith; high = omega arith; returns = ap (back (link_end (first + 1) latency ∷ (link_end first latency ∷ []))) e ∙ z }
two_return first latency (suc zero) few =
    let e : first - first ≡ 0 = omega arith in
    record { low = omega arith; high = omega arith; returns = ap (back (link_end (first + 1) latency ∷ (link_end first latency ∷ []))) e }
two_return first latency (suc (suc i)) few = absurd (omega arith)

row_returns : (first latency : ℕ) (policy : Policy) → Returns first (ends_of first latency policy)
row_returns first latency Shared = one_returns first first latency refl
row_returns first latency Fatpipe = one_returns first first latency refl
row_returns first latency SplitDuplex = two_return first latency

rows_return : (first : ℕ) (rows : List LinkRow) → Returns first (ends_from first rows)
rows_return first [] i few = absurd (omega arith)
rows_return first (row ∷ rows) i few =
    let own = ends_of first row.latency row.policy in
    append_returns first own (ends_from (first + length own) rows) (row_returns first row.latency row.policy) (rows_return (first + length own) rows) i few

all_return : (rows : List LinkRow) → Returns 0 (link_ends rows)
all_return rows =
    let all = ends_from 0 rows in
    append_returns 0 all (link_end (length all) 15000 ∷ []) (rows_return 0 rows) (one_returns (0 + length all) (length all) 15000 (omega arith))

back_returns : (rows : List LinkRow) (link : LinkId) → link.0 < length (link_ends rows) → back_of (link_ends rows) (back_of (link_ends rows) link) ≡ link
back_returns rows link inside =
    let r = all_return rows link.0 inside in
    let e : back (link_ends rows) link.0 ≡ back (link_ends rows) link.0 - 0 = omega arith in
    let n : back (link_ends rows) (back (link_ends rows) link.0) ≡ link.0 = ap (back (link_ends rows)) e ∙ r.returns ∙ omega arith in
    let make : ℕ → LinkId = λ k. record { 0 = k } in
    ap make n

-- ---- lists of links

map_reverse : {X Y : Type 0} (f : X → Y) (xs : List X) → reverse (map f xs) ≡ map f (reverse xs)
map_reverse f [] = refl
map_reverse f (x ∷ xs) =
    reverse-append (f x ∷ []) (map f xs) ∙ ap (λ ys. ys ++ f x ∷ []) (map_reverse f xs) ∙ sym (map-append f (reverse xs) (x ∷ []))
    ∙ ap (map f) (sym (reverse-append (x ∷ []) xs))

map_twice : {X : Type 0} (f : X → X) (xs : List X) → All (λ x. f (f x) ≡ x) xs → map f (map f xs) ≡ xs
map_twice f [] h = refl
map_twice {X} f (x ∷ xs) h =
    let e : f (f x) ≡ x = h 0 x (omega arith) in
    let more : map f (map f xs) ≡ xs = map_twice f xs (λ k d few. h (suc k) d (omega arith)) in
    ap (λ y. y ∷ map f (map f xs)) e ∙ ap (λ ys. x ∷ ys) more

pub way_back_returns : (p : Platform) → WayBackReturns p
way_back_returns p links inside =
    let ends = link_ends p.links in
    ap (map (back_of ends)) (map_reverse (back_of ends) (reverse links) ∙ ap (map (back_of ends)) (reverse-reverse links))
    ∙ map_twice (back_of ends) links (λ k d few. back_returns p.links (get_or links k d) (inside k d few))
