-- If sums over two lists of flows are the same, so are the shares.
use Rattle.std.proofs.Common.{◌≡◌, ℕ, zero, suc, ◌<◌, inl, inr, Bool, true, false, cond, ◌&&◌, ◌==◌, true≢false, Option, None, Some, List, [], ◌∷◌, sum_by, refl, sym, ap, ap₂, subst, ◌∙◌, arith}
use Rattle.std.proofs.lemmas.List.Sums.{sum_by-cons}
use Rattle.sg_maxmin.specs.Fill.{Flow, flow, is_on, share_of}
use Rattle.sg_maxmin.specs.Laws.{HaveLimits, HaveSameSums, SharesSame}
use Rattle.sg_maxmin.proofs.Members.{In, In-from_contains, contains_from_In}
use Rattle.sg_maxmin.proofs.Sums.{le-sum_by}
use Rattle.sg_maxmin.proofs.Same.{share_of_part}
use Rattle.sg_maxmin.proofs.Proved.{limited_from}

abbrev same_nats : List ℕ → List ℕ → Bool
same_nats [] [] = true
same_nats [] (y ∷ ys) = false
same_nats (x ∷ xs) [] = false
same_nats (x ∷ xs) (y ∷ ys) = (x == y) && same_nats xs ys

abbrev same_bound : Option ℕ → Option ℕ → Bool
same_bound None None = true
same_bound None (Some y) = false
same_bound (Some x) None = false
same_bound (Some x) (Some y) = x == y

abbrev same_flow : Flow → Flow → Bool
same_flow f g = same_nats f.uses g.uses && ((f.weight == g.weight) && same_bound f.bound g.bound)

eq_self : (n : ℕ) → (n == n) ≡ true
eq_self n = grind arith

eq_from : (a b : ℕ) → (a == b) ≡ true → a ≡ b
eq_from a b e = grind arith

and_parts : (a b : Bool) → (a && b) ≡ true → (a ≡ true) × (b ≡ true)
and_parts true b e = (refl, e)
and_parts false b e = absurd (true≢false (sym e))

nats_self : (xs : List ℕ) → same_nats xs xs ≡ true
nats_self [] = refl
nats_self (x ∷ xs) = rw (eq_self x) (nats_self xs)

nats_from : (xs ys : List ℕ) → same_nats xs ys ≡ true → xs ≡ ys
nats_from [] [] e = refl
nats_from [] (y ∷ ys) e = absurd (true≢false (sym e))
nats_from (x ∷ xs) [] e = absurd (true≢false (sym e))
nats_from (x ∷ xs) (y ∷ ys) e =
    let both = and_parts (x == y) (same_nats xs ys) e in
    ap₂ (λ a l. a ∷ l) (eq_from x y both.0) (nats_from xs ys both.1)

bound_self : (b : Option ℕ) → same_bound b b ≡ true
bound_self None = refl
bound_self (Some x) = eq_self x

bound_from : (a b : Option ℕ) → same_bound a b ≡ true → a ≡ b
bound_from None None e = refl
bound_from None (Some y) e = absurd (true≢false (sym e))
bound_from (Some x) None e = absurd (true≢false (sym e))
bound_from (Some x) (Some y) e = ap (λ n. Some n) (eq_from x y e)

flow_self : (f : Flow) → same_flow f f ≡ true
flow_self f = rw (nats_self f.uses, eq_self f.weight) (bound_self f.bound)

flow_from : (f g : Flow) → same_flow f g ≡ true → g ≡ f
flow_from f g e =
    let both = and_parts (same_nats f.uses g.uses) ((f.weight == g.weight) && same_bound f.bound g.bound) e in
    let rest = and_parts (f.weight == g.weight) (same_bound f.bound g.bound) both.1 in
    ap₂ (λ uses weight. flow uses weight g.bound) (sym (nats_from f.uses g.uses both.0)) (sym (eq_from f.weight g.weight rest.0))
    ∙ ap (λ bound. flow f.uses f.weight bound) (sym (bound_from f.bound g.bound rest.1))

sum_some : {X : Type 0} (h : X → ℕ) (xs : List X) → 0 < sum_by h xs → (x : X) × In x xs × (0 < h x)
sum_some h [] pos = absurd (omega (arith, pos))
sum_some {X} h (y ∷ xs) pos = cases (h y) refl (sum_some h xs)
  where
    cases : (n : ℕ) → h y ≡ n → (0 < sum_by h xs → (x : X) × In x xs × (0 < h x)) → (x : X) × In x (y ∷ xs) × (0 < h x)
    cases zero e more = let r = more (omega (arith, sum_by-cons h y xs, e, pos)) in (r.0, inr r.1, r.2)
    cases (suc n) e more = (y, inl refl, omega (arith, e))

cond_pos : (b : Bool) → 0 < cond b 1 0 → b ≡ true
cond_pos true p = refl
cond_pos false p = absurd (omega (arith, p))

-- what is in the one is in the other
pub inside_sums : (part whole : List Flow) → HaveSameSums part whole → (f : Flow) → In f part → In f whole
inside_sums part whole same f i =
    let h : Flow → ℕ = λ g. cond (same_flow f g) 1 0 in
    let one : h f ≡ 1 = ap (λ b. cond b 1 0) (flow_self f) in
    let found = sum_some h whole (omega (arith, le-sum_by h part f i, same h, one)) in
    subst (λ g. In g whole) (flow_from f found.0 (cond_pos (same_flow f found.0) found.2)) found.1

pub share_same : (caps : List ℕ) (part whole : List Flow) → HaveSameSums part whole → HaveLimits whole → (f : Flow) → In f part → share_of caps part f ≡ share_of caps whole f
share_same caps part whole same limits f i =
    let few : HaveLimits part = λ g there. limits g (contains_from_In whole g (inside_sums part whole same g (In-from_contains part g there))) in
    share_of_part caps part whole (limited_from caps part few) (limited_from caps whole limits)
    (record { inside = inside_sums part whole same; alone = λ g j c u h. same (λ w. cond (is_on c w) (h w) 0) }) f i

pub shares_same_lem : SharesSame
shares_same_lem caps ones others flow same limits among = share_same caps ones others same limits flow (In-from_contains ones flow among)
