-- The order of lists of links: lists may be compared one by one, and after the same links.
use Rattle.std.proofs.Common.{◌≡◌, ◌<◌, ◌⊎◌, ℕ, Bool, true, false, List, [], ◌∷◌, ◌++◌, length, inl, inr, refl, sym, ap, ap₂, ◌∙◌, arith, length-append}
use Rattle.std.specs.Prelude.{◌==◌, ◌&&◌, ◌||◌, nat_lt}
use Rattle.std.proofs.lemmas.Bool.Decides.{nat_tests}
use Rattle.sg_base.specs.declared.ids.LinkId.{LinkId}
use Rattle.sg_paths.specs.Order.{IsNotGreater, IsNotAfter, not_after, not_greater}

pub not_greater_same : (a : List LinkId) → IsNotGreater a a
not_greater_same [] = tt
not_greater_same (x ∷ a) = inr (refl, not_greater_same a)

pub not_greater_through : (a b c : List LinkId) → IsNotGreater a b → IsNotGreater b c → IsNotGreater a c
not_greater_through [] b c p q = tt
not_greater_through (x ∷ a) [] c p q = absurd p
not_greater_through (x ∷ a) (y ∷ b) [] p q = absurd q
not_greater_through (x ∷ a) (y ∷ b) (z ∷ c) p q = go (not_greater_through a b c) p q
  where
    go : (IsNotGreater a b → IsNotGreater b c → IsNotGreater a c) → (x.0 < y.0) ⊎ ((x.0 ≡ y.0) × IsNotGreater a b) → (y.0 < z.0) ⊎ ((y.0 ≡ z.0) × IsNotGreater b c) → (x.0 < z.0) ⊎ ((x.0 ≡ z.0) × IsNotGreater a c)
    go rest (inl l) (inl m) = inl (omega arith)
    go rest (inl l) (inr m) = let e : y.0 ≡ z.0 = m.0 in inl (omega arith)
    go rest (inr l) (inl m) = let e : x.0 ≡ y.0 = l.0 in inl (omega arith)
    go rest (inr l) (inr m) = inr (l.0 ∙ m.0, rest l.1 m.1)

pub not_after_same : (a : List LinkId) → IsNotAfter a a
not_after_same a = inr (refl, not_greater_same a)

pub not_after_through : (a b c : List LinkId) → IsNotAfter a b → IsNotAfter b c → IsNotAfter a c
not_after_through a b c (inl l) (inl m) = inl (omega arith)
not_after_through a b c (inl l) (inr m) = let e : length b ≡ length c = m.0 in inl (omega arith)
not_after_through a b c (inr l) (inl m) = let e : length a ≡ length b = l.0 in inl (omega arith)
not_after_through a b c (inr l) (inr m) = inr (l.0 ∙ m.0, not_greater_through a b c l.1 m.1)

pub not_greater_behind : (c a b : List LinkId) → IsNotGreater a b → IsNotGreater (c ++ a) (c ++ b)
not_greater_behind [] a b h = h
not_greater_behind (x ∷ c) a b h = inr (refl, not_greater_behind c a b h)

-- lists keep their order after the same links
pub not_after_behind : (c a b : List LinkId) → IsNotAfter a b → IsNotAfter (c ++ a) (c ++ b)
not_after_behind c a b (inl l) = inl (omega (arith, length-append c a, length-append c b))
not_after_behind c a b (inr l) = let e : length a ≡ length b = l.0 in inr (omega (arith, length-append c a, length-append c b), not_greater_behind c a b l.1)

-- a list isn't after a longer one that ends in it
pub not_after_longer : (c a : List LinkId) → IsNotAfter a (c ++ a)
not_after_longer [] a = not_after_same a
not_after_longer (x ∷ c) a = inl (omega (arith, length-append (x ∷ c) a))

-- ---- the order as a test

greater_told : (a b : List LinkId) (t : Bool) → not_greater a b ≡ t → length a ≡ length b → (t ≡ true → IsNotGreater a b) × (t ≡ false → IsNotGreater b a)
greater_told [] [] t is same = ((λ h. tt), (λ h. tt))
greater_told [] (y ∷ b) t is same = absurd (omega arith)
greater_told (x ∷ a) [] t is same = absurd (omega arith)
greater_told (x ∷ a) (y ∷ b) t is same = go (nat_lt x.0 y.0) refl (x.0 == y.0) refl (greater_told a b (not_greater a b) refl (omega arith)) is
  where
    go : (l : Bool) → nat_lt x.0 y.0 ≡ l → (e : Bool) → (x.0 == y.0) ≡ e
        → ((not_greater a b ≡ true → IsNotGreater a b) × (not_greater a b ≡ false → IsNotGreater b a)) → (l || e && not_greater a b) ≡ t
        → (t ≡ true → IsNotGreater (x ∷ a) (y ∷ b)) × (t ≡ false → IsNotGreater (y ∷ b) (x ∷ a))
    go true l e q rest is = let less : x.0 < y.0 = grind (arith, nat_tests) in ((λ h. inl less), (λ h. absurd (cc)))
    go false l true q rest is = let eq : x.0 ≡ y.0 = grind (arith, nat_tests) in ((λ h. inr (eq, rest.0 (is ∙ h))), (λ h. inr (sym eq, rest.1 (is ∙ h))))
    go false l false q rest is = let more : y.0 < x.0 = grind (arith, nat_tests) in ((λ h. absurd (cc)), (λ h. inl more))

after_told : (a b : List LinkId) (t : Bool) → not_after a b ≡ t → (t ≡ true → IsNotAfter a b) × (t ≡ false → IsNotAfter b a)
after_told a b t is = go (nat_lt (length a) (length b)) refl (length a == length b) refl is
  where
    go : (l : Bool) → nat_lt (length a) (length b) ≡ l → (e : Bool) → (length a == length b) ≡ e → (l || e && not_greater a b) ≡ t
        → (t ≡ true → IsNotAfter a b) × (t ≡ false → IsNotAfter b a)
    go true l e q is = let less : length a < length b = grind (arith, nat_tests) in ((λ h. inl less), (λ h. absurd (cc)))
    go false l true q is =
        let eq : length a ≡ length b = grind (arith, nat_tests) in
        let rest = greater_told a b (not_greater a b) refl eq in
        ((λ h. inr (eq, rest.0 (is ∙ h))), (λ h. inr (sym eq, rest.1 (is ∙ h))))
    go false l false q is = let more : length b < length a = grind (arith, nat_tests) in ((λ h. absurd (cc)), (λ h. inl more))

pub not_after_true : (a b : List LinkId) → not_after a b ≡ true → IsNotAfter a b
not_after_true a b is = (after_told a b true is).0 refl

pub not_after_false : (a b : List LinkId) → not_after a b ≡ false → IsNotAfter b a
not_after_false a b is = (after_told a b false is).1 refl

-- ---- lists of which neither is after the other are the same

one_link : (x y : LinkId) → x.0 ≡ y.0 → x ≡ y
one_link x y e = let make : ℕ → LinkId = λ n. record { 0 = n } in ap make e

not_greater_both : (a b : List LinkId) → length a ≡ length b → IsNotGreater a b → IsNotGreater b a → a ≡ b
not_greater_both [] [] same p q = refl
not_greater_both [] (y ∷ b) same p q = absurd (omega arith)
not_greater_both (x ∷ a) [] same p q = absurd (omega arith)
not_greater_both (x ∷ a) (y ∷ b) same p q = go (not_greater_both a b (omega arith)) p q
  where
    go : (IsNotGreater a b → IsNotGreater b a → a ≡ b) → (x.0 < y.0) ⊎ ((x.0 ≡ y.0) × IsNotGreater a b) → (y.0 < x.0) ⊎ ((y.0 ≡ x.0) × IsNotGreater b a) → (x ∷ a) ≡ (y ∷ b)
    go rest (inl l) (inl m) = absurd (omega arith)
    go rest (inl l) (inr m) = let e : y.0 ≡ x.0 = m.0 in absurd (omega arith)
    go rest (inr l) (inl m) = let e : x.0 ≡ y.0 = l.0 in absurd (omega arith)
    go rest (inr l) (inr m) = ap₂ (λ (h : LinkId) (t : List LinkId). h ∷ t) (one_link x y l.0) (rest l.1 m.1)

pub not_after_both : (a b : List LinkId) → IsNotAfter a b → IsNotAfter b a → a ≡ b
not_after_both a b (inl l) (inl m) = absurd (omega arith)
not_after_both a b (inl l) (inr m) = let e : length b ≡ length a = m.0 in absurd (omega arith)
not_after_both a b (inr l) (inl m) = let e : length a ≡ length b = l.0 in absurd (omega arith)
not_after_both a b (inr l) (inr m) = not_greater_both a b l.0 l.1 m.1

pub nothing_before : (other : List LinkId) → IsNotAfter [] other
nothing_before [] = inr (refl, tt)
nothing_before (x ∷ other) = inl (omega arith)

-- of lists of one length
pub greater_of : (a b : List LinkId) → IsNotAfter a b → length a ≡ length b → IsNotGreater a b
greater_of a b (inl less) same = absurd (omega arith)
greater_of a b (inr l) same = l.1
