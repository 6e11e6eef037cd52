-- A list that takes the place of another from the front on.
use Rattle.std.proofs.Common.{◌≡◌, ◌∙◌, sym, ap, ap₂, refl, ℕ, zero, suc, ◌+◌, ◌-◌, ◌<◌, ◌≤◌, List, [], ◌∷◌, ◌++◌, map, length, set, get_or, take, drop, arith, subst, append_assoc, length-append}
use Rattle.std.specs.Prelude.{All}
use Rattle.std.proofs.lemmas.List.{append-nil, drop_all, length-map, map-append, map-set, take_all, take-map}
use Rattle.std.proofs.lemmas.List.Elements.{All-append, All-drop, All-set, All-take}
use Rattle.std.proofs.Math.ListN.{get_or-map}
use Rattle.std.proofs.Math.Seq.{drop-append_seam, take-append_seam}
use Rattle.sg_actor.proofs.SeatLists.{all_front, all_back}

-- the first so many of the new list, and the others of the old one
abbrev pub merged : {X : Type 0} → ℕ → List X → List X → List X
merged n new old = take n new ++ drop n old

as_old : {X : Type 0} (new old : List X) (d : X) (c : ℕ) → length new ≡ length old → ((j : ℕ) → j < c → get_or new j d ≡ get_or old j d) → merged c new old ≡ old
as_old [] [] d zero same alike = refl
as_old [] [] d (suc c) same alike = refl
as_old [] (o ∷ old) d c same alike = absurd (omega (arith, same))
as_old (x ∷ new) [] d c same alike = absurd (omega (arith, same))
as_old (x ∷ new) (o ∷ old) d zero same alike = refl
as_old {X} (x ∷ new) (o ∷ old) d (suc c) same alike =
    let less : length new ≡ length old = omega (arith, same) in
    ap₂ (λ (a : X) (l : List X). a ∷ l) (alike 0 (omega arith)) (as_old new old d c less (λ j within. alike (suc j) (omega (arith, within))))

-- between two places at which they are alike nothing is replaced
pub skipped : {X : Type 0} (new old : List X) (d : X) (b c : ℕ) → b ≤ c → length new ≡ length old → ((j : ℕ) → b ≤ j → j < c → get_or new j d ≡ get_or old j d) → merged b new old ≡ merged c new old
skipped [] [] d zero zero le same alike = refl
skipped [] [] d zero (suc c) le same alike = refl
skipped [] [] d (suc b) zero le same alike = refl
skipped [] [] d (suc b) (suc c) le same alike = refl
skipped [] (o ∷ old) d b c le same alike = absurd (omega (arith, same))
skipped (x ∷ new) [] d b c le same alike = absurd (omega (arith, same))
skipped (x ∷ new) (o ∷ old) d zero c le same alike = sym (as_old (x ∷ new) (o ∷ old) d c same (λ j within. alike j (omega arith) within))
skipped (x ∷ new) (o ∷ old) d (suc b) zero le same alike = absurd (omega (arith, le))
skipped {X} (x ∷ new) (o ∷ old) d (suc b) (suc c) le same alike =
    let less : length new ≡ length old = omega (arith, same) in
    ap (λ (l : List X). x ∷ l) (skipped new old d b c (omega (arith, le)) less (λ j from to. alike (suc j) (omega (arith, from)) (omega (arith, to))))

set_next : {X : Type 0} (new old : List X) (d : X) (i : ℕ) → i < length old → length new ≡ length old → set (merged i new old) i (get_or new i d) ≡ merged (suc i) new old
set_next new [] d i within same = absurd (omega (arith, within))
set_next [] (o ∷ old) d i within same = absurd (omega (arith, same))
set_next (x ∷ new) (o ∷ old) d zero within same = refl
set_next {X} (x ∷ new) (o ∷ old) d (suc i) within same =
    let less : length new ≡ length old = omega (arith, same) in
    ap (λ (l : List X). x ∷ l) (set_next new old d i (omega (arith, within)) less)

at_place : {X : Type 0} (new old : List X) (d : X) (i : ℕ) → i < length old → length new ≡ length old → get_or (merged i new old) i d ≡ get_or old i d
at_place new [] d i within same = absurd (omega (arith, within))
at_place [] (o ∷ old) d i within same = absurd (omega (arith, same))
at_place (x ∷ new) (o ∷ old) d zero within same = refl
at_place (x ∷ new) (o ∷ old) d (suc i) within same = let less : length new ≡ length old = omega (arith, same) in at_place new old d i (omega (arith, within)) less

-- all are replaced
pub merged_all : {X : Type 0} (new old : List X) (n : ℕ) → length new ≤ n → length old ≤ n → merged n new old ≡ new
merged_all {X} new old n long long' = ap₂ (λ (l m : List X). l ++ m) (take_all n new long) (drop_all n old long') ∙ append-nil new

pub all_merged : {X : Type 0} (P : X → Type 0) (new old : List X) (n : ℕ) → All P new → All P old → All P (merged n new old)
all_merged P new old n first second = All-append P (take n new) (drop n old) (All-take P n new first) (All-drop P n old second)

-- ---- of elements, by what they show
-- the element that is replaced next shows what it did
pub was : {S X : Type 0} (see : S → X) (now : List S) (new old : List X) (i : ℕ) (d : S) → i < length old → length new ≡ length old → map see now ≡ merged i new old → see (get_or now i d) ≡ get_or old i (see d)
was {X = X} see now new old i d within same inv =
    sym (get_or-map see now i d) ∙ ap (λ (l : List X). get_or l i (see d)) inv ∙ at_place new old (see d) i within same

-- one element more is replaced
pub placed : {S X : Type 0} (see : S → X) (now : List S) (new old : List X) (i : ℕ) (s : S) (d : X) → i < length old → length new ≡ length old → map see now ≡ merged i new old → see s ≡ get_or new i d → map see (set now i s) ≡ merged (i + 1) new old
placed {X = X} see now new old i s d within same inv is =
    let next : suc i ≡ i + 1 = omega arith in
    map-set see now i s
    ∙ ap₂ (λ (l : List X) (x : X). set l i x) inv is
    ∙ set_next new old d i within same
    ∙ ap (λ (n : ℕ). merged n new old) next

pub all_placed : {S X : Type 0} (see : S → X) (P : X → Type 0) (now : List S) (i : ℕ) (s : S) → P (see s) → All P (map see now) → All P (map see (set now i s))
all_placed {X = X} see P now i s one all = subst (All P) (sym (map-set see now i s)) (All-set P (map see now) i (see s) one all)

pub all_at : {S X : Type 0} (see : S → X) (P : X → Type 0) (now : List S) (i : ℕ) (d : S) → i < length now → All P (map see now) → P (see (get_or now i d))
all_at see P now i d within all = subst P (get_or-map see now i d) (all i (see d) (omega (arith, within, length-map now see)))

-- ---- several elements in one go
-- what a function makes of all
pub mapped_on : {X : Type 0} (f : X → X) (old : List X) (a b : ℕ) → a ≤ b → b ≤ length old → let now = merged a (map f old) old in take a now ++ (map f (drop a (take b now)) ++ drop b now) ≡ merged b (map f old) old
mapped_on {X} f old zero b le within = ap (λ (l : List X). l ++ drop b old) (sym (take-map f b old))
mapped_on f [] (suc a) b le within = absurd (omega (arith, le, within))
mapped_on f (x ∷ old) (suc a) zero le within = absurd (omega (arith, le))
mapped_on {X} f (x ∷ old) (suc a) (suc b) le within = ap (λ (l : List X). f x ∷ l) (mapped_on f old a b (omega (arith, le)) (omega (arith, within)))

-- of a list in three parts the second one is taken on
pub part_on : {S X : Type 0} (see : S → X) (f : X → X) (all front rest some back new : List S) (a b : ℕ) → all ≡ front ++ rest → length front ≡ a → rest ≡ some ++ back → length some ≡ b - a → a ≤ b → map see new ≡ map f (map see some) →
    map see (front ++ (new ++ back)) ≡ take a (map see all) ++ (map f (drop a (take b (map see all))) ++ drop b (map see all))
part_on {X = X} see f all front rest some back new a b is at is' number le made =
    let F = map see front in
    let M = map see some in
    let B = map see back in
    let whole : map see all ≡ F ++ (M ++ B) = ap (map see) is ∙ map-append see front rest ∙ ap (λ (l : List X). F ++ l) (ap (map see) is' ∙ map-append see some back) in
    let split : F ++ (M ++ B) ≡ (F ++ M) ++ B = sym (append_assoc F M B) in
    let first : a ≡ length F = omega (arith, at, length-map front see) in
    let both : b ≡ length (F ++ M) = omega (arith, first, number, le, at, length-map front see, length-map some see, length-append F M) in
    let taken : take a (map see all) ≡ F = ap₂ (λ (n : ℕ) (l : List X). take n l) first whole ∙ take-append_seam F (M ++ B) in
    let front_two : take b (map see all) ≡ F ++ M = ap₂ (λ (n : ℕ) (l : List X). take n l) both (whole ∙ split) ∙ take-append_seam (F ++ M) B in
    let second : drop a (take b (map see all)) ≡ M = ap₂ (λ (n : ℕ) (l : List X). drop n l) first front_two ∙ drop-append_seam F M in
    let third : drop b (map see all) ≡ B = ap₂ (λ (n : ℕ) (l : List X). drop n l) both (whole ∙ split) ∙ drop-append_seam (F ++ M) B in
    map-append see front (new ++ back)
    ∙ ap (λ (l : List X). F ++ l) (map-append see new back ∙ ap (λ (l : List X). l ++ B) made)
    ∙ sym (ap₂ (λ (l m : List X). l ++ m) taken (ap₂ (λ (l m : List X). map f l ++ m) second third))

pub part_all : {S X : Type 0} (see : S → X) (P : X → Type 0) (all front rest some back : List S) → all ≡ front ++ rest → rest ≡ some ++ back → All P (map see all) → All P (map see some)
part_all {S = S} see P all front rest some back is is' each =
    all_front see P some back (subst (λ (l : List S). All P (map see l)) is' (all_back see P front rest (subst (λ (l : List S). All P (map see l)) is each)))
