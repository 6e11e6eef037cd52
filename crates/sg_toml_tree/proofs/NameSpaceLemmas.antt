-- What a map of names finds.
use Rattle.std.proofs.Common.{◌≡◌, ℕ, ◌+◌, ◌<◌, Bool, true, false, cond, List, [], ◌∷◌, ◌++◌, map, length, take, drop, get_or, suc, append_assoc, arith, Option, Some, None, is_some, Result, Ok, Err, OnErr, refl, ap, ◌∙◌, sym, inl, inr}
use Rattle.std.proofs.lemmas.Bool.{cases_Bool, false≢true, false_from_ne_true}
use Rattle.std.proofs.lemmas.List.{append-nil, drop_more, length-take-le, take_more}
use Rattle.std.proofs.lemmas.Slice.Eq.{bytes_eq-Decides}
use Rattle.std.specs.List.{flat_map}
use Rattle.std.specs.Map.{lookup}
use Rattle.std.specs.Str.{bytes_eq}
use Rattle.sg_toml_tree.proofs.Along.{along_map}
use Rattle.sg_toml_tree.specs.Along.{along}
use Rattle.sg_toml_tree.specs.NameSpaces.{numbered, or_else, with_number}

-- what holds holds after an error
pub on_err : {A E : Type 0} (r : Result A E) (P : Type 0) → P → OnErr r P
on_err (Ok x) P p = tt
on_err (Err e) P p = p

pub absent_from : (o : Option ℕ) (b : Bool) → b ≡ is_some o → b ≡ false → o ≡ None
absent_from None b e h = refl
absent_from (Some n) b e h = absurd (false≢true (sym h ∙ e))

pub or_else_none : (o : Option ℕ) → or_else o None ≡ o
or_else_none None = refl
or_else_none (Some n) = refl

pub or_else_assoc : (a b c : Option ℕ) → or_else (or_else a b) c ≡ or_else a (or_else b c)
or_else_assoc None b c = refl
or_else_assoc (Some n) b c = refl

pub new_name : (name q : List ℕ) (n : ℕ) (look : List ℕ → Option ℕ) → look name ≡ None
    → cond (bytes_eq name q) (Some n) (look q) ≡ or_else (look q) (cond (bytes_eq q name) (Some n) None)
new_name name q n look absent =
    elim (cases_Bool (bytes_eq name q)) [
      | inl same ↦
          let e : name ≡ q = (bytes_eq-Decides name q).0 same in
          let gone : look q ≡ None = rw (← e) absent in
          let itself : bytes_eq q name ≡ true = (bytes_eq-Decides q name).1 (sym e) in
          rw (same, gone, itself)
      | inr other ↦
          let back : bytes_eq q name ≡ false = false_from_ne_true _ (λ t. false≢true (sym other ∙ (bytes_eq-Decides name q).1 (sym ((bytes_eq-Decides q name).0 t)))) in
          rw (other, back) (sym (or_else_none (look q)))
    ]

pub lookup_append : {K : Type 0} (test : K → Bool) (xs ys : List (K × ℕ)) → lookup test (xs ++ ys) ≡ or_else (lookup test xs) (lookup test ys)
lookup_append test [] ys = refl
lookup_append test (x ∷ xs) ys =
    elim (cases_Bool (test x.0)) [
      | inl here ↦ rw here
      | inr other ↦ rw other (lookup_append test xs ys)
    ]

-- one more under the next number, if the last is the only one
pub given_here : (b : Bool) (n : ℕ) (old : Option ℕ) (rest : Option ℕ) → or_else (or_else old (cond b (Some n) None)) rest ≡ or_else old (cond b (Some n) rest)
given_here true n old rest = or_else_assoc old (Some n) rest
given_here false n old rest = or_else_assoc old None rest

-- a turn of a loop that gives numbers along a list
pub along_turn : {K A : Type 0} (test : K → Bool) (f : ℕ → A → List (K × ℕ)) (xs : List A) (i : ℕ) (d : A) (old new : Option ℕ) → i < length xs
    → new ≡ or_else old (lookup test (f i (get_or xs i d))) → or_else new (lookup test (along f (i + 1) (drop (i + 1) xs))) ≡ or_else old (lookup test (along f i (drop i xs)))
along_turn test f xs i d old new within step =
    let here = f i (get_or xs i d) in
    let rest = along f (i + 1) (drop (i + 1) xs) in
    rw (step, drop_more xs i d within) (or_else_assoc old (lookup test here) (lookup test rest) ∙ ap (or_else old) (sym (lookup_append test here rest)))

pub along_append : {A B : Type 0} (f : ℕ → A → List B) (k : ℕ) (xs ys : List A) → along f k (xs ++ ys) ≡ along f k xs ++ along f (k + length xs) ys
along_append f k [] ys =
    let same : k ≡ k + 0 = omega arith in
    ap (λ n. along f n ys) same
along_append f k (x ∷ xs) ys =
    let next : k + 1 + length xs ≡ k + suc (length xs) = omega arith in
    ap (λ rest. f k x ++ rest) (along_append f (k + 1) xs ys ∙ ap (λ n. along f (k + 1) xs ++ along f n ys) next)
    ∙ sym (append_assoc (f k x) (along f (k + 1) xs) (along f (k + suc (length xs)) ys))

along_from : {A B : Type 0} (f : ℕ → A → List B) (before i n : ℕ) (xs : List A) → before + i ≡ n → along (λ j x. f (before + j) x) i xs ≡ along f n xs
along_from f before i n [] same = refl
along_from f before i n (x ∷ xs) same =
    ap (λ k. f k x ++ along (λ j y. f (before + j) y) (i + 1) xs) same ∙ ap (λ rest. f n x ++ rest) (along_from f before (i + 1) (n + 1) xs (omega (arith, same)))

-- a loop that counts from 0 gives rows the numbers from another on
pub numbered_from : {X A K : Type 0} (v : X → A) (keys : A → List K) (before : ℕ) (xs : List X) → along (λ i x. with_number (before + i) (keys (v x))) 0 xs ≡ numbered keys before (map v xs)
numbered_from v keys before xs =
    along_from (λ i x. with_number i (keys (v x))) before 0 before xs (omega arith) ∙ sym (along_map v (λ i row. with_number i (keys row)) before xs)

-- a turn of a loop that has given numbers along a prefix of a list
pub along_front : {K A : Type 0} (test : K → Bool) (f : ℕ → A → List (K × ℕ)) (xs : List A) (i : ℕ) (d : A) (first old new : Option ℕ) → i < length xs → d ≡ get_or xs i d
    → old ≡ or_else first (lookup test (along f 0 (take i xs))) → new ≡ or_else old (lookup test (f i d)) → new ≡ or_else first (lookup test (along f 0 (take (i + 1) xs)))
along_front test f xs i d first old new within is had step =
    let done = along f 0 (take i xs) in
    let size : 0 + length (take i xs) ≡ i = omega (arith, length-take-le i xs (omega (arith, within))) in
    let front : take (i + 1) xs ≡ take i xs ++ d ∷ [] = take_more xs i d within ∙ ap (λ x. take i xs ++ x ∷ []) (sym is) in
    let more : along f 0 (take (i + 1) xs) ≡ done ++ f i d = ap (along f 0) front ∙ along_append f 0 (take i xs) (d ∷ [])
    ∙ ap (λ n. done ++ (f n d ++ [])) size ∙ ap (λ here. done ++ here) (append-nil (f i d)) in
    step ∙ ap (λ o. or_else o (lookup test (f i d))) had ∙ or_else_assoc first (lookup test done) (lookup test (f i d))
    ∙ ap (or_else first) (sym (lookup_append test done (f i d))) ∙ ap (λ l. or_else first (lookup test l)) (sym more)

pub flat_map_map : {X A B : Type 0} (v : X → A) (f : A → List B) (xs : List X) → flat_map f (map v xs) ≡ flat_map (λ x. f (v x)) xs
flat_map_map v f [] = refl
flat_map_map v f (x ∷ xs) = ap (λ t. f (v x) ++ t) (flat_map_map v f xs)

-- what a map that began empty holds, in the order of rows
pub made_along : {X A K : Type 0} (v : X → A) (f : ℕ → A → List (K × ℕ)) (test : K → Bool) (xs : List X) (empty made : Option ℕ) → empty ≡ None → made ≡ or_else empty (lookup test (along (λ i x. f i (v x)) 0 xs))
    → made ≡ lookup test (along f 0 (map v xs))
made_along v f test xs empty made none step = step ∙ rw (none, along_map v f 0 xs)
