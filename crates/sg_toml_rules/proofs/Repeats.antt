-- Texts that stand twice in a list.
use Rattle.std.proofs.Common.{◌≡◌, ℕ, ◌+◌, ◌<◌, Bool, true, false, cond, ◌||◌, List, [], ◌∷◌, map, length, drop, get_or, Option, Some, None, is_some, refl, ap, ◌∙◌, sym}
use Rattle.std.proofs.lemmas.Cmp.{nat_list_eq_equiv}
use Rattle.std.proofs.lemmas.List.{drop_more}
use Rattle.std.specs.List.{AllByRecursion, IsDistinct, list_any}
use Rattle.std.specs.Str.{bytes_eq}
use Rattle.sg_toml_rules.specs.Arguments.{has_repeat, text_of}
use Rattle.sg_toml_tree.specs.NameSpaces.{Finds, or_else}
use Rattle.toml.specs.View.{view}
use Rattle.toml.specs.declared.value.Value.{Value}

or_assoc : (a b c : Bool) → ((a || b) || c) ≡ (a || (b || c))
or_assoc true b c = refl
or_assoc false b c = refl

or_shuffle : (a b c d : Bool) → ((a || b) || (c || d)) ≡ ((a || c) || (b || d))
or_shuffle true b c d = refl
or_shuffle false true true d = refl
or_shuffle false true false d = refl
or_shuffle false false true d = refl
or_shuffle false false false d = refl

any_or : (f g h : List ℕ → Bool) → ((q : List ℕ) → h q ≡ (f q || g q)) → (texts : List (List ℕ)) → list_any h texts ≡ (list_any f texts || list_any g texts)
any_or f g h same [] = refl
any_or f g h same (q ∷ texts) = rw (same q, any_or f g h same texts) (or_shuffle (f q) (g q) (list_any f texts) (list_any g texts))

-- a text has been seen, or stands twice among those to come
abbrev pub repeats_after : Finds → List (List ℕ) → Bool
repeats_after seen texts = list_any (λ q. is_some (seen q)) texts || has_repeat texts

now_seen : (old : Option ℕ) (b : Bool) (n : ℕ) → is_some (or_else old (cond b (Some n) None)) ≡ (is_some old || b)
now_seen None true n = refl
now_seen None false n = refl
now_seen (Some i) b n = refl

pub text_turn : (old new : Finds) (text : List ℕ) (texts : List (List ℕ)) (n : ℕ) → is_some (old text) ≡ false → ((q : List ℕ) → new q ≡ or_else (old q) (cond (bytes_eq q text) (Some n) None))
    → repeats_after new texts ≡ repeats_after old (text ∷ texts)
text_turn old new text texts n fresh step =
    let same : (q : List ℕ) → is_some (new q) ≡ (is_some (old q) || bytes_eq text q) = λ q. rw (step q, nat_list_eq_equiv.symm text q) (now_seen (old q) (bytes_eq q text) n) in
    rw (fresh, any_or (λ q. is_some (old q)) (bytes_eq text) (λ q. is_some (new q)) same texts) (or_assoc (list_any (λ q. is_some (old q)) texts) (list_any (bytes_eq text) texts) (has_repeat texts))

-- the texts from an item on
abbrev pub rest_of : List Value → ℕ → List (List ℕ)
rest_of items i = map text_of (map view (drop i items))

pub rest_step : (items : List Value) (i : ℕ) (item : Value) → i < length items → item ≡ get_or items i item → rest_of items i ≡ text_of (view item) ∷ rest_of items (i + 1)
rest_step items i item within same =
    ap (λ vs. map text_of (map view vs)) (drop_more items i item within) ∙ ap (λ v. text_of (view v) ∷ rest_of items (i + 1)) (sym same)

pub nothing_seen : (seen : Finds) → ((q : List ℕ) → seen q ≡ None) → (texts : List (List ℕ)) → repeats_after seen texts ≡ has_repeat texts
nothing_seen seen none texts = rw (none_among texts)
  where
    none_among : (texts : List (List ℕ)) → list_any (λ q. is_some (seen q)) texts ≡ false
    none_among [] = refl
    none_among (text ∷ texts) = rw (none text) (none_among texts)

-- a text that has been seen stands twice
pub seen_twice : (seen : Finds) (items : List Value) (i : ℕ) (item : Value) → i < length items → item ≡ get_or items i item → is_some (seen (text_of (view item))) ≡ true → repeats_after seen (rest_of items i) ≡ true
seen_twice seen items i item within same there = rw (rest_step items i item within same, there)

-- a turn of a loop that collects texts
pub seen_turn : (old new : Finds) (items : List Value) (i : ℕ) (item : Value) (n : ℕ) → i < length items → item ≡ get_or items i item → is_some (old (text_of (view item))) ≡ false
    → ((q : List ℕ) → new q ≡ or_else (old q) (cond (bytes_eq q (text_of (view item))) (Some n) None)) → repeats_after new (rest_of items (i + 1)) ≡ repeats_after old (rest_of items i)
seen_turn old new items i item n within same fresh step = rw (rest_step items i item within same) (text_turn old new (text_of (view item)) (rest_of items (i + 1)) n fresh step)

or_left : (a b : Bool) → (a || b) ≡ false → a ≡ false
or_left true b none = none
or_left false b none = refl

or_right : (a b : Bool) → (a || b) ≡ false → b ≡ false
or_right true b none = cc
or_right false b none = none

none_equal : (text : List ℕ) (texts : List (List ℕ)) → list_any (bytes_eq text) texts ≡ false → AllByRecursion (λ other. bytes_eq text other ≡ false) texts
none_equal text [] none = tt
none_equal text (other ∷ texts) none = (or_left _ _ none, none_equal text texts (or_right _ _ none))

pub distinct : (texts : List (List ℕ)) → has_repeat texts ≡ false → IsDistinct bytes_eq texts
unfolding IsDistinct
distinct [] none = tt
distinct (text ∷ texts) none = (none_equal text texts (or_left _ _ none), distinct texts (or_right _ _ none))
