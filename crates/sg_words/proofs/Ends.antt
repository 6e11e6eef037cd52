-- What stands in the rows at the end of a level that takes its words.
use Rattle.std.proofs.Common.{◌≡◌, ◌&&◌, ◌||◌, ◌++◌, List, [], ◌∷◌, Bool, true, false, Option, Some, None, refl, sym, subst, not, cond}
use Rattle.std.specs.Prelude.{if◌then◌else◌, slice_get, find, is_some, fold, option_and_then}
use Rattle.std.specs.List.{list_all, list_any}
use Rattle.std.specs.Option.{option_map_or}
use Rattle.std.specs.Str.{bytes_eq}
use Rattle.std.proofs.lemmas.Slice.Eq.{bytes_eq-Decides}
use Rattle.clap.specs.Words.{Row, Rule, Text, first_of}
use Rattle.clap.specs.Kinds.{check_kinds}
use Rattle.clap.specs.Takes.{is_given}
use Rattle.clap.specs.Facts.{explicit_source}
use Rattle.clap.specs.Walk.{with_values, more_values, arg_by_id, reading_by, has_row, with_default, default_rows}
use Rattle.clap.specs.declared.builder.value_parser.Reading.{Reading}
use Rattle.clap.specs.declared.parser.matches.ValueSource.{ValueSource}
use Rattle.clap.specs.declared.parser.matches.ValueSource.TheVariants.{DefaultValue}
use Rattle.sg_words.proofs.Accepted.{passes_id, good, all_good, is_sound, Owns, both, no_kinds, with_good}

same_text : (a : Text) → bytes_eq a a ≡ true
same_text a = (bytes_eq-Decides a a).1 refl

pub text_of : (a b : Text) → bytes_eq a b ≡ true → a ≡ b
text_of a b h = (bytes_eq-Decides a b).0 h

-- ---- a list of arguments

found_not : (q p : Rule → Bool) (xs : List Rule) (a : Rule) → list_any q xs ≡ false → find p xs ≡ Some a → q a ≡ false
found_not q p [] a h f = cc
found_not q p (x ∷ xs) a h f = go (q x) (p x) refl h f (found_not q p xs a)
  where
    go : (b d : Bool) → q x ≡ b → (b || list_any q xs) ≡ false → cond d (Some x) (find p xs) ≡ Some a
        → (list_any q xs ≡ false → find p xs ≡ Some a → q a ≡ false) → q a ≡ false
    go true d e h f more = cc
    go false true e h f more = let same : x ≡ a = cc in subst (λ y. q y ≡ false) same e
    go false false e h f more = more h f

found_all : (q p : Rule → Bool) (xs : List Rule) (a : Rule) → list_all q xs ≡ true → find p xs ≡ Some a → q a ≡ true
found_all q p [] a h f = cc
found_all q p (x ∷ xs) a h f = go (p x) (both (q x) (list_all q xs) h) f (found_all q p xs a)
  where
    go : (d : Bool) → (q x ≡ true) × (list_all q xs ≡ true) → cond d (Some x) (find p xs) ≡ Some a
        → (list_all q xs ≡ true → find p xs ≡ Some a → q a ≡ true) → q a ≡ true
    go true h f more = let same : x ≡ a = cc in subst (λ y. q y ≡ true) same h.0
    go false h f more = more h.1 f

abbrev pub has_distinct_ids : List Rule → Bool
has_distinct_ids [] = true
has_distinct_ids (x ∷ xs) = not (list_any (λ b. bytes_eq x.id b.id) xs) && has_distinct_ids xs

not_false : (b : Bool) → not b ≡ true → b ≡ false
not_false true h = sym h
not_false false h = refl

own_of : (c : List Rule) (p : Rule → Bool) (a : Rule) → has_distinct_ids c ≡ true → find p c ≡ Some a → arg_by_id c a.id ≡ Some a
own_of [] p a d f = cc
own_of (x ∷ xs) p a d f = go (p x) (both _ (has_distinct_ids xs) d) f (own_of xs p a)
  where
    go : (b : Bool) → (not (list_any (λ b. bytes_eq x.id b.id) xs) ≡ true) × (has_distinct_ids xs ≡ true)
        → cond b (Some x) (find p xs) ≡ Some a → (has_distinct_ids xs ≡ true → find p xs ≡ Some a → arg_by_id xs a.id ≡ Some a)
        → cond (bytes_eq x.id a.id) (Some x) (arg_by_id xs a.id) ≡ Some a
    go true h f more =
        let same : x ≡ a = cc in
        let is : bytes_eq x.id a.id ≡ true = subst (λ y. bytes_eq x.id y.id ≡ true) same (same_text x.id) in
        rw is f
    go false h f more =
        let other : bytes_eq x.id a.id ≡ false = found_not (λ b. bytes_eq x.id b.id) p xs a (not_false _ h.0) f in
        rw other (more h.1 f)

pub owns_of : (c : List Rule) → has_distinct_ids c ≡ true → list_all is_sound c ≡ true → Owns c
owns_of c d s = record { own = λ p a f. own_of c p a d f; sound = λ p a f. found_all is_sound p c a s f }

-- ---- defaults

abbrev pub default_ok : List Rule → Rule → Bool
default_ok c a = option_map_or (passes_id c a.id) (slice_get a.defaults 0) true

default_good : (c : List Rule) (a : Rule) (rows : List Row) → default_ok c a ≡ true → all_good c rows ≡ true → all_good c (with_default rows a) ≡ true
default_good c a rows ok h = go (has_row a.id rows)
  where
    made : (vs : List Text) → option_map_or (passes_id c a.id) (slice_get vs 0) true ≡ true
        → all_good c (default_rows a.id (reading_by a) vs rows) ≡ true
    made [] ok = h
    made (v ∷ vs) ok = with_good c a.id (reading_by a) DefaultValue v vs rows ok h

    go : (b : Bool) → all_good c (if b then rows else default_rows a.id (reading_by a) a.defaults rows) ≡ true
    go true = h
    go false = made a.defaults ok

pub defaults_good : (c rest : List Rule) (rows : List Row) → list_all (default_ok c) rest ≡ true → all_good c rows ≡ true
    → all_good c (fold with_default rows rest) ≡ true
defaults_good c [] rows ok h = h
defaults_good c (a ∷ rest) rows ok h =
    let p = both _ _ ok in
    defaults_good c rest (with_default rows a) p.1 (default_good c a rows p.0 h)

has_more : (id other : Text) (how : Reading) (s : ValueSource) (vs : List Text) (rows : List Row) → has_row id rows ≡ true
    → has_row id (with_values other how s vs rows) ≡ true
has_more id other how s vs [] h = cc
has_more id other how s vs (r ∷ rs) h = go (bytes_eq r.id other) (has_more id other how s vs rs)
  where
    rest : (d : Bool) → (d || has_row id rs) ≡ true → (has_row id rs ≡ true → has_row id (with_values other how s vs rs) ≡ true)
        → (d || has_row id (with_values other how s vs rs)) ≡ true
    rest true h more = refl
    rest false h more = more h

    go : (b : Bool) → (has_row id rs ≡ true → has_row id (with_values other how s vs rs) ≡ true)
        → has_row id (if b then more_values s vs r ++ rs else r ∷ with_values other how s vs rs) ≡ true
    go true more = h
    go false more = rest (bytes_eq r.id id) h more

has_made : (id : Text) (how : Reading) (s : ValueSource) (vs : List Text) (rows : List Row) → has_row id (with_values id how s vs rows) ≡ true
has_made id how s vs [] = let same = same_text id in rw same refl
has_made id how s vs (r ∷ rs) = go (bytes_eq r.id id) refl (has_made id how s vs rs)
  where
    rest : (d : Bool) → has_row id (with_values id how s vs rs) ≡ true → (d || has_row id (with_values id how s vs rs)) ≡ true
    rest true more = refl
    rest false more = more

    go : (b : Bool) → bytes_eq r.id id ≡ b → has_row id (with_values id how s vs rs) ≡ true
        → has_row id (if b then more_values s vs r ++ rs else r ∷ with_values id how s vs rs) ≡ true
    go true e more = rw e refl
    go false e more = rest (bytes_eq r.id id) more

has_default : (id : Text) (a : Rule) (rows : List Row) → has_row id rows ≡ true → has_row id (with_default rows a) ≡ true
has_default id a rows h = go (has_row a.id rows)
  where
    made : (vs : List Text) → has_row id (default_rows a.id (reading_by a) vs rows) ≡ true
    made [] = h
    made (v ∷ vs) = has_more id a.id (reading_by a) DefaultValue (v ∷ vs) rows h

    go : (b : Bool) → has_row id (if b then rows else default_rows a.id (reading_by a) a.defaults rows) ≡ true
    go true = h
    go false = made a.defaults

has_defaults : (id : Text) (rest : List Rule) (rows : List Row) → has_row id rows ≡ true → has_row id (fold with_default rows rest) ≡ true
has_defaults id [] rows h = h
has_defaults id (a ∷ rest) rows h = has_defaults id rest (with_default rows a) (has_default id a rows h)

gives_default : (a : Rule) (rows : List Row) → is_some (slice_get a.defaults 0) ≡ true → has_row a.id (with_default rows a) ≡ true
gives_default a rows some = go (has_row a.id rows) refl
  where
    made : (vs : List Text) → is_some (slice_get vs 0) ≡ true → has_row a.id (default_rows a.id (reading_by a) vs rows) ≡ true
    made [] s = cc
    made (v ∷ vs) s = has_made a.id (reading_by a) DefaultValue (v ∷ vs) rows

    go : (b : Bool) → has_row a.id rows ≡ b → has_row a.id (if b then rows else default_rows a.id (reading_by a) a.defaults rows) ≡ true
    go true e = e
    go false e = made a.defaults some

-- the arguments have a default under the id
abbrev pub has_default_of : Text → List Rule → Bool
has_default_of id rest = list_any (λ a. bytes_eq a.id id && is_some (slice_get a.defaults 0)) rest

pub default_present : (id : Text) (rest : List Rule) (rows : List Row) → has_default_of id rest ≡ true → has_row id (fold with_default rows rest) ≡ true
default_present id [] rows h = cc
default_present id (a ∷ rest) rows h =
    go (bytes_eq a.id id && is_some (slice_get a.defaults 0)) refl h (default_present id rest (with_default rows a))
  where
    go : (b : Bool) → (bytes_eq a.id id && is_some (slice_get a.defaults 0)) ≡ b → (b || has_default_of id rest) ≡ true
        → (has_default_of id rest ≡ true → has_row id (fold with_default (with_default rows a) rest) ≡ true)
        → has_row id (fold with_default (with_default rows a) rest) ≡ true
    go true e h more =
        let p = both _ _ e in
        let has : has_row id (with_default rows a) ≡ true = subst (λ t. has_row t (with_default rows a) ≡ true) (text_of _ _ p.0) (gives_default a rows p.1) in
        has_defaults id rest (with_default rows a) has
    go false e h more = more h

-- ---- the first value of an id

pub first_good : (c : List Rule) (id : Text) (rows : List Row) → has_row id rows ≡ true → all_good c rows ≡ true
    → (v : Text) × (first_of id rows ≡ Some v) × (passes_id c id v ≡ true)
first_good c id [] h g = cc
first_good c id (r ∷ rs) h g = go (bytes_eq r.id id) refl h (both _ _ g) (first_good c id rs)
  where
    here : (o : Option Text) → option_map_or (passes_id c r.id) o false ≡ true → r.id ≡ id → (v : Text) × (o ≡ Some v) × (passes_id c id v ≡ true)
    here None p e = cc
    here (Some v) p e = (v, refl, subst (λ t. passes_id c t v ≡ true) e p)

    go : (b : Bool) → bytes_eq r.id id ≡ b → (b || has_row id rs) ≡ true → (good c r ≡ true) × (all_good c rs ≡ true)
        → (has_row id rs ≡ true → all_good c rs ≡ true → (v : Text) × (first_of id rs ≡ Some v) × (passes_id c id v ≡ true))
        → (v : Text) × (option_and_then (λ r. slice_get r.values 0) (cond b (Some r) (find (λ r. bytes_eq r.id id) rs)) ≡ Some v) × (passes_id c id v ≡ true)
    go true e h g more = here (slice_get r.values 0) g.0 (text_of _ _ e)
    go false e h g more = more h g.1

pub given_row : (id : Text) (rows : List Row) → is_given id rows ≡ true → has_row id rows ≡ true
given_row id [] h = cc
given_row id (r ∷ rs) h = go (bytes_eq r.id id) h (given_row id rs)
  where
    go : (b : Bool) → option_map_or (λ r. explicit_source r.source) (cond b (Some r) (find (λ r. bytes_eq r.id id) rs)) false ≡ true
        → (is_given id rs ≡ true → has_row id rs ≡ true) → (b || has_row id rs) ≡ true
    go true h more = refl
    go false h more = more h

pub check_parts : (x y z : Bool) → check_kinds x y z ≡ [] → (y ≡ false) × (z ≡ false)
check_parts true y z h = absurd (no_kinds _ _ h)
check_parts false true z h = absurd (no_kinds _ _ h)
check_parts false false true h = absurd (no_kinds _ _ h)
check_parts false false false h = (refl, refl)

pub required_given : (rows : List Row) (p : Rule → Bool) (c : List Rule) (a : Rule) → list_any (λ a. a.required && not (is_given a.id rows)) c ≡ false
    → find p c ≡ Some a → a.required ≡ true → is_given a.id rows ≡ true
required_given rows p c a h f r =
    let none = found_not (λ a. a.required && not (is_given a.id rows)) p c a h f in
    go (is_given a.id rows) (rw r at none)
  where
    go : (b : Bool) → (true && not b) ≡ false → b ≡ true
    go true h = refl
    go false h = sym h
