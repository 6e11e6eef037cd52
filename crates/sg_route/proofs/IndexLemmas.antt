-- Maps from keys to the first row with that key.
use Rattle.std.proofs.Common.{◌≡◌, ◌+◌, ◌-◌, ◌<◌, ◌≤◌, ℕ, suc, Bool, true, false, cond, Bor, List, [], ◌∷◌, drop, get_or, length, Option, None, Some, arith, refl, sym, ◌∙◌, ap, subst}
use Rattle.std.proofs.Math.Seq.{drop-cons}
use Rattle.std.proofs.lemmas.Bool.Decides.{nat_tests}
use Rattle.std.proofs.lemmas.Option.{slice_get_past, slice_get_read}
use Rattle.std.specs.HashMap.{HashMap, get, Updates}
use Rattle.std.specs.List.{find, position_from, slice_get}
use Rattle.std.specs.Option.{option_and_then, option_copied, option_map}
use Rattle.std.specs.Prelude.{◌&&◌, ◌==◌}
use Rattle.std.specs.Slice.{IsItemAt}
use Rattle.sg_base.specs.declared.ids.Child.{Child}
use Rattle.sg_base.specs.declared.ids.Child.TheVariants.{Point, Zone}
use Rattle.sg_platform_rows.specs.declared.rows.SpokeRow.{SpokeRow}
use Rattle.sg_route.specs.declared.locals.Local.{Local}
use Rattle.sg_route.specs.declared.locals.Pair.{Pair}
use Rattle.sg_route.specs.Equal.{child_eq}
use Rattle.sg_route.specs.declared.spokes.RowsByChild.{RowsByChild}
use Rattle.sg_route.specs.kept.Index.{ChildKey, child_key, child_key_eq, pair_key, pair_key_eq, row_of, PairsFrom, ChildrenFrom}

-- ---- equal keys are those of equal pairs

same_number : (a b : ℕ) → (a == b) ≡ (b == a)
same_number a b = grind (arith, nat_tests)

child_key_is : (a b : Child) → child_key_eq (child_key a) (child_key b) ≡ child_eq b a
child_key_is (Point a) (Point b) = same_number a.0 b.0
child_key_is (Point a) (Zone b) = refl
child_key_is (Zone a) (Point b) = refl
child_key_is (Zone a) (Zone b) = same_number a.0 b.0

pair_key_is : (a b : Pair) → pair_key_eq (pair_key a) (pair_key b) ≡ (child_eq b.from a.from && child_eq b.to a.to)
pair_key_is a b =
    let e = child_key_is a.from b.from in
    let f = child_key_is a.to b.to in
    ap (λ x. x && child_key_eq (child_key a.to) (child_key b.to)) e ∙ ap (λ x. child_eq b.from a.from && x) f

-- ---- one row more before the others

entered : {S : Type 0} (at new : HashMap (ChildKey × ChildKey) ℕ S) (i next : ℕ) (x : Local) (rest : List Local) → next ≡ i + 1
    → PairsFrom next at rest → Updates pair_key_eq at new (pair_key x.pair) (Some i) → PairsFrom i new (x ∷ rest)
entered at new i next x rest is index updates k =
    updates.0 (pair_key k) ∙ ap (λ b. cond b (Some i) (get pair_key_eq at (pair_key k))) (pair_key_is x.pair k)
    ∙ ap (λ o. cond (child_eq k.from x.pair.from && child_eq k.to x.pair.to) (Some i) o) (index k ∙ ap (λ n. position_from (λ (y : Local). child_eq k.from y.pair.from && child_eq k.to y.pair.to) n rest) is)

split_at : {X : Type 0} (rows : List X) (left : ℕ) (x : X) → 0 < left → left ≤ length rows → x ≡ get_or rows (left - 1) x → drop (left - 1) rows ≡ x ∷ drop left rows
split_at rows left x some within is =
    let e : suc (left - 1) ≡ left = omega arith in
    drop-cons rows (left - 1) x (omega arith) ∙ ap (λ n. get_or rows (left - 1) x ∷ drop n rows) e ∙ ap (λ y. y ∷ drop left rows) (sym is)

pub pairs_entered : {S : Type 0} (at new : HashMap (ChildKey × ChildKey) ℕ S) (left : ℕ) (rows : List Local) (x : Local) → 0 < left → left ≤ length rows → x ≡ get_or rows (left - 1) x
    → PairsFrom left at (drop left rows) → Updates pair_key_eq at new (pair_key x.pair) (Some (left - 1)) → PairsFrom (left - 1) new (drop (left - 1) rows)
pairs_entered at new left rows x some within is index updates =
    let P : List Local → Type 0 = λ xs. PairsFrom (left - 1) new xs in
    subst P (sym (split_at rows left x some within is)) (entered at new (left - 1) left x (drop left rows) (omega arith) index updates)

pub children_entered : (at new : RowsByChild) (left : ℕ) (rows : List SpokeRow) (x : SpokeRow) → 0 < left → left ≤ length rows → x ≡ get_or rows (left - 1) x
    → ChildrenFrom left at (drop left rows) → ((k : Child) → row_of new k ≡ cond (child_eq k x.child) (Some (left - 1)) (row_of at k)) → ChildrenFrom (left - 1) new (drop (left - 1) rows)
children_entered at new left rows x some within is index updates =
    let P : List SpokeRow → Type 0 = λ xs. ChildrenFrom (left - 1) new xs in
    let next : left ≡ left - 1 + 1 = omega arith in
    subst P (sym (split_at rows left x some within is))
    (λ k. updates k ∙ ap (λ o. cond (child_eq k x.child) (Some (left - 1)) o) (index k ∙ ap (λ n. position_from (λ (y : SpokeRow). child_eq k y.child) n (drop left rows)) next))

-- ---- what the map finds

shifted : {X : Type 0} (p : X → Bool) (i : ℕ) (xs : List X) → position_from p (i + 1) xs ≡ option_map (λ k. suc k) (position_from p i xs)
shifted p i [] = refl
shifted p i (x ∷ xs) = go (p x) (shifted p (i + 1) xs)
  where
    go : (b : Bool) → position_from p (i + 1 + 1) xs ≡ option_map (λ k. suc k) (position_from p (i + 1) xs)
        → cond b (Some (i + 1)) (position_from p (i + 1 + 1) xs) ≡ option_map (λ k. suc k) (cond b (Some i) (position_from p (i + 1) xs))
    go true h = let e : i + 1 ≡ suc i = omega arith in ap Some e
    go false h = h

find-position_from : {X : Type 0} (p : X → Bool) (xs : List X) → find p xs ≡ option_and_then (slice_get xs) (position_from p 0 xs)
find-position_from p [] = refl
find-position_from p (x ∷ xs) = go (p x) (position_from p 0 xs) (shifted p 0 xs) (find-position_from p xs)
  where
    go : (b : Bool) (o : Option ℕ) → position_from p (0 + 1) xs ≡ option_map (λ k. suc k) o → find p xs ≡ option_and_then (slice_get xs) o
        → cond b (Some x) (find p xs) ≡ option_and_then (slice_get (x ∷ xs)) (cond b (Some 0) (position_from p (0 + 1) xs))
    go true o e h = refl
    go false None e h = h ∙ sym (ap (option_and_then (slice_get (x ∷ xs))) e)
    go false (Some k) e h = h ∙ sym (ap (option_and_then (slice_get (x ∷ xs))) e)

pub found_at : {X : Type 0} (p : X → Bool) (xs : List X) (i : ℕ) (o : Option ℕ) → o ≡ position_from p 0 xs → o ≡ Some i → find p xs ≡ slice_get xs i
found_at p xs i o is some = find-position_from p xs ∙ ap (option_and_then (slice_get xs)) (sym is ∙ some)

pub found_nowhere : {X : Type 0} (p : X → Bool) (xs : List X) (o : Option ℕ) → o ≡ position_from p 0 xs → o ≡ None → find p xs ≡ None
found_nowhere p xs o is none = find-position_from p xs ∙ ap (option_and_then (slice_get xs)) (sym is ∙ none)

-- what `get` hands out
pub item_at : {X : Type 0} (xs : List X) (i : ℕ) (r : Option (Bor X)) → IsItemAt xs i r → option_copied r ≡ slice_get xs i
item_at xs i None h = sym (slice_get_past xs i h.3)
item_at xs i (Some x) h = let is = h.0 in sym (slice_get_read xs (length xs) i x.now refl (grind (arith, nat_tests)) h.1)
