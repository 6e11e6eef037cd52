-- What a tree has once a table is taken out of it.
use Rattle.std.proofs.Common.{◌≡◌, ◌∙◌, ℕ, List, [], ◌∷◌, Option, Some, false, cond, map, option_and_then, Vec, Global, Ordering, Less, Equal, Greater, string_bytes, nat_cmp, is_eq, refl, ap, sym}
use Rattle.std.proofs.lemmas.Bool.{false≢true}
use Rattle.std.proofs.lemmas.Cmp.{nat_list_cmp_total}
use Rattle.std.specs.BTreeMap.{is_at}
use Rattle.std.specs.Cmp.Lexicographic.{slice_cmp}
use Rattle.std.specs.Map.{remove_entry}
use Rattle.std.specs.Option.{option_map_or}
use Rattle.std.specs.Ordering.{match_ordering, ordering_reverse}
use Rattle.sg_toml_tree.specs.Tree.{list_of, rows_at}
use Rattle.sg_toml_tree.proofs.TreeLemmas.{list_of_items}
use Rattle.toml.proofs.Views.{Entry, view-Array}
use Rattle.toml.specs.Data.{Data, as_array, get_member, same_key}
use Rattle.toml.specs.View.{view, members_view}
use Rattle.toml.specs.declared.value.Value.{Value, Array}

-- a member of another name is passed over
passed : (o : Ordering) (d : Data) (rest : Option Data) → is_eq o ≡ false → rest ≡ match_ordering o rest (Some d) rest
passed Less d rest other = refl
passed Equal d rest other = absurd (false≢true (sym other))
passed Greater d rest other = refl

-- the members after the first, if that one is the one taken, and if it isn't
kept_at : (q : List ℕ) (o : Ordering) (e : Entry) (es left : List Entry) → (o ≡ Equal → same_key q (string_bytes e.0) ≡ false) → get_member q (members_view left) ≡ get_member q (members_view es)
    → get_member q (members_view (cond (is_eq o) es (e ∷ left))) ≡ get_member q (members_view (e ∷ es))
kept_at q Less e es left far same = ap (λ d. match_ordering (slice_cmp nat_cmp q (string_bytes e.0)) d (Some (view e.1)) d) same
kept_at q Equal e es left far same = passed (slice_cmp nat_cmp q (string_bytes e.0)) (view e.1) _ (far refl)
kept_at q Greater e es left far same = ap (λ d. match_ordering (slice_cmp nat_cmp q (string_bytes e.0)) d (Some (view e.1)) d) same

-- what is far from a name is as far from any that is the same
far_from : (q k e : List ℕ) → same_key q k ≡ false → slice_cmp nat_cmp k e ≡ Equal → same_key q e ≡ false
far_from q k e far same =
    ap is_eq (nat_list_cmp_total.antisymm q e ∙ ap ordering_reverse (sym (nat_list_cmp_total.congr k e q same)) ∙ sym (nat_list_cmp_total.antisymm q k)) ∙ far

kept_member : (q k : List ℕ) (es : List Entry) → same_key q k ≡ false
    → get_member q (members_view (remove_entry (is_at (λ x. slice_cmp nat_cmp k (string_bytes x))) es)) ≡ get_member q (members_view es)
kept_member q k [] far = refl
kept_member q k (e ∷ es) far =
    kept_at q (slice_cmp nat_cmp k (string_bytes e.0)) e es _ (λ same. far_from q k (string_bytes e.0) far same) (kept_member q k es far)

-- the rows of another table, once one is taken out
pub kept_rows : (q k : List ℕ) (es left : List Entry) → left ≡ remove_entry (is_at (λ x. slice_cmp nat_cmp k (string_bytes x))) es → same_key q k ≡ false
    → rows_at q (members_view left) ≡ rows_at q (members_view es)
unfolding rows_at
kept_rows q k es left taken far = ap (λ d. option_map_or list_of (option_and_then as_array d) []) (ap (λ l. get_member q (members_view l)) taken ∙ kept_member q k es far)

-- the items of an array, as those of its data
pub array_items : (v : Value) (items : Vec Value Global) → v ≡ Array items → map view items.items ≡ option_map_or list_of (as_array (view v)) []
array_items v items is = sym (list_of_items (map view items.items)) ∙ ap (λ d. option_map_or list_of (as_array d) []) (sym (view-Array items) ∙ ap view (sym is))
