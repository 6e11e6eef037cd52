-- Lemmas on the tree of a text.
use Rattle.std.proofs.Common.{◌≡◌, ℕ, suc, List, [], ◌∷◌, ◌&&◌, map, length, Some, None, string_bytes, refl, ap, inl, inr}
use Rattle.std.proofs.lemmas.Bool.{cases_Bool}
use Rattle.std.proofs.lemmas.Str.{IsUtf8-from_is_utf8, is_utf8-from_IsUtf8}
use Rattle.std.specs.List.{list_all, list_any}
use Rattle.std.specs.Map.{keys_of}
use Rattle.std.specs.Str.{IsUtf8, is_utf8, bytes_eq}
use Rattle.sg_toml_tree.specs.Tree.{tree_of, list_of, has_only}
use Rattle.toml.proofs.Views.{Entry}
use Rattle.toml.specs.Data.{Data, Members}
use Rattle.toml.specs.Parse.{parse_document}
use Rattle.toml.specs.View.{view, items_of, members_view}
use Rattle.toml.specs.declared.value.Value.{Value}

pub tree_of-some : (bytes : List ℕ) (tree : Members) → IsUtf8 bytes → parse_document bytes ≡ Some tree → tree_of bytes ≡ Some tree
unfolding tree_of
tree_of-some bytes tree text read = rw (is_utf8-from_IsUtf8 bytes text) read

pub tree_of-none : (bytes : List ℕ) → (IsUtf8 bytes → parse_document bytes ≡ None) → tree_of bytes ≡ None
unfolding tree_of
tree_of-none bytes refused =
    elim (cases_Bool (is_utf8 bytes)) [
      | inl text ↦ rw text (refused (IsUtf8-from_is_utf8 bytes text))
      | inr other ↦ rw other
    ]

pub list_of_items : (ds : List Data) → list_of (items_of ds) ≡ ds
list_of_items [] = refl
list_of_items (d ∷ ds) = ap (λ t. d ∷ t) (list_of_items ds)

pub length_of_items : (vs : List Value) → length (list_of (items_of (map view vs))) ≡ length vs
length_of_items [] = refl
length_of_items (v ∷ vs) = ap suc (length_of_items vs)

-- the test of each key of a map, over the members that it stands for
pub has_only-members_view : (names : List (List ℕ)) (es : List Entry) → list_all (λ k. list_any (λ n. bytes_eq (string_bytes k) n) names) (keys_of es) ≡ has_only names (members_view es)
has_only-members_view names [] = refl
has_only-members_view names (e ∷ es) = ap (λ b. list_any (λ n. bytes_eq (string_bytes e.0) n) names && b) (has_only-members_view names es)
