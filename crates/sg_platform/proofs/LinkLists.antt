-- A list of link names that breaks no rule gives 1 to 64 links.
use Rattle.std.proofs.Common.{◌≡◌, ℕ, ◌<◌, ◌≤◌, ◌==◌, ◌&&◌, ◌||◌, Bool, true, false, nat_lt, is_some, is_none, List, [], ◌∷◌, map, length, Option, Some, None, IfSome, option_and_then, unwrap_or, refl, sym, arith}
use Rattle.std.proofs.lemmas.Bool.{false≢true}
use Rattle.std.proofs.lemmas.Bool.Decides.{nat_tests}
use Rattle.std.proofs.lemmas.List.{length-map}
use Rattle.std.proofs.lemmas.List.Elements.{All-cons, All-nil}
use Rattle.std.specs.List.{All, list_any}
use Rattle.std.specs.Option.{option_map_or}
use Rattle.sg_base.specs.declared.ids.LinkId.{LinkId}
use Rattle.sg_platform.specs.Build.{link_id, links_at}
use Rattle.sg_platform_rows.specs.Platform.{Counts, IsLinkList}
use Rattle.sg_toml_rules.proofs.Kept.{typed_list, unbroken}
use Rattle.sg_toml_rules.specs.Arguments.{text_of}
use Rattle.sg_toml_tree.specs.Names.{Known}
use Rattle.sg_toml_rules.proofs.FaultParts.{kinds_at}
use Rattle.sg_toml_rules.specs.Rules.{key_kinds, link_list_kinds, list_kinds, texts_kinds, value_kinds}
use Rattle.sg_toml_keys.specs.Tables.{key}
use Rattle.sg_toml_keys.specs.declared.tables.Need.TheVariants.{Required}
use Rattle.sg_toml_keys.specs.declared.tables.Rule.TheVariants.{Texts}
use Rattle.sg_toml_keys.specs.declared.tables.TextsRule.TheVariants.{LinkList}
use Rattle.sg_toml_tree.proofs.Kept.{empty_left, empty_right}
use Rattle.sg_toml_tree.specs.Faults.{of_type}
use Rattle.sg_toml_tree.specs.Tree.{list_of}
use Rattle.toml.specs.Data.{Data, Items, get, as_array, as_str}

abbrev LinksBelow : Known → Counts → Type 0
LinksBelow names counts = (q : List ℕ) → IfSome (names.links q) (λ n. n < counts.links)

pub and_left : (a b : Bool) → (a && b) ≡ true → a ≡ true
and_left true b h = refl
and_left false b h = h

pub and_right : (a b : Bool) → (a && b) ≡ true → b ≡ true
and_right true b h = h
and_right false b h = absurd (false≢true h)

or_left : (a b : Bool) → (a || b) ≡ false → a ≡ false
or_left true b h = h
or_left false b h = refl

or_right : (a b : Bool) → (a || b) ≡ false → b ≡ false
or_right true b h = absurd (false≢true (sym h))
or_right false b h = h

number_below : (found : Option ℕ) (n : ℕ) → is_none found ≡ false → IfSome found (λ i. i < n) → unwrap_or found 0 < n
number_below None n there below = absurd (false≢true (sym there))
number_below (Some i) n there below = below

abbrev link_of : Known → Data → LinkId
link_of names item = link_id names (text_of item)

all_below : (names : Known) (counts : Counts) → LinksBelow names counts → (items : List Data) → list_any (λ d. is_none (names.links (text_of d))) items ≡ false
    → All (λ link. link.0 < counts.links) (map (link_of names) items)
all_below names counts below [] known = All-nil (λ (link : LinkId). link.0 < counts.links)
all_below names counts below (d ∷ items) known =
    All-cons (λ (link : LinkId). link.0 < counts.links) (link_of names d) (map (link_of names) items)
    (number_below (names.links (text_of d)) counts.links (or_left _ _ known) (below (text_of d)))
    (all_below names counts below items (or_right _ _ known))

some_items : (n : ℕ) → (n == 0) ≡ false → 1 ≤ n
some_items n other = grind (arith, nat_tests)

few_items : (n : ℕ) → nat_lt 64 n ≡ false → n ≤ 64
few_items n within = grind (arith, nat_tests)

items_link_list : (names : Known) (counts : Counts) → LinksBelow names counts → (items : List Data) → link_list_kinds names.links items ≡ [] → IsLinkList counts (map (link_of names) items)
unfolding link_list_kinds
items_link_list names counts below items empty =
    let front = empty_left _ _ empty in
    let n = length-map items (link_of names) in
    record {
      some = omega (arith, n, some_items (length items) (unbroken _ _ (empty_left _ _ front)));
      few = omega (arith, n, few_items (length items) (unbroken _ _ (empty_right _ _ empty)));
      each = all_below names counts below items (unbroken _ _ (empty_right _ _ front));
    }

typed_link_list : (names : Known) (counts : Counts) → LinksBelow names counts → (row : Data) (found : Option Items) → of_type (λ items. list_kinds (λ x. is_some (as_str x)) (texts_kinds names row LinkList) (list_of items)) found ≡ []
    → IsLinkList counts (map (link_of names) (option_map_or list_of found []))
typed_link_list names counts below row None empty = cc
typed_link_list names counts below row (Some items) empty = items_link_list names counts below (list_of items) (typed_list (λ x. is_some (as_str x)) (texts_kinds names row LinkList) (list_of items) empty)

pub value_link_list : (names : Known) (counts : Counts) → LinksBelow names counts → (number : ℕ) (row : Data) (d : Data) → value_kinds names number row (Texts LinkList) d ≡ []
    → IsLinkList counts (map (link_of names) (option_map_or list_of (as_array d) []))
unfolding value_kinds
value_link_list names counts below number row d empty = typed_link_list names counts below row (as_array d) empty

required_at : (names : Known) (counts : Counts) → LinksBelow names counts → (number : ℕ) (row : Data) (k : List ℕ) (d : Option Data) → kinds_at names number row (key k Required (Texts LinkList)) d ≡ []
    → IsLinkList counts (map (link_of names) (option_map_or list_of (option_and_then as_array d) []))
required_at names counts below number row k None empty = cc
required_at names counts below number row k (Some d) empty = value_link_list names counts below number row d empty

-- a required list
pub required_links : (names : Known) (counts : Counts) → LinksBelow names counts → (number : ℕ) (row : Data) (k : List ℕ) → key_kinds names number row (key k Required (Texts LinkList)) ≡ []
    → IsLinkList counts (links_at names k row)
unfolding key_kinds
required_links names counts below number row k empty = required_at names counts below number row k (get k row) empty
