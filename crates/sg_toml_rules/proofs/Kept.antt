-- What holds of the rows of a tree that has no fault.
use Rattle.std.proofs.Common.{◌≡◌, ℕ, ◌+◌, ◌<◌, ◌≤◌, ◌==◌, Bool, true, false, not, nat_le, nat_lt, ◌&&◌, ◌||◌, is_none, is_some, List, [], ◌∷◌, length, Option, Some, None, option_and_then, refl, sym, inl, inr, arith}
use Rattle.std.proofs.lemmas.Bool.{cases_Bool}
use Rattle.std.proofs.lemmas.Bool.Decides.{nat_tests}
use Rattle.std.specs.List.{All, AllByRecursion, list_all}
use Rattle.std.specs.Option.{option_map_or}
use Rattle.sg_toml_rules.proofs.TableLemmas.{few_rows}
use Rattle.sg_toml_rules.proofs.FaultParts.{key_faults, kinds_at, row_faults_at}
use Rattle.sg_toml_rules.specs.Faults.{row_faults, rows_before, table_faults, table_kinds}
use Rattle.sg_toml_tree.specs.Names.{Known}
use Rattle.sg_toml_rules.specs.Profiles.{items_at}
use Rattle.sg_toml_rules.specs.Rules.{end_kinds, host_kinds, id_kinds, is_below, key_kinds, link_id_kinds, list_kinds, point_kinds, text_kinds, texts_kinds, value_kinds}
use Rattle.sg_toml_keys.specs.Tables.{heading, key, keys_of}
use Rattle.sg_toml_keys.specs.declared.tables.Key.{Key}
use Rattle.sg_toml_keys.specs.declared.tables.Need.TheVariants.{Required, Optional}
use Rattle.sg_toml_keys.specs.declared.tables.Rule.TheVariants.{Text, Texts}
use Rattle.sg_toml_keys.specs.declared.tables.TextRule.{TextRule}
use Rattle.sg_toml_keys.specs.declared.tables.TextsRule.{TextsRule}
use Rattle.sg_toml_keys.specs.declared.tables.Table.{Table}
use Rattle.sg_toml_tree.proofs.Kept.{all_kept, empty_at, empty_left, empty_right}
use Rattle.sg_toml_tree.specs.Along.{along}
use Rattle.sg_toml_tree.specs.Faults.{kind_if, of_type}
use Rattle.sg_toml_tree.specs.NameSpaces.{Finds}
use Rattle.sg_toml_tree.specs.Spelling.{is_name, is_name_byte}
use Rattle.sg_toml_tree.specs.Tree.{list_of, rows_at, text_at}
use Rattle.sg_toml_tree.specs.declared.fault.Kind.{Kind}
use Rattle.sg_toml_tree.specs.declared.fault.Kind.TheVariants.{BadValue, Unknown}
use Rattle.toml.specs.Data.{Data, Items, Members, get, get_member, as_array, as_str}

-- a rule that gives no kind is kept
pub unbroken : (b : Bool) (kind : Kind) → kind_if b kind ≡ [] → b ≡ false
unbroken true kind empty = cc
unbroken false kind empty = refl

pub not_false : (b : Bool) → not b ≡ false → b ≡ true
not_false true e = refl
not_false false e = sym e

-- no more rows than the limit
pub rows_few : (names : Known) (tree : Members) (t : ℕ) (table : Table) → table_faults names tree t table ≡ [] → length (rows_at (heading table).name tree) ≤ (heading table).limit
unfolding table_faults rows_at
rows_few names tree t table empty =
    let none = empty_at _ _ _ (table_kinds table (get_member (heading table).name tree)) (empty_left _ _ empty) in
    few_rows table (get_member (heading table).name tree) (rw none)

-- no key of a row has a fault
abbrev pub KeysKept : Known → ℕ → Data → List (Key (List ℕ)) → Type 0
KeysKept names number row keys = AllByRecursion (λ k. key_kinds names number row k ≡ []) keys

keys_kept : (names : Known) (number t r : ℕ) (row : Data) (i : ℕ) (keys : List (Key (List ℕ))) → along (key_faults names number t r row) i keys ≡ [] → KeysKept names number row keys
keys_kept names number t r row i [] empty = tt
keys_kept names number t r row i (k ∷ ks) empty =
    let here = key_faults names number t r row i k in
    let rest = along (key_faults names number t r row) (i + 1) ks in
    (empty_at t r (i + 1) (key_kinds names number row k) (empty_left here rest empty), keys_kept names number t r row (i + 1) ks (empty_right here rest empty))

-- what follows for a row whose keys have no fault holds of each row
pub rows_kept : (names : Known) (tree : Members) (t : ℕ) (table : Table) (P : Data → Type 0) → ((number : ℕ) (row : Data) → KeysKept names number row (keys_of table) → P row)
    → table_faults names tree t table ≡ [] → All P (rows_at (heading table).name tree)
unfolding table_faults row_faults
rows_kept names tree t table P kept empty =
    all_kept P (row_faults_at names (keys_of table) (rows_before names table) t)
    (λ j row none. kept (rows_before names table + j) row (keys_kept names (rows_before names table + j) t (j + 1) row 0 (keys_of table) (empty_right _ _ none)))
    0 (rows_at (heading table).name tree) (empty_right _ _ empty)

-- a text at a key that keeps its rule
abbrev pub HasText : Known → ℕ → Data → TextRule → Option (List ℕ) → Type 0
HasText names number row rule found = (text : List ℕ) × (found ≡ Some text) × (text_kinds names number row rule text ≡ [])

typed_text : (names : Known) (number : ℕ) (row : Data) (rule : TextRule) (found : Option (List ℕ)) → of_type (text_kinds names number row rule) found ≡ [] → HasText names number row rule found
typed_text names number row rule None empty = cc
typed_text names number row rule (Some text) empty = (text, refl, empty)

pub required_at : (names : Known) (number : ℕ) (row : Data) (k : List ℕ) (rule : TextRule) → (d : Option Data) → kinds_at names number row (key k Required (Text rule)) d ≡ []
    → HasText names number row rule (option_and_then as_str d)
unfolding value_kinds
required_at names number row k rule None empty = cc
required_at names number row k rule (Some d) empty = typed_text names number row rule (as_str d) empty

-- a required text is there, and keeps its rule
pub required_text : (names : Known) (number : ℕ) (row : Data) (k : List ℕ) (rule : TextRule) → key_kinds names number row (key k Required (Text rule)) ≡ []
    → HasText names number row rule (text_at k row)
unfolding key_kinds
required_text names number row k rule empty = required_at names number row k rule (get k row) empty

optional_at : (names : Known) (number : ℕ) (row : Data) (k : List ℕ) (rule : TextRule) → (d : Option Data) → kinds_at names number row (key k Optional (Text rule)) d ≡ []
    → (text : List ℕ) → option_and_then as_str d ≡ Some text → text_kinds names number row rule text ≡ []
unfolding value_kinds
optional_at names number row k rule None empty text there = cc
optional_at names number row k rule (Some d) empty text there = rw there at empty

-- an optional text, if it is there, keeps its rule
pub optional_text : (names : Known) (number : ℕ) (row : Data) (k : List ℕ) (rule : TextRule) → key_kinds names number row (key k Optional (Text rule)) ≡ []
    → (text : List ℕ) → text_at k row ≡ Some text → text_kinds names number row rule text ≡ []
unfolding key_kinds
optional_text names number row k rule empty text there = optional_at names number row k rule (get k row) empty text there

-- the items of a list that breaks no rule have its type, and keep its rule
pub typed_list : (fits : Data → Bool) (kinds : List Data → List Kind) (items : List Data) → list_kinds fits kinds items ≡ [] → kinds items ≡ []
typed_list fits kinds items empty =
    elim (cases_Bool (list_all fits items)) [
      | inl all ↦ let kept : kinds items ≡ [] = rw all at empty in kept
      | inr other ↦ let wrong = rw other at empty in cc
    ]

typed_items : (names : Known) (row : Data) (rule : TextsRule) (found : Option Items) → of_type (λ items. list_kinds (λ d. is_some (as_str d)) (texts_kinds names row rule) (list_of items)) found ≡ [] → texts_kinds names row rule (option_map_or list_of found []) ≡ []
typed_items names row rule None empty = cc
typed_items names row rule (Some items) empty = typed_list (λ d. is_some (as_str d)) (texts_kinds names row rule) (list_of items) empty

items_there : (names : Known) (number : ℕ) (row : Data) (k : List ℕ) (rule : TextsRule) → (d : Option Data) → kinds_at names number row (key k Required (Texts rule)) d ≡ []
    → texts_kinds names row rule (option_map_or list_of (option_and_then as_array d) []) ≡ []
unfolding value_kinds
items_there names number row k rule None empty = cc
items_there names number row k rule (Some d) empty = typed_items names row rule (as_array d) empty

-- the items of a required array keep its rule
pub required_items : (names : Known) (number : ℕ) (row : Data) (k : List ℕ) (rule : TextsRule) → key_kinds names number row (key k Required (Texts rule)) ≡ []
    → texts_kinds names row rule (items_at k row) ≡ []
unfolding key_kinds
required_items names number row k rule empty = items_there names number row k rule (get k row) empty

-- a new name has at most 64 bytes
pub name_short : (numbers : Finds) (number : ℕ) (name : List ℕ) → id_kinds numbers number name ≡ [] → length name ≤ 64
unfolding id_kinds is_name
name_short numbers number name empty = short (length name) (list_all is_name_byte name) (not_false _ (unbroken _ _ (empty_left _ _ empty)))
  where
    short : (n : ℕ) (b : Bool) → (not (n == 0) && nat_le n 64) && b ≡ true → n ≤ 64
    short n b named = grind (arith, nat_tests)

zone_found : (names : Known) (found : Option ℕ) → is_below found names.zones ≡ true → (n : ℕ) × (found ≡ Some n) × (n < names.zones)
zone_found names None within = cc
zone_found names (Some n) within = (n, refl, (let high : n < names.zones = grind (arith, nat_tests) in high))

pub zone_there : (names : Known) (name : List ℕ) → kind_if (not (is_below (names.points name) names.zones)) Unknown ≡ [] → (n : ℕ) × (names.points name ≡ Some n) × (n < names.zones)
zone_there names name empty = zone_found names (names.points name) (not_false _ (unbroken _ _ empty))

-- a number within bounds
between : (least end : ℕ) (found : Option ℕ) → option_map_or (λ n. nat_le least n && nat_lt n end) found false ≡ true → (n : ℕ) × (found ≡ Some n) × (least ≤ n) × (n < end)
between least end None within = cc
between least end (Some n) within = (n, refl, low, high)
  where
    low : least ≤ n
    low = grind (arith, nat_tests)

    high : n < end
    high = grind (arith, nat_tests)

pub host_there : (names : Known) (name : List ℕ) → host_kinds names name ≡ [] → (n : ℕ) × (names.points name ≡ Some n) × (names.zones ≤ n) × (n < names.zones + names.hosts)
unfolding host_kinds
host_there names name empty = between names.zones (names.zones + names.hosts) (names.points name) (not_false _ (unbroken _ _ empty))

-- a value that must be above zero is there, and is
pub positive_there : (value : Option ℕ) → kind_if (not (option_map_or (nat_lt 0) value false)) BadValue ≡ [] → (n : ℕ) × (value ≡ Some n) × (1 ≤ n)
positive_there value empty = above value (not_false _ (unbroken _ _ empty))
  where
    above : (o : Option ℕ) → option_map_or (nat_lt 0) o false ≡ true → (n : ℕ) × (o ≡ Some n) × (1 ≤ n)
    above None positive = cc
    above (Some n) positive = (n, refl, (let le : 1 ≤ n = grind (arith, nat_tests) in le))

-- a new name of a link has at most 64 bytes
pub link_name_short : (taken : Finds) (number : ℕ) (split : Bool) (id : List ℕ) → link_id_kinds taken number split id ≡ [] → length id ≤ 64
unfolding link_id_kinds is_name
link_name_short taken number split id empty = short (length id) (list_all is_name_byte id) (split && nat_lt 59 (length id)) (unbroken _ _ (empty_left _ _ empty))
  where
    short : (n : ℕ) (b c : Bool) → not ((not (n == 0) && nat_le n 64) && b) || c ≡ false → n ≤ 64
    short n b c named = grind (arith, nat_tests)

from_there : (least : ℕ) (found : Option ℕ) → option_map_or (nat_le least) found false ≡ true → (n : ℕ) × (found ≡ Some n) × (least ≤ n)
from_there least None from = cc
from_there least (Some n) from = (n, refl, (let low : least ≤ n = grind (arith, nat_tests) in low))

pub point_there : (names : Known) (name : List ℕ) → point_kinds names name ≡ [] → (n : ℕ) × (names.points name ≡ Some n) × (names.zones ≤ n)
unfolding point_kinds
point_there names name empty = from_there names.zones (names.points name) (not_false _ (unbroken _ _ empty))

pub some_there : (found : Option ℕ) → is_none found ≡ false → (n : ℕ) × (found ≡ Some n)
some_there None absent = cc
some_there (Some n) absent = (n, refl)

pub end_there : (names : Known) (name : List ℕ) → end_kinds names name ≡ [] → (n : ℕ) × (names.points name ≡ Some n)
unfolding end_kinds
end_there names name empty = some_there (names.points name) (unbroken _ _ empty)

pub taken_there : (value : Option ℕ) → kind_if (is_none value) BadValue ≡ [] → (n : ℕ) × (value ≡ Some n)
taken_there value empty = some_there value (unbroken _ _ empty)
