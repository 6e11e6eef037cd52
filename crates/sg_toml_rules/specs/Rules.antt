-- The rules that the values of keys keep, each asked by itself of the whole tree.
use Rattle.std.specs.Prelude.{is_none, is_some, ℕ, ◌+◌, ◌==◌, Bool, true, false, not, ◌&&◌, ◌||◌, nat_lt, nat_le, List, [], ◌∷◌, ◌++◌, if◌then◌else◌, Option, option_and_then, length, codes}
use Rattle.std.specs.List.{list_all, list_any}
use Rattle.std.specs.Option.{option_map_or}
use Rattle.std.specs.Str.{bytes_eq}
use Rattle.sg_toml_rules.specs.Arguments.{argument_kinds, text_of}
use Rattle.sg_toml_tree.specs.LinkNames.{is_split}
use Rattle.sg_toml_tree.specs.Names.{Known}
use Rattle.sg_toml_tree.specs.Pairs.{pairs_of}
use Rattle.sg_toml_rules.specs.Power.{powers_in}
use Rattle.sg_toml_rules.specs.Profiles.{amount_in, dates_kinds, each_date_kinds, quantity_of, state_in}
use Rattle.sg_toml_keys.specs.declared.tables.Key.{Key}
use Rattle.sg_toml_keys.specs.declared.tables.Need.{Need}
use Rattle.sg_toml_keys.specs.declared.tables.Need.TheVariants.{Required, Optional, IfZone, Unless}
use Rattle.sg_toml_keys.specs.Units.{quantity_value, whole_value}
use Rattle.sg_toml_keys.specs.declared.tables.Rule.{Rule}
use Rattle.sg_toml_keys.specs.declared.tables.Rule.TheVariants.{Text, Whole, Truth, Texts, Powers}
use Rattle.sg_toml_keys.specs.declared.tables.TextRule.{TextRule}
use Rattle.sg_toml_keys.specs.declared.tables.TextRule.TheVariants.{NewPoint, NewLink, NewActor, NewMutex, NewSemaphore, ZoneName, PointName, EndName, HostName, RouteEnd, ZoneRouteEnd, SpokeChild, RoutingWord, PolicyWord, FunctionWord, PositiveValue, AnyValue, ProfiledHost, ProfiledLink, SwitchedHost, SwitchedLink}
use Rattle.sg_toml_keys.specs.declared.tables.TextsRule.{TextsRule}
use Rattle.sg_toml_keys.specs.declared.tables.TextsRule.TheVariants.{LinkList, DateList, ValueList, StateList, ArgumentList}
use Rattle.sg_toml_tree.specs.Faults.{kind_if, of_type}
use Rattle.sg_toml_tree.specs.NameSpaces.{Finds, Pair}
use Rattle.sg_toml_tree.specs.Spelling.{is_name, taken_by}
use Rattle.sg_toml_tree.specs.Tree.{list_of, text_at}
use Rattle.sg_toml_tree.specs.declared.fault.Kind.{Kind}
use Rattle.sg_toml_tree.specs.declared.fault.Kind.TheVariants.{MissingKey, WrongType, BadValue, BadName, Duplicate, Unknown, Limit, Function}
use Rattle.toml.specs.Data.{Data, get, as_str, as_integer, as_bool, as_array}

-- a name is found, and its number is below this one: of an earlier row, or, of points, that of a zone
abbrev pub is_below : Option ℕ → ℕ → Bool
is_below found number = option_map_or (λ first. nat_lt first number) found false

-- a new name, of the row of this number in its space
unfoldable pub id_kinds : Finds → ℕ → List ℕ → List Kind
id_kinds numbers number name = kind_if (not (is_name name)) BadName ++ kind_if (is_below (numbers name) number) Duplicate

-- the name of a link, which takes three names if it is SPLITDUPLEX, and then has at most 59 bytes
unfoldable pub link_id_kinds : Finds → ℕ → Bool → List ℕ → List Kind
link_id_kinds taken number split id =
    kind_if (not (is_name id) || (split && nat_lt 59 (length id))) BadName
    ++ kind_if (list_any (λ name. is_below (taken name) number) (taken_by split id)) Duplicate

-- the name of a point: its number is not that of a zone
unfoldable pub point_kinds : Known → List ℕ → List Kind
point_kinds names name = kind_if (not (option_map_or (nat_le names.zones) (names.points name) false)) Unknown

-- the name of a zone or a point
unfoldable pub end_kinds : Known → List ℕ → List Kind
end_kinds names name = kind_if (is_none (names.points name)) Unknown

-- a pair that the row gives was given by an earlier row
unfoldable pub is_pair_taken : (Pair → Option ℕ) → Finds → ℕ → Data → Bool
is_pair_taken pairs points number row = list_any (λ p. is_below (pairs p) number) (pairs_of points row)

-- the name of a host
unfoldable pub host_kinds : Known → List ℕ → List Kind
host_kinds names name = kind_if (not (option_map_or (λ n. nat_le names.zones n && nat_lt n (names.zones + names.hosts)) (names.points name) false)) Unknown

-- the name of a link that no earlier row of the table has; the row names no host beside it
unfoldable pub profiled_link_kinds : Known → Finds → ℕ → Data → List ℕ → List Kind
profiled_link_kinds names earlier number row name =
    kind_if (is_some (get (codes "host") row)) BadValue ++ kind_if (is_below (earlier name) number) Duplicate ++ kind_if (is_none (names.links name)) Unknown

-- one of these words, else this kind
unfoldable pub word_kinds : List (List ℕ) → Kind → List ℕ → List Kind
word_kinds words kind text = kind_if (not (list_any (λ word. bytes_eq text word) words)) kind

-- what is wrong with a text
abbrev pub text_kinds : Known → ℕ → Data → TextRule → List ℕ → List Kind
text_kinds names number row NewPoint text = id_kinds names.points number text
text_kinds names number row NewLink text = link_id_kinds names.taken number (is_split row) text
text_kinds names number row NewActor text = id_kinds names.actors number text
text_kinds names number row NewMutex text = id_kinds names.mutexes number text
text_kinds names number row NewSemaphore text = id_kinds names.semaphores number text
text_kinds names number row ZoneName text = kind_if (not (is_below (names.points text) names.zones)) Unknown
text_kinds names number row PointName text = point_kinds names text
text_kinds names number row EndName text = end_kinds names text
text_kinds names number row HostName text = host_kinds names text
text_kinds names number row RouteEnd text = kind_if (is_pair_taken names.pairs names.points number row) Duplicate ++ point_kinds names text
text_kinds names number row ZoneRouteEnd text = kind_if (is_pair_taken names.zone_pairs names.points number row) Duplicate ++ end_kinds names text
text_kinds names number row SpokeChild text = kind_if (is_below (names.children text) number) Duplicate ++ end_kinds names text
text_kinds names number row RoutingWord text = word_kinds (codes "Full" ∷ codes "Star" ∷ codes "Dijkstra" ∷ []) BadValue text
text_kinds names number row PolicyWord text = word_kinds (codes "SHARED" ∷ codes "FATPIPE" ∷ codes "SPLITDUPLEX" ∷ []) BadValue text
text_kinds names number row FunctionWord text = word_kinds (codes "replay" ∷ codes "master" ∷ codes "worker" ∷ []) Function text
text_kinds names number row (PositiveValue quantity) text = kind_if (not (option_map_or (nat_lt 0) (quantity_value quantity text) false)) BadValue
text_kinds names number row (AnyValue quantity) text = kind_if (is_none (quantity_value quantity text)) BadValue
text_kinds names number row ProfiledHost text = kind_if (is_below (names.profiled_hosts text) number) Duplicate ++ host_kinds names text
text_kinds names number row ProfiledLink text = profiled_link_kinds names names.profiled_links number row text
text_kinds names number row SwitchedHost text = kind_if (is_below (names.switched_hosts text) number) Duplicate ++ host_kinds names text
text_kinds names number row SwitchedLink text = profiled_link_kinds names names.switched_links number row text

-- the names of 1 to 64 links
unfoldable pub link_list_kinds : Finds → List Data → List Kind
link_list_kinds links items =
    kind_if (length items == 0) BadValue
    ++ kind_if (list_any (λ d. is_none (links (text_of d))) items) Unknown
    ++ kind_if (nat_lt 64 (length items)) Limit

-- what is wrong with a list of texts
abbrev pub texts_kinds : Known → Data → TextsRule → List Data → List Kind
texts_kinds names row LinkList items = link_list_kinds names.links items
texts_kinds names row DateList items = dates_kinds items
texts_kinds names row ValueList items = each_date_kinds row items (list_all (λ item. is_some (amount_in (quantity_of row) item)) items)
texts_kinds names row StateList items = each_date_kinds row items (list_all (λ item. is_some (state_in item)) items)
texts_kinds names row ArgumentList items = argument_kinds names.workers row items

-- what is wrong with a list, each item of which must have a type
abbrev pub list_kinds : (Data → Bool) → (List Data → List Kind) → List Data → List Kind
list_kinds fits kinds items = if list_all fits items then kinds items else WrongType ∷ []

-- what is wrong with a value, which must have the type of its rule
unfoldable pub value_kinds : Known → ℕ → Data → Rule → Data → List Kind
value_kinds names number row (Text rule) d = of_type (text_kinds names number row rule) (as_str d)
value_kinds names number row (Whole least greatest) d = of_type (λ z. kind_if (is_none (whole_value least greatest z)) BadValue) (as_integer d)
value_kinds names number row Truth d = of_type (λ truth. []) (as_bool d)
value_kinds names number row (Texts rule) d = of_type (λ items. list_kinds (λ x. is_some (as_str x)) (texts_kinds names row rule) (list_of items)) (as_array d)
value_kinds names number row Powers d =
    of_type (λ items. list_kinds (λ x. is_some (as_integer x)) (λ xs. kind_if (is_none (powers_in xs)) BadValue) (list_of items)) (as_array d)

-- a key that the row must have
abbrev pub is_required : Known → Data → Need (List ℕ) → Bool
is_required names row Required = true
is_required names row Optional = false
is_required names row (IfZone name) = is_below (option_and_then names.points (text_at name row)) names.zones
is_required names row (Unless name) = is_none (get name row)

-- what is wrong if an optional key is left out: its default must fit the row too
abbrev pub default_kinds : Known → Data → Rule → List Kind
default_kinds names row (Texts ArgumentList) = argument_kinds names.workers row []
default_kinds names row _ = []

-- what is wrong at a key of a row, there or not
unfoldable pub key_kinds : Known → ℕ → Data → Key (List ℕ) → List Kind
key_kinds names number row key =
    option_map_or (value_kinds names number row key.rule) (get key.name row)
    (if is_required names row key.need then MissingKey ∷ [] else default_kinds names row key.rule)
