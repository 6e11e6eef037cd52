-- No rule of a platform's tables is one of actors.
use Rattle.std.proofs.Common.{ℕ, ◌+◌, ◌≤◌, Bool, true, false, cond, List, [], ◌∷◌, ◌++◌, Option, Some, None, is_none, is_some, arith}
use Rattle.std.specs.List.{list_all}
use Rattle.sg_toml_rules.proofs.Rising.{Each, each_append}
use Rattle.sg_toml_rules.proofs.FaultParts.{key_faults, kinds_at, row_faults_at, row_kinds, top_kinds}
use Rattle.sg_toml_rules.specs.Faults.{faults_of, row_faults, rows_before, table_faults, table_kinds}
use Rattle.sg_toml_tree.specs.Names.{Known}
use Rattle.sg_toml_rules.specs.PlatformKinds.{IsPlatformFault, PlatformKinds}
use Rattle.sg_toml_rules.specs.Power.{powers_in}
use Rattle.sg_toml_rules.specs.Profiles.{dates_kinds, each_date_kinds}
use Rattle.sg_toml_rules.specs.Rules.{default_kinds, end_kinds, host_kinds, id_kinds, key_kinds, link_id_kinds, link_list_kinds, point_kinds, profiled_link_kinds, text_kinds, texts_kinds, value_kinds, word_kinds}
use Rattle.sg_toml_keys.specs.Tables.{heading, keys_of, platform_tables}
use Rattle.sg_toml_keys.specs.declared.tables.Key.{Key}
use Rattle.sg_toml_keys.specs.declared.tables.Rule.{Rule}
use Rattle.sg_toml_keys.specs.declared.tables.Rule.TheVariants as rule
use Rattle.sg_toml_keys.specs.declared.tables.TextRule.{TextRule}
use Rattle.sg_toml_keys.specs.declared.tables.TextRule.TheVariants as text
use Rattle.sg_toml_keys.specs.declared.tables.TextsRule.{TextsRule}
use Rattle.sg_toml_keys.specs.declared.tables.TextsRule.TheVariants as texts
use Rattle.sg_toml_keys.specs.declared.tables.Table.{Table}
use Rattle.sg_toml_tree.specs.Along.{along}
use Rattle.sg_toml_tree.specs.Faults.{at_place, kind_if, kind_number, of_type}
use Rattle.sg_toml_tree.specs.Tree.{list_of, rows_at}
use Rattle.sg_toml_tree.specs.declared.fault.Fault.{Fault}
use Rattle.sg_toml_tree.specs.declared.fault.Kind.{Kind}
use Rattle.sg_toml_tree.specs.declared.fault.Kind.TheVariants.{MissingKey, WrongType, BadValue, BadName, Duplicate, Unknown, Limit}
use Rattle.toml.specs.Data.{Data, Members, get_member, as_str, as_table, as_array, as_bool, as_integer}

abbrev IsSmall : Kind → Type 0
IsSmall k = kind_number k ≤ 8

abbrev AreSmall : List Kind → Type 0
AreSmall kinds = Each IsSmall kinds

one : (b : Bool) (k : Kind) → IsSmall k → AreSmall (kind_if b k)
one true k h = (h, tt)
one false k h = tt

two : (b c : Bool) (k j : Kind) → IsSmall k → IsSmall j → AreSmall (kind_if b k ++ kind_if c j)
two b c k j h i = each_append IsSmall (kind_if b k) (kind_if c j) (one b k h) (one c j i)

three : (b c d : Bool) (k j m : Kind) → IsSmall k → IsSmall j → IsSmall m → AreSmall (kind_if b k ++ kind_if c j ++ kind_if d m)
three b c d k j m h i g = each_append IsSmall (kind_if b k ++ kind_if c j) (kind_if d m) (two b c k j h i) (one d m g)

typed : {A : Type 0} (kinds : A → List Kind) (o : Option A) → ((x : A) → AreSmall (kinds x)) → AreSmall (of_type kinds o)
typed kinds None h = (omega arith, tt)
typed kinds (Some x) h = h x

-- the rules of a platform's keys
abbrev IsPlatformRule : Rule → Type 0
IsPlatformRule (rule.Text text.FunctionWord) = ⊥
IsPlatformRule (rule.Texts texts.ArgumentList) = ⊥
IsPlatformRule _ = Unit {0}

text_small : (names : Known) (number : ℕ) (row : Data) (r : TextRule) (t : List ℕ) → IsPlatformRule (rule.Text r) → AreSmall (text_kinds names number row r t)
unfolding end_kinds host_kinds id_kinds link_id_kinds point_kinds profiled_link_kinds word_kinds
text_small names number row text.NewPoint t h = two _ _ BadName Duplicate (omega arith) (omega arith)
text_small names number row text.NewLink t h = two _ _ BadName Duplicate (omega arith) (omega arith)
text_small names number row text.NewActor t h = two _ _ BadName Duplicate (omega arith) (omega arith)
text_small names number row text.NewMutex t h = two _ _ BadName Duplicate (omega arith) (omega arith)
text_small names number row text.NewSemaphore t h = two _ _ BadName Duplicate (omega arith) (omega arith)
text_small names number row text.ZoneName t h = one _ Unknown (omega arith)
text_small names number row text.PointName t h = one _ Unknown (omega arith)
text_small names number row text.EndName t h = one _ Unknown (omega arith)
text_small names number row text.HostName t h = one _ Unknown (omega arith)
text_small names number row text.RouteEnd t h = two _ _ Duplicate Unknown (omega arith) (omega arith)
text_small names number row text.ZoneRouteEnd t h = two _ _ Duplicate Unknown (omega arith) (omega arith)
text_small names number row text.SpokeChild t h = two _ _ Duplicate Unknown (omega arith) (omega arith)
text_small names number row text.RoutingWord t h = one _ BadValue (omega arith)
text_small names number row text.PolicyWord t h = one _ BadValue (omega arith)
text_small names number row text.FunctionWord t h = absurd h
text_small names number row (text.PositiveValue quantity) t h = one _ BadValue (omega arith)
text_small names number row (text.AnyValue quantity) t h = one _ BadValue (omega arith)
text_small names number row text.ProfiledHost t h = two _ _ Duplicate Unknown (omega arith) (omega arith)
text_small names number row text.ProfiledLink t h = three _ _ _ BadValue Duplicate Unknown (omega arith) (omega arith) (omega arith)
text_small names number row text.SwitchedHost t h = two _ _ Duplicate Unknown (omega arith) (omega arith)
text_small names number row text.SwitchedLink t h = three _ _ _ BadValue Duplicate Unknown (omega arith) (omega arith) (omega arith)

texts_small : (names : Known) (row : Data) (r : TextsRule) (items : List Data) → IsPlatformRule (rule.Texts r) → AreSmall (texts_kinds names row r items)
unfolding dates_kinds each_date_kinds link_list_kinds
texts_small names row texts.LinkList items h = three _ _ _ BadValue Unknown Limit (omega arith) (omega arith) (omega arith)
texts_small names row texts.DateList items h = two _ _ BadValue Limit (omega arith) (omega arith)
texts_small names row texts.ValueList items h = two _ _ BadValue Limit (omega arith) (omega arith)
texts_small names row texts.StateList items h = two _ _ BadValue Limit (omega arith) (omega arith)
texts_small names row texts.ArgumentList items h = absurd h

typed_or : (b : Bool) (kinds : List Kind) → AreSmall kinds → AreSmall (cond b kinds (WrongType ∷ []))
typed_or true kinds h = h
typed_or false kinds h = (omega arith, tt)

value_small : (names : Known) (number : ℕ) (row : Data) (r : Rule) (d : Data) → IsPlatformRule r → AreSmall (value_kinds names number row r d)
unfolding value_kinds
value_small names number row (rule.Text r) d h = typed _ (as_str d) (λ t. text_small names number row r t h)
value_small names number row (rule.Whole least greatest) d h = typed _ (as_integer d) (λ z. one _ BadValue (omega arith))
value_small names number row rule.Truth d h = typed _ (as_bool d) (λ b. tt)
value_small names number row (rule.Texts r) d h = typed _ (as_array d) (λ items. typed_or (list_all (λ x. is_some (as_str x)) (list_of items)) (texts_kinds names row r (list_of items)) (texts_small names row r (list_of items) h))
value_small names number row rule.Powers d h = typed _ (as_array d) (λ items. typed_or (list_all (λ x. is_some (as_integer x)) (list_of items)) (kind_if (is_none (powers_in (list_of items))) BadValue) (one (is_none (powers_in (list_of items))) BadValue (omega arith)))

default_small : (names : Known) (row : Data) (r : Rule) → IsPlatformRule r → AreSmall (default_kinds names row r)
default_small names row (rule.Texts texts.ArgumentList) h = absurd h
default_small names row _ h = tt

key_small : (names : Known) (number : ℕ) (row : Data) (k : Key (List ℕ)) (o : Option Data) → IsPlatformRule k.rule → AreSmall (kinds_at names number row k o)
key_small names number row k None h = missing_or _ (default_kinds names row k.rule) (default_small names row k.rule h)
  where
    missing_or : (b : Bool) (kinds : List Kind) → AreSmall kinds → AreSmall (cond b (MissingKey ∷ []) kinds)
    missing_or true kinds h = (omega arith, tt)
    missing_or false kinds h = h
key_small names number row k (Some d) h = value_small names number row k.rule d h

place_small : (t r k : ℕ) (kinds : List Kind) → AreSmall kinds → Each IsPlatformFault (at_place t r k kinds)
place_small t r k [] h = tt
place_small t r k (kind ∷ kinds) h = (h.0, place_small t r k kinds h.1)

-- what is made along a list, of which each item has a property
along_small : {A : Type 0} (Q : A → Type 0) (f : ℕ → A → List Fault) → ((i : ℕ) (x : A) → Q x → Each IsPlatformFault (f i x))
    → (i : ℕ) (xs : List A) → Each Q xs → Each IsPlatformFault (along f i xs)
along_small Q f here i [] h = tt
along_small Q f here i (x ∷ xs) h = each_append IsPlatformFault (f i x) (along f (i + 1) xs) (here i x h.0) (along_small Q f here (i + 1) xs h.1)

abbrev IsPlatformKey : Key (List ℕ) → Type 0
IsPlatformKey k = IsPlatformRule k.rule

row_small : (names : Known) (keys : List (Key (List ℕ))) (number t r : ℕ) (row : Data) → Each IsPlatformKey keys → Each IsPlatformFault (row_faults names keys number t r row)
unfolding row_faults key_kinds
row_small names keys number t r row h =
    let f = key_faults names number t r row in
    each_append IsPlatformFault (at_place t r 0 (row_kinds keys row)) (along f 0 keys)
    (place_small t r 0 _ (typed _ (as_table row) (λ ms. one _ Unknown (omega arith))))
    (along_small IsPlatformKey f (λ i k p. place_small t r (i + 1) _ (key_small names number row k _ p)) 0 keys h)

abbrev IsPlatformTable : Table → Type 0
IsPlatformTable table = Each IsPlatformKey (keys_of table)

head_small : (table : Table) (o : Option Data) → AreSmall (table_kinds table o)
head_small table None = tt
head_small table (Some d) = typed _ (as_array d) (λ items. one _ Limit (omega arith))

-- any row does
each_unit : {A : Type 0} (xs : List A) → Each (λ x. Unit {0}) xs
each_unit [] = tt
each_unit (x ∷ xs) = (tt, each_unit xs)

table_small : (names : Known) (tree : Members) (t : ℕ) (table : Table) → IsPlatformTable table → Each IsPlatformFault (table_faults names tree t table)
unfolding table_faults
table_small names tree t table h =
    let f = row_faults_at names (keys_of table) (rows_before names table) t in
    let rows = rows_at (heading table).name tree in
    each_append IsPlatformFault (at_place t 0 0 (table_kinds table (get_member (heading table).name tree))) (along f 0 rows)
    (place_small t 0 0 _ (head_small table _))
    (along_small (λ row. Unit {0}) f (λ i row p. row_small names (keys_of table) (rows_before names table + i) t (i + 1) row h) 0 rows (each_unit rows))

keys_small : Each IsPlatformTable platform_tables
keys_small =
    ((tt, (tt, (tt, tt))), ((tt, (tt, (tt, (tt, (tt, (tt, tt)))))), ((tt, (tt, tt)), ((tt, (tt, (tt, (tt, tt)))), ((tt, (tt, (tt, (tt, tt)))), ((tt, (tt, (tt, (tt, (tt, (tt, tt)))))), ((tt, (tt, (tt, (tt, (tt, tt))))), ((tt, (tt, (tt, tt))), ((tt, (tt, (tt, (tt, (tt, tt))))), ((tt, (tt, (tt, (tt, (tt, tt))))), tt))))))))))

pub platform_kinds : PlatformKinds
unfolding faults_of
platform_kinds names tree =
    let f : ℕ → Table → List Fault = λ i table. table_faults names tree (i + 1) table in
    each_append IsPlatformFault (at_place 0 0 0 (top_kinds platform_tables tree)) (along f 0 platform_tables)
    (place_small 0 0 0 _ (one _ Unknown (omega arith)))
    (along_small IsPlatformTable f (λ i table h. table_small names tree (i + 1) table h) 0 platform_tables keys_small)
