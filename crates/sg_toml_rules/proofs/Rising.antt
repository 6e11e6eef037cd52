-- The faults of a tree rise.
use Rattle.std.proofs.Common.{◌≡◌, ℕ, ◌+◌, ◌<◌, ◌≤◌, Bool, true, false, cond, List, [], ◌∷◌, ◌++◌, Option, Some, None, is_none, is_some, refl, sym, ◌∙◌, inl, inr, arith}
use Rattle.std.specs.List.{AllByRecursion, list_all}
use Rattle.sg_toml_rules.specs.Arguments.{argument_kinds}
use Rattle.sg_toml_rules.proofs.FaultParts.{key_faults, kinds_at, row_faults_at, row_kinds, top_kinds}
use Rattle.sg_toml_rules.specs.Faults.{faults_of, row_faults, rows_before, table_faults, table_kinds}
use Rattle.sg_toml_tree.specs.Names.{Known}
use Rattle.sg_toml_rules.specs.Rising.{FaultsRise, IsBefore, IsRising}
use Rattle.sg_toml_rules.specs.Power.{powers_in}
use Rattle.sg_toml_rules.specs.Profiles.{dates_kinds, each_date_kinds}
use Rattle.sg_toml_rules.specs.Rules.{default_kinds, end_kinds, host_kinds, id_kinds, key_kinds, link_id_kinds, link_list_kinds, point_kinds, profiled_link_kinds, text_kinds, texts_kinds, value_kinds, word_kinds}
use Rattle.sg_toml_keys.specs.Tables.{deployment_tables, heading, keys_of, platform_tables}
use Rattle.sg_toml_keys.specs.declared.tables.Key.{Key}
use Rattle.sg_toml_keys.specs.declared.tables.Rule.{Rule}
use Rattle.sg_toml_keys.specs.declared.tables.Rule.TheVariants as rule
use Rattle.sg_toml_keys.specs.declared.tables.TextRule.{TextRule}
use Rattle.sg_toml_keys.specs.declared.tables.TextRule.TheVariants as text
use Rattle.sg_toml_keys.specs.declared.tables.TextsRule.{TextsRule}
use Rattle.sg_toml_keys.specs.declared.tables.TextsRule.TheVariants as texts
use Rattle.sg_toml_keys.specs.declared.tables.Table.{Table}
use Rattle.sg_toml_tree.specs.Along.{along}
use Rattle.sg_toml_tree.specs.Faults.{at_place, kind_if, kind_number, of_type}
use Rattle.sg_toml_tree.specs.Tree.{list_of, rows_at}
use Rattle.sg_toml_tree.specs.declared.fault.Fault.{Fault}
use Rattle.sg_toml_tree.specs.declared.fault.Kind.{Kind}
use Rattle.sg_toml_tree.specs.declared.fault.Kind.TheVariants.{MissingKey, WrongType, BadValue, BadName, Duplicate, Unknown, Limit, Function, Arguments}
use Rattle.toml.specs.Data.{Data, Members, get_member, as_str, as_table, as_array, as_bool, as_integer}

abbrev pub Each : {A : Type 0} → (A → Type 0) → List A → Type 0
Each P xs = AllByRecursion P xs

pub each_append : {A : Type 0} (P : A → Type 0) (xs ys : List A) → Each P xs → Each P ys → Each P (xs ++ ys)
each_append P [] ys p q = q
each_append P (x ∷ xs) ys p q = (p.0, each_append P xs ys p.1 q)

each_mono : {A : Type 0} (P Q : A → Type 0) → ((x : A) → P x → Q x) → (xs : List A) → Each P xs → Each Q xs
each_mono P Q h [] p = tt
each_mono P Q h (x ∷ xs) p = (h x p.0, each_mono P Q h xs p.1)

each_cross : {A : Type 0} (R : A → A → Type 0) (P Q : A → Type 0) → ((a b : A) → P a → Q b → R a b) → (xs ys : List A) → Each P xs → Each Q ys → Each (λ x. Each (R x) ys) xs
each_cross R P Q h [] ys p q = tt
each_cross R P Q h (x ∷ xs) ys p q = (each_mono Q (R x) (λ y k. h x y p.0 k) ys q, each_cross R P Q h xs ys p.1 q)

rising_append : (xs ys : List Fault) → IsRising xs → IsRising ys → Each (λ x. Each (IsBefore x) ys) xs → IsRising (xs ++ ys)
rising_append [] ys p q cross = q
rising_append (x ∷ xs) ys p q cross = (each_append (IsBefore x) xs ys p.0 cross.0, rising_append xs ys p.1 q cross.1)

-- the kinds at one place rise
abbrev KindsRise : List Kind → Type 0
KindsRise [] = Unit {0}
KindsRise (k ∷ ks) = Each (λ j. kind_number k < kind_number j) ks × KindsRise ks

one : (b : Bool) (k : Kind) → KindsRise (kind_if b k)
one true k = (tt, tt)
one false k = tt

two : (b c : Bool) (k j : Kind) → kind_number k < kind_number j → KindsRise (kind_if b k ++ kind_if c j)
two true true k j h = ((h, tt), (tt, tt))
two true false k j h = (tt, tt)
two false c k j h = one c j

three : (b c d : Bool) (k j m : Kind) → kind_number k < kind_number j → kind_number j < kind_number m → KindsRise (kind_if b k ++ kind_if c j ++ kind_if d m)
three true true true k j m h i = ((h, (omega arith, tt)), ((i, tt), (tt, tt)))
three true true false k j m h i = ((h, tt), (tt, tt))
three true false true k j m h i = ((omega arith, tt), (tt, tt))
three true false false k j m h i = (tt, tt)
three false c d k j m h i = two c d j m i

typed : {A : Type 0} (kinds : A → List Kind) (o : Option A) → ((x : A) → KindsRise (kinds x)) → KindsRise (of_type kinds o)
typed kinds None h = (tt, tt)
typed kinds (Some x) h = h x

text_rise : (names : Known) (number : ℕ) (row : Data) (r : TextRule) (t : List ℕ) → KindsRise (text_kinds names number row r t)
unfolding end_kinds host_kinds id_kinds link_id_kinds point_kinds profiled_link_kinds word_kinds
text_rise names number row text.NewPoint t = two _ _ BadName Duplicate (omega arith)
text_rise names number row text.NewLink t = two _ _ BadName Duplicate (omega arith)
text_rise names number row text.NewActor t = two _ _ BadName Duplicate (omega arith)
text_rise names number row text.NewMutex t = two _ _ BadName Duplicate (omega arith)
text_rise names number row text.NewSemaphore t = two _ _ BadName Duplicate (omega arith)
text_rise names number row text.ZoneName t = one _ Unknown
text_rise names number row text.PointName t = one _ Unknown
text_rise names number row text.EndName t = one _ Unknown
text_rise names number row text.HostName t = one _ Unknown
text_rise names number row text.RouteEnd t = two _ _ Duplicate Unknown (omega arith)
text_rise names number row text.ZoneRouteEnd t = two _ _ Duplicate Unknown (omega arith)
text_rise names number row text.SpokeChild t = two _ _ Duplicate Unknown (omega arith)
text_rise names number row text.RoutingWord t = one _ BadValue
text_rise names number row text.PolicyWord t = one _ BadValue
text_rise names number row text.FunctionWord t = one _ Function
text_rise names number row (text.PositiveValue quantity) t = one _ BadValue
text_rise names number row (text.AnyValue quantity) t = one _ BadValue
text_rise names number row text.ProfiledHost t = two _ _ Duplicate Unknown (omega arith)
text_rise names number row text.ProfiledLink t = three _ _ _ BadValue Duplicate Unknown (omega arith) (omega arith)
text_rise names number row text.SwitchedHost t = two _ _ Duplicate Unknown (omega arith)
text_rise names number row text.SwitchedLink t = three _ _ _ BadValue Duplicate Unknown (omega arith) (omega arith)

texts_rise : (names : Known) (row : Data) (r : TextsRule) (items : List Data) → KindsRise (texts_kinds names row r items)
unfolding argument_kinds dates_kinds each_date_kinds link_list_kinds
texts_rise names row texts.LinkList items = three _ _ _ BadValue Unknown Limit (omega arith) (omega arith)
texts_rise names row texts.DateList items = two _ _ BadValue Limit (omega arith)
texts_rise names row texts.ValueList items = two _ _ BadValue Limit (omega arith)
texts_rise names row texts.StateList items = two _ _ BadValue Limit (omega arith)
texts_rise names row texts.ArgumentList items = one _ Arguments

typed_or : (b : Bool) (kinds : List Kind) → KindsRise kinds → KindsRise (cond b kinds (WrongType ∷ []))
typed_or true kinds h = h
typed_or false kinds h = (tt, tt)

value_rise : (names : Known) (number : ℕ) (row : Data) (r : Rule) (d : Data) → KindsRise (value_kinds names number row r d)
unfolding value_kinds
value_rise names number row (rule.Text r) d = typed _ (as_str d) (text_rise names number row r)
value_rise names number row (rule.Whole least greatest) d = typed _ (as_integer d) (λ z. one _ BadValue)
value_rise names number row rule.Truth d = typed _ (as_bool d) (λ b. tt)
value_rise names number row (rule.Texts r) d = typed _ (as_array d) (λ items. typed_or (list_all (λ x. is_some (as_str x)) (list_of items)) (texts_kinds names row r (list_of items)) (texts_rise names row r (list_of items)))
value_rise names number row rule.Powers d = typed _ (as_array d) (λ items. typed_or (list_all (λ x. is_some (as_integer x)) (list_of items)) (kind_if (is_none (powers_in (list_of items))) BadValue) (one (is_none (powers_in (list_of items))) BadValue))

default_rise : (names : Known) (row : Data) (r : Rule) → KindsRise (default_kinds names row r)
unfolding argument_kinds
default_rise names row (rule.Texts texts.ArgumentList) = one _ Arguments
default_rise names row _ = tt

key_rise : (names : Known) (number : ℕ) (row : Data) (k : Key (List ℕ)) (o : Option Data) → KindsRise (kinds_at names number row k o)
key_rise names number row k None = missing_or _ (default_kinds names row k.rule) (default_rise names row k.rule)
  where
    missing_or : (b : Bool) (kinds : List Kind) → KindsRise kinds → KindsRise (cond b (MissingKey ∷ []) kinds)
    missing_or true kinds h = (tt, tt)
    missing_or false kinds h = h
key_rise names number row k (Some d) = value_rise names number row k.rule d

-- the faults at one place
abbrev IsAt : ℕ → ℕ → ℕ → Fault → Type 0
IsAt t r k f = (f.place.table ≡ t) × (f.place.row ≡ r) × (f.place.key ≡ k)

all_at : (t r k : ℕ) (kinds : List Kind) → Each (IsAt t r k) (at_place t r k kinds)
all_at t r k [] = tt
all_at t r k (kind ∷ kinds) = ((refl, refl, refl), all_at t r k kinds)

place_rise : (t r k : ℕ) (kinds : List Kind) → KindsRise kinds → IsRising (at_place t r k kinds)
place_rise t r k [] h = tt
place_rise t r k (kind ∷ kinds) h = (behind kinds h.0, place_rise t r k kinds h.1)
  where
    behind : (js : List Kind) → Each (λ j. kind_number kind < kind_number j) js → Each (IsBefore (record { place = record { table = t; row = r; key = k }; kind = kind })) (at_place t r k js)
    behind [] h = tt
    behind (j ∷ js) h = (inr (refl, inr (refl, inr (refl, inl h.0))), behind js h.1)

-- what is made along a list rises, if each part does and stays at its level
rising_along : {A : Type 0} (level : Fault → ℕ) (Same : Fault → Type 0) (f : ℕ → A → List Fault)
    → ((i : ℕ) (x : A) → IsRising (f i x)) → ((i : ℕ) (x : A) → Each (λ g. (level g ≡ i + 1) × Same g) (f i x))
    → ((a b : Fault) → Same a → Same b → level a < level b → IsBefore a b)
    → (i : ℕ) (xs : List A) → IsRising (along f i xs) × Each (λ g. (i + 1 ≤ level g) × Same g) (along f i xs)
rising_along level Same f rise here cross i [] = (tt, tt)
rising_along level Same f rise here cross i (x ∷ xs) =
    let rest = rising_along level Same f rise here cross (i + 1) xs in
    let before = each_cross IsBefore (λ g. (level g ≡ i + 1) × Same g) (λ g. (i + 1 + 1 ≤ level g) × Same g) (λ a b p q. cross a b p.1 q.1 (omega (arith, p.0, q.0))) (f i x) (along f (i + 1) xs) (here i x) rest.1 in (
      rising_append (f i x) (along f (i + 1) xs) (rise i x) rest.0 before,
      each_append (λ g. (i + 1 ≤ level g) × Same g) (f i x) (along f (i + 1) xs)
          (each_mono (λ g. (level g ≡ i + 1) × Same g) (λ g. (i + 1 ≤ level g) × Same g) (λ g p. (omega (arith, p.0), p.1)) (f i x) (here i x))
          (each_mono (λ g. (i + 1 + 1 ≤ level g) × Same g) (λ g. (i + 1 ≤ level g) × Same g) (λ g p. (omega (arith, p.0), p.1)) (along f (i + 1) xs) rest.1),
    )

-- faults of one row
abbrev IsInRow : ℕ → ℕ → Fault → Type 0
IsInRow t r f = (f.place.table ≡ t) × (f.place.row ≡ r)

row_rise : (names : Known) (keys : List (Key (List ℕ))) (number t r : ℕ) (row : Data) → IsRising (row_faults names keys number t r row) × Each (IsInRow t r) (row_faults names keys number t r row)
unfolding row_faults key_kinds
row_rise names keys number t r row =
    let f = key_faults names number t r row in
    let head = at_place t r 0 (row_kinds keys row) in
    let rest = rising_along (λ g. g.place.key) (IsInRow t r) f
    (λ i k. place_rise t r (i + 1) _ (key_rise names number row k _))
    (λ i k. each_mono (IsAt t r (i + 1)) (λ g. (g.place.key ≡ i + 1) × IsInRow t r g) (λ g p. (p.2, (p.0, p.1))) _ (all_at t r (i + 1) _))
    (λ a b p q h. inr (p.0 ∙ sym q.0, inr (p.1 ∙ sym q.1, inl h))) 0 keys in
    let before = each_cross IsBefore (IsAt t r 0) (λ g. (0 + 1 ≤ g.place.key) × IsInRow t r g) (λ a b p q. inr (p.0 ∙ sym q.1.0, inr (p.1 ∙ sym q.1.1, inl (omega (arith, p.2, q.0))))) head (along f 0 keys) (all_at t r 0 _) rest.1 in (
      rising_append head (along f 0 keys) (place_rise t r 0 _ (typed _ (as_table row) (λ ms. one _ Unknown))) rest.0 before,
      each_append (IsInRow t r) head (along f 0 keys)
          (each_mono (IsAt t r 0) (IsInRow t r) (λ g p. (p.0, p.1)) head (all_at t r 0 _))
          (each_mono (λ g. (0 + 1 ≤ g.place.key) × IsInRow t r g) (IsInRow t r) (λ g p. p.1) (along f 0 keys) rest.1),
    )

abbrev IsInTable : ℕ → Fault → Type 0
IsInTable t f = f.place.table ≡ t

head_rise : (table : Table) (o : Option Data) → KindsRise (table_kinds table o)
head_rise table None = tt
head_rise table (Some d) = typed _ (as_array d) (λ items. one _ Limit)

table_rise : (names : Known) (tree : Members) (t : ℕ) (table : Table) → IsRising (table_faults names tree t table) × Each (IsInTable t) (table_faults names tree t table)
unfolding table_faults
table_rise names tree t table =
    let f = row_faults_at names (keys_of table) (rows_before names table) t in
    let rows = rows_at (heading table).name tree in
    let head = at_place t 0 0 (table_kinds table (get_member (heading table).name tree)) in
    let rest = rising_along (λ g. g.place.row) (IsInTable t) f
    (λ i row. (row_rise names (keys_of table) (rows_before names table + i) t (i + 1) row).0)
    (λ i row. each_mono (IsInRow t (i + 1)) (λ g. (g.place.row ≡ i + 1) × IsInTable t g) (λ g p. (p.1, p.0)) _ (row_rise names (keys_of table) (rows_before names table + i) t (i + 1) row).1)
    (λ a b p q h. inr (p ∙ sym q, inl h)) 0 rows in
    let before = each_cross IsBefore (IsAt t 0 0) (λ g. (0 + 1 ≤ g.place.row) × IsInTable t g) (λ a b p q. inr (p.0 ∙ sym q.1, inl (omega (arith, p.1, q.0)))) head (along f 0 rows) (all_at t 0 0 _) rest.1 in (
      rising_append head (along f 0 rows) (place_rise t 0 0 _ (head_rise table _)) rest.0 before,
      each_append (IsInTable t) head (along f 0 rows)
          (each_mono (IsAt t 0 0) (IsInTable t) (λ g p. p.0) head (all_at t 0 0 _))
          (each_mono (λ g. (0 + 1 ≤ g.place.row) × IsInTable t g) (IsInTable t) (λ g p. p.1) (along f 0 rows) rest.1),
    )

-- a text as a whole, and then its tables
text_faults_rise : (names : Known) (tree : Members) (tables : List Table) → IsRising (faults_of names tables tree)
unfolding faults_of
text_faults_rise names tree tables =
    let f : ℕ → Table → List Fault = λ i table. table_faults names tree (i + 1) table in
    let head = at_place 0 0 0 (top_kinds tables tree) in
    let rest = rising_along (λ g. g.place.table) (λ g. Unit {0}) f
    (λ i table. (table_rise names tree (i + 1) table).0)
    (λ i table. each_mono (IsInTable (i + 1)) (λ g. (g.place.table ≡ i + 1) × Unit {0}) (λ g p. (p, tt)) _ (table_rise names tree (i + 1) table).1)
    (λ a b p q h. inl h) 0 tables in
    rising_append head (along f 0 tables) (place_rise 0 0 0 _ (one _ Unknown)) rest.0
    (each_cross IsBefore (IsAt 0 0 0) (λ g. (0 + 1 ≤ g.place.table) × Unit {0}) (λ a b p q. inl (omega (arith, p.0, q.0))) head (along f 0 tables) (all_at 0 0 0 _) rest.1)

pub faults_rise : FaultsRise
faults_rise = record {
  platform = λ names tree. text_faults_rise names tree platform_tables;
  deployment = λ names tree. text_faults_rise names tree deployment_tables;
}
