-- A deployment that a text describes has names: they are spelled so, and each stands for one actor.
use Rattle.std.proofs.Common.{◌≡◌, ◌<◌, ◌≤◌, ◌+◌, ◌-◌, ◌∙◌, ap, sym, refl, subst, ℕ, zero, suc, Bool, true, false, cond, if◌then◌else◌, not, List, [], ◌∷◌, ◌++◌, length, map, get_or, All, Option, None, Some, Result, Ok, Err, option_map, option_to_list, unwrap_or, codes, nat_lt, inl, inr, arith, lt-ltb}
use Rattle.std.specs.List.{slice_get}
use Rattle.std.specs.Map.{lookup}
use Rattle.std.specs.Option.{option_map_or}
use Rattle.std.specs.Str.{bytes_eq}
use Rattle.std.proofs.lemmas.Bool.{cases_Bool, false_from_ne_true}
use Rattle.std.proofs.lemmas.List.Elements.{All-append, All-cons, All-nil, All-weaker}
use Rattle.std.proofs.lemmas.Option.{same_Some, slice_get-get_or}
use Rattle.std.proofs.lemmas.Slice.Eq.{bytes_eq-Decides}
use Rattle.sg_base.specs.declared.ids.ActorId.{ActorId}
use Rattle.sg_platform.specs.Build.{actor_row}
use Rattle.sg_platform.specs.DeploymentOf.{deployment_of, names_on, deployment_rows}
use Rattle.sg_platform.specs.PlatformOf.{greatest_text, too_long, tree_by}
use Rattle.sg_platform_rows.specs.Deployment.{Deployed, is_replay, member_ids, members_among, replay_actor_named, replay_names}
use Rattle.sg_platform_rows.specs.Index.{number_by}
use Rattle.sg_platform_rows.specs.kept.Finds.{numbered_names}
use Rattle.sg_platform_rows.specs.Platform.{Platform}
use Rattle.sg_platform_rows.specs.declared.rows.ActorRow.{ActorRow}
use Rattle.sg_platform_rows.specs.declared.rows.Function.{Function}
use Rattle.sg_platform_rows.specs.declared.rows.Function.TheVariants.{Replay, Worker, Master, Churn}
use Rattle.sg_toml_rules.proofs.Kept.{KeysKept, not_false, required_text, unbroken}
use Rattle.sg_toml_rules.proofs.FaultParts.{key_faults, row_faults_at}
use Rattle.sg_toml_rules.specs.Faults.{faults_of, row_faults, rows_before, table_faults}
use Rattle.sg_toml_tree.specs.Names.{Known, known_by}
use Rattle.sg_toml_rules.specs.Rules.{id_kinds, is_below, key_kinds}
use Rattle.sg_toml_keys.specs.Tables.{deployment_tables, keys_of}
use Rattle.sg_toml_keys.specs.declared.tables.Key.{Key}
use Rattle.sg_toml_keys.specs.declared.tables.TextRule.TheVariants as text_rule
use Rattle.sg_toml_keys.specs.declared.tables.Table.TheVariants.{Actor}
use Rattle.sg_toml_tree.proofs.Kept.{empty_at, empty_left, empty_right, none_empty}
use Rattle.sg_toml_tree.specs.Along.{along, first}
use Rattle.sg_toml_tree.specs.NameSpaces.{numbered, texts_at, with_number}
use Rattle.sg_toml_tree.specs.Spelling.{is_name}
use Rattle.sg_toml_tree.specs.Tree.{rows_at, text_at, tree_of}
use Rattle.sg_toml_tree.specs.declared.fault.Fault.{Fault}
use Rattle.sg_toml_tree.specs.declared.fault.Kind.TheVariants.{BadName, Duplicate}
use Rattle.sg_toml_tree.specs.kept.Data.{Row, Tree}
use Rattle.sg_collective_laws.specs.Expanded.{HasNames, name_of, row_name}
use Rattle.sg_collective_laws.specs.Laws.{TextsHaveNames}

-- ---- items of lists
item_empty : {A B : Type 0} (f : ℕ → A → List B) (from : ℕ) (xs : List A) (place : ℕ) (x : A) → along f from xs ≡ [] → slice_get xs place ≡ Some x → f (from + place) x ≡ []
item_empty f from [] place x empty at = absurd (cc at)
item_empty f from (y ∷ xs) zero x empty at =
    let same : y ≡ x = same_Some y x at in
    let number : from ≡ from + 0 = omega arith in
    let here : f from y ≡ [] = empty_left (f from y) (along f (from + 1) xs) empty in
    sym (λ i. f (number i) (same i)) ∙ here
item_empty f from (y ∷ xs) (suc place) x empty at =
    let number : from + suc place ≡ from + 1 + place = omega arith in
    ap (λ (n : ℕ). f n x) number ∙ item_empty f (from + 1) xs place x (empty_right (f from y) (along f (from + 1) xs) empty) at

record IsMapped {A B : Type 0} (f : A → B) (xs : List A) (place : ℕ) (y : B) : Type 0 where
  item : A
  at : slice_get xs place ≡ Some item
  is : f item ≡ y

mapped_at : {A B : Type 0} (f : A → B) (xs : List A) (place : ℕ) (y : B) → slice_get (map f xs) place ≡ Some y → IsMapped f xs place y
mapped_at f [] place y at = absurd (cc at)
mapped_at f (x ∷ xs) zero y at = record { item = x; at = refl; is = same_Some (f x) y at }
mapped_at f (x ∷ xs) (suc place) y at =
    let there = mapped_at f xs place y at in
    record { item = there.item; at = there.at; is = there.is }

-- ---- the numbers of texts
abbrev texts_from : List ℕ → ℕ → List Row → List (List ℕ × ℕ)
texts_from key from rows = numbered (texts_at key) from rows

-- a text that a row has stands under a number that is no greater than the row's
record StandsBy (text key : List ℕ) (from place : ℕ) (rows : List Row) : Type 0 where
  number : ℕ
  is : lookup (bytes_eq text) (texts_from key from rows) ≡ Some number
  early : number ≤ from + place

stands_behind : (key text : List ℕ) (from place : ℕ) (row : Row) (rows : List Row) (found : Option (List ℕ)) → text_at key row ≡ found → StandsBy text key (from + 1) place rows →
    StandsBy text key from (suc place) (row ∷ rows)
stands_behind key text from place row rows None e behind = record {
  number = behind.number;
  is = ap (λ (o : Option (List ℕ)). lookup (bytes_eq text) (with_number from (option_to_list o) ++ texts_from key (from + 1) rows)) e ∙ behind.is;
  early = omega (arith, behind.early);
}
stands_behind key text from place row rows (Some other) e behind = elim (cases_Bool (bytes_eq text other)) [
  | inl is ↦ record {
    number = from;
    is = ap (λ (o : Option (List ℕ)). lookup (bytes_eq text) (with_number from (option_to_list o) ++ texts_from key (from + 1) rows)) e
        ∙ ap (λ (b : Bool). cond b (Some from) (lookup (bytes_eq text) (texts_from key (from + 1) rows))) is;
    early = omega arith;
  }
  | inr isnt ↦ record {
    number = behind.number;
    is = ap (λ (o : Option (List ℕ)). lookup (bytes_eq text) (with_number from (option_to_list o) ++ texts_from key (from + 1) rows)) e
        ∙ ap (λ (b : Bool). cond b (Some from) (lookup (bytes_eq text) (texts_from key (from + 1) rows))) isnt ∙ behind.is;
    early = omega (arith, behind.early);
  }
]

stands_by : (key text : List ℕ) (from : ℕ) (rows : List Row) (place : ℕ) (row : Row) → slice_get rows place ≡ Some row → text_at key row ≡ Some text → StandsBy text key from place rows
stands_by key text from [] place row at there = absurd (cc at)
stands_by key text from (other ∷ rows) zero row at there =
    let same : text_at key other ≡ Some text = ap (text_at key) (same_Some other row at) ∙ there in
    record {
      number = from;
      is = ap (λ (o : Option (List ℕ)). lookup (bytes_eq text) (with_number from (option_to_list o) ++ texts_from key (from + 1) rows)) same
          ∙ ap (λ (b : Bool). cond b (Some from) (lookup (bytes_eq text) (texts_from key (from + 1) rows))) ((bytes_eq-Decides text text).1 refl);
      early = omega arith;
    }
stands_by key text from (other ∷ rows) (suc place) row at there =
    stands_behind key text from place other rows (text_at key other) refl (stands_by key text (from + 1) rows place row at there)

-- ---- a row without faults
keys_free : (names : Known) (number t r : ℕ) (row : Row) (i : ℕ) (keys : List (Key (List ℕ))) → along (key_faults names number t r row) i keys ≡ [] → KeysKept names number row keys
keys_free names number t r row i [] empty = tt
keys_free names number t r row i (k ∷ ks) empty =
    let here = key_faults names number t r row i k in
    let rest = along (key_faults names number t r row) (i + 1) ks in
    (empty_at t r (i + 1) (key_kinds names number row k) (empty_left here rest empty), keys_free names number t r row (i + 1) ks (empty_right here rest empty))

-- its name is spelled so, and no row before it has the name
record HasOwnName (names : Known) (number : ℕ) (row : Row) : Type 0 where
  text : List ℕ
  there : text_at (codes "name") row ≡ Some text
  spelled : is_name text ≡ true
  free : is_below (names.actors text) number ≡ false

row_named : (names : Known) (number : ℕ) (row : Row) → KeysKept names number row (keys_of Actor) → HasOwnName names number row
unfolding id_kinds
row_named names number row kept =
    let name = required_text names number row (codes "name") text_rule.NewActor kept.0 in
    record {
      text = name.0;
      there = name.1;
      spelled = not_false (is_name name.0) (unbroken (not (is_name name.0)) BadName (empty_left _ _ name.2));
      free = unbroken (is_below (names.actors name.0) number) Duplicate (empty_right _ _ name.2);
    }

module _ (names : Known) (tree : Tree) (none : first (faults_of names deployment_tables tree) ≡ None) where
  actors_free : table_faults names tree 1 Actor ≡ []
  unfolding faults_of
  actors_free = empty_left _ _ (empty_right _ _ (none_empty _ none))

  data_named : (place : ℕ) (row : Row) → slice_get (rows_at (codes "actor") tree) place ≡ Some row → HasOwnName names place row
  unfolding table_faults row_faults
  data_named place row at =
      let number : 0 + (0 + place) ≡ place = omega arith in
      let free : row_faults_at names (keys_of Actor) (rows_before names Actor) 1 (0 + place) row ≡ [] =
      item_empty (row_faults_at names (keys_of Actor) (rows_before names Actor) 1) 0 (rows_at (codes "actor") tree) place row (empty_right _ _ actors_free) at in
      subst (λ (n : ℕ). HasOwnName names n row) number
      (row_named names (0 + (0 + place)) row (keys_free names (0 + (0 + place)) 1 (0 + place + 1) row 0 (keys_of Actor) (empty_right _ _ free)))

  -- a row of the deployment, with the row of the tree that it was made from
  record IsRow (place : ℕ) (row : ActorRow) : Type 0 where
    data_row : Row
    at : slice_get (rows_at (codes "actor") tree) place ≡ Some data_row
    own : HasOwnName names place data_row
    name : row.name ≡ own.text

  row_from : (place : ℕ) (row : ActorRow) → slice_get (deployment_rows names tree).actors place ≡ Some row → IsRow place row
  unfolding deployment_rows actor_row
  row_from place row at =
      let made = mapped_at (actor_row names) (rows_at (codes "actor") tree) place row at in
      let own : HasOwnName names place made.item = data_named place made.item made.at in
      record {
        data_row = made.item;
        at = made.at;
        own = own;
        name = sym (ap (λ (r : ActorRow). r.name) made.is) ∙ ap (λ (o : Option (List ℕ)). unwrap_or o []) own.there;
      }

  spelled_at : (place : ℕ) (row : ActorRow) → slice_get (deployment_rows names tree).actors place ≡ Some row → is_name row.name ≡ true
  spelled_at place row at =
      let from = row_from place row at in
      ap is_name from.name ∙ from.own.spelled

  -- names stand under the numbers of the rows that have them first
  AreNumbered : Type 0
  AreNumbered = (text : List ℕ) → names.actors text ≡ lookup (bytes_eq text) (numbered (texts_at (codes "name")) 0 (rows_at (codes "actor") tree))

  apart : AreNumbered → (place : ℕ) (row : ActorRow) → slice_get (deployment_rows names tree).actors place ≡ Some row → (earlier : ℕ) (other : ActorRow) → earlier < place →
      slice_get (deployment_rows names tree).actors earlier ≡ Some other → other.name ≡ row.name → ⊥
  unfolding AreNumbered
  apart numbered place row at earlier other less at' same =
      let from = row_from place row at in
      let from' = row_from earlier other at' in
      let there : text_at (codes "name") from'.data_row ≡ Some from.own.text = from'.own.there ∙ ap Some (sym from'.name ∙ same ∙ from.name) in
      let stands = stands_by (codes "name") from.own.text 0 (rows_at (codes "actor") tree) earlier from'.data_row from'.at there in
      let number : names.actors from.own.text ≡ Some stands.number = numbered from.own.text ∙ stands.is in
      let taken : nat_lt stands.number place ≡ false = ap (λ (o : Option ℕ). is_below o place) (sym number) ∙ from.own.free in
      let bad : true ≡ false = sym (lt-ltb stands.number place (omega (arith, stands.early))) ∙ taken in
      cc bad

-- ---- what a name finds
first_found : (rows : List ActorRow) (from place : ℕ) (row : ActorRow) → slice_get rows place ≡ Some row → row.function ≡ Replay →
    ((earlier : ℕ) (other : ActorRow) → earlier < place → slice_get rows earlier ≡ Some other → other.name ≡ row.name → ⊥) →
    lookup (bytes_eq row.name) (along (numbered_names replay_names) from rows) ≡ Some (from + place)
first_found [] from place row at replays apart = absurd (cc at)
first_found (head ∷ rows) from zero row at replays apart =
    let rest = along (numbered_names replay_names) (from + 1) rows in
    let found : lookup (bytes_eq row.name) (with_number from (replay_names row) ++ rest) ≡ Some (from + 0) =
    ap (λ (f : Function). lookup (bytes_eq row.name) (with_number from (if is_replay f then row.name ∷ [] else []) ++ rest)) replays
    ∙ ap (λ (b : Bool). cond b (Some from) (lookup (bytes_eq row.name) rest)) ((bytes_eq-Decides row.name row.name).1 refl)
    ∙ ap Some (omega arith) in
    subst (λ (h : ActorRow). lookup (bytes_eq row.name) (with_number from (replay_names h) ++ rest) ≡ Some (from + 0)) (sym (same_Some head row at)) found
first_found (head ∷ rows) from (suc place) row at replays apart =
    let other : bytes_eq row.name head.name ≡ false =
    false_from_ne_true (bytes_eq row.name head.name) (λ is. apart 0 head (omega arith) refl (sym ((bytes_eq-Decides row.name head.name).0 is))) in
    passed row.name head.name head.function from (along (numbered_names replay_names) (from + 1) rows) other
    ∙ first_found rows (from + 1) place row at replays (λ earlier third less at' same. apart (suc earlier) third (omega (arith, less)) at' same)
    ∙ ap Some (omega arith)
  where
    passed : (text name : List ℕ) (function : Function) (from : ℕ) (rest : List (List ℕ × ℕ)) → bytes_eq text name ≡ false →
        lookup (bytes_eq text) (with_number from (if is_replay function then name ∷ [] else []) ++ rest) ≡ lookup (bytes_eq text) rest
    passed text name Replay from rest isnt = ap (λ (b : Bool). cond b (Some from) (lookup (bytes_eq text) rest)) isnt
    passed text name Worker from rest isnt = refl
    passed text name (Master tasks flops bytes workers) from rest isnt = refl
    passed text name (Churn seed next prev steps) from rest isnt = refl

-- ---- members
-- the member has a row that replays
record IsMember (rows : List ActorRow) (from : ℕ) (member : ActorId) : Type 0 where
  place : ℕ
  is : member.0 ≡ from + place + 1
  row : ActorRow
  at : slice_get rows place ≡ Some row
  replays : row.function ≡ Replay

one_member : (row : ActorRow) (rows : List ActorRow) (from : ℕ) (function : Function) → row.function ≡ function → All (IsMember (row ∷ rows) from) (if is_replay function then record { 0 = from + 1 } ∷ [] else [])
one_member row rows from Replay e =
    All-cons (IsMember (row ∷ rows) from) (record { 0 = from + 1 }) [] (record { place = 0; is = omega arith; row = row; at = refl; replays = e }) (All-nil (IsMember (row ∷ rows) from))
one_member row rows from Worker e = All-nil (IsMember (row ∷ rows) from)
one_member row rows from (Master tasks flops bytes workers) e = All-nil (IsMember (row ∷ rows) from)
one_member row rows from (Churn seed next prev steps) e = All-nil (IsMember (row ∷ rows) from)

later_member : (row : ActorRow) (rows : List ActorRow) (from : ℕ) (member : ActorId) → IsMember rows (from + 1) member → IsMember (row ∷ rows) from member
later_member row rows from member is = record { place = suc is.place; is = omega (arith, is.is); row = is.row; at = is.at; replays = is.replays }

all_members : (rows : List ActorRow) (from : ℕ) → All (IsMember rows from) (along member_ids from rows)
all_members [] from = All-nil (IsMember [] from)
all_members (row ∷ rows) from =
    All-append (IsMember (row ∷ rows) from) (member_ids from row) (along member_ids (from + 1) rows) (one_member row rows from row.function refl)
    (All-weaker (IsMember rows (from + 1)) (IsMember (row ∷ rows) from) (later_member row rows from) (along member_ids (from + 1) rows) (all_members rows (from + 1)))

member_named : (deployed : Deployed) → ((place : ℕ) (row : ActorRow) → slice_get deployed.actors place ≡ Some row → (earlier : ℕ) (other : ActorRow) → earlier < place →
    slice_get deployed.actors earlier ≡ Some other → other.name ≡ row.name → ⊥) → (member : ActorId) → IsMember deployed.actors 0 member →
    replay_actor_named deployed (name_of deployed member) ≡ Some member
member_named deployed apart member is =
    let place : member.0 - 1 ≡ is.place = omega (arith, is.is) in
    let name : name_of deployed member ≡ is.row.name = ap (λ (n : ℕ). row_name (slice_get deployed.actors n)) place ∙ ap row_name is.at in
    let found : number_by replay_names deployed.actors is.row.name ≡ Some (0 + is.place) = first_found deployed.actors 0 is.place is.row is.at is.replays (apart is.place is.row is.at) in
    let number : 0 + is.place + 1 ≡ member.0 = omega (arith, is.is) in
    ap (replay_actor_named deployed) name ∙ ap (option_map (λ row. record { 0 = row + 1 })) found ∙ (λ i. Some (record { 0 = number i }))

-- ---- texts
tree_named : (names : Known) (tree : Tree) → ((text : List ℕ) → names.actors text ≡ lookup (bytes_eq text) (numbered (texts_at (codes "name")) 0 (rows_at (codes "actor") tree))) →
    first (faults_of names deployment_tables tree) ≡ None → HasNames (deployment_rows names tree)
unfolding members_among AreNumbered
tree_named names tree numbered none = record {
  spelled = λ k d less. spelled_at names tree none k (get_or (deployment_rows names tree).actors k d) (slice_get-get_or (deployment_rows names tree).actors k d less);
  own = All-weaker (IsMember (deployment_rows names tree).actors 0) (λ member. replay_actor_named (deployment_rows names tree) (name_of (deployment_rows names tree) member) ≡ Some member)
      (member_named (deployment_rows names tree) (apart names tree none numbered)) (members_among (deployment_rows names tree).actors) (all_members (deployment_rows names tree).actors 0);
}

numbered_on : (platform : Platform) (tree : Tree) (text : List ℕ) →
    (names_on platform tree).actors text ≡ lookup (bytes_eq text) (numbered (texts_at (codes "name")) 0 (rows_at (codes "actor") tree))
unfolding known_by
numbered_on platform tree text = refl

abbrev Has : Result Deployed (Option Fault) → Type 0
Has (Ok deployed) = HasNames deployed
Has (Err why) = Unit {0}

unless_named : (platform : Platform) (tree : Tree) (fault : Option Fault) → first (faults_of (names_on platform tree) deployment_tables tree) ≡ fault →
    Has (option_map_or (λ f. Err (Some f)) fault (Ok (deployment_rows (names_on platform tree) tree)))
unless_named platform tree None e = tree_named (names_on platform tree) tree (numbered_on platform tree) e
unless_named platform tree (Some fault) e = tt

read_named : (platform : Platform) (tree : Option Tree) → Has (option_map_or (tree_by (names_on platform) deployment_tables deployment_rows) tree (Err None))
unfolding tree_by
read_named platform None = tt
read_named platform (Some tree) = unless_named platform tree (first (faults_of (names_on platform tree) deployment_tables tree)) refl

unless_long : (b : Bool) (r s : Result Deployed (Option Fault)) → Has r → Has s → Has (cond b r s)
unless_long true r s one two = one
unless_long false r s one two = two

text_named : (bytes : List ℕ) (platform : Platform) → Has (deployment_of bytes platform)
unfolding deployment_of
text_named bytes platform =
    unless_long (nat_lt greatest_text (length bytes)) (Err (Some too_long)) (option_map_or (tree_by (names_on platform) deployment_tables deployment_rows) (tree_of bytes) (Err None)) tt (read_named platform (tree_of bytes))

pub texts_have_names : TextsHaveNames
texts_have_names bytes platform deployed e = subst Has e (text_named bytes platform)
