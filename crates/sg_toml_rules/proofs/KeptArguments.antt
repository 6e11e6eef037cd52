-- What holds of the arguments of a master's row that breaks no rule.
use Rattle.std.proofs.Common.{◌≡◌, ℕ, ◌+◌, ◌-◌, ◌<◌, ◌≤◌, ◌==◌, Bool, true, false, cond, not, ◌&&◌, ◌||◌, is_some, List, [], ◌∷◌, map, length, Option, Some, None, IfSome, option_and_then, option_to_list, nat_le, unwrap_or, codes, refl, length-append, inl, inr, arith}
use Rattle.std.proofs.lemmas.Bool.{cases_Bool}
use Rattle.std.proofs.lemmas.Bool.Decides.{nat_tests}
use Rattle.std.proofs.lemmas.Cmp.{nat_list_eq_equiv}
use Rattle.std.proofs.lemmas.List.{length-map}
use Rattle.std.proofs.lemmas.Map.Steps.{length-le_from_keys}
use Rattle.std.proofs.lemmas.Slice.Eq.{bytes_eq-Decides}
use Rattle.std.specs.List.{list_all, list_any}
use Rattle.std.specs.Map.{lookup}
use Rattle.std.specs.Option.{option_map_or}
use Rattle.std.specs.Str.{bytes_eq}
use Rattle.sg_toml_rules.proofs.Kept.{typed_list, unbroken}
use Rattle.sg_toml_rules.proofs.Repeats.{distinct}
use Rattle.sg_toml_tree.specs.Workers.{has_function, worker_names}
use Rattle.sg_toml_rules.specs.Arguments.{are_workers, argument_kinds, has_repeat, are_for_master, text_of}
use Rattle.sg_toml_tree.specs.Names.{Known, known_by}
use Rattle.sg_toml_rules.proofs.FaultParts.{kinds_at}
use Rattle.sg_toml_rules.specs.Rules.{key_kinds, list_kinds, texts_kinds, value_kinds}
use Rattle.sg_toml_keys.specs.Tables.{key}
use Rattle.sg_toml_keys.specs.declared.tables.Need.TheVariants.{Optional}
use Rattle.sg_toml_keys.specs.declared.tables.Rule.TheVariants.{Texts}
use Rattle.sg_toml_keys.specs.declared.tables.TextsRule.TheVariants.{ArgumentList}
use Rattle.sg_toml_tree.proofs.NameSpaceLemmas.{lookup_append}
use Rattle.sg_toml_tree.specs.Faults.{of_type}
use Rattle.sg_toml_tree.specs.NameSpaces.{Finds, found_in, numbered, or_else, with_number}
use Rattle.sg_toml_tree.specs.Tree.{list_of, rows_at, text_at}
use Rattle.toml.specs.Data.{Data, Items, Members, as_array, as_str, get}

typed_arguments : (names : Known) (row : Data) (found : Option Items) → of_type (λ items. list_kinds (λ d. is_some (as_str d)) (texts_kinds names row ArgumentList) (list_of items)) found ≡ []
    → argument_kinds names.workers row (option_map_or list_of found []) ≡ []
typed_arguments names row None empty = cc
typed_arguments names row (Some items) empty = typed_list (λ d. is_some (as_str d)) (texts_kinds names row ArgumentList) (list_of items) empty

arguments_at : (names : Known) (number : ℕ) (row : Data) (d : Option Data) → kinds_at names number row (key (codes "argument") Optional (Texts ArgumentList)) d ≡ []
    → argument_kinds names.workers row (option_map_or list_of (option_and_then as_array d) []) ≡ []
unfolding value_kinds
arguments_at names number row None empty = empty
arguments_at names number row (Some d) empty = typed_arguments names row (as_array d) empty

-- the arguments of a row fit, even if they are left out
pub arguments_fit : (names : Known) (number : ℕ) (row : Data) → key_kinds names number row (key (codes "argument") Optional (Texts ArgumentList)) ≡ []
    → argument_kinds names.workers row (option_map_or list_of (option_and_then as_array (get (codes "argument") row)) []) ≡ []
unfolding key_kinds
arguments_fit names number row empty = arguments_at names number row (get (codes "argument") row) empty

pub master_fits : (workers : Finds) (row : Data) (items : List Data) → argument_kinds workers row items ≡ [] → has_function (codes "master") row ≡ true → are_for_master workers (map text_of items) ≡ true
unfolding argument_kinds
master_fits workers row items empty master = fits _ _ _ (unbroken _ _ empty) master
  where
    fits : (a b c : Bool) → (a || (b && not c)) ≡ false → b ≡ true → c ≡ true
    fits true b c kept yes_master = cc
    fits false true true kept yes_master = refl
    fits false true false kept yes_master = cc
    fits false false c kept yes_master = cc

pub tasks_within : (o : Option ℕ) → option_map_or (λ n. nat_le n 1000000000) o false ≡ true → unwrap_or o 0 ≤ 1000000000
tasks_within None fits = cc
tasks_within (Some n) fits = grind (arith, nat_tests)

both_left : (a b : Bool) → (a && b) ≡ true → a ≡ true
both_left true b both = refl
both_left false b both = cc

both_right : (a b : Bool) → (a && b) ≡ true → b ≡ true
both_right true b both = both
both_right false b both = cc

-- if each name is found, so is one of them
found_among : (found : Finds) (names : List (List ℕ)) → list_all (λ name. is_some (found name)) names ≡ true → (q : List ℕ) → list_any (bytes_eq q) names ≡ true → is_some (found q) ≡ true
found_among found [] all q among = cc
found_among found (name ∷ names) all q among =
    elim (cases_Bool (bytes_eq q name)) [
      | inl here ↦ let same : q ≡ name = (bytes_eq-Decides q name).0 here in rw same (both_left _ _ all)
      | inr other ↦ found_among found names (both_right _ _ all) q (rw other at among)
    ]

names_one : (row : Data) → length (worker_names row) ≤ 1
names_one row = one (has_function (codes "worker") row) (text_at (codes "name") row)
  where
    one : (b : Bool) (o : Option (List ℕ)) → length (cond b (option_to_list o) []) ≤ 1
    one true None = omega arith
    one true (Some name) = omega arith
    one false o = omega arith

-- no more workers than rows
numbers_few : (i : ℕ) (rows : List Data) → length (numbered worker_names i rows) ≤ length rows
numbers_few i [] = omega arith
numbers_few i (row ∷ rows) =
    let under : List ℕ → List ℕ × ℕ = λ name. (name, i) in
    omega (arith, length-append (with_number i (worker_names row)) (numbered worker_names (i + 1) rows), length-map (worker_names row) under, names_one row, numbers_few (i + 1) rows)

-- what workers a master has: some, no more than there are rows, and each is known
pub record HasWorkers (workers : Finds) (rows : List Data) (names : List (List ℕ)) : Type 0 where
  pub some : 1 ≤ length names
  pub few : length names ≤ length rows
  pub known : list_all (λ name. is_some (workers name)) names ≡ true

some_names : (n : ℕ) → not (n == 0) ≡ true → 1 ≤ n
some_names n other = grind (arith, nat_tests)

pub workers_fit : (rows : List Data) (names : List (List ℕ)) → are_workers (found_in (numbered worker_names 1 rows)) names ≡ true → HasWorkers (found_in (numbered worker_names 1 rows)) rows names
unfolding are_workers
workers_fit rows names fits =
    let found : Finds = found_in (numbered worker_names 1 rows) in
    let front = both_left _ _ fits in
    let known = both_right _ _ front in
    let apart = distinct names (unbroken_not (has_repeat names) (both_right _ _ fits)) in
    record {
      some = some_names (length names) (both_left _ _ front);
      few = omega (arith, numbers_few 1 rows, length-le_from_keys nat_list_eq_equiv names (numbered worker_names 1 rows) apart (found_among found names known));
      known = known;
    }
  where
    unbroken_not : (b : Bool) → not b ≡ true → b ≡ false
    unbroken_not true n = cc
    unbroken_not false n = refl

-- an identifier of an actor of so many rows
abbrev pub IsNumbered : ℕ → Option ℕ → Type 0
IsNumbered rows found = IfSome found (λ id. (0 < id) × (id ≤ rows))

numbered_or : (n : ℕ) (a b : Option ℕ) → IsNumbered n a → IsNumbered n b → IsNumbered n (or_else a b)
numbered_or n None b p q = q
numbered_or n (Some id) b p q = p

numbered_more : (m n : ℕ) (o : Option ℕ) → m ≤ n → IsNumbered m o → IsNumbered n o
numbered_more m n None more p = tt
numbered_more m n (Some id) more p = (p.0, let most = p.1 in omega (arith, more, most))

one_numbered : (q : List ℕ) (n i : ℕ) (names : List (List ℕ)) → 0 < i → i ≤ n → IsNumbered n (lookup (bytes_eq q) (with_number i names))
one_numbered q n i [] some below = tt
one_numbered q n i (name ∷ names) some below =
    elim (cases_Bool (bytes_eq q name)) [
      | inl here ↦ rw here (some, below)
      | inr other ↦ rw other (one_numbered q n i names some below)
    ]

all_numbered : (q : List ℕ) (i : ℕ) (rows : List Data) → 0 < i → IsNumbered (i + length rows - 1) (found_in (numbered worker_names i rows) q)
all_numbered q i [] some = tt
all_numbered q i (row ∷ rows) some =
    let here = with_number i (worker_names row) in
    let rest = numbered worker_names (i + 1) rows in
    let n = i + length (row ∷ rows) - 1 in
    rw (lookup_append (bytes_eq q) here rest)
    (numbered_or n _ _ (one_numbered q n i (worker_names row) some (omega arith)) (numbered_more (i + 1 + length rows - 1) n _ (omega arith) (all_numbered q (i + 1) rows (omega arith))))

-- workers are actors
pub workers_numbered : (rows : List Data) (q : List ℕ) → IsNumbered (length rows) (found_in (numbered worker_names 1 rows) q)
workers_numbered rows q = numbered_more (1 + length rows - 1) (length rows) _ (omega arith) (all_numbered q 1 rows (omega arith))

pub known_workers : (zones hosts : ℕ) (points : Finds) (tree : Members) → (known_by zones hosts points tree).workers ≡ found_in (numbered worker_names 1 (rows_at (codes "actor") tree))
unfolding known_by
known_workers zones hosts points tree = refl
