-- What an actor does, if its row breaks no rule.
use Rattle.std.proofs.Common.{◌≡◌, ℕ, ◌≤◌, Bool, true, false, cond, is_some, List, [], ◌∷◌, map, length, Option, Some, None, unwrap_or, codes, refl, sym, subst, inl, inr, arith}
use Rattle.std.proofs.lemmas.Bool.{cases_Bool}
use Rattle.std.proofs.lemmas.List.{length-map}
use Rattle.std.proofs.lemmas.List.Elements.{All-cons, All-nil}
use Rattle.std.specs.List.{All, list_all}
use Rattle.sg_base.specs.Limits.{Extent, IsActorIn}
use Rattle.sg_platform.proofs.LinkLists.{and_left, and_right}
use Rattle.sg_platform.specs.Build.{actor_row}
use Rattle.sg_platform_rows.specs.Deployment.{IsFunction}
use Rattle.sg_platform.specs.Functions.{amount_or_zero, function_of, master_of, worker_id}
use Rattle.sg_platform_rows.specs.declared.rows.Function.TheVariants.{Replay, Worker}
use Rattle.sg_toml_keys.proofs.Greatest.{quantity_within}
use Rattle.sg_toml_rules.specs.Profiles.{items_at}
use Rattle.sg_toml_rules.proofs.Kept.{KeysKept}
use Rattle.sg_toml_rules.proofs.KeptArguments.{HasWorkers, IsNumbered, arguments_fit, master_fits, tasks_within, workers_fit, workers_numbered}
use Rattle.sg_toml_tree.specs.Workers.{has_function, worker_names}
use Rattle.sg_toml_rules.specs.Arguments.{are_for_master, are_workers, text_of}
use Rattle.sg_toml_tree.specs.Names.{Known}
use Rattle.sg_toml_rules.specs.Rules.{key_kinds}
use Rattle.sg_toml_keys.specs.Tables.{key, keys_of}
use Rattle.sg_toml_keys.specs.declared.tables.Need.TheVariants.{Optional}
use Rattle.sg_toml_keys.specs.Units.{quantity_value}
use Rattle.sg_toml_keys.specs.declared.units.Quantity.TheVariants.{Amount}
use Rattle.sg_toml_keys.specs.declared.tables.Rule.TheVariants.{Texts}
use Rattle.sg_toml_keys.specs.declared.tables.TextsRule.TheVariants.{ArgumentList}
use Rattle.sg_toml_keys.specs.declared.tables.Table.TheVariants.{Actor}
use Rattle.sg_toml_tree.specs.NameSpaces.{Finds, found_in, numbered}
use Rattle.toml.specs.Data.{Data}

-- workers are found by their identifiers
abbrev pub FindsWorkers : Known → List Data → Type 0
FindsWorkers names rows = names.workers ≡ found_in (numbered worker_names 1 rows)

value_bound : (o : Option ℕ) (greatest : ℕ) → ((n : ℕ) → o ≡ Some n → n ≤ greatest) → unwrap_or o 0 ≤ greatest
value_bound None greatest within = omega arith
value_bound (Some n) greatest within = within n refl

amount_bound : (d : Data) → amount_or_zero Amount d ≤ 1000000000000000
amount_bound d = value_bound (quantity_value Amount (text_of d)) 1000000000000000 (λ n same. quantity_within Amount (text_of d) n same)

found_id : (extent : Extent) (found : Option ℕ) → is_some found ≡ true → IsNumbered extent.actors found → IsActorIn extent (record { 0 = unwrap_or found 1 })
found_id extent None there numbered = cc
found_id extent (Some id) there numbered = numbered

ids_exist : (names : Known) (extent : Extent) → ((q : List ℕ) → IsNumbered extent.actors (names.workers q)) → (items : List Data)
    → list_all (λ name. is_some (names.workers name)) (map text_of items) ≡ true → All (IsActorIn extent) (map (worker_id names) items)
ids_exist names extent numbered [] known = All-nil (IsActorIn extent)
ids_exist names extent numbered (d ∷ items) known =
    All-cons (IsActorIn extent) (worker_id names d) (map (worker_id names) items)
    (found_id extent (names.workers (text_of d)) (and_left _ _ known) (numbered (text_of d)))
    (ids_exist names extent numbered items (and_right _ _ known))

master_kept : (names : Known) (rows : List Data) (extent : Extent) → FindsWorkers names rows → extent.actors ≡ length rows → length rows ≤ 65536 → (items : List Data)
    → are_for_master names.workers (map text_of items) ≡ true → IsFunction extent (master_of names items)
master_kept names rows extent finds same few [] fits = cc
master_kept names rows extent finds same few (tasks ∷ []) fits = cc
master_kept names rows extent finds same few (tasks ∷ (flops ∷ [])) fits = cc
master_kept names rows extent finds same few (tasks ∷ (flops ∷ (bytes ∷ items))) fits =
    let workers : HasWorkers names.workers rows (map text_of items) = subst (λ (f : Finds). are_workers f (map text_of items) ≡ true → HasWorkers f rows (map text_of items)) (sym finds) (workers_fit rows (map text_of items)) (and_right _ _ fits) in
    let numbered : (q : List ℕ) → IsNumbered extent.actors (names.workers q)
    = subst (λ (f : Finds). (q : List ℕ) → IsNumbered extent.actors (f q)) (sym finds)
    (λ q. subst (λ n. IsNumbered n (found_in (numbered worker_names 1 rows) q)) (sym same) (workers_numbered rows q)) in
    let texts = length-map items text_of in
    let ids = length-map items (worker_id names) in (
      tasks_within (quantity_value Amount (text_of tasks)) (and_left _ _ (and_left _ _ (and_left _ _ fits))),
      amount_bound flops,
      amount_bound bytes,
      omega (arith, ids, texts, workers.some),
      omega (arith, ids, texts, workers.few, few),
      ids_exist names extent numbered items workers.known,
    )

pub function_kept : (names : Known) (rows : List Data) (extent : Extent) → FindsWorkers names rows → extent.actors ≡ length rows → length rows ≤ 65536 → (number : ℕ) (row : Data)
    → key_kinds names number row (key (codes "argument") Optional (Texts ArgumentList)) ≡ [] → IsFunction extent (function_of names row)
unfolding function_of
function_kept names rows extent finds same few number row kept =
    elim (cases_Bool (has_function (codes "master") row)) [
      | inl master ↦ rw master (master_kept names rows extent finds same few (items_at (codes "argument") row) (master_fits names.workers row (items_at (codes "argument") row) (arguments_fit names number row kept) master))
      | inr other ↦ rw other (others (has_function (codes "worker") row))
    ]
  where
    others : (b : Bool) → IsFunction extent (cond b Worker Replay)
    others true = tt
    others false = tt

pub actor_function_kept : (names : Known) (rows : List Data) (extent : Extent) → FindsWorkers names rows → extent.actors ≡ length rows → length rows ≤ 65536 → (number : ℕ) (row : Data)
    → KeysKept names number row (keys_of Actor) → IsFunction extent (actor_row names row).function
unfolding actor_row
actor_function_kept names rows extent finds same few number row kept = function_kept names rows extent finds same few number row kept.1.1.1.0
