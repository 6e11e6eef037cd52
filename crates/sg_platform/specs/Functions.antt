-- What the actors of a tree do, if it has no fault.
use Rattle.std.specs.Prelude.{ℕ, List, [], ◌∷◌, map, if◌then◌else◌, unwrap_or, codes}
use Rattle.sg_base.specs.declared.ids.ActorId.{ActorId}
use Rattle.sg_platform_rows.specs.declared.rows.Function.{Function}
use Rattle.sg_platform_rows.specs.declared.rows.Function.TheVariants.{Replay, Worker, Master}
use Rattle.sg_toml_tree.specs.Workers.{has_function}
use Rattle.sg_toml_rules.specs.Arguments.{text_of}
use Rattle.sg_toml_tree.specs.Names.{Known}
use Rattle.sg_toml_rules.specs.Profiles.{amount_in, items_at}
use Rattle.sg_toml_keys.specs.declared.units.Quantity.{Quantity}
use Rattle.sg_toml_keys.specs.declared.units.Quantity.TheVariants.{Amount}
use Rattle.toml.specs.Data.{Data}

-- the amount in a value of the tree, or 0 if it is none
abbrev pub amount_or_zero : Quantity → Data → ℕ
amount_or_zero quantity d = unwrap_or (amount_in quantity d) 0

-- the worker that an argument names
abbrev pub worker_id : Known → Data → ActorId
worker_id names d = record { 0 = unwrap_or (names.workers (text_of d)) 1 }

-- the count of tasks, the flops and the bytes of each, and the workers in their order
abbrev pub master_of : Known → List Data → Function
master_of names (tasks ∷ (flops ∷ (bytes ∷ workers))) = Master (amount_or_zero Amount tasks) (amount_or_zero Amount flops) (amount_or_zero Amount bytes) (map (worker_id names) workers)
master_of names arguments = Master 0 0 0 []

-- what an actor does by its row: master, worker, or replay if it names neither
unfoldable pub function_of : Known → Data → Function
function_of names row =
    if has_function (codes "master") row then master_of names (items_at (codes "argument") row) else if has_function (codes "worker") row then Worker else Replay
