-- The actors that replay, by rising identifier.
use Rattle.std.proofs.Common.{◌≡◌, ◌<◌, ◌≤◌, ◌+◌, ◌∙◌, sym, ap, ℕ, List, [], ◌∷◌, ◌++◌, length, get_or, drop, if◌then◌else◌, append_assoc, arith}
use Rattle.std.specs.List.{All}
use Rattle.std.proofs.lemmas.List.{append-nil, drop_all, drop_more}
use Rattle.std.proofs.lemmas.List.Elements.{All-append, All-nil, All-replicate}
use Rattle.sg_base.specs.declared.ids.ActorId.{ActorId}
use Rattle.sg_base.specs.Limits.{Extent, IsActorIn}
use Rattle.sg_platform_rows.specs.Deployment.{Deployed, extent_of, is_replay, member_ids, members_among}
use Rattle.sg_platform_rows.specs.declared.rows.ActorRow.{ActorRow}
use Rattle.sg_platform_rows.specs.declared.rows.Function.{Function}
use Rattle.sg_platform_rows.specs.declared.rows.Function.TheVariants.{Replay, Worker, Master, Churn}
use Rattle.sg_toml_tree.specs.Along.{along}

-- a row more
pub row_more : (rows : List ActorRow) (d : ActorRow) (place : ℕ) (members : List ActorId) → place < length rows
    → (members ++ member_ids place (get_or rows place d)) ++ along member_ids (place + 1) (drop (place + 1) rows) ≡ members ++ along member_ids place (drop place rows)
row_more rows d place members within =
    append_assoc members (member_ids place (get_or rows place d)) (along member_ids (place + 1) (drop (place + 1) rows))
    ∙ sym (ap (λ (list : List ActorRow). members ++ along member_ids place list) (drop_more rows place d within))

-- no row more
pub no_row : (rows : List ActorRow) (place : ℕ) (members : List ActorId) → length rows ≤ place → members ++ along member_ids place (drop place rows) ≡ members
no_row rows place members past = ap (λ (list : List ActorRow). members ++ along member_ids place list) (drop_all place rows past) ∙ append-nil members

-- ---- they exist
one_exists : (extent : Extent) (function : Function) (place : ℕ) → place < extent.actors → All (IsActorIn extent) (if is_replay function then record { 0 = place + 1 } ∷ [] else [])
one_exists extent Replay place below = All-replicate (IsActorIn extent) 1 (record { 0 = place + 1 }) (omega arith, omega (arith, below))
one_exists extent Worker place below = All-nil (IsActorIn extent)
one_exists extent (Master tasks flops bytes workers) place below = All-nil (IsActorIn extent)
one_exists extent (Churn seed next prev steps) place below = All-nil (IsActorIn extent)

all_exist : (extent : Extent) (rows : List ActorRow) (place : ℕ) → place + length rows ≤ extent.actors → All (IsActorIn extent) (along member_ids place rows)
all_exist extent [] place within = All-nil (IsActorIn extent)
all_exist extent (row ∷ rows) place within =
    All-append (IsActorIn extent) (member_ids place row) (along member_ids (place + 1) rows) (one_exists extent row.function place (omega (arith, within))) (all_exist extent rows (place + 1) (omega (arith, within)))

pub members_exist : (deployed : Deployed) → All (IsActorIn (extent_of deployed)) (members_among deployed.actors)
unfolding members_among
members_exist deployed = all_exist (extent_of deployed) deployed.actors 0 (omega arith)
