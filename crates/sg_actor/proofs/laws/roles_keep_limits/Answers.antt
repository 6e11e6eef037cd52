use Rattle.std.proofs.Common.{◌≡◌, ℕ, suc, List, length, map, All, get_or, ◌<◌, ◌-◌, refl, sym, subst, arith}
use Rattle.std.specs.Prelude.{slice_index}
use Rattle.std.proofs.lemmas.List.{length-map, get_or-map}
use Rattle.sg_base.specs.declared.ids.ActorId.{ActorId}
use Rattle.sg_base.specs.Limits.{Extent, IsActorIn, IsActorNumber}
use Rattle.sg_base.specs.Mind.{IsMind}
use Rattle.sg_actor.specs.declared.role.Role.{Role}
use Rattle.sg_actor.specs.declared.role.Role.TheVariants as role
use Rattle.sg_actor.specs.Roles.{mind_of, actor_number, IsRole}
use Rattle.sg_actor.specs.kept.Fields.{master_numbers}
use Rattle.sg_actor.proofs.laws.roles_keep_limits.Goals as goal

numbers_are : (extent : Extent) (workers : List ActorId) (k : ℕ) → All (IsActorIn extent) workers → k < length workers → IsActorNumber extent (get_or (map actor_number workers) k 0)
numbers_are extent workers k all within =
    let nobody : ActorId = record { 0 = 0 } in
    subst (IsActorNumber extent) (sym (get_or-map actor_number workers k nobody 0 within)) (all k nobody within)

workers_are : (extent : Extent) (tasks flops bytes : ℕ) (workers : List ActorId) → All (IsActorIn extent) workers → (k : ℕ) → k < length (master_numbers tasks flops bytes 0 workers) → (j : ℕ) → k ≡ suc (suc (suc (suc j)))
    → IsActorNumber extent (slice_index (master_numbers tasks flops bytes 0 workers) k)
workers_are extent tasks flops bytes workers all k within j at =
    subst (λ i. IsActorNumber extent (slice_index (master_numbers tasks flops bytes 0 workers) i)) (sym at)
    (numbers_are extent workers j all (omega (arith, within, at, length-map workers actor_number)))

kept : (extent : Extent) (r : Role) → IsRole extent r → IsMind extent (mind_of r)
kept extent (role.Replay me) is = (refl, λ k a b. grind (arith, is))
kept extent (role.Worker me) is = (refl, λ k a b. grind (arith, is))
kept extent (role.Master tasks flops bytes workers) (few_flops, few_bytes, some, all) =
    let count = length-map workers actor_number in
    (omega (arith, count, some), omega arith, few_flops, few_bytes, λ k a b. workers_are extent tasks flops bytes workers all k b (k - 4) (omega (arith, a)))
kept extent (role.Churn seed steps me next prev) is = (refl, λ k a b. grind (arith, is))

pub returns : goal.returns
returns c = kept
