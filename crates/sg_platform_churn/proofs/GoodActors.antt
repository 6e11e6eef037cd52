-- The actors of a churn break no rule on its platform.
use Rattle.std.proofs.Common.{◌≡◌, ℕ, ◌+◌, ◌-◌, ◌%◌, ◌<◌, ◌≤◌, length, map, refl, sym, subst, arith}
use Rattle.std.proofs.lemmas.List.Elements.{All-nil}
use Rattle.std.proofs.lemmas.Nat.{mod_below}
use Rattle.std.proofs.lemmas.Simd.{map-map}
use Rattle.std.specs.List.{range_with_len}
use Rattle.sg_base.specs.Limits.{Extent}
use Rattle.sg_platform_churn.proofs.GoodNames.{row_names}
use Rattle.sg_platform_churn.proofs.GoodRows.{name_short}
use Rattle.sg_platform_churn.proofs.NumberedRows.{all_rows, length-rows}
use Rattle.sg_platform_churn.specs.Generated.{ring_actor, churn_host, platform_of_seed, rows}
use Rattle.sg_platform_rows.specs.Deployment.{IsActorRow, IsDeployment, IsFunction, extent_of}
use Rattle.sg_platform_rows.specs.OfRows.{AreActors, AreNames, ServesWorkers, deployed_with}
use Rattle.sg_platform_rows.specs.Platform.{Platform}

in_ring : (n actors : ℕ) → 0 < actors → (0 < 1 + n % actors) × (1 + n % actors ≤ actors)
in_ring n actors some = (omega arith, omega (arith, mod_below n actors some))

function_kept : (extent : Extent) (seed actors steps row : ℕ) → extent.actors ≡ actors → 0 < actors → steps ≤ 1000000 → IsFunction extent (ring_actor seed actors steps row).function
function_kept extent seed actors steps row same some few =
    let next = in_ring (row + 1) actors some in
    let prev = in_ring (row + (actors - 1)) actors some in
    (few, (next.0, omega (arith, next.1)), (prev.0, omega (arith, prev.1)))

actors_kept : (seed actors steps : ℕ) → 2 ≤ actors → actors ≤ 4096 → steps ≤ 1000000 → IsDeployment (deployed_with (rows (ring_actor seed actors steps) actors))
actors_kept seed actors steps ring few bounded =
    let churn = ring_actor seed actors steps in
    let extent : Extent = extent_of (deployed_with (rows churn actors)) in
    let count : extent.actors ≡ actors = length-rows churn actors in
    record {
      few_actors = omega (arith, count);
      few_mutexes = omega arith;
      few_semaphores = omega arith;
      actors = all_rows IsActorRow churn actors (λ k below. name_short 97 k (omega arith));
      mutexes = All-nil _;
      semaphores = All-nil _;
      functions = all_rows (λ actor. IsFunction extent actor.function) churn actors (λ k below. function_kept extent seed actors steps k count (omega arith) bounded);
    }

actors_named : (seed actors steps : ℕ) → actors ≤ 4096 → AreNames (map (λ actor. actor.name) (rows (ring_actor seed actors steps) actors))
actors_named seed actors steps few =
    subst AreNames (sym (map-map (λ actor. actor.name) (ring_actor seed actors steps) (range_with_len 0 actors))) (row_names 97 actors refl few)

hosts_count : (seed actors : ℕ) → length (platform_of_seed seed actors).hosts ≡ actors
unfolding platform_of_seed
hosts_count seed actors = length-rows (churn_host seed) actors

pub deployment_good : (platform : Platform) (seed actors steps : ℕ) → platform ≡ platform_of_seed seed actors → 2 ≤ actors → actors ≤ 4096 → steps ≤ 1000000
    → AreActors platform (rows (ring_actor seed actors steps) actors)
deployment_good platform seed actors steps same ring few bounded =
    let churn = ring_actor seed actors steps in
    let hosts : length platform.hosts ≡ actors = subst (λ (p : Platform). length p.hosts ≡ actors) (sym same) (hosts_count seed actors) in
    record {
      kept = actors_kept seed actors steps ring few bounded;
      names = actors_named seed actors steps few;
      hosts = all_rows (λ actor. actor.host.0 < length platform.hosts) churn actors (λ k below. omega (arith, hosts));
      workers = all_rows (λ actor. ServesWorkers (rows churn actors) actor.function) churn actors (λ k below. tt);
    }
