-- The rows of a tree that has no fault are a deployment on its platform.
use Rattle.std.proofs.Common.{◌≡◌, ℕ, ◌<◌, ◌≤◌, [], length, map, codes, None, refl, subst, arith}
use Rattle.std.proofs.lemmas.List.{length-map}
use Rattle.std.proofs.lemmas.List.Elements.{All-map}
use Rattle.sg_base.specs.Limits.{Extent}
use Rattle.sg_platform.proofs.KeptFunctions.{FindsWorkers, actor_function_kept}
use Rattle.sg_platform.proofs.KeptRows.{actor_kept, mutex_kept, semaphore_kept}
use Rattle.sg_platform.specs.Build.{actor_row, mutex_row, semaphore_row}
use Rattle.sg_platform_rows.specs.Deployment.{IsActorRow, IsDeployedOn, IsDeployment, IsFunction, IsSemaphoreRow}
use Rattle.sg_platform.specs.DeploymentOf.{deployment_rows}
use Rattle.sg_platform_rows.specs.Platform.{Platform}
use Rattle.sg_toml_rules.proofs.Kept.{rows_few, rows_kept}
use Rattle.sg_toml_rules.specs.Faults.{faults_of, table_faults}
use Rattle.sg_toml_tree.specs.Names.{Known, known_by}
use Rattle.sg_toml_keys.specs.Tables.{deployment_tables}
use Rattle.sg_toml_keys.specs.declared.tables.Table.TheVariants.{Actor, Mutex, Semaphore}
use Rattle.sg_toml_tree.proofs.Kept.{empty_left, empty_right, none_empty}
use Rattle.sg_toml_tree.specs.Along.{first}
use Rattle.sg_toml_tree.specs.NameSpaces.{Finds}
use Rattle.sg_toml_tree.specs.Tree.{rows_at}
use Rattle.toml.specs.Data.{Members}

-- no table has a fault
record NoFaults (names : Known) (tree : Members) : Type 0 where
  pub actors : table_faults names tree 1 Actor ≡ []
  pub mutexes : table_faults names tree 2 Mutex ≡ []
  pub semaphores : table_faults names tree 3 Semaphore ≡ []

no_faults : (names : Known) (tree : Members) → first (faults_of names deployment_tables tree) ≡ None → NoFaults names tree
unfolding faults_of
no_faults names tree none =
    let actors = empty_right _ _ (none_empty _ none) in
    let mutexes = empty_right _ _ actors in
    let semaphores = empty_right _ _ mutexes in
    record {
      actors = empty_left _ _ actors;
      mutexes = empty_left _ _ mutexes;
      semaphores = empty_left _ _ semaphores;
    }

pub known_hosts : (zones hosts : ℕ) (points : Finds) (tree : Members) → (known_by zones hosts points tree).hosts ≡ hosts
unfolding known_by
known_hosts zones hosts points tree = refl

pub deployment_without_faults : (names : Known) (tree : Members) → FindsWorkers names (rows_at (codes "actor") tree) → first (faults_of names deployment_tables tree) ≡ None → IsDeployment (deployment_rows names tree)
unfolding deployment_rows
deployment_without_faults names tree finds none =
    let kept = no_faults names tree none in
    let actors = rows_at (codes "actor") tree in
    let mutexes = rows_at (codes "mutex") tree in
    let semaphores = rows_at (codes "semaphore") tree in
    let extent : Extent =
    record { actors = length (map (actor_row names) actors); mutexes = length (map mutex_row mutexes); semaphores = length (map semaphore_row semaphores) } in
    record {
      few_actors = omega (arith, length-map actors (actor_row names), rows_few names tree _ Actor kept.actors);
      few_mutexes = omega (arith, length-map mutexes mutex_row, rows_few names tree _ Mutex kept.mutexes);
      few_semaphores = omega (arith, length-map semaphores semaphore_row, rows_few names tree _ Semaphore kept.semaphores);
      actors = All-map IsActorRow (actor_row names) actors (rows_kept names tree _ Actor (λ row. IsActorRow (actor_row names row)) (λ number row fine. (actor_kept names number row fine).row) kept.actors);
      functions = All-map (λ actor. IsFunction extent actor.function) (actor_row names) actors
          (rows_kept names tree _ Actor (λ row. IsFunction extent (actor_row names row).function) (λ number row fine. actor_function_kept names actors extent finds (length-map actors (actor_row names)) (rows_few names tree _ Actor kept.actors) number row fine) kept.actors);
      mutexes = All-map (λ mutex. length mutex.id ≤ 64) mutex_row mutexes (rows_kept names tree _ Mutex (λ row. length (mutex_row row).id ≤ 64) (λ number row fine. mutex_kept names number row fine) kept.mutexes);
      semaphores = All-map IsSemaphoreRow semaphore_row semaphores (rows_kept names tree _ Semaphore (λ row. IsSemaphoreRow (semaphore_row row)) (λ number row fine. semaphore_kept names number row fine) kept.semaphores);
    }

pub deployed_without_faults : (names : Known) (tree : Members) (platform : Platform) → names.hosts ≡ length platform.hosts → first (faults_of names deployment_tables tree) ≡ None → IsDeployedOn platform (deployment_rows names tree)
unfolding deployment_rows
deployed_without_faults names tree platform same none =
    let kept = no_faults names tree none in
    let actors = rows_at (codes "actor") tree in
    All-map (λ actor. actor.host.0 < length platform.hosts) (actor_row names) actors
    (rows_kept names tree _ Actor (λ row. (actor_row names row).host.0 < length platform.hosts) (λ number row fine. subst (λ n. (actor_row names row).host.0 < n) same (actor_kept names number row fine).host) kept.actors)
