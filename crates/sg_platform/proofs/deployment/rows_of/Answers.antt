use Rattle.std.proofs.Common.{◌≡◌, ◌∙◌, List, IfOk, ap, codes, map, refl, subst, sym}
use Rattle.sg_platform.specs.Build.{actor_row, mutex_row, semaphore_row}
use Rattle.sg_platform.specs.DeploymentOf.{deployment_rows}
use Rattle.sg_platform_rows.specs.Deployment.{Deployed, IsDeployment, deployment_of_rows}
use Rattle.sg_platform_rows.specs.declared.rows.ActorRow.{ActorRow}
use Rattle.sg_platform_rows.specs.declared.rows.MutexRow.{MutexRow}
use Rattle.sg_platform_rows.specs.declared.rows.SemaphoreRow.{SemaphoreRow}
use Rattle.sg_toml_tree.specs.Names.{Known}
use Rattle.sg_toml_tree.specs.kept.NamesView.{names_view}
use Rattle.sg_toml_tree.specs.Tree.{rows_at}
use Rattle.toml.specs.View.{table_view}
use Rattle.toml.specs.Data.{Members}
use Rattle.sg_platform.proofs.deployment.rows_of.Goals as goal

made_of : (names : Known) (tree : Members) (a : List ActorRow) (m : List MutexRow) (s : List SemaphoreRow) → a ≡ map (actor_row names) (rows_at (codes "actor") tree)
    → m ≡ map mutex_row (rows_at (codes "mutex") tree) → s ≡ map semaphore_row (rows_at (codes "semaphore") tree) → deployment_of_rows a m s ≡ deployment_rows names tree
unfolding deployment_rows
made_of names tree a m s actors mutexes semaphores = λ i. record { actors = actors i; mutexes = mutexes i; semaphores = semaphores i }

pub with_rows-requires : goal.with_rows-requires
with_rows-requires c =
    let names = names_view c.args.names.now in
    let mutexes = c.in_ok-mutexes.ensures.rows ∙ ap (map mutex_row) (c.in_ok-actors.ensures.others (codes "mutex") (refl, tt)) in
    let left = c.in_ok-mutexes.ensures.others (codes "semaphore") (refl, tt) ∙ c.in_ok-actors.ensures.others (codes "semaphore") (refl, tt) in
    let same = made_of names (table_view c.args.tree.now) _ _ _ c.in_ok-actors.ensures.rows mutexes (c.in_ok-semaphores.ensures.rows ∙ ap (map semaphore_row) left) in
    subst IsDeployment (sym same) c.requires

pub returns : goal.returns
returns c =
    let names = names_view c.args.names.now in
    let mutexes = c.in_ok-mutexes.ensures.rows ∙ ap (map mutex_row) (c.in_ok-actors.ensures.others (codes "mutex") (refl, tt)) in
    let left = c.in_ok-mutexes.ensures.others (codes "semaphore") (refl, tt) ∙ c.in_ok-actors.ensures.others (codes "semaphore") (refl, tt) in
    let same = made_of names (table_view c.args.tree.now) _ _ _ c.in_ok-actors.ensures.rows mutexes (c.in_ok-semaphores.ensures.rows ∙ ap (map semaphore_row) left) in
    subst (λ (rows : Deployed). IfOk c.with_rows.result (λ d. d ≡ rows)) same c.with_rows.ensures
