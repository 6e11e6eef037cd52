-- The deployment that a text describes on a platform; or its fault of least place, and there of least kind, and none if
-- it isn't TOML.
use Rattle.std.specs.Prelude.{ℕ, List, map, length, codes, Option, Result}
use Rattle.sg_platform.specs.Build.{actor_row, mutex_row, semaphore_row}
use Rattle.sg_platform_rows.specs.Deployment.{Deployed}
use Rattle.sg_platform_rows.specs.Index.{host_number}
use Rattle.sg_platform_rows.specs.Platform.{Platform}
use Rattle.sg_platform.specs.PlatformOf.{text_by, tree_by}
use Rattle.sg_toml_tree.specs.Names.{Known, known_by}
use Rattle.sg_toml_keys.specs.Tables.{deployment_tables}
use Rattle.sg_toml_tree.specs.Tree.{rows_at}
use Rattle.sg_toml_tree.specs.declared.fault.Fault.{Fault}
use Rattle.toml.specs.Data.{Members}

-- the names that a deployment may use on a platform: its hosts, and the names of its own rows
abbrev pub names_on : Platform → Members → Known
names_on platform tree = known_by 0 (length platform.hosts) (host_number platform.hosts) tree

-- the rows of a tree that has no fault
unfoldable pub deployment_rows : Known → Members → Deployed
deployment_rows names tree = record {
  actors = map (actor_row names) (rows_at (codes "actor") tree);
  mutexes = map mutex_row (rows_at (codes "mutex") tree);
  semaphores = map semaphore_row (rows_at (codes "semaphore") tree);
}

-- the deployment that a text describes on a platform, or its first fault
unfoldable pub deployment_of : List ℕ → Platform → Result Deployed (Option Fault)
deployment_of bytes platform = text_by (tree_by (names_on platform) deployment_tables deployment_rows) bytes
