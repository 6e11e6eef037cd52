-- Laws of both readers.
use Rattle.std.specs.Prelude.{◌≡◌, ◌≤◌, ◌↔◌, ℕ, List, length, None, Err}
use Rattle.sg_platform.specs.DeploymentOf.{deployment_of}
use Rattle.sg_platform_rows.specs.Platform.{Platform}
use Rattle.sg_platform.specs.PlatformOf.{greatest_text, platform_of}
use Rattle.sg_toml_tree.specs.Tree.{tree_of}

-- not TOML is reported exactly if the bytes have no tree, of texts that are not over the limit
pub record BadTomlExactly : Type 0 where
  pub platform : (bytes : List ℕ) → length bytes ≤ greatest_text → (platform_of bytes ≡ Err None) ↔ (tree_of bytes ≡ None)
  pub deployment : (bytes : List ℕ) (on : Platform) → length bytes ≤ greatest_text → (deployment_of bytes on ≡ Err None) ↔ (tree_of bytes ≡ None)
