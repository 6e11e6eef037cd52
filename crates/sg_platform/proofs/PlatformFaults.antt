-- The first fault of a platform is one of a platform's rules.
use Rattle.std.proofs.Common.{◌≡◌, List, [], ◌∷◌, Some, subst}
use Rattle.std.specs.List.{AllByRecursion}
use Rattle.sg_toml_rules.proofs.PlatformKinds.{platform_kinds}
use Rattle.sg_toml_rules.specs.Faults.{faults_of}
use Rattle.sg_toml_tree.specs.Names.{Known}
use Rattle.sg_toml_rules.specs.PlatformKinds.{IsPlatformFault}
use Rattle.sg_toml_keys.specs.Tables.{platform_tables}
use Rattle.sg_toml_tree.specs.Along.{first}
use Rattle.sg_toml_tree.specs.declared.fault.Fault.{Fault}
use Rattle.toml.specs.Data.{Members}

-- what holds of all holds of the first
first_has : (P : Fault → Type 0) (faults : List Fault) (fault : Fault) → AllByRecursion P faults → first faults ≡ Some fault → P fault
first_has P [] fault all is = absurd (cc is)
first_has P (head ∷ faults) fault all is = subst P (let same : head ≡ fault = cc in same) all.0

pub first_of_platform : (names : Known) (tree : Members) (fault : Fault) → first (faults_of names platform_tables tree) ≡ Some fault → IsPlatformFault fault
first_of_platform names tree fault is = first_has IsPlatformFault (faults_of names platform_tables tree) fault (platform_kinds names tree) is
