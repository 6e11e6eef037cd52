-- Which kinds the faults of a platform may have: those of the rules of actors are not among them.
use Rattle.std.specs.Prelude.{◌≤◌}
use Rattle.std.specs.List.{AllByRecursion}
use Rattle.sg_toml_rules.specs.Faults.{faults_of}
use Rattle.sg_toml_tree.specs.Names.{Known}
use Rattle.sg_toml_keys.specs.Tables.{platform_tables}
use Rattle.sg_toml_tree.specs.Faults.{kind_number}
use Rattle.sg_toml_tree.specs.declared.fault.Fault.{Fault}
use Rattle.toml.specs.Data.{Members}

-- one of the kinds 2 to 8
abbrev pub IsPlatformFault : Fault → Type 0
IsPlatformFault f = kind_number f.kind ≤ 8

abbrev pub PlatformKinds : Type 0
PlatformKinds = (names : Known) (tree : Members) → AllByRecursion IsPlatformFault (faults_of names platform_tables tree)
