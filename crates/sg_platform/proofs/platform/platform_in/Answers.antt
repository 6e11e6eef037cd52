use Rattle.std.proofs.Common.{◌∙◌, sym}
use Rattle.sg_platform.proofs.PlatformFaults.{first_of_platform}
use Rattle.sg_platform.proofs.Whole.{platform_without_faults}
use Rattle.sg_toml_tree.specs.kept.NamesView.{names_view}
use Rattle.toml.specs.View.{table_view}
use Rattle.sg_platform.proofs.platform.platform_in.Goals as goal

pub rows_of-requires : goal.rows_of-requires
rows_of-requires c =
    platform_without_faults (names_view c.args.names.now) (table_view c.args.tree.now) c.requires (sym c.in_ok-fault.ensures ∙ c.in-None.is)

pub fault_of-requires : goal.fault_of-requires
fault_of-requires c =
    first_of_platform (names_view c.args.names.now) (table_view c.args.tree.now) c.in-Some.fault (sym c.in_ok-fault.ensures ∙ c.in-Some.is)
