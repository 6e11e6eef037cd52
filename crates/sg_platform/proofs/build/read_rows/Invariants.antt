use Rattle.std.proofs.Common.{◌≡◌, map}
use Rattle.sg_toml_tree.specs.kept.NamesView.{names_view}
use Rattle.toml.specs.View.{view}
use Rattle.sg_platform.proofs.build.read_rows.Given as goal

abbrev pub invariant-loop-row : goal.invariant-loop-row
invariant-loop-row g l = l.made.items ≡ map (g.R.Row.row_of (names_view l.names) l.ends) (map view l.yielded)
