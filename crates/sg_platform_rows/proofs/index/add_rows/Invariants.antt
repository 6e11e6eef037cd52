use Rattle.std.proofs.Common.{◌≡◌, ℕ, List, drop}
use Rattle.std.specs.Map.{lookup}
use Rattle.std.specs.Str.{bytes_eq}
use Rattle.sg_platform_rows.specs.kept.Finds.{finds, numbered_names}
use Rattle.sg_toml_tree.specs.Along.{along}
use Rattle.sg_toml_tree.specs.NameSpaces.{or_else}
use Rattle.sg_platform_rows.proofs.index.add_rows.Given as goal

abbrev pub invariant-loop-i : goal.invariant-loop-i
invariant-loop-i g l =
    (q : List ℕ) → or_else (finds l.space q) (lookup (bytes_eq q) (along (numbered_names g.R.Named.names) l.i (drop l.i l.rows)))
    ≡ or_else (finds l.initial.space q) (lookup (bytes_eq q) (along (numbered_names g.R.Named.names) 0 l.rows))
