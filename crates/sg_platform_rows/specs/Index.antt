-- Rows by their names.
use Rattle.std.specs.Prelude.{ℕ, List, [], ◌∷◌}
use Rattle.std.specs.Map.{lookup}
use Rattle.std.specs.Str.{bytes_eq}
use Rattle.sg_platform_rows.specs.declared.rows.HostRow.{HostRow}
use Rattle.sg_toml_tree.specs.Along.{along}
use Rattle.sg_toml_tree.specs.NameSpaces.{Finds, with_number}

-- the number of the first row that has a name, by the names of each; rows are numbered from 0 on
abbrev pub number_by : {X : Type 0} → (X → List (List ℕ)) → List X → Finds
number_by names_of rows name = lookup (bytes_eq name) (along (λ i row. with_number i (names_of row)) 0 rows)

-- the number of the first host that has a name, from 0 on
abbrev pub host_number : List HostRow → Finds
host_number hosts = number_by (λ host. host.id ∷ []) hosts
