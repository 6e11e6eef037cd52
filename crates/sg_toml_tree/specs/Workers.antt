-- What actors do, and the names of workers.
use Rattle.std.specs.Prelude.{ℕ, Bool, List, [], if◌then◌else◌, codes}
use Rattle.std.specs.Str.{bytes_eq}
use Rattle.sg_toml_tree.specs.NameSpaces.{texts_at}
use Rattle.sg_toml_tree.specs.Tree.{text_or_empty}
use Rattle.toml.specs.Data.{Data}

-- the row is that of an actor of this function
abbrev pub has_function : List ℕ → Data → Bool
has_function word row = bytes_eq (text_or_empty (codes "function") row) word

-- the name of a worker
abbrev pub worker_names : Data → List (List ℕ)
worker_names row = if has_function (codes "worker") row then texts_at (codes "name") row else []
