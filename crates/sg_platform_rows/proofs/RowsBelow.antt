-- The row of a name is below the count of the rows.
use Rattle.std.proofs.Common.{◌≡◌, ℕ, ◌+◌, ◌<◌, IfSome, List, length, Some, arith}
use Rattle.std.specs.Str.{bytes_eq}
use Rattle.sg_platform_rows.specs.Index.{number_by}
use Rattle.sg_platform_rows.specs.kept.Finds.{numbered_names}
use Rattle.sg_toml_tree.proofs.Bounds.{along_below, below_all, numbered_below}

within : {X : Type 0} (names_of : X → List (List ℕ)) (rows : List X) (q : List ℕ) → IfSome (number_by names_of rows q) (λ row. row < length rows)
within names_of rows q =
    below_all _ (0 + 0 + length rows) (length rows) (omega arith)
    (along_below (bytes_eq q) (numbered_names names_of) 0 (λ j row. below_all _ (j + 1) (0 + j + 1) (omega arith) (numbered_below (bytes_eq q) j (names_of row))) 0 rows)

pub row_below : {X : Type 0} (names_of : X → List (List ℕ)) (rows : List X) (q : List ℕ) (row : ℕ) → number_by names_of rows q ≡ Some row → row < length rows
row_below names_of rows q row found = let below = rw found at (within names_of rows q) in below
