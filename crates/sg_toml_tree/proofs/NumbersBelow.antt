-- The numbers of names are below the counts of what has names.
use Rattle.std.proofs.Common.{ℕ, ◌+◌, ◌<◌, IfSome, List, [], ◌∷◌, ◌++◌, length, length-append, codes, arith}
use Rattle.std.specs.List.{flat_map}
use Rattle.std.specs.Str.{bytes_eq}
use Rattle.sg_toml_tree.specs.LinkNames.{link_names}
use Rattle.sg_toml_tree.specs.Names.{known_by, platform_known, point_rows}
use Rattle.sg_toml_tree.proofs.Bounds.{along_below, below_all, numbered_below}
use Rattle.sg_toml_tree.specs.NameSpaces.{found_in, numbered, texts_at, with_number}
use Rattle.sg_toml_tree.specs.Tree.{rows_at}
use Rattle.toml.specs.Data.{Members}

-- numbers stay below the end of what has them
pub numbers_below : {A : Type 0} (keys : A → List (List ℕ)) (number : ℕ) (rows : List A) (q : List ℕ) → IfSome (found_in (numbered keys number rows) q) (λ n. n < number + length rows)
numbers_below keys number rows q =
    below_all _ (0 + number + length rows) (number + length rows) (omega arith)
    (along_below (bytes_eq q) (λ i row. with_number i (keys row)) 0 (λ j row. below_all _ (j + 1) (0 + j + 1) (omega arith) (numbered_below (bytes_eq q) j (keys row))) number rows)

-- points are numbered below the count of the rows of all three tables
pub points_below : (tree : Members) (q : List ℕ)
    → IfSome ((platform_known tree).points q) (λ i. i < length (rows_at (codes "zone") tree) + length (rows_at (codes "host") tree) + length (rows_at (codes "router") tree))
unfolding known_by
points_below tree q =
    let zones = rows_at (codes "zone") tree in
    let hosts = rows_at (codes "host") tree in
    let routers = rows_at (codes "router") tree in
    below_all _ (0 + length (point_rows tree)) (length zones + length hosts + length routers) (omega (arith, length-append (zones ++ hosts) routers, length-append zones hosts))
    (numbers_below (texts_at (codes "id")) 0 (point_rows tree) q)

-- links are numbered below the count of their names
pub links_below : (tree : Members) (q : List ℕ) → IfSome ((platform_known tree).links q) (λ i. i < length (flat_map link_names (rows_at (codes "link") tree)))
unfolding known_by
links_below tree q =
    let names = flat_map link_names (rows_at (codes "link") tree) in
    below_all _ (0 + length names) (length names) (omega arith) (numbers_below (λ name. name ∷ []) 0 names q)
