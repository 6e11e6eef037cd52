use Rattle.std.proofs.Common.{◌≡◌, drop}
use Rattle.std.specs.HashMap.{get_by_text, get_by}
use Rattle.std.specs.Map.{lookup}
use Rattle.toml.specs.View.{view}
use Rattle.sg_toml_tree.specs.Along.{along}
use Rattle.sg_toml_tree.specs.NameSpaces.{with_number, or_else, Pair, pair_eq}
use Rattle.sg_toml_tree.specs.Pairs.{pairs_of}
use Rattle.sg_toml_tree.proofs.pairs.add_routes.Given as goal

abbrev pub invariant-loop-i : goal.invariant-loop-i
invariant-loop-i l =
    (q : Pair) → or_else (get_by (pair_eq q) l.pairs) (lookup (pair_eq q) (along (λ i row. with_number i (pairs_of (λ q. get_by_text l.points q) (view row))) l.i (drop l.i l.rows)))
    ≡ or_else (get_by (pair_eq q) l.initial.pairs) (lookup (pair_eq q) (along (λ i row. with_number i (pairs_of (λ q. get_by_text l.points q) (view row))) 0 l.rows))
