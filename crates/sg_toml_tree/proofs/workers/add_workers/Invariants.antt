use Rattle.std.proofs.Common.{◌≡◌, ◌+◌, ℕ, List, drop}
use Rattle.std.specs.HashMap.{get_by_text}
use Rattle.std.specs.Map.{lookup}
use Rattle.std.specs.Str.{bytes_eq}
use Rattle.sg_toml_tree.specs.Workers.{worker_names}
use Rattle.sg_toml_tree.specs.Along.{along}
use Rattle.sg_toml_tree.specs.NameSpaces.{with_number, or_else}
use Rattle.toml.specs.View.{view}
use Rattle.sg_toml_tree.proofs.workers.add_workers.Given as goal

abbrev pub invariant-loop-i : goal.invariant-loop-i
invariant-loop-i l =
    (q : List ℕ) → or_else (get_by_text l.space q) (lookup (bytes_eq q) (along (λ i row. with_number (1 + i) (worker_names (view row))) l.i (drop l.i l.rows)))
    ≡ or_else (get_by_text l.initial.space q) (lookup (bytes_eq q) (along (λ i row. with_number (1 + i) (worker_names (view row))) 0 l.rows))
