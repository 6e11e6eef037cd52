use Rattle.std.proofs.Common.{◌≡◌, ℕ, List, ◌∷◌, [], drop}
use Rattle.std.specs.HashMap.{get_by_text}
use Rattle.std.specs.Map.{lookup}
use Rattle.std.specs.Str.{bytes_eq}
use Rattle.sg_platform_rows.specs.kept.Finds.{numbered_names}
use Rattle.sg_toml_tree.specs.Along.{along}
use Rattle.sg_toml_tree.specs.NameSpaces.{or_else}
use Rattle.sg_platform_rows.proofs.index.add_hosts.Given as goal

abbrev pub invariant-loop-i : goal.invariant-loop-i
invariant-loop-i l =
    (q : List ℕ) → or_else (get_by_text l.space q) (lookup (bytes_eq q) (along (numbered_names (λ host. host.id ∷ [])) l.i (drop l.i l.hosts)))
    ≡ or_else (get_by_text l.initial.space q) (lookup (bytes_eq q) (along (numbered_names (λ host. host.id ∷ [])) 0 l.hosts))
