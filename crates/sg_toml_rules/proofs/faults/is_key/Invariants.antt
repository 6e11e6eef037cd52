use Rattle.std.proofs.Common.{◌≡◌, drop, map}
use Rattle.std.specs.List.{list_any}
use Rattle.std.specs.Str.{bytes_eq}
use Rattle.sg_toml_keys.specs.kept.Shown.{key_of}
use Rattle.sg_toml_rules.proofs.faults.is_key.Given as goal

abbrev pub invariant-loop-key : goal.invariant-loop-key
invariant-loop-key l =
    list_any (λ k. bytes_eq l.name k) (map (λ k. k.name) (map key_of (drop l.key-index l.keys)))
    ≡ list_any (λ k. bytes_eq l.name k) (map (λ k. k.name) (map key_of l.keys))
