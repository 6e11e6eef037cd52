use Rattle.std.proofs.Common.{◌≡◌, drop, is_some, map}
use Rattle.std.specs.List.{list_all}
use Rattle.toml.specs.View.{view}
use Rattle.toml.specs.Data.{as_str}
use Rattle.sg_toml_rules.proofs.checks.are_texts.Given as goal

abbrev pub invariant-loop-item : goal.invariant-loop-item
invariant-loop-item l = list_all (λ d. is_some (as_str d)) (map view (drop l.item-index l.items)) ≡ list_all (λ d. is_some (as_str d)) (map view l.items)
