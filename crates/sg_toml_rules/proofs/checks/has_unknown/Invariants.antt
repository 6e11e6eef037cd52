use Rattle.std.proofs.Common.{◌≡◌, drop, is_none, map}
use Rattle.std.specs.HashMap.{get_by_text}
use Rattle.std.specs.List.{list_any}
use Rattle.sg_toml_rules.specs.Arguments.{text_of}
use Rattle.toml.specs.View.{view}
use Rattle.sg_toml_rules.proofs.checks.has_unknown.Given as goal

abbrev pub invariant-loop-item : goal.invariant-loop-item
invariant-loop-item l =
    list_any (λ d. is_none (get_by_text l.links (text_of d))) (map view (drop l.item-index l.items)) ≡ list_any (λ d. is_none (get_by_text l.links (text_of d))) (map view l.items)
