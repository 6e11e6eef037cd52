use Rattle.std.proofs.Common.{◌≡◌, drop, is_some, map}
use Rattle.std.specs.HashMap.{get_by_text}
use Rattle.std.specs.List.{list_all}
use Rattle.sg_toml_rules.specs.Arguments.{text_of}
use Rattle.toml.specs.View.{view}
use Rattle.sg_toml_rules.proofs.arguments.are_known.Given as goal

abbrev pub invariant-loop-item : goal.invariant-loop-item
invariant-loop-item l =
    list_all (λ name. is_some (get_by_text l.workers name)) (map text_of (map view (drop l.item-index l.items)))
    ≡ list_all (λ name. is_some (get_by_text l.workers name)) (map text_of (map view l.items))
