use Rattle.std.proofs.Common.{◌≡◌, map, take}
use Rattle.sg_platform.specs.Build.{link_id}
use Rattle.sg_toml_rules.specs.Arguments.{text_of}
use Rattle.sg_toml_tree.specs.kept.NamesView.{names_view}
use Rattle.toml.specs.View.{view}
use Rattle.sg_platform.proofs.build.links_at.Given as goal

abbrev pub invariant-loop-item : goal.invariant-loop-item
invariant-loop-item l = l.made.items ≡ map (λ item. link_id (names_view l.names) (text_of item)) (map view (take l.item-index l.items))
