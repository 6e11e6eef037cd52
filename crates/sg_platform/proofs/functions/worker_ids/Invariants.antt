use Rattle.std.proofs.Common.{◌≡◌, map, take}
use Rattle.sg_platform.specs.Functions.{worker_id}
use Rattle.sg_toml_tree.specs.kept.NamesView.{names_view}
use Rattle.toml.specs.View.{view}
use Rattle.sg_platform.proofs.functions.worker_ids.Given as goal

abbrev pub invariant-loop-item : goal.invariant-loop-item
invariant-loop-item l = l.made.items ≡ map (worker_id (names_view l.names)) (map view (take l.item-index l.items))
