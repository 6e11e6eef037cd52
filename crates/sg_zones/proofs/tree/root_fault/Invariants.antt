use Rattle.std.proofs.Common.{◌≡◌, ◌+◌, drop}
use Rattle.std.specs.Prelude.{if◌then◌else◌, option_map}
use Rattle.sg_zones.specs.Faults.{place, roots, root_fault}
use Rattle.sg_toml_tree.specs.Along.{first}
use Rattle.sg_zones.specs.declared.fault.ZoneFault.TheVariants.{TwoRoots}
use Rattle.sg_zones.proofs.tree.root_fault.Given as goal

abbrev pub invariant-loop-i : goal.invariant-loop-i
invariant-loop-i l =
    root_fault (roots 1 l.zones) ≡ (if l.found then option_map (λ second. TwoRoots (place 1 second 2)) (first (roots (l.i + 1) (drop l.i l.zones))) else root_fault (roots (l.i + 1) (drop l.i l.zones)))
