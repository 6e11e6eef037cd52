-- The tree is bad, its rows are wrong, or all is good.
use Rattle.std.proofs.Common.{◌≡◌, None, Some, Ok, Err, ◌∙◌, ap}
use Rattle.std.specs.Option.{option_map_or, option_or}
use Rattle.sg_platform_rows.specs.Platform.{Platform}
use Rattle.sg_zones.specs.Faults.{tree_fault, row_fault, zones_of}
use Rattle.sg_zones.specs.Tree.{zone_tree}
use Rattle.sg_zones.specs.declared.fault.ZoneFault.{ZoneFault}

pub zones_bad : (p : Platform) (fault : ZoneFault) → tree_fault p.zones ≡ Some fault → zones_of p ≡ Err fault
zones_bad p fault bad = ap (λ o. option_map_or Err (option_or o (row_fault (zone_tree p) p)) (Ok (zone_tree p))) bad

pub zones_wrong : (p : Platform) (fault : ZoneFault) → tree_fault p.zones ≡ None → row_fault (zone_tree p) p ≡ Some fault → zones_of p ≡ Err fault
zones_wrong p fault good wrong = ap (λ o. option_map_or Err (option_or o (row_fault (zone_tree p) p)) (Ok (zone_tree p))) good ∙ ap (λ o. option_map_or Err o (Ok (zone_tree p))) wrong

pub zones_good : (p : Platform) → tree_fault p.zones ≡ None → row_fault (zone_tree p) p ≡ None → zones_of p ≡ Ok (zone_tree p)
zones_good p good right = ap (λ o. option_map_or Err (option_or o (row_fault (zone_tree p) p)) (Ok (zone_tree p))) good ∙ ap (λ o. option_map_or Err o (Ok (zone_tree p))) right
