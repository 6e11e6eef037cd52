-- What zones that were built say of the platform.
use Rattle.std.proofs.Common.{◌≡◌, ◌≢◌, refl, Option, None, Some, Result, Ok, sym, ap}
use Rattle.std.proofs.Common as C
use Rattle.std.specs.Option.{option_map_or}
use Rattle.std.specs.Result.{result_map_both}
use Rattle.sg_platform_rows.specs.Platform.{Platform}
use Rattle.sg_zones.specs.Faults.{zone_fault, zones_of}
use Rattle.sg_zones.specs.Tree.{Tree, zone_tree}
use Rattle.sg_zones.specs.declared.fault.ZoneFault.{ZoneFault}
use Rattle.simgrid_replay.specs.declared.refusal.Refusal.{Refusal}
use Rattle.simgrid_replay.specs.declared.refusal.Refusal.TheVariants as R

built_by : (fault : Option ZoneFault) (tree zones : Tree) → Ok zones ≡ option_map_or C.Err fault (Ok tree) → zones ≡ tree
built_by None tree zones is = cc is
built_by (Some fault) tree zones is = absurd (cc is)

-- zones without a fault are the tree of the platform
pub zones_are : (platform : Platform) (zones : Tree) → Ok zones ≡ zones_of platform → zones ≡ zone_tree platform
zones_are platform zones is = built_by (zone_fault platform) (zone_tree platform) zones is

-- a platform whose zones were judged
abbrev judged : Platform → Result Tree ZoneFault → Result Platform Refusal
judged platform = result_map_both (λ tree. platform) R.Zones

pub no_zone_fault : (platform : Platform) (zones : Tree) → Ok zones ≡ zones_of platform → Ok platform ≡ judged platform (zones_of platform)
no_zone_fault platform zones is = ap (judged platform) is

-- if the zones have no fault, only memory can run out
pub only_memory : (platform : Platform) (tree : Tree) (result : Result Platform Refusal) (why : Refusal) → zones_of platform ≡ Ok tree → result ≡ C.Err why →
    (◌≢◌ {A = Result Platform Refusal} result (C.Err R.Memory) → result ≡ judged platform (zones_of platform)) → ¬ (why ≡ R.Memory) → ⊥
only_memory platform tree result why zones is given other =
    let not : ◌≢◌ {A = Result Platform Refusal} result (C.Err R.Memory) = λ e. other (cc) in
    let fits : judged platform (zones_of platform) ≡ Ok platform = ap (judged platform) zones in
    let known : result ≡ judged platform (zones_of platform) = given not in
    cc

-- and what stands then is the platform
pub keeps_platform : (platform found : Platform) (tree : Tree) (result : Result Platform Refusal) → zones_of platform ≡ Ok tree → result ≡ C.Ok found →
    (◌≢◌ {A = Result Platform Refusal} result (C.Err R.Memory) → result ≡ judged platform (zones_of platform)) → found ≡ platform
keeps_platform platform found tree result zones is given =
    let not : ◌≢◌ {A = Result Platform Refusal} result (C.Err R.Memory) = λ e. (cc) in
    let fits : judged platform (zones_of platform) ≡ Ok platform = ap (judged platform) zones in
    let known : result ≡ judged platform (zones_of platform) = given not in
    cc
