-- The platform of a churn has no zone fault: each host stands in the only zone, which is Star, and is its own gateway.
use Rattle.std.proofs.Common.{◌≡◌, ℕ, zero, suc, ◌+◌, ◌==◌, ◌||◌, false, true, not, Option, None, Ok, [], ◌∷◌, ◌++◌, map, slice_index_or, refl, ap, ◌∙◌, arith}
use Rattle.std.proofs.lemmas.Bool.Decides.{nat_tests}
use Rattle.std.specs.List.{range_with_len}
use Rattle.std.specs.Option.{option_or}
use Rattle.sg_base.specs.declared.ids.ZoneId.{ZoneId}
use Rattle.sg_platform_churn.proofs.GoodRows.{star}
use Rattle.sg_platform_churn.specs.Generated.{churn_host, platform_of_seed, spoke_of}
use Rattle.sg_platform_rows.specs.Platform.{Platform}
use Rattle.sg_zones.proofs.FaultLemmas.{zones_good}
use Rattle.sg_zones.specs.Faults.{first_along, spoke_gateway_fault, place, row_fault, spoke_fault, fault_if, tree_fault, zone_fault, zones_of}
use Rattle.sg_zones.specs.Paths.{ancestor}
use Rattle.sg_zones.specs.Tree.{Tree, zone_tree}
use Rattle.sg_zones.specs.declared.fault.ZoneFault.{ZoneFault}
use Rattle.sg_zones.specs.declared.fault.ZoneFault.TheVariants.{WrongRouting}

-- rows that are made from their numbers have no fault, if none of them has one
none_along : {A : Type 0} (told : ℕ → A → Option ZoneFault) (f : ℕ → A) → ((row k : ℕ) → told row (f k) ≡ None) → (row from count : ℕ) → first_along told row (map f (range_with_len from count)) ≡ None
none_along told f none row from zero = refl
none_along told f none row from (suc count) = rw (none row from) (none_along told f none (row + 1) (from + 1) count)

star_alone : tree_fault (star ∷ []) ≡ None
unfolding ancestor
star_alone = refl

home_is_star : (seed from count k : ℕ) → slice_index_or (map (λ row. row.zone) (map (churn_host seed) (range_with_len from count)) ++ []) k (record { 0 = 0 }) ≡ record { 0 = 0 }
home_is_star seed from zero k = refl
home_is_star seed from (suc count) zero = refl
home_is_star seed from (suc count) (suc k) = home_is_star seed (from + 1) count k

same_number : (k : ℕ) → (k == k) ≡ true
same_number k = grind (arith, nat_tests)

own_gateway : (t : Tree) (row k : ℕ) → spoke_gateway_fault t row (spoke_of k) ≡ None
own_gateway t row k = rw (same_number k)

star_child : (seed actors row k : ℕ) → spoke_fault (zone_tree (platform_of_seed seed actors)) row (spoke_of k) ≡ None
unfolding platform_of_seed
star_child seed actors row k = ap (λ (zone : ZoneId). fault_if (false || not (zone.0 == 0)) (WrongRouting (place 7 (row + 1) 1))) (home_is_star seed 0 actors k)

rows_right : (seed actors : ℕ) → row_fault (zone_tree (platform_of_seed seed actors)) (platform_of_seed seed actors) ≡ None
unfolding platform_of_seed
rows_right seed actors =
    let tree : Tree = zone_tree (platform_of_seed seed actors) in
    rw (none_along (spoke_gateway_fault tree) spoke_of (own_gateway tree) 0 0 actors) (none_along (spoke_fault tree) spoke_of (star_child seed actors) 0 0 actors)

one_zone : (seed actors : ℕ) → tree_fault (platform_of_seed seed actors).zones ≡ None
unfolding platform_of_seed
one_zone seed actors = star_alone

pub no_fault : (seed actors : ℕ) → zone_fault (platform_of_seed seed actors) ≡ None
no_fault seed actors =
    let churn : Platform = platform_of_seed seed actors in
    ap (λ o. option_or o (row_fault (zone_tree churn) churn)) (one_zone seed actors) ∙ rows_right seed actors

pub tree_built : (seed actors : ℕ) → zones_of (platform_of_seed seed actors) ≡ Ok (zone_tree (platform_of_seed seed actors))
tree_built seed actors = zones_good (platform_of_seed seed actors) (one_zone seed actors) (rows_right seed actors)
