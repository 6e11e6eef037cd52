-- All faults of the rows, and their order: by kind, and within a kind by table, row and key.
use Rattle.std.specs.Prelude.{◌≡◌, ℕ, ◌<◌, ◌⊎◌, Option, None, Some, List, [], ◌∷◌, ◌++◌, map, ◌+◌, unwrap_or, ⊤}
use Rattle.std.specs.List.{AllByRecursion}
use Rattle.sg_platform_rows.specs.Platform.{Platform}
use Rattle.sg_platform_rows.specs.declared.rows.ZoneRouteRow.{ZoneRouteRow}
use Rattle.sg_platform_rows.specs.declared.rows.ZoneRow.{ZoneRow}
use Rattle.sg_toml_tree.specs.Along.{along, first}
use Rattle.sg_toml_tree.specs.declared.fault.Place.{Place}
use Rattle.sg_zones.specs.Faults.{place, roots, ancestor_fault, gateway_fault, spoke_gateway_fault, child_zone_fault, route_fault, zone_route_fault, spoke_fault, zone_fault}
use Rattle.sg_zones.specs.FaultWords.{zone_place}
use Rattle.sg_zones.specs.Paths.{ancestors_of}
use Rattle.sg_zones.specs.Tree.{Tree, zone_tree}
use Rattle.sg_zones.specs.declared.fault.ZoneFault.{ZoneFault}
use Rattle.sg_zones.specs.declared.fault.ZoneFault.TheVariants.{NoRoot, TwoRoots, ParentCycle, TooDeep, GatewayOutside, WrongRouting, Memory}

-- ---- all faults

-- the fault, if there is one
abbrev pub as_list : Option ZoneFault → List ZoneFault
as_list None = []
as_list (Some fault) = fault ∷ []

-- those along rows, at most one of each
abbrev pub faults_along : {X : Type 0} → (ℕ → X → Option ZoneFault) → List X → List ZoneFault
faults_along told rows = along (λ row x. as_list (told row x)) 0 rows

-- no root, or each root except the first
abbrev pub root_faults : List ℕ → List ZoneFault
root_faults [] = NoRoot (place 1 0 0) ∷ []
root_faults (root ∷ rest) = map (λ row. TwoRoots (place 1 row 2)) rest

abbrev pub gateway_faults : Tree → ℕ → ZoneRouteRow → List ZoneFault
gateway_faults t row r =
    as_list (gateway_fault t r.src r.gw_src (place 6 (row + 1) 3)) ++ as_list (gateway_fault t r.dst r.gw_dst (place 6 (row + 1) 4))

abbrev pub tree_faults : List ZoneRow → List ZoneFault
tree_faults zones =
    root_faults (roots 1 zones)
    ++ (faults_along (ancestor_fault ParentCycle) (ancestors_of 1024 zones)
    ++ faults_along (ancestor_fault TooDeep) (ancestors_of 16 zones))

abbrev pub row_faults : Tree → Platform → List ZoneFault
row_faults t p =
    along (gateway_faults t) 0 p.zone_routes
    ++ (faults_along (spoke_gateway_fault t) p.spokes
    ++ (faults_along (child_zone_fault t) p.zones
    ++ (faults_along (route_fault t) p.routes
    ++ (faults_along (zone_route_fault t) p.zone_routes
    ++ faults_along (spoke_fault t) p.spokes))))

abbrev pub zone_faults : Platform → List ZoneFault
zone_faults p = tree_faults p.zones ++ row_faults (zone_tree p) p

-- ---- their order

abbrev pub kind_number : ZoneFault → ℕ
kind_number (NoRoot at) = 1
kind_number (TwoRoots at) = 2
kind_number (ParentCycle at) = 3
kind_number (TooDeep at) = 4
kind_number (GatewayOutside at) = 5
kind_number (WrongRouting at) = 6
kind_number Memory = 7

abbrev pub place_of : ZoneFault → Place
place_of fault = unwrap_or (zone_place fault) (place 0 0 0)

-- one number is less, and those before it are the same
abbrev pub IsBelow : List ℕ → List ℕ → Type 0
IsBelow [] ys = ⊥
IsBelow (x ∷ xs) [] = ⊥
IsBelow (x ∷ xs) (y ∷ ys) = (x < y) ⊎ ((x ≡ y) × IsBelow xs ys)

abbrev pub numbers_of : ZoneFault → List ℕ
numbers_of f = kind_number f ∷ (place_of f).table ∷ (place_of f).row ∷ (place_of f).key ∷ []

abbrev pub IsBefore : ZoneFault → ZoneFault → Type 0
IsBefore f g = IsBelow (numbers_of f) (numbers_of g)

-- each is before all those after it
abbrev pub IsRising : List ZoneFault → Type 0
IsRising [] = ⊤
IsRising (f ∷ fs) = AllByRecursion (IsBefore f) fs × IsRising fs

-- of all faults the least is reported
pub record TellsLeast (p : Platform) : Type 0 where
  pub first : zone_fault p ≡ first (zone_faults p)
  pub rise : IsRising (zone_faults p)
