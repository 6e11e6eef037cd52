-- The texts of faults that end a run.
use Rattle.std.specs.Prelude.{ℕ, ◌-◌, nat_lt, if◌then◌else◌, List, [], ◌++◌, length, codes, slice_get}
use Rattle.std.specs.Option.{option_map_or}
use Rattle.std.specs.Fmt.{decimal}
use Rattle.sg_base.specs.declared.ids.Child.{Child}
use Rattle.sg_base.specs.declared.ids.Child.TheVariants.{Point, Zone}
use Rattle.sg_base.specs.declared.ids.PointId.{PointId}
use Rattle.sg_base.specs.declared.ids.ZoneId.{ZoneId}
use Rattle.sg_platform_rows.specs.Platform.{Platform}
use Rattle.sg_script.specs.declared.fault.LineFault.{LineFault}
use Rattle.sg_script.specs.declared.fault.LineFault.TheVariants as kind
use Rattle.sg_trace.specs.Names.{host_name}

-- what is wrong with a line of a script, in words
abbrev pub fault_text : LineFault → List ℕ
fault_text kind.TooLong = codes "line too long"
fault_text kind.NotAscii = codes "not ASCII"
fault_text kind.UnknownActor = codes "unknown actor"
fault_text kind.UnknownAction = codes "unknown action"
fault_text kind.ArgumentCount = codes "wrong number of arguments"
fault_text kind.BadAmount = codes "bad amount"
fault_text kind.TooManyLines = codes "too many lines"
fault_text kind.UnknownObject = codes "unknown object"

-- the number of the line, and what is wrong with it
abbrev pub script_line : ℕ → LineFault → List ℕ
script_line number kind = codes "script line " ++ (decimal number ++ (codes ": " ++ (fault_text kind ++ codes "\n")))

-- ---- routes
-- the name of a router, by its number among the routers
abbrev pub router_name : Platform → ℕ → List ℕ
router_name platform router = option_map_or (λ row. row.id) (slice_get platform.routers router) []

-- the hosts come first, and then the routers
abbrev pub point_name : Platform → PointId → List ℕ
point_name platform point = if nat_lt point.0 (length platform.hosts) then host_name platform point else router_name platform (point.0 - length platform.hosts)

-- the name of a zone, as the platform declares it
abbrev pub zone_name : Platform → ZoneId → List ℕ
zone_name platform zone = option_map_or (λ row. row.id) (slice_get platform.zones zone.0) []

-- the name of a child of a zone: of a host, a router or a zone
abbrev pub child_name : Platform → Child → List ℕ
child_name platform (Point point) = point_name platform point
child_name platform (Zone zone) = zone_name platform zone

-- the hosts, and the children of the zone between which it has no route
abbrev pub no_route_line : Platform → PointId → PointId → ZoneId → Child → Child → List ℕ
no_route_line platform from to zone a b =
    codes "no route from " ++ (point_name platform from ++ (codes " to " ++ (point_name platform to ++ (codes ": zone " ++ (zone_name platform zone ++ (codes ", " ++ (child_name platform a ++ (codes " to " ++ (child_name platform b ++ codes "\n")))))))))

-- the hosts, and that the route between them has more than 64 links
abbrev pub too_long_line : Platform → PointId → PointId → List ℕ
too_long_line platform from to = codes "route from " ++ (point_name platform from ++ (codes " to " ++ (point_name platform to ++ codes ": more than 64 links\n")))
