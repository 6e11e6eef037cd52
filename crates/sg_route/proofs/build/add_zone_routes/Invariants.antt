use Rattle.std.specs.List.{flat_map}
use Rattle.std.proofs.Common.{◌≡◌, ◌++◌, drop}
use Rattle.sg_route.specs.Local.{zone_route_local, row_locals}
use Rattle.sg_route.proofs.build.add_zone_routes.Given as goal

abbrev pub invariant-loop-row : goal.invariant-loop-row
invariant-loop-row l = l.initial.locals.items ++ flat_map (λ row. row_locals l.ends row.symmetrical (zone_route_local row)) l.rows ≡ l.locals.items ++ flat_map (λ row. row_locals l.ends row.symmetrical (zone_route_local row)) (drop l.row-index l.rows)
