-- Steps join points that there are.
use Rattle.std.proofs.Common.{◌≡◌, ◌+◌, ◌<◌, ℕ, List, All, ap, ap₂, sym, subst, ◌∙◌, length}
use Rattle.sg_paths.specs.declared.route.PathRoute.{PathRoute}
use Rattle.sg_platform_rows.specs.Platform.{counts_of}
use Rattle.sg_route.specs.Roads.{roads_of}
use Rattle.sg_route.specs.PathRoutes.{path_routes}
use Rattle.sg_zones.specs.Tree.{Tree, zone_tree}
use Rattle.sg_route.specs.declared.locals.Local.{Local}
use Rattle.sg_route.proofs.StepsLemmas.{steps_within}
use Rattle.sg_route.proofs.build.paths_of.Goals as goal

pub build-requires : goal.build-requires
build-requires c =
    let locals : List Local = (roads_of c.args.platform.now).locals in
    let tree : Tree = zone_tree c.args.platform.now in
    let same : path_routes tree locals ≡ c.as_slice.result.now =
    sym (c.as_slice.ensures.value ∙ c.in_ok-steps.ensures ∙ ap (λ (t : Tree). path_routes t c.args.rows.now) c.requires.zones ∙ ap (path_routes tree) c.requires.rows) in
    let count : (counts_of c.args.platform.now).points ≡ length c.hosts.result.now + length c.routers.result.now =
    sym (ap₂ (λ (x y : ℕ). x + y) (ap length c.hosts.ensures.rows) (ap length c.routers.ensures.rows)) in
    let P : List PathRoute → Type 0 = λ rs. All (λ r. (r.from < (counts_of c.args.platform.now).points) × (r.to < (counts_of c.args.platform.now).points)) rs in
    let Q : ℕ → Type 0 = λ n. All (λ (r : PathRoute). (r.from < n) × (r.to < n)) c.as_slice.result.now in
    subst Q count (subst P same (steps_within c.args.platform.now c.hosts.ensures.kept))
