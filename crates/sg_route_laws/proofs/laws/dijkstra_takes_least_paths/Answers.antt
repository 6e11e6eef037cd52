-- A platform without zone faults is good.
use Rattle.sg_route_laws.proofs.DijkstraWays.{dijkstra_takes_least_paths}
use Rattle.sg_route_laws.proofs.Good.{good_from}
use Rattle.sg_route_laws.proofs.laws.dijkstra_takes_least_paths.Goals as goal

pub returns : goal.returns
returns c = dijkstra_takes_least_paths c.args.sound.platform.now (good_from c.args.sound.platform.now c.rows_are_valid.ensures c.args.sound.sound)
