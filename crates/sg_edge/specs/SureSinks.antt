-- What streams that never fail show: nothing.
use Rattle.std.specs.Prelude.{ℕ, List, Option, None}
use Rattle.sg_edge.specs.declared.sinks.Stream.{Stream}
use Rattle.sg_edge.specs.declared.sure_sinks.SureSinks.{SureSinks}

abbrev pub sure_contents : SureSinks → Stream → Option (List ℕ)
sure_contents m to = None

abbrev pub sure_faults : SureSinks → ℕ
sure_faults m = 0
