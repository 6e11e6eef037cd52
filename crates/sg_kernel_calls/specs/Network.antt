-- What the network does to a communication over a route.
use Rattle.std.specs.Prelude.{ℕ, ◌+◌, ◌==◌, Bool, false, Option, None, Some, if◌then◌else◌, List, [], ◌∷◌}
use Rattle.sg_base.specs.declared.ids.LinkId.{LinkId}
use Rattle.sg_activity_table.specs.Slots.{sooner}
use Rattle.sg_platform_rows.specs.Network as network
use Rattle.sg_platform_rows.specs.Network.{window_bound}
use Rattle.sg_route.specs.Route.{Route}
use Rattle.sg_kernel_calls.specs.Setup.{Setup}

-- whether these are the loopback alone, which is the last of so many links
abbrev pub is_loopback : ℕ → List LinkId → Bool
is_loopback links (link ∷ []) = link.0 + 1 == links
is_loopback links other = false

-- how long the latency of a route lasts; that of the loopback has no factor
abbrev pub route_latency : Setup → Route → ℕ
route_latency setup route =
    if is_loopback setup.links route.links then route.latency
    else network.latency_over setup.network route.latency

-- What bounds a message of a rate over a route, beside the links: the rate, where 0 stands for none, and the window
-- over the latency before the factor. The loopback has no window.
abbrev pub own_bound : Setup → Route → ℕ → Option ℕ
own_bound setup route rate =
    sooner (if rate == 0 then None else Some rate)
    (if is_loopback setup.links route.links then None else window_bound setup.network route.latency)
