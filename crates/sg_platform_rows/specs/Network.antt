-- What a platform makes of latencies and bandwidths.
use Rattle.std.specs.Prelude.{ℕ, ◌*◌, ◌/◌, ◌==◌, ◌||◌, ◌≤◌, ◌^◌, nat_le, if◌then◌else◌, Option, Some, None}
use Rattle.sg_base.specs.Limits.{IsAmount}
use Rattle.sg_platform_rows.specs.declared.network.Network.{Network}

-- the network if nothing is said: both factors are 1, and there is no window
abbrev pub plain_network : Network
plain_network = record { latency_factor = 1000000; bandwidth_factor = 1000000; window = 0 }

-- factors up to 1,000; a bandwidth can't become nothing for its factor alone
pub record IsNetwork (network : Network) : Type 0 where
  pub latency_factor : network.latency_factor ≤ 10 ^ 9
  pub some_bandwidth : 1 ≤ network.bandwidth_factor
  pub bandwidth_factor : network.bandwidth_factor ≤ 10 ^ 9
  pub window : IsAmount network.window

-- the latency of a communication over a route of this latency: times the factor in millionths, rounded down
abbrev pub latency_over : Network → ℕ → ℕ
latency_over network latency = latency * network.latency_factor / 1000000

-- what a declared link of this bandwidth carries
abbrev pub bandwidth_over : Network → ℕ → ℕ
bandwidth_over network bandwidth = bandwidth * network.bandwidth_factor / 1000000

-- the bound of a flow over a route of this latency, in nanoseconds before the factor: a window for each time there and
-- back; none above the greatest bandwidth of a link
abbrev pub window_bound : Network → ℕ → Option ℕ
window_bound network latency =
    let bound = network.window * 1000000000 / (2 * latency) in
    if network.window == 0 || latency == 0 then None else if nat_le bound (10 ^ 15) then Some bound else None
