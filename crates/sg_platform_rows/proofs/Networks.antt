-- What networks make of latencies and bandwidths.
use Rattle.std.proofs.Common.{arith}
use Rattle.sg_platform_rows.specs.Network.{IsNetwork, plain_network}

pub plain_kept : IsNetwork plain_network
plain_kept = record {
  latency_factor = omega arith;
  some_bandwidth = omega arith;
  bandwidth_factor = omega arith;
  window = omega arith;
}
