-- Hosts as resources, and their power.
use Rattle.std.specs.Prelude.{ℕ, ◌*◌, ◌≤◌, ◌^◌, None, IfSome, List, slice_index_or}
use Rattle.sg_activity_table.specs.declared.kinds.HostCap.{HostCap}
use Rattle.sg_activity_table.specs.declared.kinds.Power.{Power}

-- a thousand kilowatts at most, and at full load no less than at the least load
pub record IsPower (power : Power) : Type 0 where
  pub idle : power.idle ≤ 10 ^ 9
  pub epsilon : power.epsilon ≤ power.all
  pub all : power.all ≤ 10 ^ 9
  pub off : power.off ≤ 10 ^ 9

-- its speed, its cores and its power keep to their limits
pub record IsHost (host : HostCap) : Type 0 where
  pub speed : host.speed ≤ 10 ^ 15
  pub cores : host.cores ≤ 1024
  pub power : IfSome host.power IsPower

-- what all its cores offer
abbrev pub offer_of : HostCap → ℕ
offer_of host = host.speed * host.cores

-- the host of a number
abbrev pub host_at : List HostCap → ℕ → HostCap
host_at hosts host = slice_index_or hosts host (record { speed = 0; cores = 0; power = None })
