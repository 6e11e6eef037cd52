-- Hosts that compute, one execution after the other.
use Rattle.std.specs.Prelude.{◌≡◌, ℕ, length}
use Rattle.sg_activity.specs.Doing.{Doing}

-- so many hosts
abbrev pub HasHosts : ℕ → Doing → Type 0
HasHosts count doing = length doing.under.capacities.hosts ≡ count

-- what there is stays as it is
abbrev pub KeepsHosts : Doing → Doing → Type 0
KeepsHosts before after = after.under.capacities ≡ before.under.capacities
