-- What phases of each kind do.
use Rattle.std.specs.Prelude.{ℕ, Bool, true, false, if◌then◌else◌}
use Rattle.sg_activity_table.specs.declared.kinds.PhaseKind.{PhaseKind}
use Rattle.sg_activity_table.specs.declared.kinds.PhaseKind.TheVariants as phase

-- whether phases of this kind take shares of resources
abbrev pub takes_share : PhaseKind → Bool
takes_share phase.Flow = true
takes_share phase.Exec = true
takes_share other = false

-- whether a phase is an execution that computes, not a suspended one
abbrev pub is_exec : PhaseKind → Bool
is_exec phase.Exec = true
is_exec other = false

-- whether a phase is a suspended execution
abbrev pub is_held : PhaseKind → Bool
is_held phase.Kept = true
is_held other = false

-- how much a nanosecond takes of a phase that takes no share: nothing of a suspended execution
abbrev pub pace : PhaseKind → ℕ
pace kind = if is_held kind then 0 else 1

-- how many flows begin once a phase of this kind completes
abbrev pub flows_ahead : PhaseKind → ℕ
flows_ahead phase.Latency = 1
flows_ahead other = 0
