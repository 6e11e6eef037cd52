-- The exit status of each way to end.
use Rattle.std.specs.Prelude.{ℕ}
use Rattle.sg_base.specs.declared.status.Status.{Status}
use Rattle.sg_base.specs.declared.status.Status.TheVariants as status

abbrev pub status_code : Status → ℕ
status_code status.Completed = 0
status_code status.Words = 2
status_code status.Platform = 3
status_code status.Deployment = 4
status_code status.Script = 5
status_code status.Deadlock = 6
status_code status.Starved = 7
status_code status.Budget = 8
status_code status.Route = 9
status_code status.ReadFault = 10
status_code status.WriteFault = 11
status_code status.Memory = 12
