-- Records, and what keeps to its limits: calls that block, and records.
use Rattle.std.specs.Prelude.{ℕ, ◌-◌, ◌<◌, ◌^◌, List, All}
use Rattle.sg_base.specs.declared.call.Answer.{Answer}
use Rattle.sg_base.specs.declared.call.Answer.TheVariants as answer
use Rattle.sg_base.specs.declared.call.Call.{Call}
use Rattle.sg_base.specs.declared.trace_record.End.{End}
use Rattle.sg_base.specs.declared.trace_record.End.TheVariants as end
use Rattle.sg_base.specs.declared.trace_record.Record.{Record}
use Rattle.sg_base.specs.Limits.{Extent, IsActorIn, IsAmount, IsCall, IsEnd}
use Rattle.sg_base.specs.Lines.{HasLine}

-- how a call ended that had this answer after so many nanoseconds
abbrev pub end_by : Answer → ℕ → End
end_by answer.Start ns = end.Done ns
end_by (answer.Act action) ns = end.Done ns
end_by answer.NoMore ns = end.Done ns
end_by answer.Done ns = end.Done ns
end_by (answer.Got message) ns = end.Done ns
end_by answer.Refused ns = end.Refused
end_by answer.Failed ns = end.Failed

-- the record of a call that the actor made at one date, and that is answered at another
abbrev pub record_of : ℕ → Call → ℕ → ℕ → Answer → ℕ → Record
record_of actor what since bytes answer date = record { actor = record { 0 = actor }; date = date; what = what; bytes = bytes; end = end_by answer (date - since) }

-- a call that a record or a blocked line prints: its amounts keep to their limits, and what it names exists
pub record IsTellable (extent : Extent) (what : Call) : Type 0 where
  pub told : HasLine what
  pub call : IsCall extent what

pub record IsRecord (extent : Extent) (r : Record) : Type 0 where
  pub actor : IsActorIn extent r.actor
  pub what : IsTellable extent r.what
  pub date : r.date < 10 ^ 33
  pub bytes : IsAmount r.bytes
  pub end : IsEnd r.end

abbrev pub AreRecords : Extent → List Record → Type 0
AreRecords extent records = All (IsRecord extent) records
