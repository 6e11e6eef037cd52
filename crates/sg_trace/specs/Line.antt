-- A line of the trace: who did what, when, and how long it took.
use Rattle.std.specs.Prelude.{ℕ, ◌<◌, ◌^◌, List, ◌++◌, codes, Some}
use Rattle.sg_base.specs.declared.trace_record.End.{End}
use Rattle.sg_base.specs.declared.trace_record.End.TheVariants as end
use Rattle.sg_base.specs.declared.trace_record.Record.{Record}
use Rattle.sg_base.specs.Limits.{IsActorIn, IsCall, IsEnd}
use Rattle.sg_base.specs.Lines.{HasLine}
use Rattle.sg_platform_rows.specs.Deployment.{Deployed, extent_of}
use Rattle.sg_platform_rows.specs.Platform.{Platform}
use Rattle.sg_units.specs.Date.{date_of}
use Rattle.sg_trace.specs.Call.{call_text}
use Rattle.sg_trace.specs.Names.{actor_label}

-- the duration, or that the call was refused or failed
abbrev pub end_text : End → List ℕ
end_text (end.Done duration) = date_of duration
end_text end.Refused = codes "refused"
end_text end.Failed = codes "failed"

-- [HOST:ACTOR:(ID) DATE] TEXT DURATION
abbrev pub line_of : Record → Platform → Deployed → List ℕ
line_of answered platform deployed =
    codes "[" ++ actor_label platform deployed answered.actor ++ codes " " ++ date_of answered.date ++ codes "] "
    ++ call_text deployed (Some answered.bytes) answered.what ++ codes " " ++ end_text answered.end ++ codes "\n"

-- dates and durations are below 10^33 nanoseconds
abbrev pub IsDate : ℕ → Type 0
IsDate ns = ns < 10 ^ 33

-- the record is of an actor of the deployment, and of a call that has a line and keeps to what the deployment has
pub record IsOfDeployment (deployed : Deployed) (answered : Record) : Type 0 where
  pub actor : IsActorIn (extent_of deployed) answered.actor
  pub told : HasLine answered.what
  pub call : IsCall (extent_of deployed) answered.what
  pub date : IsDate answered.date
  pub end : IsEnd answered.end
