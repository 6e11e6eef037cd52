-- The mind that fields by kind keep.
use Rattle.std.specs.Prelude.{◌+◌, ◌^◌, ◌≤◌, ◌<◌, Bool, true, false, Option, Some, None, ℕ, List, [], ◌∷◌, length, map, ⊤}
use Rattle.sg_base.specs.Mind.{Kind, Mind, mind, replay, worker, master, churn, ended}
use Rattle.sg_base.specs.declared.ids.ActorId.{ActorId}
use Rattle.sg_base.specs.declared.call.Call.{Call}
use Rattle.sg_base.specs.declared.call.Call.TheVariants.{Exit}
use Rattle.sg_actor.specs.declared.churn.Churn.{Churn}
use Rattle.sg_actor.specs.declared.churn.Phase.{Phase}
use Rattle.sg_actor.specs.declared.churn.Phase.TheVariants as phase
use Rattle.sg_actor.specs.declared.plain_context.Fields.{Fields}
use Rattle.sg_actor.specs.declared.plain_context.Fields.TheVariants as fields
use Rattle.sg_actor.specs.Roles.{actor_number}

-- the kind, or ended
abbrev pub kind_now : Bool → Kind → Kind
kind_now true kind = ended
kind_now false kind = kind

-- the numbers of a master
abbrev pub master_numbers : ℕ → ℕ → ℕ → ℕ → List ActorId → List ℕ
master_numbers tasks flops bytes next workers = tasks ∷ flops ∷ bytes ∷ next ∷ map actor_number workers

-- the number of a phase
abbrev pub phase_number : Phase → ℕ
phase_number phase.Compute = 0
phase_number phase.Send = 1
phase_number phase.Receive = 2
phase_number phase.Wait = 3

-- the numbers of an actor that churns
abbrev pub churn_numbers : Churn → List ℕ
churn_numbers c = c.state ∷ c.step ∷ phase_number c.phase ∷ c.steps ∷ c.me.0 ∷ c.next.0 ∷ c.prev.0 ∷ []

abbrev pub fields_mind : Bool → Fields → Option Mind
fields_mind over fields.Blank = None
fields_mind over (fields.Replay me) = Some (mind (kind_now over replay) (me.0 ∷ []))
fields_mind over (fields.Worker me) = Some (mind (kind_now over worker) (me.0 ∷ []))
fields_mind over (fields.Master tasks flops bytes next workers) = Some (mind (kind_now over master) (master_numbers tasks flops bytes next workers))
fields_mind over (fields.Churn c) = Some (mind (kind_now over churn) (churn_numbers c))

-- it has done no more steps than it has to, and not all of them in the midst of one
abbrev pub IsChurnKept : Churn → Type 0
IsChurnKept c = (c.step ≤ c.steps) × (0 < phase_number c.phase → c.step < c.steps)

-- a master has a worker, can count its messages, and has sent no more than it has to
abbrev pub IsKept : Fields → Type 0
IsKept fields.Blank = ⊤
IsKept (fields.Replay me) = ⊤
IsKept (fields.Worker me) = ⊤
IsKept (fields.Master tasks flops bytes next workers) = (0 < length workers) × (tasks + length workers < 2 ^ 64) × (next ≤ tasks + length workers)
IsKept (fields.Churn c) = IsChurnKept c

abbrev pub is_exit : Call → Bool
is_exit Exit = true
is_exit _ = false
