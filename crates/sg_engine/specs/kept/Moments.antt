-- How far a run has come between two moments, whatever its script may still give.
use Rattle.std.specs.Prelude.{◌≡◌, ◌≢◌, ◌<◌, ◌≤◌, ◌-◌, ℕ, Bool, true, false, ◌||◌, IsTrue, List, [], ◌++◌, length, Option, None, Some, Result, Ok, Err, MatchBool}
use Rattle.sg_base.specs.declared.trace_record.Record.{Record}
use Rattle.sg_base.specs.declared.ids.ActorId.{ActorId}
use Rattle.sg_base.specs.Mind.{Mind}
use Rattle.sg_edge.specs.Files.{PartView, Only}
use Rattle.sg_edge.specs.declared.files.Part.{Part}
use Rattle.sg_edge.specs.declared.files.Part.TheVariants.{Script}
use Rattle.sg_edge.specs.Sources.{Source}
use Rattle.sg_edge.specs.declared.files.Stage.{Stage}
use Rattle.sg_edge.specs.declared.files.Stage.TheVariants.{Fresh, Begun, Broken}
use Rattle.sg_kernel_calls.specs.Known.{Known}
use Rattle.sg_kernel_calls.specs.World.{Core, IsActor, extent, state_of}
use Rattle.sg_actor_states.specs.Actors.{is_answered, is_ended}
use Rattle.sg_engine.specs.World.{World}
use Rattle.sg_platform_rows.specs.Deployment.{Deployed, extent_of}
use Rattle.sg_script.specs.Fetched.{fetches_of}
use Rattle.sg_script.specs.Answer.{answer_of}
use Rattle.sg_script.specs.Needed.{need_of}
use Rattle.sg_script.specs.Rest.{GoesOn}
use Rattle.sg_script.specs.Known.{ScriptNames as Names, known_in}
use Rattle.sg_script.specs.Stands.{AreLimited, AreNeeded, IsWithinNeed, Kept, kept_of, Stands, Reads}
use Rattle.sg_script.specs.declared.script.Script.{Script as Reader}
use Rattle.sg_engine.specs.declared.ended.Ended.{Ended}
use Rattle.sg_engine.specs.declared.plan.Plan.{Plan}
use Rattle.sg_engine.specs.RunContract.{is_cut}
use Rattle.sg_route.specs.Roads.{Roads}
use Rattle.sg_engine.specs.declared.actor_call.ActorCall.{ActorCall}
use Rattle.sg_engine.specs.declared.ended.Ended.TheVariants as ended
use Rattle.sg_engine.specs.kept.CallList.{calls_of}
use Rattle.sg_engine.specs.Run.{Scene, scene, Answering, Progress, at_world, creates, with_front, unless_killed, round, round_or_pass}
use Rattle.sg_engine.specs.Roles.{firsts_of}

-- a moment of a run: what the part of the script shows, what its reader keeps, and what the kernel knows
pub record Moment : Type 0 where
  pub part : PartView
  pub kept : Kept
  pub kernel : Known

-- what a run sees of the script's part: without a script, that it has nothing to give
abbrev pub script_part : Bool → PartView → PartView
script_part true part = part
script_part false part = record { stage = Begun; name = None; left = Some []; faults = 0 }

abbrev pub moment : PartView → Kept → Known → Moment
moment part kept kernel = record { part = part; kept = kept; kernel = kernel }

abbrev pub moment_of : Bool → PartView → Reader → Known → Moment
moment_of script part reader kernel = moment (script_part script part) (kept_of reader) kernel

-- the script's part was begun, kernel and reader are of this deployment, and the actions that wait keep to its limits
pub record Fits (deployed : Deployed) (now : Moment) : Type 0 where
  pub actors : length now.kernel.core.actors ≡ length deployed.actors
  pub queues : length now.kept.queues - 1 ≡ length deployed.actors
  pub begun : now.part.stage ≢ Fresh
  pub extent : extent now.kernel.setup ≡ extent_of deployed
  pub waiting : AreLimited (extent_of deployed) now.kept

-- how a stretch has ended the run; none: it continues
abbrev pub end_in : Result (Unit {0}) Ended → Option Ended
end_in (Ok done) = None
end_in (Err how) = Some how

-- and whether it has cut the run off
abbrev pub cuts : Result (Unit {0}) Ended → Bool
cuts (Ok done) = false
cuts (Err how) = is_cut how

-- the actor isn't blocked: it may call, or has ended
pub record IsFree (core : Core) (actor : ℕ) : Type 0 where
  pub is : IsActor core actor
  pub free : IsTrue (is_answered (state_of core actor) || is_ended (state_of core actor))

-- an actor that is free stays so as another actor is answered
abbrev pub LeavesFree : ℕ → Core → Core → Type 0
LeavesFree actor old new = (other : ℕ) → other ≢ actor → IsFree old other → IsFree new other

-- the script stands for what was taken and fetched, and less than a piece of what was taken isn't needed
pub record ScriptStands (names : Names) (taken : List ℕ) (stage : Stage) (fetched : List ℕ) (kept : Kept) : Type 0 where
  pub stands : Stands names taken stage fetched kept
  pub needed : AreNeeded names taken stage fetched

-- what the actors have in mind that have begun, and how many contexts are left
pub record Cast : Type 0 where
  pub minds : List (Option Mind)
  pub contexts : ℕ

abbrev pub cast_of : World → Cast
cast_of world = record { minds = world.minds; contexts = world.contexts }

-- with these bytes of the script taken, the moment and the `Cast` stand for the world
pub record StandsFor (names : Names) (taken : List ℕ) (had : Cast) (now : Moment) (world : World) : Type 0 where
  pub script : ScriptStands names taken now.part.stage world.fetched now.kept
  pub core : now.kernel.core ≡ world.core
  pub cast : had ≡ cast_of world

-- what was taken answers all fetches of the whole, whatever follows it
abbrev pub AnswersAll : Names → (Answering → Progress) → List ℕ → Type 0
AnswersAll names whole taken = (rest : List ℕ) (broken : Bool) (actor earlier : ℕ) →
    let source : Source = record { bytes = taken ++ rest; broken = broken } in
    earlier < fetches_of (whole (answer_of names source)).world.fetched actor → need_of names source actor earlier ≤ length taken

-- if so, no read met the end or failed
abbrev pub StaysOpen : Names → (Answering → Progress) → List ℕ → Stage → Stage → Type 0
StaysOpen names whole taken old new = AnswersAll names whole taken → new ≡ old

-- From the old moment to the new one a piece of the script was taken, and records were made. For each source that
-- continues from there, the whole is these records and then the rest, from the world for which the new moment stands,
-- with so much work spent. No read followed one after which the whole had all its answers.
pub record IsStretch (spent : ℕ) (names : Names) (whole : Answering → Progress) (rest : Answering → World → Progress) (taken : List ℕ) (had : Cast) (old new : Moment) : Type 0 where
  pub piece : List ℕ
  pub reads : Reads piece old.part new.part
  pub last : StaysOpen names whole (taken ++ piece) old.part.stage new.part.stage
  pub setup : new.kernel.setup ≡ old.kernel.setup
  pub world : World
  pub stands : StandsFor names (taken ++ piece) had new world
  pub work : world.work ≡ spent
  pub made : List Record
  pub records : new.kernel.records ≡ old.kernel.records ++ made
  pub is : (source : Source) → GoesOn (taken ++ piece) new.part.stage source → whole (answer_of names source) ≡ with_front made (rest (answer_of names source) world)

-- less than a piece of what was taken isn't needed by the fetches of the whole, for each source that continues from
-- there
abbrev pub AreNeededBy : Names → (Answering → Progress) → List ℕ → Stage → Type 0
AreNeededBy names whole taken stage = (source : Source) → GoesOn taken stage source → IsWithinNeed names source (whole (answer_of names source)).world.fetched (length taken)

-- the whole leaves no more contexts than that, for each source that continues from there
abbrev pub LeavesContexts : Names → (Answering → Progress) → List ℕ → Stage → ℕ → Type 0
LeavesContexts names whole taken stage left = (source : Source) → GoesOn taken stage source → (whole (answer_of names source)).world.contexts ≤ left

-- memory ran out: some of the script was read that the whole needs, no more contexts were taken than the whole takes,
-- and nothing else is known
pub record LacksMemory (names : Names) (whole : Answering → Progress) (taken : List ℕ) (left : ℕ) (old new : PartView) : Type 0 where
  pub piece : List ℕ
  pub reads : Reads piece old new
  pub last : StaysOpen names whole (taken ++ piece) old.stage new.stage
  pub needed : AreNeededBy names whole (taken ++ piece) new.stage
  pub contexts : LeavesContexts names whole (taken ++ piece) new.stage left

-- nothing of the stretch remains except how it ended
abbrev pub ending : Option Ended → Answering → World → Progress
ending how answers world = at_world how world

-- ---- in the words of contracts
abbrev pub names_of : Plan → Names
names_of plan = known_in plan.deployment.now

abbrev pub scene_at : Plan → Roads → Known → Scene
scene_at plan roads kernel = scene roads kernel.setup (firsts_of plan.deployment.now) plan.script

-- a call of an actor, in a scheduling round; a create
abbrev pub call_at : Plan → Roads → Known → ActorCall → Answering → World → Progress
call_at plan roads kernel made answers world = unless_killed (scene_at plan roads kernel) answers made.actor.0 made.call world

abbrev pub created_at : Plan → Known → ActorId → ActorId → Answering → World → Progress
created_at plan kernel actor target answers world = creates (firsts_of plan.deployment.now) kernel.setup.budget actor.0 target world

-- calls of several actors, a scheduling round, and one or a time advance
abbrev pub calls_at : Plan → Roads → Known → List ActorCall → Answering → World → Progress
calls_at plan roads kernel calls answers world = calls_of (scene_at plan roads kernel) answers calls world

abbrev pub round_at : Plan → Roads → Known → Answering → World → Progress
round_at plan roads kernel answers world = round (scene_at plan roads kernel) answers world

abbrev pub part_at : Plan → Roads → Known → Answering → World → Progress
part_at plan roads kernel answers world = round_or_pass (scene_at plan roads kernel) answers world

-- what is seen of the script's part
abbrev pub script_in : Plan → (Part → PartView) → PartView
script_in plan shows = script_part plan.script (shows Script)

-- a moment of the run of a plan
abbrev pub moment_in : Plan → (Part → PartView) → Reader → Known → Moment
moment_in plan shows reader kernel = moment_of plan.script (shows Script) reader kernel

-- the same where the script is asked, and that the parts of the run are of its deployment there
abbrev pub script_moment : (Part → PartView) → Reader → Known → Moment
script_moment shows reader kernel = moment (shows Script) (kept_of reader) kernel

abbrev pub FitsScript : Plan → (Part → PartView) → Reader → Known → Type 0
FitsScript plan shows reader kernel = Fits plan.deployment.now (script_moment shows reader kernel)

-- a read fault is of a part that is broken
abbrev pub IsReadFrom : Result (Unit {0}) Ended → PartView → Type 0
IsReadFrom result part = result ≡ Err ended.ReadFault → part.stage ≡ Broken

-- What a fetch has to do with the script: nothing else was read, it cuts the run off only if memory runs out, and a read
-- fault is of a part that is broken.
pub record HasFetched (result : Result (Unit {0}) Ended) (old new : Part → PartView) : Type 0 where
  pub others : Only Script old new
  pub unwritten : result ≢ Err ended.WriteFault
  pub cause : IsReadFrom result (new Script)

-- where a stretch with this result leads from a moment: to another one; or it was cut off without memory
abbrev pub LeadsOn : ℕ → Names → (Answering → Progress) → Result (Unit {0}) Ended → List ℕ → Cast → Moment → Moment → Type 0
LeadsOn spent names whole result taken has old new =
    MatchBool (cuts result) (LacksMemory names whole taken has.contexts old.part new.part) (IsStretch spent names whole (ending (end_in result)) taken has old new)

-- How a stretch leads from one moment to another, with this cast in the one and that in the other: of each world for
-- which the first moment stands, with so much work spent in all.
abbrev pub Leads : Plan → (World → ℕ) → (Answering → World → Progress) → Result (Unit {0}) Ended → Cast → Cast → Moment → Moment → Type 0
Leads plan spends whole result had has old new = (taken : List ℕ) (world : World) → StandsFor (names_of plan) taken had old world →
    LeadsOn (spends world) (names_of plan) (λ answers. whole answers world) result taken has old new

-- the same if the `Cast` stays
abbrev pub LeadsCalls : Plan → (Answering → World → Progress) → Result (Unit {0}) Ended → Moment → Moment → Type 0
LeadsCalls plan whole result old new = (cast : Cast) → Leads plan (λ world. world.work) whole result cast cast old new

-- of all files only the script's part was read, and without a script none
pub record ReadsScript {F : Type 0} (shows : F → Part → PartView) (script : Bool) (old new : F) : Type 0 where
  pub others : Only Script (shows old) (shows new)
  pub unscripted : script ≡ false → new ≡ old

-- nothing else was read, and the roads stay
pub record OnlyReads {F : Type 0} (shows : F → Part → PartView) (script : Bool) (old new : F) (had has : Roads) : Type 0 where
  pub reads : ReadsScript shows script old new
  pub roads : has ≡ had

-- What a stretch has to do with the script and the roads: nothing else was read, the roads stay, it cuts the run off
-- only if memory runs out, and a read fault is only of a part that is broken.
pub record UsesScript {F : Type 0} (shows : F → Part → PartView) (script : Bool) (result : Result (Unit {0}) Ended) (old new : F) (had has : Roads) : Type 0 where
  pub reads : ReadsScript shows script old new
  pub roads : has ≡ had
  pub unwritten : result ≢ Err ended.WriteFault
  pub cause : IsReadFrom result (script_part script (shows new Script))
