-- What `Activities` keeps is consistent.
use Rattle.std.specs.Prelude.{◌≡◌, ◌≢◌, ℕ, ◌+◌, ◌*◌, ◌^◌, ◌<◌, ◌≤◌, ◌||◌, Bool, false, Option, None, Some, IfSome, List, [], length, slice_index, sum_by, All, AllPairs, IsTrue}
use Rattle.sg_base.specs.declared.ids.LinkId.{LinkId}
use Rattle.sg_base.specs.Limits.{IsPriority}
use Rattle.sg_base.specs.MarkSet.{is_in}
use Rattle.sg_heap.specs.Agenda.{key_at}
use Rattle.sg_maxmin.specs.Fill.{share_of}
use Rattle.sg_maxmin.specs.Sharing.{HasLimit}
use Rattle.sg_lazy.specs.RunningFlow.{RunningFlow, running_at, flows_in}
use Rattle.sg_activity.specs.declared.activity_state.Kept.{Kept}
use Rattle.sg_activity_table.specs.declared.kinds.PhaseKind.{PhaseKind}
use Rattle.sg_activity_table.specs.declared.kinds.PhaseKind.TheVariants as phase
use Rattle.sg_activity_table.specs.declared.kinds.Place.{Place as LivePlace}
use Rattle.sg_activity_table.specs.declared.kinds.Place.TheVariants as place_is
use Rattle.sg_activity_table.specs.declared.lives.Live.{Live}
use Rattle.sg_activity.specs.Links.{Capacities, capacities_of}
use Rattle.sg_activity.specs.Task.{Place, Way, nowhere, on_host, over}
use Rattle.sg_activity_table.specs.Kinds.{flows_ahead, takes_share, pace}
use Rattle.sg_activity_table.specs.Pool.{links_of, slot_at, uses_ahead}
use Rattle.sg_activity.specs.kept.State.{State, state_of, links_at, place_of, asked_by, dated, due_at}

-- all different links that exist, one at least and 64 at most; links are counted in 32 bits
pub record IsWay (capacities : Capacities) (way : List LinkId) : Type 0 where
  pub some : way ≢ []
  pub apart : AllPairs (λ a b. a ≢ b) way
  pub exist : All (λ (link : LinkId). link.0 < length capacities.links) way
  pub few : length way ≤ 64
  pub small : length capacities.links ≤ 2 ^ 32

-- the links of a route exist, and the hosts at its ends
pub record IsPath (capacities : Capacities) (way : Way) : Type 0 where
  pub links : IsWay capacities way.links
  pub sender : way.sender < length capacities.hosts
  pub receiver : way.receiver < length capacities.hosts

-- the host exists, or the route does
abbrev pub IsPlace : Capacities → Place → Type 0
IsPlace capacities nowhere = Unit {0}
IsPlace capacities (on_host host) = host < length capacities.hosts
IsPlace capacities (over way) = IsPath capacities way

-- the place of the activity under a key
abbrev pub place_at : State → ℕ → Live → Place
place_at s key live = place_of live.place (links_at s.ways key)

-- it is the place of an execution
abbrev pub IsOnHost : LivePlace → Type 0
IsOnHost (place_is.OnHost host) = Unit {0}
IsOnHost other = ⊥

-- it is the place of a communication
abbrev pub IsOver : LivePlace → Type 0
IsOver (place_is.Over sender receiver count) = Unit {0}
IsOver other = ⊥

-- executions are on hosts, and latencies and flows over routes
abbrev pub IsPlaceOf : PhaseKind → LivePlace → Type 0
IsPlaceOf phase.Latency place = IsOver place
IsPlaceOf phase.Flow place = IsOver place
IsPlaceOf phase.Exec place = IsOnHost place
IsPlaceOf phase.Timer place = Unit {0}
IsPlaceOf phase.Kept place = IsOnHost place

-- the flow of an activity as it runs, which is marked if it began, or otherwise
abbrev pub run_of : State → ℕ → Live → Bool → RunningFlow
run_of s key live marked = record {
  flow = asked_by s key live;
  rate = live.rate;
  began = is_in key s.fresh;
  marked = is_in key s.fresh || marked;
}

-- What takes a share has its flow, which goes at the rate that is kept, and whose key is known.
pub record HasFlow (s : State) (key : ℕ) (live : Live) : Type 0 where
  pub marked : Bool
  pub runs : running_at s.runs live.flow ≡ Some (run_of s key live marked)
  pub limit : HasLimit (asked_by s key live)
  pub within : live.flow < length s.by_flow
  pub known : slice_index s.by_flow live.flow ≡ key

-- The activity under a key: its stamp isn't ahead, its date isn't past, and the agenda has it there. A latency knows of as many links as it has.
pub record IsHeld (s : State) (key : ℕ) (live : Live) : Type 0 where
  pub from : 0 < live.serial
  pub to : live.serial ≤ s.drawn
  pub stamped : live.stamp ≤ s.date
  pub in_time : IfSome (due_at live) (λ due. s.date ≤ due)
  pub small : live.kept ≤ 10 ^ 24
  pub few_bytes : live.bytes ≤ 10 ^ 15
  pub weighs : IsPriority live.weight
  pub paced : takes_share live.kind ≡ false → live.rate ≡ pace live.kind
  pub placed : IsPlace s.capacities (place_at s key live)
  pub fits : IsPlaceOf live.kind live.place
  pub counted : live.kind ≡ phase.Latency → length (links_at s.ways key) ≤ links_of live.place
  pub flow : IsTrue (takes_share live.kind) → HasFlow s key live
  pub dated : key_at s.keys key ≡ dated s.fresh key live

-- each activity id is that of one activity
abbrev pub AreApart : List (Option Live) → Type 0
AreApart slots =
    (i j : ℕ) (one other : Live) → slot_at slots i ≡ Some one → slot_at slots j ≡ Some other → one.serial ≡ other.serial → i ≡ j

-- The number is that of the flow of an activity.
pub record IsFlowOf (s : State) (id : ℕ) : Type 0 where
  pub live : Live
  pub there : slot_at s.slots (slice_index s.by_flow id) ≡ Some live
  pub full : IsTrue (takes_share live.kind)
  pub is : live.flow ≡ id

pub record IsKept (s : State) : Type 0 where
  pub each : (key : ℕ) (live : Live) → slot_at s.slots key ≡ Some live → IsHeld s key live
  pub idle : (key : ℕ) → slot_at s.slots key ≡ None → key_at s.keys key ≡ None
  pub apart : AreApart s.slots
  pub back : (id : ℕ) (running : RunningFlow) → running_at s.runs id ≡ Some running → IsFlowOf s id
  pub fresh : (key : ℕ) → IsTrue (is_in key s.fresh) → key < length s.slots
  pub fresh_now : (key : ℕ) (live : Live) → slot_at s.slots key ≡ Some live → IsTrue (is_in key s.fresh) → live.stamp ≡ s.date
  pub none_fresh : IsTrue s.settled → s.fresh ≡ []
  pub rates : IsTrue s.settled → (id : ℕ) (running : RunningFlow) → running_at s.runs id ≡ Some running →
      running.rate ≡ share_of (capacities_of s.capacities) (flows_in s.runs) running.flow

-- ---- room
abbrev pub slot_ahead : Option Live → ℕ
slot_ahead None = 0
slot_ahead (Some live) = flows_ahead live.kind

abbrev pub slot_uses : Option Live → ℕ
slot_uses None = 0
slot_uses (Some live) = uses_ahead live.kind live.place

-- There is room for the starts that were asked for, whose routes may have 64 links, and for the flows that follow latencies, over their links.
pub record HasRoom (kept : Kept) : Type 0 where
  pub capacities : kept.lazy.capacities ≡ capacities_of (state_of kept).capacities
  pub few : kept.drawn ≤ 10 ^ 9
  pub early : kept.date < 10 ^ 34
  pub flows : kept.flows ≡ kept.room + sum_by slot_ahead kept.lives.slots
  pub flow_room : kept.flows ≤ kept.lazy.flow_room
  pub uses : kept.uses ≡ 64 * kept.room + sum_by slot_uses kept.lives.slots
  pub use_room : kept.uses ≤ kept.lazy.use_room
  pub keys_free : kept.room ≤ kept.lives.room
  pub rows_long : length kept.lives.slots ≤ length kept.index.rows
  pub agenda_long : length kept.lives.slots ≤ length kept.agenda
  pub fresh_room : length kept.lives.slots ≤ kept.fresh.room
  pub by_flow_long : length kept.lazy.slots ≤ length kept.by_flow.items

pub record IsSound (kept : Kept) : Type 0 where
  pub are : IsKept (state_of kept)
  pub room : HasRoom kept
