-- What a `Levels` keeps, and what a change and the processing of a resource do to it.
use Rattle.std.specs.Prelude.{◌≡◌, ◌≢◌, ℕ, ◌+◌, ◌-◌, ◌*◌, ◌^◌, ◌<◌, ◌≤◌, Bool, true, false, ◌||◌, is_none, Option, None, Some, IsTrue, IsSome, IfSome, List, [], ◌∷◌, length, sum_by, slice_index, slice_set, ◌==◌, if◌then◌else◌}
use Rattle.sg_base.specs.MarkSet.{is_in, with_mark}
use Rattle.sg_maxmin.specs.Chained.{times, users_on}
use Rattle.sg_maxmin.specs.Fill.{Flow, level_of, share_of}
use Rattle.sg_maxmin.specs.Sharing.{Sharing, IsSound, Changes, flow_at, held, uses_at}
use Rattle.sg_maxmin_levels.specs.declared.hold.Above.{Above}
use Rattle.sg_maxmin_levels.specs.declared.hold.Rest.{Rest}
use Rattle.sg_maxmin_levels.specs.declared.levels.Levels.{Levels}
use Rattle.sg_maxmin.specs.Numbered.{below_at, flow_in, level_at, row_level, row_taken, row_waiting, weight_at}
use Rattle.sg_maxmin_levels.specs.Demand.{demand_of}
use Rattle.sg_maxmin.specs.Found.{PassAlong}
use Rattle.sg_maxmin.specs.Held.{AreFilled, AreHeld, IsAtMost, IsHold}
use Rattle.sg_maxmin_levels.specs.Settling.{AreNoted, AreSettling, AreSettlingBut, AreSettlingOn, is_active}

-- there is a place for each flow and each resource of a system
pub record HasPlaces (s : Sharing) (kept : Levels) : Type 0 where
  pub sound : IsSound s
  pub levels : length s.slots ≤ length kept.levels.items
  pub parts : length s.slots ≤ length kept.parts.items
  pub moved : length s.slots ≤ kept.moved.room
  pub stale : length s.slots ≤ kept.stale.room
  pub holds : length kept.holds.items ≡ length s.capacities
  pub demands : length kept.demands.items ≡ length s.capacities
  pub counts : length kept.counts.items ≡ length s.capacities
  pub active : kept.active.room ≡ length s.capacities

-- and the resource is one
pub record HasResource (s : Sharing) (all : Levels) (r : ℕ) : Type 0 where
  pub places : HasPlaces s all
  pub resource : r < length s.capacities

-- The demand on each resource is the sum of its flows' parts in it; if there is no flow there is no part; and no flow has more
-- uses than the longest. A resource has as many users as are counted, or more.
pub record IsKept (s : Sharing) (kept : Levels) : Type 0 where
  pub places : HasPlaces s kept
  pub demands : (c : ℕ) → slice_index kept.demands.items c ≡ sum_by (slice_index kept.parts.items) (users_on s.users c)
  pub fit : (id : ℕ) → slice_index kept.parts.items id ≤ 2 ^ 65
  pub none : (id : ℕ) → flow_at s.slots id ≡ None → slice_index kept.parts.items id ≡ 0
  pub longest : (id : ℕ) → length (uses_at s.slots id) ≤ kept.longest
  pub counts : (c : ℕ) → slice_index kept.counts.items c ≤ length (users_on s.users c)

-- and the flow is held
pub record HasFlow (s : Sharing) (all : Levels) (id : ℕ) : Type 0 where
  pub kept : IsKept s all
  pub held : IsSome (flow_at s.slots id)

-- and, unless the flow is stale, its part is what it asks for at its level
pub record CanGive (s : Sharing) (all : Levels) (id : ℕ) : Type 0 where
  pub of : HasFlow s all id
  pub part : is_in id all.stale.members ≡ false → slice_index all.parts.items id ≡ demand_of (flow_in s.slots id) (level_at all.levels.items id)

-- and the flow is a user of the resource
pub record IsUser (s : Sharing) (all : Levels) (r id : ℕ) : Type 0 where
  pub kept : IsKept s all
  pub resource : r < length s.capacities
  pub user : is_in id (users_on s.users r) ≡ true

-- a flow's part is what it asks for at its level, except for some flows
abbrev pub AreParts : Sharing → Levels → List ℕ → Type 0
AreParts s kept but = (id : ℕ) → IsSome (flow_at s.slots id) → is_in id but ≡ false → slice_index kept.parts.items id ≡ demand_of (flow_in s.slots id) (level_at kept.levels.items id)

-- what is written is right of what isn't active
pub record IsSettling (s : Sharing) (all : Levels) : Type 0 where
  pub kept : IsKept s all
  pub parts : AreParts s all []
  pub written : AreSettling s all.levels.items all.holds.items all.active.members

-- and the resource is one
pub record IsSettlingAt (s : Sharing) (all : Levels) (r : ℕ) : Type 0 where
  pub settling : IsSettling s all
  pub resource : r < length s.capacities

-- and there it holds its flows, if at any level
pub record HasHold (s : Sharing) (all : Levels) (r : ℕ) (hold : Option ℕ) : Type 0 where
  pub at : IsSettlingAt s all r
  pub hold_is : IsHold (slice_index s.capacities r) s.slots all.levels.items (users_on s.users r) hold

-- the same while the users of a resource are updated
pub record IsSettlingOn (s : Sharing) (all : Levels) (resource : ℕ) (was : Option ℕ) (todo : List ℕ) : Type 0 where
  pub parts : AreParts s all []
  pub written : AreSettlingOn s all.levels.items all.holds.items all.active.members resource was todo

-- the same between rate updates; these flows, which are held, began or got another bound since they were given their levels
pub record IsBetweenBut (s : Sharing) (all : Levels) (stale : List ℕ) : Type 0 where
  pub kept : IsKept s all
  pub parts : AreParts s all stale
  pub alive : (id : ℕ) → is_in id stale ≡ true → IsSome (flow_at s.slots id)
  pub written : AreSettlingBut s all.levels.items all.holds.items all.active.members stale

-- and these are noted
abbrev pub IsBetween : Sharing → Levels → Type 0
IsBetween s all = IsBetweenBut s all all.stale.members

-- and the flow is held
pub record HasFlowBetween (s : Sharing) (all : Levels) (id : ℕ) : Type 0 where
  pub between : IsBetween s all
  pub held : IsSome (flow_at s.slots id)

-- a flow whose level changed is noted, and those that were noted stay so
abbrev pub NotesMoved : Levels → Levels → Type 0
NotesMoved old new = AreNoted old.moved new.moved old.levels.items new.levels.items

-- A flow that isn't noted is as it was, with its level; and those that were noted stay so.
pub record NotesChanged (s t : Sharing) (old new : Levels) : Type 0 where
  pub grows : (id : ℕ) → is_in id old.moved.members ≡ true → is_in id new.moved.members ≡ true
  pub same : (id : ℕ) (flow : Flow) → flow_at t.slots id ≡ Some flow → is_in id new.moved.members ≡ false → (flow_at s.slots id ≡ Some flow) × (level_at new.levels.items id ≡ level_at old.levels.items id)

-- the flow has this level, with its part, and is noted, and no other level and no hold changes
pub record IsMoved (s : Sharing) (old new : Levels) (flow : ℕ) (level : Option ℕ) : Type 0 where
  pub level_is : new.levels.items ≡ slice_set old.levels.items flow level
  pub part_is : new.parts.items ≡ slice_set old.parts.items flow (demand_of (flow_in s.slots flow) level)
  pub noted : new.moved ≡ record old.moved { members = with_mark flow old.moved.members }
  pub stale : new.stale ≡ old.stale
  pub holds : new.holds.items ≡ old.holds.items

-- and what is kept stays right; each use of the flow is visited once
pub record MovesTo (s : Sharing) (flow : ℕ) (level : Option ℕ) (old new : Levels) (before after : ℕ) : Type 0 where
  pub moved : IsMoved s old new flow level
  pub kept : IsKept s new
  pub looks : after ≡ before + length (uses_at s.slots flow)

-- only the demands and the counts change, and which resources are active
pub record KeepsLevels (old new : Levels) : Type 0 where
  pub levels : new.levels.items ≡ old.levels.items
  pub parts : new.parts.items ≡ old.parts.items
  pub moved : new.moved ≡ old.moved
  pub stale : new.stale ≡ old.stale
  pub longest : new.longest ≡ old.longest
  pub holds : new.holds.items ≡ old.holds.items
  pub demands : length new.demands.items ≡ length old.demands.items
  pub counts : length new.counts.items ≡ length old.counts.items
  pub active : new.active.room ≡ old.active.room

-- only the room changes, and it doesn't shrink
pub record KeepsAll (old new : Levels) : Type 0 where
  pub levels : (id : ℕ) → level_at new.levels.items id ≡ level_at old.levels.items id
  pub parts : (id : ℕ) → slice_index new.parts.items id ≡ slice_index old.parts.items id
  pub moved : new.moved.members ≡ old.moved.members
  pub stale : new.stale.members ≡ old.stale.members
  pub longest : new.longest ≡ old.longest
  pub holds : new.holds.items ≡ old.holds.items
  pub demands : new.demands.items ≡ old.demands.items
  pub counts : new.counts.items ≡ old.counts.items
  pub active : new.active ≡ old.active
  pub levels_room : length old.levels.items ≤ length new.levels.items
  pub parts_room : length old.parts.items ≤ length new.parts.items
  pub moved_room : old.moved.room ≤ new.moved.room
  pub stale_room : old.stale.room ≤ new.stale.room

-- there is room for so many numbers of flows
pub record HasRoom (n : ℕ) (kept : Levels) : Type 0 where
  pub levels : n ≤ length kept.levels.items
  pub parts : n ≤ length kept.parts.items
  pub moved : n ≤ kept.moved.room
  pub stale : n ≤ kept.stale.room

-- right of each system of so many resources without a flow
abbrev pub IsFresh : ℕ → Levels → Type 0
IsFresh resources kept = (s : Sharing) → IsSound s → s.slots ≡ [] → length s.capacities ≡ resources → IsBetween s kept

-- one more flow, under a number that was free
pub record IsStarted (s t : Sharing) (id : ℕ) (flow : Flow) : Type 0 where
  pub free : flow_at s.slots id ≡ None
  pub in_range : id < length s.slots
  pub added : Changes s.slots t.slots id (Some flow)
  pub numbers : length t.slots ≡ length s.slots
  pub capacities : t.capacities ≡ s.capacities
  pub flow_room : t.flow_room + 1 ≡ s.flow_room
  pub use_room : t.use_room + length flow.uses ≡ s.use_room

-- a flow less
pub record IsEnded (s t : Sharing) (id : ℕ) : Type 0 where
  pub removed : Changes s.slots t.slots id None
  pub numbers : length t.slots ≡ length s.slots
  pub capacities : t.capacities ≡ s.capacities
  pub flow_room : t.flow_room ≡ s.flow_room + 1
  pub use_room : t.use_room ≡ s.use_room + length (uses_at s.slots id)

-- at each of these resources one part of the demand may stand for another: it is no more than the demand, and this runs over nowhere
pub record CanShift (before after : ℕ) (resources demands : List ℕ) : Type 0 where
  pub some : (c : ℕ) → times c resources * before ≤ slice_index demands c
  pub fits : (c : ℕ) → slice_index demands c + times c resources * after < 2 ^ 128

-- at each of these resources one part of the demand stands for another
abbrev pub Shifts : ℕ → ℕ → List ℕ → List ℕ → List ℕ → Type 0
Shifts before after resources old new = (c : ℕ) → slice_index new c + times c resources * before ≡ slice_index old c + times c resources * after

-- no more users are counted, and if a part ends one less at each of these resources
abbrev pub Lessens : ℕ → List ℕ → Levels → Levels → Type 0
Lessens after resources old new = (c : ℕ) → slice_index new.counts.items c ≤ slice_index old.counts.items c - (if after == 0 then times c resources else 0)

-- these resources are active, and those that were stay so
abbrev pub ActivatesAll : List ℕ → List ℕ → List ℕ → Type 0
ActivatesAll resources old new = (r : ℕ) → is_active new r ≡ false → (is_active old r ≡ false) × (is_in r resources ≡ false)

-- and no others are that weren't
abbrev pub ActivatesOnly : List ℕ → List ℕ → List ℕ → Type 0
ActivatesOnly resources old new = (r : ℕ) → is_active new r ≡ true → is_in r resources ≡ false → is_active old r ≡ true

-- both
pub record Activates (resources old new : List ℕ) : Type 0 where
  pub all : ActivatesAll resources old new
  pub only : ActivatesOnly resources old new

-- a visit to each use of a flow: its resources are active, and in the demand on each one part stands for another; if that is none, a user less is counted
pub record VisitsUses (s : Sharing) (flow part next : ℕ) (old new : Levels) (before after : ℕ) : Type 0 where
  pub activates : Activates (uses_at s.slots flow) old.active.members new.active.members
  pub shifts : Shifts part next (uses_at s.slots flow) old.demands.items new.demands.items
  pub counts : Lessens next (uses_at s.slots flow) old new
  pub levels : KeepsLevels old new
  pub looks : after ≡ before + length (uses_at s.slots flow)

-- the same except for one of them, which stays as it was
abbrev pub ActivatesBut : ℕ → List ℕ → List ℕ → List ℕ → Type 0
ActivatesBut but resources old new = (r : ℕ) → is_active new r ≡ false → (is_active old r ≡ false) × (is_in r resources ≡ true → r ≡ but)

-- a test of flows and one of resources hold of all that is active, noted or stale
pub record IsWithin (flows resources : ℕ → Bool) (all : Levels) : Type 0 where
  pub active : (r : ℕ) → is_active all.active.members r ≡ true → IsTrue (resources r)
  pub moved : (id : ℕ) → is_in id all.moved.members ≡ true → IsTrue (flows id)
  pub stale : (id : ℕ) → is_in id all.stale.members ≡ true → IsTrue (flows id)

-- nothing is active, noted or stale
abbrev pub IsUnmarked : Levels → Type 0
IsUnmarked all = (p q : ℕ → Bool) → IsWithin p q all

-- no more is than was
abbrev pub MarksNoMore : Levels → Levels → Type 0
MarksNoMore old new = (p q : ℕ → Bool) → IsWithin p q old → IsWithin p q new

-- if they hold of this flow, of this resource or of these, and of all that was active, noted or stale, they hold of all that is
abbrev pub FlowJoins : ℕ → Levels → Levels → Type 0
FlowJoins flow old new = (p q : ℕ → Bool) → IsTrue (p flow) → IsWithin p q old → IsWithin p q new

abbrev pub ResourceJoins : ℕ → Levels → Levels → Type 0
ResourceJoins resource old new = (p q : ℕ → Bool) → IsTrue (q resource) → IsWithin p q old → IsWithin p q new

abbrev pub FlowStaysWithin : Sharing → ℕ → Levels → Levels → Type 0
FlowStaysWithin s flow old new = (p q : ℕ → Bool) → PassAlong s p q → IsTrue (p flow) → IsWithin p q old → IsWithin p q new

-- what is kept stays right, and what a flow moves is noted and connected
pub record Moves (s : Sharing) (flow : ℕ) (old new : Levels) : Type 0 where
  pub kept : IsKept s new
  pub moved : NotesMoved old new
  pub within : FlowStaysWithin s flow old new

-- a user of a resource with a new hold is updated; the flow's uses are visited so often
pub record SettlesUser (s : Sharing) (resource : ℕ) (was : Option ℕ) (flow : ℕ) (old new : Levels) (times before after : ℕ) : Type 0 where
  pub settles : (todo : List ℕ) → IsSettlingOn s old resource was (flow ∷ todo) → IsSettlingOn s new resource was todo
  pub moves : Moves s flow old new
  pub looks : after ≤ before + times * length (uses_at s.slots flow)
  pub few : times ≤ 2

abbrev pub ResourceStaysWithin : Sharing → ℕ → Levels → Levels → Type 0
ResourceStaysWithin s resource old new = (p q : ℕ → Bool) → PassAlong s p q → IsTrue (q resource) → IsWithin p q old → IsWithin p q new

-- what is written stays right, and what the processing of a resource moves is noted and connected
pub record Settles (s : Sharing) (resource : ℕ) (old new : Levels) : Type 0 where
  pub settling : IsSettling s new
  pub moved : NotesMoved old new
  pub within : ResourceStaysWithin s resource old new

-- and each user is visited once, and the uses of one so often
pub record SettlesUsers (s : Sharing) (resource : ℕ) (old new : Levels) (times before after : ℕ) : Type 0 where
  pub settles : Settles s resource old new
  pub looks : after ≤ before + length (users_on s.users resource) + times * old.longest
  pub few : times ≤ 2 * length (users_on s.users resource)

abbrev pub UsesStayWithin : List ℕ → Levels → Levels → Type 0
UsesStayWithin resources old new = (p q : ℕ → Bool) → ((r : ℕ) → is_in r resources ≡ true → IsTrue (q r)) → IsWithin p q old → IsWithin p q new

-- What a change of the system does: what is kept stays right, each flow that changed is noted, and what is active, noted or stale is what was, and what the change adds.
pub record KeepsUp (s t : Sharing) (Joins : Levels → Levels → Type 0) (old new : Levels) : Type 0 where
  pub between : IsBetween t new
  pub changed : NotesChanged s t old new
  pub joins : Joins old new

abbrev pub StaysWithin : Sharing → Levels → Levels → Type 0
StaysWithin s old new = (p q : ℕ → Bool) → PassAlong s p q → IsWithin p q old → IsWithin p q new

-- what the flows of levels below this one leave of a resource, and the weight of the others
pub record IsRest (s : Sharing) (resource : ℕ) (levels : List (Option ℕ)) (low left waiting : ℕ) : Type 0 where
  pub left_is : left ≡ slice_index s.capacities resource - row_taken s.slots (below_at levels low) (users_on s.users resource)
  pub waiting_is : waiting ≡ row_waiting s.slots (below_at levels low) (users_on s.users resource)

-- the level of a resource with the flows of levels below this one fixed, if a flow waits there
pub record IsLevelAbove (s : Sharing) (resource : ℕ) (levels : List (Option ℕ)) (low : ℕ) (level : Option ℕ) : Type 0 where
  pub none : level ≡ None → row_waiting s.slots (below_at levels low) (users_on s.users resource) ≡ 0
  pub some : IfSome level (λ x. (0 < row_waiting s.slots (below_at levels low) (users_on s.users resource)) × (x ≡ row_level (slice_index s.capacities resource) s.slots (below_at levels low) (users_on s.users resource)))

-- no flow of a row that waits there has a level below this one
abbrev pub WaitFrom : List (Option ℕ) → ℕ → List ℕ → ℕ → Type 0
WaitFrom levels low row least = (id : ℕ) → is_in id row ≡ true → below_at levels low id ≡ None → IsAtMost (Some least) (level_at levels id)

-- a pass over the users of a resource visits each once, and so many visits suffice
pub record IsPass (s : Sharing) (resource looks users : ℕ) : Type 0 where
  pub all : users ≡ length (users_on s.users resource)
  pub few : users ≤ looks

-- the resource of a sound system is one, and there is a level for each flow
pub record CanPass (s : Sharing) (resource : ℕ) (levels : List (Option ℕ)) : Type 0 where
  pub sound : IsSound s
  pub exists : resource < length s.capacities
  pub levels_len : length s.slots ≤ length levels

-- the flow is held, and with it neither the weights that wait nor the users run over
pub record CanCount (s : Sharing) (id : ℕ) (rest : Rest) : Type 0 where
  pub sound : IsSound s
  pub held : IsSome (flow_at s.slots id)
  pub fits : rest.waiting + weight_at s.slots id < 2 ^ 64
  pub few : rest.users + 1 < 2 ^ 64

-- what a first pass over the users of a resource found, with none of them fixed
pub record IsFirstPass (s : Sharing) (resource : ℕ) (levels : List (Option ℕ)) (looks : ℕ) (first : Above) : Type 0 where
  pub level_is : IsLevelAbove s resource levels 0 first.level
  pub least_is : WaitFrom levels 0 (users_on s.users resource) first.least
  pub pass : IsPass s resource looks first.users

-- the visits that suffice for the hold of a resource with so many users
abbrev pub hold_looks : ℕ → ℕ
hold_looks users = (users + 2) * users

-- What two stretches of time note, they note together.
abbrev pub NotesAddUp : Type 0
NotesAddUp = (s t u : Sharing) (a b c : Levels) → NotesChanged s t a b → NotesChanged t u b c → NotesChanged s u a c

-- If the levels before and after are the max-min levels, a flow that isn't noted was there before, with the same share.
abbrev pub SharesAreNoted : Type 0
SharesAreNoted =
    (s t : Sharing) (old new : Levels) → NotesChanged s t old new → AreFilled s old.levels.items → AreFilled t new.levels.items →
    (id : ℕ) (flow : Flow) → flow_at t.slots id ≡ Some flow → is_in id new.moved.members ≡ false →
    (flow_at s.slots id ≡ Some flow) × (share_of s.capacities (held s.slots) flow ≡ share_of t.capacities (held t.slots) flow)

-- The component has its max-min levels, and holds that are right of them; all else is unchanged.
pub record IsRefilled (s : Sharing) (flows resources : ℕ → Bool) (old new : Levels) : Type 0 where
  pub filled : (id : ℕ) (flow : Flow) → flow_at s.slots id ≡ Some flow → IsTrue (flows id) → level_at new.levels.items id ≡ Some (level_of s.capacities (held s.slots) flow)
  pub other_flows : (id : ℕ) → flows id ≡ false → level_at new.levels.items id ≡ level_at old.levels.items id
  pub held_at : (r : ℕ) → r < length s.capacities → IsTrue (resources r) → IsHold (slice_index s.capacities r) s.slots new.levels.items (users_on s.users r) (level_at new.holds.items r)
  pub other_resources : (r : ℕ) → resources r ≡ false → level_at new.holds.items r ≡ level_at old.holds.items r

-- The fallback when no visits remain: the connected components of all that is active or stale are solved, and then all flows are held.
abbrev pub WayBack : Type 0
WayBack =
    (s : Sharing) (old new : Levels) (flows resources : ℕ → Bool) → IsSound s → IsBetween s old → PassAlong s flows resources → IsWithin flows resources old →
    IsRefilled s flows resources old new → AreHeld s new.levels.items (level_at new.holds.items)

-- it is one of these, or that of no flow
abbrev pub is_one_of : List ℕ → List (Option Flow) → ℕ → Bool
is_one_of flows slots id = is_in id flows || is_none (flow_at slots id)

-- the flow has this level, with its part, and no other level, no other part and no hold changes
pub record IsGiven (s : Sharing) (old new : Levels) (flow : ℕ) (level : Option ℕ) : Type 0 where
  pub here : level_at new.levels.items flow ≡ level
  pub part : slice_index new.parts.items flow ≡ demand_of (flow_in s.slots flow) level
  pub others : (id : ℕ) → id ≢ flow → level_at new.levels.items id ≡ level_at old.levels.items id
  pub other_parts : (id : ℕ) → id ≢ flow → slice_index new.parts.items id ≡ slice_index old.parts.items id
  pub holds : new.holds.items ≡ old.holds.items
  pub stale : new.stale ≡ old.stale

-- these flows have these levels, with their parts, and no other level, no other part and no hold changes
pub record AreGiven (s : Sharing) (flows : List ℕ) (levels : List (Option ℕ)) (old new : Levels) : Type 0 where
  pub here : (id : ℕ) → is_in id flows ≡ true → level_at new.levels.items id ≡ level_at levels id
  pub parts : (id : ℕ) → is_in id flows ≡ true → slice_index new.parts.items id ≡ demand_of (flow_in s.slots id) (level_at levels id)
  pub others : (id : ℕ) → is_in id flows ≡ false → level_at new.levels.items id ≡ level_at old.levels.items id
  pub other_parts : (id : ℕ) → is_in id flows ≡ false → slice_index new.parts.items id ≡ slice_index old.parts.items id
  pub holds : new.holds.items ≡ old.holds.items
  pub stale : new.stale ≡ old.stale

-- only the holds change
pub record KeepsFlows (old new : Levels) : Type 0 where
  pub levels : new.levels.items ≡ old.levels.items
  pub parts : new.parts.items ≡ old.parts.items
  pub moved : new.moved ≡ old.moved
  pub stale : new.stale ≡ old.stale
  pub longest : new.longest ≡ old.longest
  pub demands : new.demands.items ≡ old.demands.items
  pub counts : new.counts.items ≡ old.counts.items
  pub holds : length new.holds.items ≡ length old.holds.items
  pub active : new.active ≡ old.active

-- these resources hold their flows there; all else is as it was
pub record AreHeldAt (resources : List ℕ) (holds : List (Option ℕ)) (old new : Levels) : Type 0 where
  pub here : (r : ℕ) → is_in r resources ≡ true → level_at new.holds.items r ≡ level_at holds r
  pub others : (r : ℕ) → is_in r resources ≡ false → level_at new.holds.items r ≡ level_at old.holds.items r
  pub flows : KeepsFlows old new

abbrev pub FlowsStayWithin : Sharing → List ℕ → Levels → Levels → Type 0
FlowsStayWithin s flows old new = (p q : ℕ → Bool) → PassAlong s p q → ((id : ℕ) → is_in id flows ≡ true → IsTrue (p id)) → IsWithin p q old → IsWithin p q new
