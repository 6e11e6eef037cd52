-- Laws of max-min shares.
use Rattle.std.specs.Prelude.{◌≡◌, ℕ, ◌<◌, ◌≤◌, ◌+◌, Option, None, Some, IsTrue, IsSome, unwrap_or, List, ◌++◌, length, Contains, sum_by}
use Rattle.sg_maxmin.specs.Fill.{Flow, is_on, level_of, share_of, fill}
use Rattle.sg_maxmin.specs.Fixing.{lowest_limit, steps_from, unfixed}
use Rattle.sg_maxmin.specs.Fair.{IsFair}
use Rattle.sg_maxmin.specs.Sharing.{HasLimit, Changes, flow_at, held, slot_part}

-- something limits each flow
abbrev pub HaveLimits : List Flow → Type 0
HaveLimits flows = (flow : Flow) → Contains flows flow → HasLimit flow

-- no resource is used by flows of both lists
abbrev pub AreApart : List Flow → List Flow → Type 0
AreApart ones others =
    (one other : Flow) → Contains ones one → Contains others other →
    (resource : ℕ) → IsTrue (is_on resource one) → IsTrue (is_on resource other) → ⊥

-- whatever is summed up, it is as much over the one list as over the other: the flows are the same, in whatever order
abbrev pub HaveSameSums : List Flow → List Flow → Type 0
HaveSameSums ones others = (amount : Flow → ℕ) → sum_by amount ones ≡ sum_by amount others

-- Progressive filling is max-min fair.
abbrev pub FillsFairly : Type 0
FillsFairly =
    (capacities : List ℕ) (flows : List Flow) → HaveLimits flows →
    IsFair capacities flows (share_of capacities flows)

-- No flow gets more than its bound.
abbrev pub KeepsBound : Type 0
KeepsBound =
    (capacities : List ℕ) (flows : List Flow) (flow : Flow) (bound : ℕ) →
    HaveLimits flows → Contains flows flow → flow.bound ≡ Some bound →
    share_of capacities flows flow ≤ bound

-- After as many steps as there are flows each flow is fixed.
abbrev pub FixesAll : Type 0
FixesAll =
    (capacities : List ℕ) (flows : List Flow) (flow : Flow) → HaveLimits flows → Contains flows flow →
    IsSome (steps_from (length flows) capacities flows unfixed flow)

-- The level of a flow is the one at which the steps fix it.
abbrev pub LevelIsFixed : Type 0
LevelIsFixed =
    (capacities : List ℕ) (flows : List Flow) (flow : Flow) →
    level_of capacities flows flow ≡ unwrap_or (steps_from (length flows) capacities flows unfixed flow) 0

-- A flow is fixed once: in whichever step it is, at its level.
abbrev pub FixesOnce : Type 0
FixesOnce =
    (capacities : List ℕ) (flows : List Flow) (n : ℕ) (flow : Flow) (level : ℕ) →
    HaveLimits flows → Contains flows flow →
    steps_from n capacities flows unfixed flow ≡ Some level → level ≡ level_of capacities flows flow

-- The lowest level rises strictly from step to step, as long as a flow is left to be fixed.
abbrev pub LevelRises : Type 0
LevelRises =
    (capacities : List ℕ) (flows : List Flow) (n : ℕ) (flow : Flow) →
    HaveLimits flows → Contains flows flow →
    steps_from (n + 1) capacities flows unfixed flow ≡ None →
    lowest_limit capacities flows (steps_from n capacities flows unfixed) <
    lowest_limit capacities flows (steps_from (n + 1) capacities flows unfixed)

-- If two lists of flows share no resource, the max-min shares of both are those of each.
abbrev pub FillsApart : Type 0
FillsApart =
    (capacities : List ℕ) (ones others : List Flow) →
    HaveLimits ones → HaveLimits others → AreApart ones others →
    fill capacities (ones ++ others) ≡ fill capacities ones ++ fill capacities others

-- A flow that shares no resource with what comes and goes keeps its share.
abbrev pub KeepsShare : Type 0
KeepsShare =
    (capacities : List ℕ) (before after kept : List Flow) (flow : Flow) →
    HaveLimits before → HaveLimits after → HaveLimits kept →
    AreApart before kept → AreApart after kept → Contains kept flow →
    share_of capacities (before ++ kept) flow ≡ share_of capacities (after ++ kept) flow

-- Equal sums, equal shares: the order in which flows are listed doesn't matter.
abbrev pub SharesSame : Type 0
SharesSame =
    (capacities : List ℕ) (ones others : List Flow) (flow : Flow) →
    HaveSameSums ones others → HaveLimits others → Contains ones flow →
    share_of capacities ones flow ≡ share_of capacities others flow

-- A sum over the flows that are held changes by what comes or goes.
abbrev pub SumsChange : Type 0
SumsChange =
    (amount : Flow → ℕ) (old new : List (Option Flow)) (id : ℕ) (slot : Option Flow) →
    Changes old new id slot →
    sum_by amount (held new) + slot_part amount (flow_at old id) ≡
    sum_by amount (held old) + slot_part amount slot

-- The flow under an id is one of the flows that are held.
abbrev pub IsHeld : Type 0
IsHeld = (slots : List (Option Flow)) (id : ℕ) (flow : Flow) → flow_at slots id ≡ Some flow → Contains (held slots) flow
