-- What contracts see of a `System`.
use Rattle.std.specs.Prelude.{◌≡◌, ◌≢◌, ℕ, ◌<◌, ◌≤◌, ◌+◌, ◌^◌, Option, None, Some, IsSome, List, [], length, filter_map, slice_index, slice_index_or, All, AllPairs, sum_by, refl}
use Rattle.std.specs.Coded.{Coded, code_by, coded×, coded_ℕ, coded_list, coded_option}
use Rattle.sg_maxmin.specs.declared.uses.Use.{Use}
use Rattle.sg_maxmin.specs.Chained.{times, users_on, use_code}
use Rattle.sg_maxmin.specs.Fill.{Flow, flow, share_of}

-- the capacities, the flow or nothing under each id, the share under each id, the use or nothing under each number of a use, the flows on each resource, and room for so many flows and uses more
pub record Sharing : Type 0 where
  pub capacities : List ℕ
  pub slots : List (Option Flow)
  pub shares : List ℕ
  pub uses : List (Option Use)
  pub users : List (List ℕ)
  pub flow_room : ℕ
  pub use_room : ℕ

abbrev pub flow_code : Coded Flow
flow_code = code_by (List ℕ × (ℕ × Option ℕ)) (coded× (coded_list coded_ℕ) (coded× coded_ℕ (coded_option coded_ℕ))) (λ f. (f.uses, (f.weight, f.bound))) (λ p. flow p.0 p.1.0 p.1.1) (λ _. refl)

abbrev pub sharing_code : Coded Sharing
sharing_code =
    code_by
    (List ℕ × (List (Option Flow) × (List ℕ × (List (Option Use) × (List (List ℕ) × (ℕ × ℕ))))))
    (coded× (coded_list coded_ℕ) (coded× (coded_list (coded_option flow_code)) (coded× (coded_list coded_ℕ) (coded× (coded_list (coded_option use_code)) (coded× (coded_list (coded_list coded_ℕ)) (coded× coded_ℕ coded_ℕ))))))
    (λ s. (s.capacities, (s.slots, (s.shares, (s.uses, (s.users, (s.flow_room, s.use_room)))))))
    (λ p. record { capacities = p.0; slots = p.1.0; shares = p.1.1.0; uses = p.1.1.1.0; users = p.1.1.1.1.0; flow_room = p.1.1.1.1.1.0; use_room = p.1.1.1.1.1.1 })
    (λ _. refl)

-- the flow under an id
abbrev pub flow_at : List (Option Flow) → ℕ → Option Flow
flow_at slots id = slice_index_or slots id None

-- the flows that are held
abbrev pub held : List (Option Flow) → List Flow
held slots = filter_map (λ slot. slot) slots

-- no flow is held
abbrev pub HoldsNone : List (Option Flow) → Type 0
HoldsNone slots = (id : ℕ) → flow_at slots id ≡ None

-- what a slot adds to a sum over the flows
abbrev pub slot_part : (Flow → ℕ) → Option Flow → ℕ
slot_part amount None = 0
slot_part amount (Some flow) = amount flow

-- something limits the flow: it has a weight, and if it uses no resource it has a bound
pub record HasLimit (flow : Flow) : Type 0 where
  pub weighs : 0 < flow.weight
  pub bounds : flow.uses ≡ [] → IsSome flow.bound

-- the flow's resources exist, and each is listed once; its weight fits 32 bits, and something limits it
pub record IsFlow (capacities : List ℕ) (flow : Flow) : Type 0 where
  pub exist : All (λ resource. resource < length capacities) flow.uses
  pub once : AllPairs (λ a b. a ≢ b) flow.uses
  pub light : flow.weight < 2 ^ 32
  pub limit : HasLimit flow

-- under the id is this now, and under each other id what was there
pub record Changes (old new : List (Option Flow)) (id : ℕ) (slot : Option Flow) : Type 0 where
  pub changed : flow_at new id ≡ slot
  pub others : (other : ℕ) → other ≢ id → flow_at new other ≡ flow_at old other

-- each flow has its share
abbrev pub AreShares : Sharing → Type 0
AreShares s = (id : ℕ) (flow : Flow) → flow_at s.slots id ≡ Some flow → slice_index s.shares id ≡ share_of s.capacities (held s.slots) flow

-- how many uses the flows have
abbrev pub use_count : Sharing → ℕ
use_count s = sum_by (λ flow. length flow.uses) (held s.slots)

-- under each number is what was there, and there are at most so many more numbers
pub record IsExtended (old new : List (Option Flow)) (more : ℕ) : Type 0 where
  pub same : (id : ℕ) → flow_at new id ≡ flow_at old id
  pub longer : length old ≤ length new
  pub few : length new ≤ length old + more

-- the share under each other id is what it was
abbrev pub KeepsShares : List ℕ → List ℕ → ℕ → Type 0
KeepsShares old new id = (other : ℕ) → other ≢ id → slice_index new other ≡ slice_index old other

-- the resources of a flow, and none if there is no flow
abbrev pub uses_in : Option Flow → List ℕ
uses_in None = []
uses_in (Some flow) = flow.uses

abbrev pub uses_at : List (Option Flow) → ℕ → List ℕ
uses_at slots id = uses_in (flow_at slots id)

-- a flow stands among those on a resource as often as the resource among its own
abbrev pub AreBothWays : List (Option Flow) → List (List ℕ) → Type 0
AreBothWays slots users = (id resource : ℕ) → times id (users_on users resource) ≡ times resource (uses_at slots id)

-- what holds of every system
pub record IsSound (s : Sharing) : Type 0 where
  pub flows : (id : ℕ) (flow : Flow) → flow_at s.slots id ≡ Some flow → IsFlow s.capacities flow
  pub both : AreBothWays s.slots s.users
  pub users_len : length s.users ≡ length s.capacities
  pub few : length s.slots ≤ 2 ^ 32
