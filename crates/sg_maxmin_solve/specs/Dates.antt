-- Keys of resources: in a long solve, the level of each resource on which a flow waits.
use Rattle.std.specs.Prelude.{◌≡◌, ℕ, ◌==◌, ◌⊎◌, true, false, if◌then◌else◌, Option, None, Some, IsSome, List, slice_index}
use Rattle.sg_base.specs.MarkSet.{is_in}
use Rattle.sg_heap.specs.Agenda.{Key, key_at}
use Rattle.sg_maxmin_solve.specs.declared.filling.Filling.{Filling}

-- a resource's key: its level, if a flow waits there
abbrev pub key_where : ℕ → ℕ → Option Key
key_where waiting level = if waiting == 0 then None else Some (record { date = level; serial = 0 })

-- a resource has a key
abbrev pub HaveKeys : List (Option Key) → Type 0
HaveKeys keys = (c : ℕ) × IsSome (key_at keys c)

-- no resource has a key
abbrev pub HaveNone : List (Option Key) → Type 0
HaveNone keys = (c : ℕ) → key_at keys c ≡ None

-- nobody waits at a resource, and none has a key
pub record IsIdle (filling : Filling) : Type 0 where
  pub waiting : (c : ℕ) → slice_index filling.waiting.items c ≡ 0
  pub keys : HaveNone filling.agenda

-- each resource has the key of its level, if a flow waits there, and else none
abbrev pub AreRight : Filling → Type 0
AreRight filling = (c : ℕ) → key_at filling.agenda c ≡ key_where (slice_index filling.waiting.items c) (slice_index filling.levels.items c)

-- nobody waits except at the reached resources, and no resource has a key, or all keys are right
pub record AreDated (reached : List ℕ) (filling : Filling) : Type 0 where
  pub quiet : (c : ℕ) → is_in c reached ≡ false → slice_index filling.waiting.items c ≡ 0
  pub keys : HaveNone filling.agenda ⊎ AreRight filling

-- these resources have the keys of their levels, and the others those that they had
pub record AreRenewed (listed : List ℕ) (keys : List (Option Key)) (filling : Filling) : Type 0 where
  pub listed_are : (c : ℕ) → is_in c listed ≡ true → key_at filling.agenda c ≡ key_where (slice_index filling.waiting.items c) (slice_index filling.levels.items c)
  pub others : (c : ℕ) → is_in c listed ≡ false → key_at filling.agenda c ≡ key_at keys c

-- a step's changes of keys: those of the stale resources are right again, or there were none
abbrev pub StayDated : List ℕ → List (Option Key) → Filling → Type 0
StayDated stale keys filling = (HaveKeys keys × AreRenewed stale keys filling) ⊎ (HaveNone keys × (filling.agenda ≡ keys))
