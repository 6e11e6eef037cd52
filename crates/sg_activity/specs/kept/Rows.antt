-- What is used under each key.
use Rattle.std.specs.Prelude.{◌≡◌, ◌≢◌, ℕ, ◌+◌, ◌-◌, ◌<◌, ◌≤◌, ◌^◌, Option, None, List, [], All, drop, length, map, slice_index_or}
use Rattle.sg_base.specs.declared.ids.LinkId.{LinkId}
use Rattle.sg_maxmin.specs.declared.uses.Use.{Use}
use Rattle.sg_maxmin.specs.Chain.{IsChain, resources}
use Rattle.sg_maxmin.specs.Chained.{Chained, times, users_on}
use Rattle.sg_activity.specs.declared.index.Uses.{Uses}

-- By key what is used, the use under each number or nothing, the keys of those that use each thing, and room for so many more uses.
pub record Indexed : Type 0 where
  pub rows : List (List ℕ)
  pub uses : List (Option Use)
  pub users : List (List ℕ)
  pub room : ℕ

-- what is used under a key
abbrev pub row_at : List (List ℕ) → ℕ → List ℕ
row_at rows key = slice_index_or rows key []

-- Under the key these things are used now, and under each other key those that were.
pub record IsRow (old new : List (List ℕ)) (key : ℕ) (things : List ℕ) : Type 0 where
  pub here : row_at new key ≡ things
  pub others : (other : ℕ) → other ≢ key → row_at new other ≡ row_at old other
  pub long : length new ≡ length old

-- And as many uses as these are taken from the room, and as many as those given back.
pub record IsEntered (old new : Indexed) (key : ℕ) (things : List ℕ) : Type 0 where
  pub row : IsRow old.rows new.rows key things
  pub users : length new.users ≡ length old.users
  pub room : new.room + length things ≡ old.room + length (row_at old.rows key)

-- only the room changes, and that doesn't shrink
pub record IsWider (old new : Indexed) : Type 0 where
  pub rows : (key : ℕ) → row_at new.rows key ≡ row_at old.rows key
  pub longer : length old.rows ≤ length new.rows
  pub users : new.users ≡ old.users
  pub room : old.room ≤ new.room

-- ---- by chains
-- what these uses use
abbrev pub things_of : List (Option Use) → Uses → List ℕ
things_of uses row = resources row.count uses row.first

-- the uses under a key
abbrev pub uses_at : List Uses → ℕ → Uses
uses_at rows key = slice_index_or rows key (record { first = None; count = 0 })

-- The uses under a key are its own, and a thing is used under it as often as the key is among its users. Keys have 32 bits.
pub record IsIndex (rows : List Uses) (chains : Chained) : Type 0 where
  pub chained : (key : ℕ) → IsChain key (uses_at rows key).count chains.uses (uses_at rows key).first
  pub both : (key thing : ℕ) → times key (users_on chains.users thing) ≡ times thing (things_of chains.uses (uses_at rows key))
  pub few : length rows ≤ 2 ^ 32

-- ---- routes
-- the link that a thing is, if so many hosts come before the links
abbrev pub link_of : ℕ → ℕ → LinkId
link_of hosts thing = record { 0 = thing - hosts }

-- the links of a route: what is used after its two ends
abbrev pub way_in : ℕ → List ℕ → List LinkId
way_in hosts things = map (link_of hosts) (drop 2 things)

-- two ends and 64 links at most
pub record IsWayRow (hosts : ℕ) (things : List ℕ) : Type 0 where
  pub few : length things ≤ 66
  pub behind : All (λ thing. hosts ≤ thing) (drop 2 things)
  pub small : All (λ thing. thing - hosts < 2 ^ 32) (drop 2 things)
