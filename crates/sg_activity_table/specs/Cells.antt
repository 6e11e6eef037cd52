-- How activities are kept: each in 96 bytes, under a key of a slab.
use Rattle.std.specs.Prelude.{ℕ, if◌then◌else◌, Option, None, Some, option_map, List}
use Rattle.slab.specs.Slab.{Slab, get}
use Rattle.sg_activity_table.specs.declared.cells.Cell.{Cell}
use Rattle.sg_activity_table.specs.declared.lives.Live.{Live}
use Rattle.sg_activity_table.specs.Slots.{listed}

-- the activity in a cell
abbrev pub live_of : Cell → Live
live_of cell = record {
  serial = cell.serial;
  kind = cell.kind;
  place = cell.place;
  kept = cell.kept;
  stamp = cell.stamp;
  rate = cell.rate;
  weight = cell.weight;
  bound = if cell.has_bound then Some cell.bound else None;
  bytes = cell.bytes;
  flow = cell.flow;
}

-- the activity under a key of a slab, or nothing
abbrev pub live_at : Slab Cell → ℕ → Option Live
live_at slab key = option_map live_of (get slab key)

-- and under each of so many keys
abbrev pub lives_in : ℕ → Slab Cell → List (Option Live)
lives_in keys slab = listed keys (live_at slab)
