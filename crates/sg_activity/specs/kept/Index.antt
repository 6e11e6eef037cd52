-- What the activities use.
use Rattle.std.specs.Prelude.{◌≡◌, ℕ, ◌+◌, ◌*◌, ◌≤◌, Option, None, Some, List, [], ◌∷◌, length, map}
use Rattle.sg_base.specs.declared.ids.LinkId.{LinkId}
use Rattle.sg_activity.specs.declared.activity_state.Kept.{Kept}
use Rattle.sg_activity_table.specs.declared.lives.Live.{Live}
use Rattle.sg_activity.specs.Links.{Capacities}
use Rattle.sg_activity.specs.Task.{Place, nowhere, on_host, over}
use Rattle.sg_activity_table.specs.Pool.{slot_at}
use Rattle.sg_activity.specs.kept.Rows.{Indexed, row_at}
use Rattle.sg_activity.specs.kept.State.{links_at, place_of, ways_of}

-- What an activity with this place uses: its host, or all links of its route and the hosts at its ends. Before the links come so many hosts, and after so many links the hosts again, as ends.
abbrev pub used_at : ℕ → ℕ → Place → List ℕ
used_at hosts links nowhere = []
used_at hosts links (on_host host) = host ∷ []
used_at hosts links (over way) =
    (hosts + links + way.sender) ∷ (hosts + links + way.receiver)
    ∷ map (λ (link : LinkId). hosts + link.0) way.links

-- what the activity uses, if there is one, over these links
abbrev pub used_by : ℕ → ℕ → List LinkId → Option Live → List ℕ
used_by hosts links path None = []
used_by hosts links path (Some live) =
    used_at hosts links (place_of live.place path)

-- what the activity under a key uses
abbrev pub used_in : Kept → ℕ → Live → List ℕ
used_in kept key live =
    used_at (length kept.hosts.items) (length kept.links.items)
    (place_of live.place (links_at (ways_of kept) key))

-- The row of each key is what its activity uses, from its start to its end; there is room for so many starts.
pub record IsIndexed (capacities : Capacities) (slots : List (Option Live)) (ways : ℕ → List LinkId) (room : ℕ) (index : Indexed) : Type 0 where
  pub rows : (key : ℕ) → row_at index.rows key ≡ used_by (length capacities.hosts) (length capacities.links) (links_at ways key) (slot_at slots key)
  pub long : length slots ≤ length index.rows
  pub things : length index.users ≡ length capacities.hosts + length capacities.links + length capacities.hosts
  pub uses_free : 66 * room ≤ index.room
