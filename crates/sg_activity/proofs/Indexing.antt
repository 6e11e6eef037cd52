-- The index has what the activities use, as these come and go.
use Rattle.std.proofs.Common.{◌≡◌, ◌≢◌, ℕ, zero, suc, ◌+◌, ◌-◌, ◌*◌, ◌^◌, ◌<◌, ◌≤◌, inl, inr, Bool, true, false, cond, Option, None, Some, option_map, List, [], ◌∷◌, ◌++◌, drop, length, length-set, get_or, map, set, take, All, refl, sym, ap, ap₂, subst, ◌∙◌, arith}
use Rattle.std.proofs.Math.Path.{fun_ext}
use Rattle.std.proofs.Math.Seq.{take-suc}
use Rattle.sg_base.specs.declared.ids.LinkId.{LinkId}
use Rattle.sg_lazy.specs.Lazily.{Lazily}
use Rattle.sg_lazy.specs.RunningFlow.{RunningFlow, running_at}
use Rattle.sg_activity.specs.declared.activity_state.Kept.{Kept}
use Rattle.sg_activity_table.specs.declared.kinds.Place.{Place as LivePlace}
use Rattle.sg_activity_table.specs.declared.kinds.Place.TheVariants as place_is
use Rattle.sg_activity_table.specs.declared.lives.Live.{Live}
use Rattle.std.proofs.lemmas.List.{length-map, map-append}
use Rattle.sg_maxmin.specs.Fill.{flow}
use Rattle.sg_activity_table.specs.Slots.{sooner}
use Rattle.sg_activity.specs.Links.{Capacities, route_bound, shared_of}
use Rattle.sg_activity.specs.Task.{Place, Task, Way, flow_at, over}
use Rattle.sg_activity.proofs.Routed.{all_cons}
use Rattle.sg_activity.specs.kept.Grows.{Grows}
use Rattle.sg_activity.specs.kept.Index.{IsIndexed, used_at, used_by}
use Rattle.sg_activity.specs.kept.Rows.{Indexed, IsRow, IsWayRow, IsWider, link_of, row_at, way_in}
use Rattle.sg_activity_table.specs.Pool.{slot_at}
use Rattle.sg_activity.specs.kept.Renewal.{is_among, rate_in, restamped}
use Rattle.sg_activity.specs.kept.Sound.{IsOver, IsPath, IsPlace, IsWay}
use Rattle.sg_activity.specs.kept.Stamps.{left_at}
use Rattle.sg_activity.specs.kept.State.{links_at, place_of, state_of, ways_of}
use Rattle.sg_activity.specs.kept.Whole.{IsUsed}
use Rattle.sg_activity.proofs.Listing.{eq_cases}
use Rattle.sg_activity.proofs.Pairing.{there_within}
use Rattle.sg_activity.proofs.Starts.{set_here, set_there}

module _ (c : Capacities) (slots : List (Option Live)) (ways : ℕ → List LinkId) (room : ℕ) (index : Indexed) (is : IsIndexed c slots ways room index) where
  abbrev used : List (Option Live) → (ℕ → List LinkId) → ℕ → List ℕ
  used slots ways key = used_by (length c.hosts) (length c.links) (links_at ways key) (slot_at slots key)

  -- nothing is used under a free key
  pub row_idle : (key : ℕ) → slot_at slots key ≡ None → row_at index.rows key ≡ []
  row_idle key free = is.rows key ∙ ap (used_by (length c.hosts) (length c.links) (links_at ways key)) free

  -- under one key something else is used
  pub used_turned : (others : List (Option Live)) (paths : ℕ → List LinkId) (more : ℕ) (new : Indexed) (key : ℕ) (things : List ℕ) → IsRow index.rows new.rows key things → things ≡ used others paths key →
      ((k : ℕ) → k ≢ key → slot_at others k ≡ slot_at slots k) → ((k : ℕ) → k ≢ key → links_at paths k ≡ links_at ways k) → length others ≡ length slots → length new.users ≡ length index.users → 66 * more ≤ new.room → IsIndexed c others paths more new
  used_turned others paths more new key things row things_are same_slots same_links long users free = record {
    rows = λ k. elim (eq_cases k key) [
      | inl e ↦ ap (row_at new.rows) e ∙ row.here ∙ things_are ∙ ap (used others paths) (sym e)
      | inr ne ↦ row.others k ne ∙ is.rows k ∙ ap₂ (used_by (length c.hosts) (length c.links)) (sym (same_links k ne)) (sym (same_slots k ne))
    ];
    long = omega (arith, is.long, long, row.long);
    things = users ∙ is.things;
    uses_free = free;
  }

  -- under each key the same is used
  pub used_still : (others : List (Option Live)) (paths : ℕ → List LinkId) (more : ℕ) → ((key : ℕ) → used others paths key ≡ used slots ways key) → length others ≡ length slots → more ≤ room → IsIndexed c others paths more index
  used_still others paths more same long fewer = record {
    rows = λ key. is.rows key ∙ sym (same key);
    long = omega (arith, is.long, long);
    things = is.things;
    uses_free = omega (arith, is.uses_free, fewer);
  }

  -- there is more room
  pub used_wider : (others : List (Option Live)) (paths : ℕ → List LinkId) (more : ℕ) (new : Indexed) → IsWider index new → ((k : ℕ) → slot_at others k ≡ slot_at slots k) → ((k : ℕ) → links_at paths k ≡ links_at ways k) → length others ≤ length new.rows → 66 * more ≤ new.room → IsIndexed c others paths more new
  used_wider others paths more new wider same_slots same_links long free = record {
    rows = λ key. wider.rows key ∙ is.rows key ∙ ap₂ (used_by (length c.hosts) (length c.links)) (sym (same_links key)) (sym (same_slots key));
    long = long;
    things = ap length wider.users ∙ is.things;
    uses_free = free;
  }

-- routes are what they were
pub ways_grown : (kept new : Kept) → Grows kept new → (key : ℕ) → links_at (ways_of new) key ≡ links_at (ways_of kept) key
ways_grown kept new g key = ap₂ way_in (ap (λ (k : Kept). length k.hosts.items) g.rest) (g.wider.rows key)

-- there is room for more
pub used_grown : (kept new : Kept) (room : ℕ) → IsUsed kept kept.index → Grows kept new → 66 * room ≤ new.index.room → IsIndexed (state_of new).capacities new.lives.slots (ways_of new) room new.index
used_grown kept new room is g free =
    subst (λ c. IsIndexed c new.lives.slots (ways_of new) room new.index) (sym (ap (λ (k : Kept). (state_of k).capacities) g.rest))
    (used_wider (state_of kept).capacities kept.lives.slots (ways_of kept) kept.room kept.index is new.lives.slots (ways_of new) room new.index g.wider g.slots (ways_grown kept new g) g.rows_long free)

-- what is used doesn't change as rates do
pub used_stamped : (hosts count : ℕ) (links : List LinkId) (flows : List ℕ) (runs : List (Option RunningFlow)) (date : ℕ) (o : Option Live) → used_by hosts count links (option_map (restamped flows runs date) o) ≡ used_by hosts count links o
used_stamped hosts count links flows runs date None = refl
used_stamped hosts count links flows runs date (Some live) = go (is_among flows live)
  where
    go : (b : Bool) → used_by hosts count links (Some (cond b (record live { kept = left_at live.kept live.rate live.stamp date; stamp = date; rate = rate_in (running_at runs live.flow) }) live)) ≡ used_by hosts count links (Some live)
    go true = refl
    go false = refl

-- an activity is done, and uses nothing any more
pub used_gone : (kept mid : Kept) (lazy : Lazily) (slots : List (Option Live)) (new : Indexed) (key : ℕ) (live : Live) → IsUsed kept kept.index → slot_at kept.lives.slots key ≡ Some live → mid ≡ record kept { lazy = lazy } → slots ≡ set mid.lives.slots key None →
    IsRow mid.index.rows new.rows key [] → length new.users ≡ length mid.index.users → mid.index.room ≤ new.room → IsIndexed (state_of mid).capacities slots (ways_of (record mid { index = new })) mid.room new
used_gone kept mid lazy slots new key live is at e slots_are row users room =
    let gone : slots ≡ set kept.lives.slots key None = slots_are ∙ ap (λ (m : Kept). set m.lives.slots key None) e in
    let within = there_within kept.lives.slots key live at in
    let index : mid.index ≡ kept.index = ap (λ (m : Kept). m.index) e in
    let ways = ways_of (record kept { index = new }) in
    let rows = subst (λ (i : Indexed). IsRow i.rows new.rows key []) index row in
    subst (λ (m : Kept). IsIndexed (state_of m).capacities slots (ways_of (record m { index = new })) m.room new) (sym e)
    (used_turned (state_of kept).capacities kept.lives.slots (ways_of kept) kept.room kept.index is slots ways kept.room new key [] rows
    (ap (used_by (length kept.hosts.items) (length kept.links.items) (links_at ways key)) (sym (ap (λ l. slot_at l key) gone ∙ set_here kept.lives.slots key None within)))
    (λ k ne. ap (λ l. slot_at l k) gone ∙ set_there kept.lives.slots key k None ne) (λ k ne. ap (way_in (length kept.hosts.items)) (rows.others k ne)) (ap length gone ∙ length-set kept.lives.slots key None)
    (users ∙ ap (λ (i : Indexed). length i.users) index) (omega (arith, is.uses_free, room, ap (λ (i : Indexed). i.room) index)))

all_mapped : {X : Type 0} (P : ℕ → Type 0) (f : X → ℕ) (xs : List X) → All (λ x. P (f x)) xs → All P (map f xs)
all_mapped P f [] h k d within = absurd (omega (arith, within))
all_mapped P f (x ∷ xs) h zero d within = h 0 x (omega arith)
all_mapped P f (x ∷ xs) h (suc k) d within = all_mapped P f xs (λ i e w. h (suc i) e (omega (arith, w))) k d (omega (arith, within))

-- all that a route uses is there
pub all_used : (hosts links most : ℕ) (way : Way) → hosts + links + hosts ≡ most → way.sender < hosts → way.receiver < hosts → All (λ (link : LinkId). link.0 < links) way.links → All (λ thing. thing < most) (used_at hosts links (over way))
all_used hosts links most way long sender receiver exist =
    all_cons (λ thing. thing < most) (hosts + links + way.sender) ((hosts + links + way.receiver) ∷ map (λ (link : LinkId). hosts + link.0) way.links) (omega (arith, long, sender))
    (all_cons (λ thing. thing < most) (hosts + links + way.receiver) (map (λ (link : LinkId). hosts + link.0) way.links) (omega (arith, long, receiver))
    (all_mapped (λ thing. thing < most) (λ (link : LinkId). hosts + link.0) way.links (λ k d within. omega (arith, exist k d within, long))))

pub long_used : (hosts links : ℕ) (way : Way) → length (used_at hosts links (over way)) ≡ length way.links + 2
long_used hosts links way = omega (arith, length-map way.links (λ (link : LinkId). hosts + link.0))

-- ---- routes
-- what uses one thing has no route, like what uses nothing
pub ways_same : (hosts key thing : ℕ) (old new : List (List ℕ)) → IsRow old new key (thing ∷ []) → row_at old key ≡ [] → ◌≡◌ {A = ℕ → List LinkId} (λ k. way_in hosts (row_at new k)) (λ k. way_in hosts (row_at old k))
ways_same hosts key thing old new row idle = fun_ext (λ k. elim (eq_cases k key) [
  | inl e ↦ ap (λ n. way_in hosts (row_at new n)) e ∙ ap (way_in hosts) row.here ∙ sym (ap (λ n. way_in hosts (row_at old n)) e ∙ ap (way_in hosts) idle)
  | inr ne ↦ ap (way_in hosts) (row.others k ne)
])

link_back : (hosts : ℕ) (link : LinkId) → link_of hosts (hosts + link.0) ≡ link
link_back hosts link = let e : hosts + link.0 - hosts ≡ link.0 = omega arith in ap (λ n. record { 0 = n }) e

links_back : (hosts : ℕ) (links : List LinkId) → map (link_of hosts) (map (λ (link : LinkId). hosts + link.0) links) ≡ links
links_back hosts [] = refl
links_back hosts (link ∷ links) = ap₂ (λ l ls. l ∷ ls) (link_back hosts link) (links_back hosts links)

-- the links of a route are determined by what it uses
pub way_back : (hosts links : ℕ) (way : Way) → way_in hosts (used_at hosts links (over way)) ≡ way.links
way_back hosts links way = links_back hosts way.links

-- and they can be read
pub way_row : (capacities : Capacities) (way : Way) → IsPath capacities way → IsWayRow (length capacities.hosts) (used_at (length capacities.hosts) (length capacities.links) (over way))
way_row capacities way is = record {
  few = omega (arith, long_used (length capacities.hosts) (length capacities.links) way, is.links.few);
  behind = all_mapped (λ thing. length capacities.hosts ≤ thing) (λ (link : LinkId). length capacities.hosts + link.0) way.links (λ k d within. omega arith);
  small = all_mapped (λ thing. thing - length capacities.hosts < 2 ^ 32) (λ (link : LinkId). length capacities.hosts + link.0) way.links (λ k d within. omega (arith, is.links.exist k d within, is.links.small));
}

-- if the route of an activity is determined by its row, it can be read
pub place_row : (capacities : Capacities) (row : List ℕ) (place : Place) (way : Way) → place ≡ over way → IsPlace capacities place → row ≡ used_at (length capacities.hosts) (length capacities.links) place → IsWayRow (length capacities.hosts) row
place_row capacities row place way e is row_is =
    subst (IsWayRow (length capacities.hosts)) (sym (row_is ∙ ap (used_at (length capacities.hosts) (length capacities.links)) e)) (way_row capacities way (subst (IsPlace capacities) e is))

-- so of a communication
pub over_row : (capacities : Capacities) (row : List ℕ) (place : LivePlace) (links : List LinkId) → IsOver place → IsPlace capacities (place_of place links) → row ≡ used_at (length capacities.hosts) (length capacities.links) (place_of place links) → IsWayRow (length capacities.hosts) row
over_row capacities row place_is.Nowhere links has is row_is = absurd has
over_row capacities row (place_is.OnHost host) links has is row_is = absurd has
over_row capacities row (place_is.Over sender receiver count) links has is row_is =
    place_row capacities row (place_of (place_is.Over sender receiver count) links) (record { links = links; sender = sender.0; receiver = receiver.0 }) refl is row_is

-- its route exists
pub over_way : (capacities : Capacities) (place : LivePlace) (links : List LinkId) → IsOver place → IsPlace capacities (place_of place links) → IsWay capacities links
over_way capacities place_is.Nowhere links has is = absurd has
over_way capacities (place_is.OnHost host) links has is = absurd has
over_way capacities (place_is.Over sender receiver count) links has is = is.links

-- and its flow asks for the links of this route
pub over_flow : (capacities : Capacities) (task : Task) (place : LivePlace) (links : List LinkId) → IsOver place → flow_at capacities task (place_of place links) ≡ flow (shared_of (length capacities.hosts) capacities.links links) task.weight (sooner (route_bound capacities.links links) task.bound)
over_flow capacities task place_is.Nowhere links has = absurd has
over_flow capacities task (place_is.OnHost host) links has = absurd has
over_flow capacities task (place_is.Over sender receiver count) links has = refl

-- one more thing was read
pub way_ends : (hosts : ℕ) (row : List ℕ) (k : ℕ) → k < 2 → way_in hosts (take (suc k) row) ≡ []
way_ends hosts [] zero few = refl
way_ends hosts (a ∷ row) zero few = refl
way_ends hosts [] (suc zero) few = refl
way_ends hosts (a ∷ []) (suc zero) few = refl
way_ends hosts (a ∷ b ∷ row) (suc zero) few = refl
way_ends hosts row (suc (suc k)) few = absurd (omega (arith, few))

pub way_more : (hosts : ℕ) (row : List ℕ) (k : ℕ) → 2 ≤ k → k < length row → way_in hosts (take (suc k) row) ≡ way_in hosts (take k row) ++ link_of hosts (get_or row k 0) ∷ []
way_more hosts row zero from less = absurd (omega (arith, from))
way_more hosts row (suc zero) from less = absurd (omega (arith, from))
way_more hosts [] (suc (suc k)) from less = absurd (omega (arith, less))
way_more hosts (a ∷ []) (suc (suc k)) from less = absurd (omega (arith, less))
way_more hosts (a ∷ b ∷ row) (suc (suc k)) from less =
    ap (map (link_of hosts)) (take-suc row k 0 (omega (arith, less))) ∙ map-append (link_of hosts) (take k row) (get_or row k 0 ∷ [])

pub way_few : (hosts : ℕ) (row : List ℕ) (k : ℕ) → length (way_in hosts (take k row)) ≤ k - 2
way_few hosts row zero = omega arith
way_few hosts [] (suc k) = omega arith
way_few hosts (a ∷ row) (suc zero) = omega arith
way_few hosts (a ∷ []) (suc (suc k)) = omega arith
way_few hosts (a ∷ b ∷ row) (suc (suc k)) = omega (arith, length-map (take k row) (link_of hosts), length_take k row)
  where
    length_take : (k : ℕ) (row : List ℕ) → length (take k row) ≤ k
    length_take zero row = omega arith
    length_take (suc k) [] = omega arith
    length_take (suc k) (a ∷ row) = omega (arith, length_take k row)

-- what holds of each after the ends
pub behind_at : (P : ℕ → Type 0) (row : List ℕ) (k : ℕ) → 2 ≤ k → k < length row → All P (drop 2 row) → P (get_or row k 0)
behind_at P row zero from less all = absurd (omega (arith, from))
behind_at P row (suc zero) from less all = absurd (omega (arith, from))
behind_at P [] (suc (suc k)) from less all = absurd (omega (arith, less))
behind_at P (a ∷ []) (suc (suc k)) from less all = absurd (omega (arith, less))
behind_at P (a ∷ b ∷ row) (suc (suc k)) from less all = all k 0 (omega (arith, less))
