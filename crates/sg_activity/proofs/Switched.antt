-- Hosts and links are turned off and on.
use Rattle.std.proofs.Common.{◌≡◌, ◌≢◌, ℕ, ◌+◌, ◌==◌, ◌<◌, Bool, true, false, cond, not, ◌||◌, true≢false, Option, None, Some, List, [], ◌∷◌, ◌++◌, map, length, length-set, set, get_or-set_same, get_or-set_other, inl, inr, refl, sym, ap, ap₂, subst, ◌∙◌, arith}
use Rattle.std.specs.List.{list_any}
use Rattle.sg_base.specs.declared.ids.LinkId.{LinkId}
use Rattle.sg_base.specs.MarkSet.{is_in}
use Rattle.sg_heap.specs.Agenda.{Key, key_at}
use Rattle.sg_maxmin.specs.Chained.{users_on}
use Rattle.sg_activity.specs.declared.activity_state.Kept.{Kept}
use Rattle.sg_activity_table.specs.declared.lives.Live.{Live}
use Rattle.sg_activity.specs.Links.{Switches, is_off}
use Rattle.sg_activity.specs.Task.{Place, nowhere, on_host, over, uses_off}
use Rattle.sg_activity.specs.kept.Hits.{AreHit, AreHits, AreLooked, AreOn, ArePlaced, hit_in}
use Rattle.sg_activity.specs.kept.Index.{used_at}
use Rattle.sg_activity.specs.kept.Rows.{Indexed}
use Rattle.sg_activity_table.specs.Pool.{slot_at}
use Rattle.sg_activity.specs.kept.Sound.{HasRoom, IsKept, IsSound, place_at}
use Rattle.sg_activity.specs.kept.State.{State, links_at, state_of, ways_of}
use Rattle.sg_activity.proofs.Listing.{eq_cases}
use Rattle.sg_activity.proofs.Told.{in_last, in_more}
use Rattle.sg_activity.proofs.Reset.{AreBothWays, is_user}
use Rattle.sg_activity.specs.kept.Whole.{IsUsed}

eqb_is : (a b : ℕ) → (a == b) ≡ true → a ≡ b
eqb_is a b e = grind arith

eqb_ne : (a b : ℕ) → (a == b) ≡ false → a ≢ b
eqb_ne a b e = grind arith

neither : (a b : Bool) → (a || b) ≡ false → (a ≡ false) × (b ≡ false)
neither true b e = absurd (true≢false e)
neither false b e = (refl, e)

off_other : (on : List Bool) (number other : ℕ) (b : Bool) → other ≢ number → is_off (set on number b) other ≡ is_off on other
off_other on number other b ne = ap not (get_or-set_other on number other b true ne)

-- what doesn't use the host
pub host_switched : (on : Switches) (hosts links host : ℕ) (b : Bool) (place : Place) → is_in host (used_at hosts links place) ≡ false → is_in (hosts + links + host) (used_at hosts links place) ≡ false → uses_off (record on { hosts = set on.hosts host b }) place ≡ uses_off on place
host_switched on hosts links host b nowhere e f = refl
host_switched on hosts links host b (on_host k) e f = off_other on.hosts host k b (eqb_ne k host (neither (k == host) false e).0)
host_switched on hosts links host b (over way) e f =
    let first = neither (hosts + links + way.sender == hosts + links + host) ((hosts + links + way.receiver == hosts + links + host) || is_in (hosts + links + host) (map (λ (link : LinkId). hosts + link.0) way.links)) f in
    let second = neither (hosts + links + way.receiver == hosts + links + host) (is_in (hosts + links + host) (map (λ (link : LinkId). hosts + link.0) way.links)) first.1 in
    ap₂ (λ x y. list_any (λ (link : LinkId). is_off on.links link.0) way.links || (x || y)) (off_other on.hosts host way.sender b (λ z. eqb_ne (hosts + links + way.sender) (hosts + links + host) first.0 (ap (λ n. hosts + links + n) z)))
    (off_other on.hosts host way.receiver b (λ z. eqb_ne (hosts + links + way.receiver) (hosts + links + host) second.0 (ap (λ n. hosts + links + n) z)))

any_switched : (on : List Bool) (hosts number : ℕ) (b : Bool) (links : List LinkId) → is_in (hosts + number) (map (λ (link : LinkId). hosts + link.0) links) ≡ false → list_any (λ (link : LinkId). is_off (set on number b) link.0) links ≡ list_any (λ (link : LinkId). is_off on link.0) links
any_switched on hosts number b [] e = refl
any_switched on hosts number b (link ∷ links) e =
    let both = neither (hosts + link.0 == hosts + number) (is_in (hosts + number) (map (λ (l : LinkId). hosts + l.0) links)) e in
    ap₂ (λ x y. x || y) (off_other on number link.0 b (λ z. eqb_ne (hosts + link.0) (hosts + number) both.0 (ap (λ n. hosts + n) z))) (any_switched on hosts number b links both.1)

-- what doesn't use the link
pub link_switched : (on : Switches) (hosts links number : ℕ) (b : Bool) (place : Place) → is_in (hosts + number) (used_at hosts links place) ≡ false → uses_off (record on { links = set on.links number b }) place ≡ uses_off on place
link_switched on hosts links number b nowhere e = refl
link_switched on hosts links number b (on_host k) e = refl
link_switched on hosts links number b (over way) e =
    let first = neither (hosts + links + way.sender == hosts + number) ((hosts + links + way.receiver == hosts + number) || is_in (hosts + number) (map (λ (link : LinkId). hosts + link.0) way.links)) e in
    let second = neither (hosts + links + way.receiver == hosts + number) (is_in (hosts + number) (map (λ (link : LinkId). hosts + link.0) way.links)) first.1 in
    ap (λ x. x || (is_off on.hosts way.sender || is_off on.hosts way.receiver)) (any_switched on.links hosts number b way.links second.1)

-- ---- all stays consistent
pub flipped_kept : (s : State) (on : Switches) → IsKept s → IsKept (record s { on = on })
flipped_kept s on is = record {
  each = λ key live at.
      let h = is.each key live at in
      record {
        from = h.from;
        to = h.to;
        stamped = h.stamped;
        in_time = h.in_time;
        small = h.small;
        few_bytes = h.few_bytes;
        weighs = h.weighs;
        paced = h.paced;
        placed = h.placed;
        fits = h.fits;
        counted = h.counted;
        flow = λ full. let f = h.flow full in record { marked = f.marked; runs = f.runs; limit = f.limit; within = f.within; known = f.known };
        dated = h.dated;
      };
  idle = is.idle;
  apart = is.apart;
  back = λ id running e. let b = is.back id running e in record { live = b.live; there = b.there; full = b.full; is = b.is };
  fresh = is.fresh;
  fresh_now = is.fresh_now;
  none_fresh = is.none_fresh;
  rates = is.rates;
}

pub flipped_sound : (kept new : Kept) (on : Switches) → IsSound kept → new ≡ record kept { hosts_on = new.hosts_on; links_on = new.links_on } → state_of new ≡ record (state_of kept) { on = on } → IsSound new
flipped_sound kept new on is rest state = record {
  are = subst IsKept (sym state) (flipped_kept (state_of kept) on is.are);
  room = subst HasRoom (sym rest) (record {
    capacities = is.room.capacities;
    few = is.room.few;
    early = is.room.early;
    flows = is.room.flows;
    flow_room = is.room.flow_room;
    uses = is.room.uses;
    use_room = is.room.use_room;
    keys_free = is.room.keys_free;
    rows_long = is.room.rows_long;
    agenda_long = is.room.agenda_long;
    fresh_room = is.room.fresh_room;
    by_flow_long = is.room.by_flow_long;
  });
}

pub all_placed : (kept : Kept) → IsSound kept → ArePlaced kept
all_placed kept is key live at = (is.are.each key live at).placed

-- as many are on or off
pub switches_alike : (s new : State) → new.on ≡ s.on → length new.capacities.hosts ≡ length s.capacities.hosts → length new.capacities.links ≡ length s.capacities.links → AreOn s → AreOn new
switches_alike s new on hosts links is =
    (ap (λ (o : Switches). length o.hosts) on ∙ is.0 ∙ sym hosts, (ap (λ (o : Switches). length o.links) on ∙ is.1.0 ∙ sym links, (omega (arith, hosts, links, is.1.1.0), omega (arith, links, is.1.1.1))))

-- ---- who is hit
last : (x y : Bool) (p q : Option Key) → (x ≡ false → y ≡ false → q ≡ p) → cond y p (cond x p q) ≡ p
last x true p q h = refl
last true false p q h = refl
last false false p q h = h refl refl

module _ (kept : Kept) (index : Indexed) (used : IsUsed kept index) (both : AreBothWays index) (hits : List (Option Key)) (are : AreHit kept hits) where
  abbrev hosts : ℕ
  hosts = length kept.hosts.items

  abbrev links : ℕ
  links = length kept.links.items

  -- what is hit under a key
  abbrev hit_now : Switches → ℕ → Option Key
  hit_now on key = hit_in on (links_at (ways_of kept) key) (slot_at kept.lives.slots key)

  -- what stays as it was
  stays : (on : Switches) (key : ℕ) → ((live : Live) → slot_at kept.lives.slots key ≡ Some live → uses_off on (place_at (state_of kept) key live) ≡ uses_off (state_of kept).on (place_at (state_of kept) key live)) → key_at hits key ≡ hit_now on key
  stays on key same = are.each key ∙ go (slot_at kept.lives.slots key) refl
    where
      go : (o : Option Live) → slot_at kept.lives.slots key ≡ o → hit_in (state_of kept).on (links_at (ways_of kept) key) (slot_at kept.lives.slots key) ≡ hit_in on (links_at (ways_of kept) key) (slot_at kept.lives.slots key)
      go None e = ap (hit_in (state_of kept).on (links_at (ways_of kept) key)) e ∙ sym (ap (hit_in on (links_at (ways_of kept) key)) e)
      go (Some live) e =
          ap (hit_in (state_of kept).on (links_at (ways_of kept) key)) e ∙ ap (λ b. cond b (Some (record { date = 0; serial = live.serial })) None) (sym (same live e))
          ∙ sym (ap (hit_in on (links_at (ways_of kept) key)) e)

  pub hosts_looked : (host : ℕ) (b : Bool) (first second : List (Option Key)) → AreLooked (record (state_of kept).on { hosts = set kept.hosts_on.items host b }) kept.lives.slots (ways_of kept) hits first (users_on index.users host) →
      AreLooked (record (state_of kept).on { hosts = set kept.hosts_on.items host b }) kept.lives.slots (ways_of kept) first second (users_on index.users (hosts + links + host)) → AreHits (record (state_of kept).on { hosts = set kept.hosts_on.items host b }) kept.lives.slots (ways_of kept) second
  hosts_looked host b first second a c =
      let on : Switches = record (state_of kept).on { hosts = set kept.hosts_on.items host b } in
      record {
        each = λ key.
            c.each key ∙ ap (λ o. cond (is_in key (users_on index.users (hosts + links + host))) (hit_now on key) o) (a.each key)
            ∙ last (is_in key (users_on index.users host)) (is_in key (users_on index.users (hosts + links + host))) (hit_now on key) (key_at hits key)
            (λ x y. stays on key (λ live at. host_switched (state_of kept).on hosts links host b (place_at (state_of kept) key live) (sym (is_user kept index used both host key live at) ∙ x) (sym (is_user kept index used both (hosts + links + host) key live at) ∙ y)));
        long = omega (arith, are.long, a.long, c.long);
      }

  pub link_looked : (link : ℕ) (b : Bool) (first : List (Option Key)) → AreLooked (record (state_of kept).on { links = set kept.links_on.items link b }) kept.lives.slots (ways_of kept) hits first (users_on index.users (hosts + link)) →
      AreHits (record (state_of kept).on { links = set kept.links_on.items link b }) kept.lives.slots (ways_of kept) first
  link_looked link b first a =
      let on : Switches = record (state_of kept).on { links = set kept.links_on.items link b } in
      record {
        each = λ key.
            a.each key ∙ last false (is_in key (users_on index.users (hosts + link))) (hit_now on key) (key_at hits key)
            (λ x y. stays on key (λ live at. link_switched (state_of kept).on hosts links link b (place_at (state_of kept) key live) (sym (is_user kept index used both (hosts + link) key live at) ∙ y)));
        long = omega (arith, are.long, a.long);
      }

abbrev hit_at : Switches → List (Option Live) → (ℕ → List LinkId) → ℕ → Option Key
hit_at on slots ways key = hit_in on (links_at ways key) (slot_at slots key)

-- one more is visited
pub looked_on : (on : Switches) (slots : List (Option Live)) (ways : ℕ → List LinkId) (old mid new : List (Option Key)) (keys : List ℕ) (key : ℕ) → AreLooked on slots ways old mid keys → key < length mid → new ≡ set mid key (hit_in on (links_at ways key) (slot_at slots key)) → AreLooked on slots ways old new (keys ++ key ∷ [])
looked_on on slots ways old mid new keys key a within by = record {
  each = λ k. elim (eq_cases k key) [
    | inl e ↦
        ap (λ l. key_at l k) by ∙ ap (key_at (set mid key (hit_at on slots ways key))) e ∙ get_or-set_same mid key (hit_at on slots ways key) None within ∙ sym (ap (hit_at on slots ways) e)
        ∙ sym (ap (λ b. cond b (hit_at on slots ways k) (key_at old k)) (ap (λ n. is_in n (keys ++ key ∷ [])) e ∙ in_last key keys))
    | inr ne ↦
        ap (λ l. key_at l k) by ∙ get_or-set_other mid key k (hit_at on slots ways key) None ne ∙ a.each k ∙ sym (ap (λ b. cond b (hit_at on slots ways k) (key_at old k)) (in_more key k keys ne))
  ];
  long = ap length by ∙ length-set mid key (hit_at on slots ways key) ∙ a.long;
}
