-- Meters as they get the powers, as other things change, and as time passes.
use Rattle.std.proofs.Common.{◌≡◌, ◌≢◌, ℕ, zero, suc, ◌+◌, ◌-◌, ◌*◌, ◌/◌, ◌==◌, ◌^◌, ◌<◌, ◌≤◌, inl, inr, Bool, true, false, cond, ◌&&◌, ne_eqb, true≢false, Option, Some, List, [], ◌∷◌, ◌++◌, length, length-set, set, get_or, get_or-set_same, get_or-set_other, replicate, refl, sym, ap, ap₂, subst, ◌∙◌, arith}
use Rattle.std.proofs.Math.Nat.{div-le_of_le-mul, mul-le-mul}
use Rattle.std.proofs.lemmas.List.{ext_get_or, get_or-map, length-map}
use Rattle.sg_base.specs.declared.ids.LinkId.{LinkId}
use Rattle.sg_base.specs.MarkSet.{MarkSet, is_in, with_mark}
use Rattle.sg_energy.specs.Meter.{Metered, energy_at, first_meter, meter_of, with_power}
use Rattle.sg_energy.proofs.Metering.{set_is_past, set_power_is_used}
use Rattle.sg_activity.specs.declared.activity_state.Kept.{Kept}
use Rattle.sg_activity_table.specs.declared.kinds.PhaseKind.{PhaseKind}
use Rattle.sg_activity_table.specs.declared.kinds.PhaseKind.TheVariants as phase
use Rattle.sg_activity_table.specs.declared.kinds.Place.{Place as LivePlace}
use Rattle.sg_activity_table.specs.declared.kinds.Place.TheVariants as place_is
use Rattle.sg_activity_table.specs.declared.lives.Live.{Live}
use Rattle.sg_activity.specs.Doing.{Doing, ended_first, ended_in, later_in, settled_in}
use Rattle.sg_activity.specs.Laws.{IsHostOf, IsSameHost}
use Rattle.sg_activity.specs.Links.{Capacities}
use Rattle.sg_activity.specs.Power.{is_there, loads}
use Rattle.sg_activity_table.specs.Slots.{listed, passes}
use Rattle.sg_activity.specs.Task.{Task, next_phase, rekinded}
use Rattle.sg_activity_table.specs.Kinds.{takes_share}
use Rattle.sg_activity.specs.Underway.{Underway, later, load, next_in, power_at, rate, used_later, with_task, work_of}
use Rattle.sg_activity.specs.kept.Metered.{AreFirst, AreTold, IsMetered, energies, metered_in, noted, IsWithin}
use Rattle.sg_activity.specs.kept.Sound.{IsKept, IsPlace}
use Rattle.sg_activity_table.specs.Pool.{slot_at}
use Rattle.sg_activity.specs.kept.State.{State, links_at, place_of, state_of, task_of, under_of}
use Rattle.sg_activity.specs.kept.Turns.{Turns}
use Rattle.sg_activity.proofs.Elsewhere.{same_later, same_task}
use Rattle.sg_activity_table.proofs.Listed.{at_listed, length-listed}
use Rattle.sg_activity.proofs.Listing.{bool_cases, eq_cases}
use Rattle.sg_activity.proofs.Loads.{power_is_its_own_lem}
use Rattle.sg_activity.proofs.Rates.{limits, task_there}
use Rattle.sg_activity.proofs.Told.{in_last, in_more}

-- ---- a host gets its power
power_is : (power date : ℕ) (m : Metered) → (with_power power date m).power ≡ power
power_is power date m = go (power == m.power) refl
  where
    same : (a b : ℕ) → (a == b) ≡ true → b ≡ a
    same a b e = grind arith

    go : (b : Bool) → (power == m.power) ≡ b → (cond b m (record { power = power; since = date; energy = energy_at m date })).power ≡ power
    go true e = same power m.power e
    go false e = refl

keeps_used : (power date : ℕ) (m : Metered) → m.since ≤ date → energy_at (with_power power date m) date ≡ energy_at m date
keeps_used power date m past =
    let none : date - date ≡ 0 = omega arith in
    let nothing : power * 0 ≡ 0 = omega arith in
    omega (arith, set_power_is_used m power date date past (omega arith), ap (λ n. power * n) none, nothing)

module _ (under : Underway) (old : List Metered) where
  pub told_none : ((host : ℕ) → (meter_of old host).since ≤ under.date) → AreTold under old old []
  told_none past = record {
    long = refl;
    used = λ host. refl;
    past = past;
    told = λ host there. absurd (true≢false (sym there));
    others = λ host out. refl;
  }

  pub told_more : (mid new : List Metered) (hosts : List ℕ) (host : ℕ) → AreTold under old mid hosts → host < length mid → new ≡ set mid host (with_power (power_at under host) under.date (meter_of mid host)) → AreTold under old new (hosts ++ host ∷ [])
  told_more mid new hosts host was less e = record {
    long = ap length e ∙ length-set mid host now ∙ was.long;
    used = λ h. elim (eq_cases h host) [
      | inl same ↦
          ap (λ (m : Metered). energy_at m under.date) (here h same) ∙ keeps_used (power_at under host) under.date (meter_of mid host) (was.past host) ∙ was.used host
          ∙ sym (ap (λ n. energy_at (meter_of old n) under.date) same)
      | inr ne ↦ ap (λ (m : Metered). energy_at m under.date) (there h ne) ∙ was.used h
    ];
    past = λ h. elim (eq_cases h host) [
      | inl same ↦ subst (λ (m : Metered). m.since ≤ under.date) (sym (here h same)) (set_is_past (meter_of mid host) (power_at under host) under.date (was.past host))
      | inr ne ↦ subst (λ (m : Metered). m.since ≤ under.date) (sym (there h ne)) (was.past h)
    ];
    told = λ h in_list. elim (eq_cases h host) [
      | inl same ↦ ap (λ (m : Metered). m.power) (here h same) ∙ power_is (power_at under host) under.date (meter_of mid host) ∙ ap (power_at under) (sym same)
      | inr ne ↦ ap (λ (m : Metered). m.power) (there h ne) ∙ was.told h (sym (in_more host h hosts ne) ∙ in_list)
    ];
    others = λ h out. elim (eq_cases h host) [
      | inl same ↦ absurd (true≢false (sym (in_last host hosts) ∙ ap (λ n. is_in n (hosts ++ host ∷ [])) (sym same) ∙ out))
      | inr ne ↦ ap (λ (m : Metered). m.power) (there h ne) ∙ was.others h (sym (in_more host h hosts ne) ∙ out)
    ];
  }
    where
      now : Metered
      now = with_power (power_at under host) under.date (meter_of mid host)

      here : (h : ℕ) → h ≡ host → meter_of new h ≡ with_power (power_at under host) under.date (meter_of mid host)
      here h same = ap₂ meter_of e same ∙ get_or-set_same mid host (with_power (power_at under host) under.date (meter_of mid host)) first_meter less

      there : (h : ℕ) → h ≢ host → meter_of new h ≡ meter_of mid h
      there h ne = ap (λ l. meter_of l h) e ∙ get_or-set_other mid host h (with_power (power_at under host) under.date (meter_of mid host)) first_meter ne

  -- what all hosts used stays the same
  pub told_energies : (new : List Metered) (hosts : List ℕ) → AreTold under old new hosts → energies under.date new ≡ energies under.date old
  told_energies new hosts told =
      ext_get_or 0 (energies under.date new) (energies under.date old) (length-map new (λ (m : Metered). energy_at m under.date) ∙ told.long ∙ sym (length-map old (λ (m : Metered). energy_at m under.date)))
      (λ i less.
      let at : i < length new = omega (arith, less, length-map new (λ (m : Metered). energy_at m under.date)) in
      get_or-map (λ (m : Metered). energy_at m under.date) new i first_meter 0 at ∙ told.used i ∙ sym (get_or-map (λ (m : Metered). energy_at m under.date) old i first_meter 0 (omega (arith, at, told.long))))

-- ---- powers fit
pub product_small : (range load : ℕ) → range ≤ 10 ^ 9 → load < 2 ^ 64 → range * load < 2 ^ 128
product_small range load a b =
    let few : load ≤ 2 ^ 64 = omega (arith, b) in
    omega (arith, mul-le-mul a few)

pub quotient_small : (range load capacity : ℕ) → load ≤ capacity → range * load / capacity ≤ range
quotient_small range load capacity fits =
    let same : range ≤ range = omega arith in
    let turned : range * capacity ≡ capacity * range = omega arith in
    div-le_of_le-mul capacity (subst (λ n. range * load ≤ n) turned (mul-le-mul same fits))

-- ---- what else changes
host_of : (kept : Kept) → IsKept (state_of kept) → (host : ℕ) → host < length kept.hosts.items → IsHostOf (under_of (state_of kept)) host
host_of kept is host exists = record { exists = exists; limited = limits (state_of kept) is }

module _ (kept new : Kept) (meters : List Metered) (touched more : MarkSet) (was : IsMetered kept meters touched) (hosts : length new.hosts.items ≡ length kept.hosts.items) (date : new.date ≡ kept.date) (room : more.room ≡ touched.room) where
  still : ((host : ℕ) → host < length kept.hosts.items → is_in host more.members ≡ false → (is_in host touched.members ≡ false) × (power_at (under_of (state_of new)) host ≡ power_at (under_of (state_of kept)) host)) → IsMetered new meters more
  still same = record {
    long = was.long ∙ sym hosts;
    room = room ∙ was.room ∙ sym hosts;
    few = omega (arith, was.few, hosts);
    past = λ host. omega (arith, was.past host, date);
    powers = λ host exists out.
        let before : host < length kept.hosts.items = omega (arith, exists, hosts) in
        let r = same host before out in
        was.powers host before r.0 ∙ sym r.1;
  }

  -- the hosts that aren't touched are what they were
  pub metered_still : IsKept (state_of kept) → IsKept (state_of new) → ((host : ℕ) → is_in host more.members ≡ false → (is_in host touched.members ≡ false) × IsSameHost (under_of (state_of kept)) (under_of (state_of new)) host) → IsMetered new meters more
  metered_still sound sound' same = still (λ host exists out.
      let r = same host out in
      (r.0, power_is_its_own_lem (under_of (state_of kept)) (under_of (state_of new)) host (host_of kept sound host exists) (host_of new sound' host (omega (arith, exists, hosts))) r.1))

-- the same activities run
pub metered_same : (kept new : Kept) (meters : List Metered) (touched : MarkSet) → IsMetered kept meters touched → length new.hosts.items ≡ length kept.hosts.items → new.date ≡ kept.date → ((host : ℕ) → power_at (under_of (state_of new)) host ≡ power_at (under_of (state_of kept)) host) → IsMetered new meters touched
metered_same kept new meters touched was hosts date same = still kept new meters touched touched was hosts date refl (λ host exists out. (out, same host))

-- who isn't among those that are touched once one more is
pub not_marked : (number host : ℕ) (members : List ℕ) → is_in host (with_mark number members) ≡ false → (is_in host members ≡ false) × (host ≢ number)
not_marked number host members out = go (is_in number members) refl out
  where
    go : (b : Bool) → is_in number members ≡ b → is_in host (cond b members (members ++ number ∷ [])) ≡ false → (is_in host members ≡ false) × (host ≢ number)
    go true there out = (out, λ same. true≢false (sym there ∙ ap (λ n. is_in n members) (sym same) ∙ out))
    go false none out = elim (eq_cases host number) [
      | inl same ↦ absurd (true≢false (sym (in_last number members) ∙ ap (λ n. is_in n (members ++ number ∷ [])) (sym same) ∙ out))
      | inr ne ↦ (sym (in_more number host members ne) ∙ out, ne)
    ]

-- one host is touched, and the others are what they were
pub metered_marked : (kept new : Kept) (meters : List Metered) (touched : MarkSet) (number : ℕ) → IsMetered kept meters touched → length new.hosts.items ≡ length kept.hosts.items → new.date ≡ kept.date → IsKept (state_of kept) → IsKept (state_of new) →
    ((host : ℕ) → host ≢ number → IsSameHost (under_of (state_of kept)) (under_of (state_of new)) host) → IsMetered new meters (record touched { members = with_mark number touched.members })
metered_marked kept new meters touched number was hosts date sound sound' same =
    metered_still kept new meters touched (record touched { members = with_mark number touched.members }) was hosts date refl sound sound' (λ host out. let r = not_marked number host touched.members out in (r.0, same host r.1))

-- all hosts are what they were
pub metered_kept : (kept new : Kept) (meters : List Metered) (touched : MarkSet) → IsMetered kept meters touched → length new.hosts.items ≡ length kept.hosts.items → new.date ≡ kept.date → IsKept (state_of kept) → IsKept (state_of new) →
    ((host : ℕ) → IsSameHost (under_of (state_of kept)) (under_of (state_of new)) host) → IsMetered new meters touched
metered_kept kept new meters touched was hosts date sound sound' same = metered_still kept new meters touched touched was hosts date refl sound sound' (λ host out. (out, same host))

-- ---- another phase is running
-- it isn't the host of an execution at this place
abbrev pub IsElsewhere : ℕ → LivePlace → Type 0
IsElsewhere host (place_is.OnHost other) = host ≢ other.0
IsElsewhere host other = Unit {0}

there_elsewhere : (host : ℕ) (place : LivePlace) (links : List LinkId) → IsElsewhere host place → is_there host (place_of place links) ≡ false
there_elsewhere host place_is.Nowhere links ne = refl
there_elsewhere host (place_is.OnHost other) links ne = ne_eqb other.0 host (λ e. ne (sym e))
there_elsewhere host (place_is.Over sender receiver count) links ne = refl

loads_elsewhere : (host : ℕ) (full : Bool) (place : LivePlace) (links : List LinkId) → IsElsewhere host place → (full && is_there host (place_of place links)) ≡ false
loads_elsewhere host true place links ne = there_elsewhere host place links ne
loads_elsewhere host false place links ne = refl

-- what follows a phase takes no share of another host
pub next_not : (s : State) (key : ℕ) (live : Live) (host : ℕ) → IsElsewhere host live.place → passes (loads host) (next_phase live.kind (task_of s key live)) ≡ false
next_not s key live host ne = go live.kind
  where
    go : (kind : PhaseKind) → passes (loads host) (next_phase kind (task_of s key live)) ≡ false
    go phase.Latency = there_elsewhere host live.place (links_at s.ways key) ne
    go phase.Flow = refl
    go phase.Exec = refl
    go phase.Timer = refl
    go phase.Kept = refl

-- an execution that isn't suspended takes a share of its own host alone
pub held_not : (s : State) (key : ℕ) (live : Live) (host : ℕ) → IsElsewhere host live.place → passes (loads host) (Some (rekinded phase.Exec (task_of s key live))) ≡ false
held_not s key live host ne = there_elsewhere host live.place (links_at s.ways key) ne

-- the host of an execution exists
pub within_hosts : (s : State) (key : ℕ) (live : Live) → IsKept s → slot_at s.slots key ≡ Some live → IsWithin (length s.capacities.hosts) live.place
within_hosts s key live is at = go live.place (links_at s.ways key) (is.each key live at).placed
  where
    go : (place : LivePlace) (links : List LinkId) → IsPlace s.capacities (place_of place links) → IsWithin (length s.capacities.hosts) place
    go place_is.Nowhere links placed = tt
    go (place_is.OnHost host) links placed = placed
    go (place_is.Over sender receiver count) links placed = tt

-- who isn't among those that are touched once the host of an execution is
pub not_noted : (place : LivePlace) (host : ℕ) (members : List ℕ) → is_in host (noted place members) ≡ false → (is_in host members ≡ false) × IsElsewhere host place
not_noted place_is.Nowhere host members out = (out, tt)
not_noted (place_is.OnHost other) host members out = not_marked other.0 host members out
not_noted (place_is.Over sender receiver count) host members out = (out, tt)

-- The phase of an activity completes, is suspended or resumed: the hosts that aren't touched stay the same.
pub metered_turned : (kept new : Kept) (meters : List Metered) (touched more : MarkSet) (key : ℕ) (live : Live) (slot : Option Live) (after : Option Task) → IsMetered kept meters touched → more.room ≡ touched.room → IsKept (state_of kept) → IsKept (state_of new) →
    slot_at kept.lives.slots key ≡ Some live → Turns (state_of kept) (state_of new) key live.serial slot → under_of (state_of new) ≡ with_task live.serial after (under_of (state_of kept)) →
    ((host : ℕ) → is_in host more.members ≡ false → (is_in host touched.members ≡ false) × (IsElsewhere host live.place × (passes (loads host) after ≡ false))) → IsMetered new meters more
metered_turned kept new meters touched more key live slot after was room is is' at turns under not =
    let s = state_of kept in
    metered_still kept new meters touched more was (ap (λ (c : Capacities). length c.hosts) turns.capacities) turns.date room is is' (λ host out.
    let r = not host out in
    (r.0, subst (λ u. IsSameHost (under_of s) u host) (sym under) (same_task (under_of s) host live.serial after (ap (passes (loads host)) (task_there s is key live at) ∙ loads_elsewhere host (takes_share live.kind) live.place (links_at s.ways key) r.1.0) r.1.1)))

-- ---- time passes
module _ (kept new : Kept) (meters told : List Metered) (touched : MarkSet) (was : IsMetered kept meters touched) (are : AreTold (under_of (state_of kept)) meters told touched.members) (span : ℕ) (date : new.date ≡ kept.date + span) where
  abbrev under : Underway
  under = under_of (state_of kept)

  powers : (host : ℕ) → host < length kept.hosts.items → (meter_of told host).power ≡ power_at under host
  powers host exists = elim (bool_cases (is_in host touched.members)) [
    | inl there ↦ are.told host there
    | inr out ↦ are.others host out ∙ was.powers host exists out
  ]

  pub gone_metered : IsKept (state_of kept) → IsKept (state_of new) → length new.hosts.items ≡ length kept.hosts.items → under_of (state_of new) ≡ later span (under_of (state_of kept)) → IsMetered new told (record touched { members = [] })
  gone_metered sound sound' hosts gone = record {
    long = are.long ∙ was.long ∙ sym hosts;
    room = was.room ∙ sym hosts;
    few = omega (arith, was.few, hosts);
    past = λ host. omega (arith, are.past host, date);
    powers = λ host exists out.
        let before : host < length kept.hosts.items = omega (arith, exists, hosts) in
        powers host before
        ∙ sym (power_is_its_own_lem under (under_of (state_of new)) host (host_of kept sound host before) (host_of new sound' host exists)
        (subst (λ u. IsSameHost under u host) (sym gone) (same_later under host span)));
  }

  used_then : (host : ℕ) → host < length kept.hosts.items → energy_at (meter_of told host) new.date ≡ energy_at (meter_of meters host) kept.date + power_at under host * span
  used_then host exists =
      let m = meter_of told host in
      let spans : new.date - m.since ≡ (kept.date - m.since) + span = omega (arith, date, are.past host) in
      ap (λ n. m.energy + m.power * n) spans ∙ sums m.energy m.power (kept.date - m.since) span
      ∙ ap₂ (λ n p. n + p * span) (are.used host) (powers host exists)
    where
      sums : (e p a b : ℕ) → e + p * (a + b) ≡ e + p * a + p * b
      sums e p a b = omega arith

  pub gone_energies : energies new.date told ≡ listed (length (energies kept.date meters)) (used_later span (record under { energy = energies kept.date meters }))
  unfolding rate
  gone_energies =
      let count : length (energies kept.date meters) ≡ length meters = length-map meters (λ (m : Metered). energy_at m kept.date) in
      let many : length (energies new.date told) ≡ length told = length-map told (λ (m : Metered). energy_at m new.date) in
      let f : ℕ → ℕ = used_later span (record under { energy = energies kept.date meters }) in
      ext_get_or 0 (energies new.date told) (listed (length (energies kept.date meters)) f) (many ∙ are.long ∙ sym count ∙ sym (length-listed (length (energies kept.date meters)) f))
      (λ i less.
      let at : i < length told = omega (arith, less, many) in
      let before : i < length meters = omega (arith, at, are.long) in
      get_or-map (λ (m : Metered). energy_at m new.date) told i first_meter 0 at
      ∙ used_then i (omega (arith, before, was.long))
      ∙ ap (λ n. n + power_at under i * span) (sym (get_or-map (λ (m : Metered). energy_at m kept.date) meters i first_meter 0 before))
      ∙ sym (at_listed (length (energies kept.date meters)) f i 0 (omega (arith, before, count))))

-- ---- what contracts see
pub next_metered : (energy : List ℕ) (u : Underway) → next_in (record u { energy = energy }) ≡ next_in u
unfolding rate
next_metered energy u = refl

pub metered_ended : (energy : List ℕ) (doing : Doing) → metered_in energy (ended_in doing) ≡ ended_in (metered_in energy doing)
metered_ended energy doing = go doing.due
  where
    go : (due : List ℕ) → metered_in energy (ended_first due doing) ≡ ended_first due (metered_in energy doing)
    go [] = refl
    go (serial ∷ more) = refl

pub metered_settled : (energy : List ℕ) (doing : Doing) → metered_in energy (settled_in doing) ≡ settled_in (metered_in energy doing)
unfolding rate
metered_settled energy doing = refl

pub load_metered : (energy : List ℕ) (u : Underway) (host : ℕ) → load (record u { energy = energy }) host ≡ load u host
unfolding rate
load_metered energy u host = refl

pub work_metered : (energy : List ℕ) (u : Underway) → work_of (record u { energy = energy }) ≡ work_of u
unfolding work_of
work_metered energy u = refl

pub metered_later : (energy then : List ℕ) (span : ℕ) (doing : Doing) → then ≡ listed (length energy) (used_later span (record doing.under { energy = energy })) → metered_in then (later_in span doing) ≡ later_in span (metered_in energy doing)
unfolding rate
metered_later energy then span doing e = ap (λ l. metered_in l (later_in span (metered_in energy doing))) e

pub energy_told : (meters : List Metered) (date host : ℕ) → host < length meters → energy_at (meter_of meters host) date ≡ get_or (energies date meters) host 0
energy_told meters date host exists = sym (get_or-map (λ (m : Metered). energy_at m date) meters host first_meter 0 exists)

-- at first nobody used anything
pub first_energies : (hosts : ℕ) → energies 0 (replicate hosts first_meter) ≡ replicate hosts 0
first_energies zero = refl
first_energies (suc n) = ap (λ l. 0 ∷ l) (first_energies n)

first_since : (hosts host : ℕ) → (meter_of (replicate hosts first_meter) host).since ≡ 0
first_since zero host = refl
first_since (suc n) zero = refl
first_since (suc n) (suc host) = first_since n host

pub first_metered : (kept : Kept) (meters : List Metered) (touched : MarkSet) → AreFirst (length kept.hosts.items) meters touched → IsMetered kept meters touched
first_metered kept meters touched first = record {
  long = ap length first.meters_are ∙ length_same (length kept.hosts.items);
  room = first.room;
  few = first.few;
  past = λ host. omega (arith, ap (λ l. (meter_of l host).since) first.meters_are, first_since (length kept.hosts.items) host);
  powers = λ host exists out. absurd (true≢false (sym (first.all host exists) ∙ out));
}
  where
    length_same : (n : ℕ) → length (replicate n first_meter) ≡ n
    length_same zero = refl
    length_same (suc n) = ap suc (length_same n)
