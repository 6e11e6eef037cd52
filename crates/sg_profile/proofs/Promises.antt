-- The profiles of a platform are of its hosts and links.
use Rattle.std.proofs.Common.{◌≡◌, ℕ, ◌≤◌, ◌^◌, inl, inr, Bool, Option, List, length, get_or, map, slice_get, sym, ap, subst, ◌∙◌, arith}
use Rattle.std.proofs.lemmas.List.{get_or_past, length-map}
use Rattle.std.proofs.lemmas.List.Elements.{All-append, All-map}
use Rattle.std.proofs.lemmas.Option.{get_or_from_slice_get, slice_get_within}
use Rattle.sg_heap.proofs.Changes.{lt_cases}
use Rattle.sg_platform_rows.specs.Platform.{Counts, HasDates, IsProfileRow, IsProfiled, IsStateProfileRow, counts_of}
use Rattle.sg_platform_rows.specs.declared.rows.ProfileRow.{ProfileRow}
use Rattle.sg_platform_rows.specs.declared.rows.Profiled.{Profiled}
use Rattle.sg_platform_rows.specs.declared.rows.Profiled.TheVariants.{Host, Link}
use Rattle.sg_platform_rows.specs.declared.rows.StateProfileRow.{StateProfileRow}
use Rattle.sg_profile.specs.declared.entry.Entry.{Entry}
use Rattle.sg_profile.specs.declared.profile.Profile.{Profile}
use Rattle.sg_profile.specs.Laws.{EntriesExist, PlatformsPromise}
use Rattle.sg_profile.specs.declared.entry.Entry.TheVariants.{Bandwidth, HostOn, LinkOn, Speed}
use Rattle.sg_profile.specs.Profiles.{IsEntry, IsProfile, IsSchedule, entry_by, profile_at, profile_of, state_profile_of, turn_at}
use Rattle.sg_profile.proofs.Cases.{no_profile}

entry_kept : (counts : Counts) (of : Profiled) (value : ℕ) → IsProfiled counts of → value ≤ 10 ^ 15 → IsEntry counts.hosts counts.links (entry_by Speed Bandwidth of value)
entry_kept counts (Host host) value exists small = (exists, small)
entry_kept counts (Link link) value exists small = (omega (arith, exists), small)

state_entry_kept : (counts : Counts) (of : Profiled) (on : Bool) → IsProfiled counts of → IsEntry counts.hosts counts.links (entry_by HostOn LinkOn of on)
state_entry_kept counts (Host host) on exists = exists
state_entry_kept counts (Link link) on exists = omega (arith, exists)

-- what a row promises of its dates
schedule_kept : {A : Type 0} (counts : Counts) (of : Profiled) (dates : List ℕ) (gap : Option ℕ) (values : List A) (entry : A → Entry) → HasDates counts of dates (length values) gap
    → IsSchedule (record { dates = dates; entries = map entry values; gap = gap })
schedule_kept counts of dates gap values entry is = record {
  some = is.some;
  few = is.few;
  each = length-map values entry ∙ is.each;
  rising = is.rising;
  dates = is.soon;
  gap = is.wide;
}

profile_kept : (counts : Counts) (row : ProfileRow) → IsProfileRow counts row → IsProfile counts.hosts counts.links (profile_of row)
profile_kept counts row is = record {
  schedule = schedule_kept counts row.of row.dates row.gap row.values (entry_by Speed Bandwidth row.of) is.dates;
  entries = All-map (IsEntry counts.hosts counts.links) (entry_by Speed Bandwidth row.of) row.values (λ k d within. entry_kept counts row.of (get_or row.values k d) is.dates.exists (is.values k d within));
}

state_profile_kept : (counts : Counts) (row : StateProfileRow) → IsStateProfileRow counts row → IsProfile counts.hosts counts.links (state_profile_of row)
state_profile_kept counts row is = record {
  schedule = schedule_kept counts row.of row.dates row.gap row.states (entry_by HostOn LinkOn row.of) is;
  entries = All-map (IsEntry counts.hosts counts.links) (entry_by HostOn LinkOn row.of) row.states (λ k d within. state_entry_kept counts row.of (get_or row.states k d) is.exists);
}

pub platforms_promise : PlatformsPromise
platforms_promise platform is =
    let counts = counts_of platform in
    let P = IsProfile counts.hosts counts.links in
    All-append P (map profile_of platform.profiles) (map state_profile_of platform.state_profiles)
    (All-map P profile_of platform.profiles (λ k d within. profile_kept counts (get_or platform.profiles k d) (is.profiles k d within)))
    (All-map P state_profile_of platform.state_profiles (λ k d within. state_profile_kept counts (get_or platform.state_profiles k d) (is.state_profiles k d within)))

pub entries_exist : EntriesExist
entries_exist hosts links profiles turns row entry are e = elim (lt_cases row (length profiles)) [
  | inl within ↦
      let all = (are row no_profile within).entries in
      let of = (profile_at profiles row).entries in
      let k = (turn_at turns row).entry in
      subst (IsEntry hosts links) (get_or_from_slice_get of k entry entry e) (all k entry (slice_get_within of k entry e))
  | inr past ↦
      let none : profile_at profiles row ≡ no_profile = get_or_past profiles row no_profile past in
      absurd (cc (sym (ap (λ (p : Profile). slice_get p.entries (turn_at turns row).entry) none) ∙ e))
]
