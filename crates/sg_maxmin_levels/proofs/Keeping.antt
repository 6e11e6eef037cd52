-- What is kept, as a flow's part or the system changes.
use Rattle.std.proofs.Common.{◌≡◌, ℕ, ◌*◌, ◌^◌, ◌<◌, ◌≤◌, ◌⊎◌, inl, inr, None, IsSome, length, get_or-set_same, get_or-set_other, set, slice_index, sum_by, sym, ap, subst, ◌∙◌, arith}
use Rattle.sg_maxmin.specs.Chained.{times, users_on}
use Rattle.sg_maxmin.specs.Sharing.{Sharing, IsSound, flow_at, uses_at}
use Rattle.sg_maxmin_levels.specs.declared.levels.Levels.{Levels}
use Rattle.sg_maxmin_levels.specs.Kept.{CanShift, HasPlaces, IsKept, Shifts}
use Rattle.sg_maxmin.proofs.Listed.{eq_cases, none_some, some_of}
use Rattle.sg_maxmin_levels.proofs.Demand.{part_in, parts_fit, parts_move, rows_same}

-- ---- one flow has another part
-- for its own in the demand on its resources any may stand that is no greater than that of a flow without a level
pub can_shift : (s : Sharing) (all : Levels) (flow before after : ℕ) → IsKept s all → before ≡ slice_index all.parts.items flow → after ≤ 2 ^ 65 → CanShift before after (uses_at s.slots flow) all.demands.items
can_shift s all flow before after kept is le = record {
  some = λ c. subst (λ b. times c (uses_at s.slots flow) * b ≤ slice_index all.demands.items c) (sym is) (omega (arith, part_in s kept.places.sound all.parts.items flow c, kept.demands c));
  fits = λ c. omega (arith, parts_fit s kept.places.sound all.parts.items kept.fit flow after le c, kept.demands c);
}

pub moved_kept : (s : Sharing) → IsSound s → (old new : Levels) (flow part : ℕ) → IsSome (flow_at s.slots flow) → flow < length old.parts.items → part ≤ 2 ^ 65 → IsKept s old → HasPlaces s new → new.parts.items ≡ set old.parts.items flow part → new.longest ≡ old.longest →
    Shifts (slice_index old.parts.items flow) part (uses_at s.slots flow) old.demands.items new.demands.items → ((c : ℕ) → slice_index new.counts.items c ≤ slice_index old.counts.items c) → IsKept s new
moved_kept s sound old new flow part held below le kept places is same shifts counts = record {
  places = places;
  counts = λ c. omega (arith, counts c, kept.counts c);
  demands = λ c. omega (arith, shifts c, kept.demands c, parts_move s sound old.parts.items flow part below c, ap (λ ps. sum_by (slice_index ps) (users_on s.users c)) is);
  fit = λ id. subst (λ ps. slice_index ps id ≤ 2 ^ 65) (sym is) (elim (eq_cases id flow) [
    | inl e ↦ subst (λ n. slice_index (set old.parts.items flow part) n ≤ 2 ^ 65) (sym e) (subst (λ p. p ≤ 2 ^ 65) (sym (get_or-set_same old.parts.items flow part 0 below)) le)
    | inr ne ↦ subst (λ p. p ≤ 2 ^ 65) (sym (get_or-set_other old.parts.items flow id part 0 ne)) (kept.fit id)
  ]);
  none = λ id gone. subst (λ ps. slice_index ps id ≡ 0) (sym is) (elim (eq_cases id flow) [
    | inl e ↦ let f = some_of (flow_at s.slots flow) held in absurd (none_some (sym gone ∙ ap (flow_at s.slots) e ∙ f.1))
    | inr ne ↦ get_or-set_other old.parts.items flow id part 0 ne ∙ kept.none id gone
  ]);
  longest = λ id. subst (λ n. length (uses_at s.slots id) ≤ n) (sym same) (kept.longest id);
}

-- ---- another system: each flow with a part uses what it used, and none has more uses than the longest
pub system_kept : (s t : Sharing) → IsSound s → IsSound t → (kept : Levels) → IsKept s kept → HasPlaces t kept → ((id : ℕ) → (uses_at t.slots id ≡ uses_at s.slots id) ⊎ (slice_index kept.parts.items id ≡ 0)) → ((id : ℕ) → flow_at t.slots id ≡ None → (flow_at s.slots id ≡ None) ⊎ (slice_index kept.parts.items id ≡ 0)) →
    ((id : ℕ) → length (uses_at t.slots id) ≤ kept.longest) → ((c : ℕ) → slice_index kept.counts.items c ≤ length (users_on t.users c)) → IsKept t kept
system_kept s t sound sound' kept are places same none longest counts = record {
  places = places;
  counts = counts;
  demands = λ c. are.demands c ∙ sym (rows_same s t sound sound' kept.parts.items same c);
  fit = are.fit;
  none = λ id gone. elim (none id gone) [ inl e ↦ are.none id e | inr z ↦ z ];
  longest = longest;
}

-- no flow has more uses than a longer one
pub longer_kept : (s : Sharing) (old : Levels) (longest : ℕ) → old.longest ≤ longest → IsKept s old → IsKept s (record old { longest = longest })
longer_kept s old longest more kept =
    let places = kept.places in
    record {
      places = record { sound = places.sound; levels = places.levels; parts = places.parts; moved = places.moved; stale = places.stale; holds = places.holds; demands = places.demands; counts = places.counts; active = places.active };
      demands = kept.demands;
      counts = kept.counts;
      fit = kept.fit;
      none = kept.none;
      longest = λ id. omega (arith, kept.longest id, more);
    }
