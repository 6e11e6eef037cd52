-- An activity id is drawn.
use Rattle.std.proofs.Common.{◌≡◌, ℕ, ◌+◌, false, cond, None, [], ◌∷◌, ◌++◌, map, refl, ap, ap₂, ◌∙◌, arith}
use Rattle.std.proofs.lemmas.List.{map-append}
use Rattle.sg_activity_table.specs.Slots.{passes, serials}
use Rattle.sg_activity.specs.Underway.{with_next_serial}
use Rattle.sg_activity.specs.Doing.{drawn_in}
use Rattle.sg_activity.specs.kept.State.{State, task_of, stamp_of, is_now, is_so, told_at, told_by, changed_at, changed_by, under_of, doing_of}
use Rattle.sg_activity.specs.kept.Sound.{IsKept}
use Rattle.sg_activity.proofs.Listing.{listed_more}
use Rattle.sg_activity.proofs.Lookup.{told_missed}
use Rattle.sg_activity.proofs.Serials.{serials_push}
use Rattle.sg_activity.proofs.Starts.{fresh_serial}
use Rattle.sg_activity.proofs.Told.{doing_same}

pub drawn_kept : (s : State) → IsKept s → IsKept (record s { drawn = s.drawn + 1 })
drawn_kept s is = record {
  each = λ key live at.
      let h = is.each key live at in
      record {
        from = h.from;
        to = omega (arith, h.to);
        stamped = h.stamped;
        in_time = h.in_time;
        small = h.small;
        few_bytes = h.few_bytes;
        weighs = h.weighs;
        paced = h.paced;
        placed = h.placed;
        fits = h.fits;
        counted = h.counted;
        flow = λ full. let f = h.flow full in record { marked = f.marked; runs = f.runs; limit = f.limit; within = f.within; known = f.known };
        dated = h.dated;
      };
  idle = is.idle;
  apart = is.apart;
  back = λ id running e. let b = is.back id running e in record { live = b.live; there = b.there; full = b.full; is = b.is };
  fresh = is.fresh;
  fresh_now = is.fresh_now;
  none_fresh = is.none_fresh;
  rates = is.rates;
}

pub drawn_told : (s : State) (room : ℕ) → IsKept s → doing_of (record s { drawn = s.drawn + 1 }) room ≡ drawn_in (doing_of s room)
drawn_told s room is =
    let new = record s { drawn = s.drawn + 1 } in
    let none = fresh_serial s (s.drawn + 1) is (omega arith) in
    let tasks : told_by (task_of new) new ≡ told_by (task_of s) s ++ None ∷ [] =
    listed_more s.drawn (λ i. told_at (task_of s) s.slots (i + 1)) ∙ ap (λ o. told_by (task_of s) s ++ o ∷ []) (told_missed (task_of s) s.slots (s.drawn + 1) none) in
    let changed : changed_by new ≡ changed_by s ++ false ∷ [] =
    ap (map (passes is_so)) (listed_more s.drawn (λ i. told_at (changed_at s.fresh s.runs) s.slots (i + 1)) ∙ ap (λ o. told_by (changed_at s.fresh s.runs) s ++ o ∷ []) (told_missed (changed_at s.fresh s.runs) s.slots (s.drawn + 1) none))
    ∙ map-append (passes is_so) (told_by (changed_at s.fresh s.runs) s) (None ∷ []) in
    let due : serials is_so 1 (told_by (is_now new) new) ≡ serials is_so 1 (told_by (is_now s) s) =
    ap (serials is_so 1) (listed_more s.drawn (λ i. told_at (is_now s) s.slots (i + 1)))
    ∙ serials_push is_so 1 (told_by (is_now s) s) (told_at (is_now s) s.slots (s.drawn + 1)) (ap (passes is_so) (told_missed (is_now s) s.slots (s.drawn + 1) none)) in
    doing_same (under_of new) (with_next_serial (under_of s)) (cond s.arrived (serials is_so 1 (told_by (is_now new) new)) []) (cond s.arrived (serials is_so 1 (told_by (is_now s) s)) []) s.settled s.settled room room (told_by stamp_of new) (told_by stamp_of s ++ None ∷ [])
    (ap₂ (λ t b. record (under_of s) { tasks = t; marks = record (under_of s).marks { changed = b } }) tasks changed) (ap (λ l. cond s.arrived l []) due) refl refl
    (listed_more s.drawn (λ i. told_at stamp_of s.slots (i + 1)) ∙ ap (λ o. told_by stamp_of s ++ o ∷ []) (told_missed stamp_of s.slots (s.drawn + 1) none))
