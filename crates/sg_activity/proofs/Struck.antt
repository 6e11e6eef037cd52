-- The first that uses something that is off, and what contracts see of it.
use Rattle.std.proofs.Common.{◌≡◌, ◌≢◌, ℕ, zero, suc, ◌+◌, ◌-◌, ◌==◌, ◌<◌, ◌≤◌, ◌⊎◌, inl, inr, Bool, true, false, cond, not, Option, None, Some, List, [], ◌∷◌, set, get_or, refl, sym, ap, ◌∙◌, arith}
use Rattle.sg_heap.specs.Agenda.{Key, IsLeast, IsNoLater, key_at}
use Rattle.sg_activity_table.specs.declared.lives.Live.{Live}
use Rattle.sg_activity_table.specs.Slots.{passes, serials}
use Rattle.sg_activity.specs.Task.{Task, is_hit, uses_off}
use Rattle.sg_activity.specs.Underway.{hits, with_task}
use Rattle.sg_activity.specs.Stamp.{anew}
use Rattle.sg_activity.specs.Doing.{IsHit, without}
use Rattle.sg_activity.specs.kept.Hits.{AreHits, hit_in}
use Rattle.sg_activity_table.specs.Pool.{IsMissing, slot_at}
use Rattle.sg_activity.specs.kept.State.{State, links_at, task_of, stamp_of, is_now, is_so, told_at, told_by, under_of, doing_of}
use Rattle.sg_activity.specs.kept.Sound.{IsKept, place_at}
use Rattle.sg_activity.specs.kept.Turns.{Turns}
use Rattle.sg_activity_table.proofs.Listed.{length-listed, at_listed, past_listed}
use Rattle.sg_activity.proofs.Listing.{bool_cases, some_same, serials_none, serials_first}
use Rattle.sg_activity.proofs.Lookup.{Sought, sought, told_found, told_missed}
use Rattle.sg_activity.proofs.Rates.{task_there}
use Rattle.sg_activity.proofs.Told.{doing_same, stamps_set}
use Rattle.sg_activity.proofs.Turned.{due_set, not_now_any}

less_or : (i n : ℕ) → (i < n) ⊎ (n ≤ i)
less_or i n = grind arith

eqb_yes : (a b : ℕ) → a ≡ b → (a == b) ≡ true
eqb_yes a b e = grind arith

eqb_no : (a b : ℕ) → a ≢ b → (a == b) ≡ false
eqb_no a b ne = grind arith

-- ---- activity ids without one
-- each of these is at least this one
from_on : {X : Type 0} (test : X → Bool) (n low : ℕ) (xs : List (Option X)) → low < n → without low (serials test n xs) ≡ serials test n xs
unfolding serials
from_on test n low [] less = refl
from_on test n low (x ∷ xs) less = cases (passes test x) (from_on test (n + 1) low xs (omega (arith, less)))
  where
    cases : (b : Bool) → without low (serials test (n + 1) xs) ≡ serials test (n + 1) xs → without low (cond b (n ∷ serials test (n + 1) xs) (serials test (n + 1) xs)) ≡ cond b (n ∷ serials test (n + 1) xs) (serials test (n + 1) xs)
    cases true rest = ap (λ b. cond (not b) (n ∷ without low (serials test (n + 1) xs)) (without low (serials test (n + 1) xs))) (eqb_no n low (λ e. absurd (omega (arith, e, less)))) ∙ ap (λ l. n ∷ l) rest
    cases false rest = rest

serials_without : {X : Type 0} (test : X → Bool) (n i : ℕ) (xs : List (Option X)) (y : Option X) → passes test y ≡ false → serials test n (set xs i y) ≡ without (n + i) (serials test n xs)
unfolding serials
serials_without test n i [] y fails = refl
serials_without test n zero (x ∷ xs) y fails =
    ap (λ b. cond b (n ∷ serials test (n + 1) xs) (serials test (n + 1) xs)) fails ∙ sym (cases (passes test x))
  where
    cases : (b : Bool) → without (n + zero) (cond b (n ∷ serials test (n + 1) xs) (serials test (n + 1) xs)) ≡ serials test (n + 1) xs
    cases true = ap (λ b. cond (not b) (n ∷ without (n + zero) (serials test (n + 1) xs)) (without (n + zero) (serials test (n + 1) xs))) (eqb_yes n (n + zero) (omega arith)) ∙ from_on test (n + 1) (n + zero) xs (omega arith)
    cases false = from_on test (n + 1) (n + zero) xs (omega arith)
serials_without test n (suc i) (x ∷ xs) y fails = cases (passes test x) (serials_without test (n + 1) i xs y fails)
  where
    same : n + 1 + i ≡ n + suc i
    same = omega arith

    cases : (b : Bool) → serials test (n + 1) (set xs i y) ≡ without (n + 1 + i) (serials test (n + 1) xs) →
        cond b (n ∷ serials test (n + 1) (set xs i y)) (serials test (n + 1) (set xs i y)) ≡ without (n + suc i) (cond b (n ∷ serials test (n + 1) xs) (serials test (n + 1) xs))
    cases true e =
        ap (λ l. n ∷ l) (e ∙ ap (λ m. without m (serials test (n + 1) xs)) same)
        ∙ sym (ap (λ b. cond (not b) (n ∷ without (n + suc i) (serials test (n + 1) xs)) (without (n + suc i) (serials test (n + 1) xs))) (eqb_no n (n + suc i) (λ z. absurd (omega (arith, z)))))
    cases false e = e ∙ ap (λ m. without m (serials test (n + 1) xs)) same

-- ---- what is hit
abbrev hit_key : Bool → ℕ → Option Key
hit_key b serial = cond b (Some (record { date = 0; serial = serial })) None

hit_cases : (b : Bool) (serial : ℕ) (key : Key) → hit_key b serial ≡ Some key → (b ≡ true) × (key ≡ record { date = 0; serial = serial })
hit_cases true serial key e = (refl, sym (some_same e))
hit_cases false serial key e = absurd (cc e)

not_hit : (b : Bool) (serial : ℕ) → hit_key b serial ≡ None → b ≡ false
not_hit true serial e = absurd (cc e)
not_hit false serial e = refl

module _ (s : State) (is : IsKept s) (keys : List (Option Key)) (are : AreHits s.on s.slots s.ways keys) where
  hit_of : (key : ℕ) (live : Live) → slot_at s.slots key ≡ Some live → key_at keys key ≡ cond (uses_off s.on (place_at s key live)) (Some (record { date = 0; serial = live.serial })) None
  hit_of key live at = are.each key ∙ ap (hit_in s.on (links_at s.ways key)) at

  pub none_hit : ((slot : ℕ) → key_at keys slot ≡ None) → hits (under_of s) ≡ []
  none_hit none = serials_none (is_hit s.on) 1 (told_by (task_of s) s) (λ i. each i (less_or i s.drawn))
    where
      each : (i : ℕ) → (i < s.drawn) ⊎ (s.drawn ≤ i) → passes (is_hit s.on) (get_or (told_by (task_of s) s) i None) ≡ false
      each i (inr more) = ap (passes (is_hit s.on)) (past_listed s.drawn (λ j. told_at (task_of s) s.slots (j + 1)) i None more)
      each i (inl less) = ap (passes (is_hit s.on)) (at_listed s.drawn (λ j. told_at (task_of s) s.slots (j + 1)) i None less) ∙ elim (sought s.slots (i + 1)) [
        | inl f ↦ ap (passes (is_hit s.on)) (told_found (task_of s) s.slots (i + 1) f.key f.live is.apart f.at f.is) ∙ not_hit (uses_off s.on (place_at s f.key f.live)) f.live.serial (sym (hit_of f.key f.live f.at) ∙ none f.key)
        | inr missing ↦ ap (passes (is_hit s.on)) (told_missed (task_of s) s.slots (i + 1) missing)
      ]

  -- the activity of the least id
  module _ (slot : ℕ) (key : Key) (least : IsLeast keys slot key) where
    pub struck : (live : Live) × (slot_at s.slots slot ≡ Some live) × (uses_off s.on (place_at s slot live) ≡ true) × (key ≡ record { date = 0; serial = live.serial })
    struck = go (slot_at s.slots slot) refl
      where
        go : (o : Option Live) → slot_at s.slots slot ≡ o → (live : Live) × (slot_at s.slots slot ≡ Some live) × (uses_off s.on (place_at s slot live) ≡ true) × (key ≡ record { date = 0; serial = live.serial })
        go None none = absurd (cc (sym (are.each slot ∙ ap (hit_in s.on (links_at s.ways slot)) none) ∙ least.there))
        go (Some live) at = let r = hit_cases (uses_off s.on (place_at s slot live)) live.serial key (sym (hit_of slot live at) ∙ least.there) in (live, at, r.0, r.1)

    no_lower : (its : Key) → IsNoLater key its → key.date ≡ its.date → key.serial ≤ its.serial
    no_lower its (inl less) e = absurd (omega (arith, less, e))
    no_lower its (inr same) e = same.1

    pub hits_are : (y : Option Task) → passes (is_hit s.on) y ≡ false → hits (under_of s) ≡ key.serial ∷ serials (is_hit s.on) 1 (set (told_by (task_of s) s) (key.serial - 1) y)
    hits_are y fails =
        let live = struck.0 in
        let serial : key.serial ≡ live.serial = ap (λ (k : Key). k.serial) struck.3 in
        let h = is.each slot live struck.1 in
        let within : key.serial - 1 < s.drawn = omega (arith, h.from, h.to, serial) in
        let back : key.serial - 1 + 1 ≡ key.serial = omega (arith, h.from, serial) in
        let count : 1 + (key.serial - 1) ≡ key.serial = omega (arith, h.from, serial) in
        serials_first (is_hit s.on) 1 (told_by (task_of s) s) (key.serial - 1) y (omega (arith, within, length-listed s.drawn (λ j. told_at (task_of s) s.slots (j + 1))))
        (ap (passes (is_hit s.on)) (at_listed s.drawn (λ j. told_at (task_of s) s.slots (j + 1)) (key.serial - 1) None within ∙ ap (told_at (task_of s) s.slots) back ∙ told_found (task_of s) s.slots key.serial slot live is.apart struck.1 (sym serial)) ∙ struck.2)
        (λ j less. ap (passes (is_hit s.on)) (at_listed s.drawn (λ i. told_at (task_of s) s.slots (i + 1)) j None (omega (arith, less, within))) ∙ lower j less (sought s.slots (j + 1)))
        fails
        ∙ ap (λ n. n ∷ serials (is_hit s.on) 1 (set (told_by (task_of s) s) (key.serial - 1) y)) count
      where
        lower : (j : ℕ) → j < key.serial - 1 → Sought s.slots (j + 1) ⊎ IsMissing s.slots (j + 1) → passes (is_hit s.on) (told_at (task_of s) s.slots (j + 1)) ≡ false
        lower j less (inr none) = ap (passes (is_hit s.on)) (told_missed (task_of s) s.slots (j + 1) none)
        lower j less (inl f) = ap (passes (is_hit s.on)) (told_found (task_of s) s.slots (j + 1) f.key f.live is.apart f.at f.is) ∙ elim (bool_cases (uses_off s.on (place_at s f.key f.live))) [
          | inr off ↦ off
          | inl hit ↦
              let its : Key = record { date = 0; serial = f.live.serial } in
              let there : key_at keys f.key ≡ Some its = hit_of f.key f.live f.at ∙ ap (λ b. cond b (Some its) None) hit in
              absurd (omega (arith, no_lower its (least.least f.key its there) (ap (λ (k : Key). k.date) struck.3), f.is, less))
        ]

    pub hit_told : (room : ℕ) → IsHit (doing_of s room) key.serial
    hit_told room =
        let live = struck.0 in
        let serial : key.serial ≡ live.serial = ap (λ (k : Key). k.serial) struck.3 in
        let h = is.each slot live struck.1 in
        record {
          rest = serials (is_hit s.on) 1 (set (told_by (task_of s) s) (key.serial - 1) None);
          first = hits_are None refl;
          task = task_of s slot live;
          at = ap (λ n. get_or (under_of s).tasks (n - 1) None) serial ∙ task_there s is slot live struck.1;
          from = omega (arith, h.from, serial);
          to = omega (arith, h.to, serial, length-listed s.drawn (λ j. told_at (task_of s) s.slots (j + 1)));
        }

-- the phase of one changes, and no longer completes
pub changed_told : (s new : State) (key : ℕ) (live : Live) (slot : Option Live) (x : Option Task) (room : ℕ) → IsKept s → slot_at s.slots key ≡ Some live → Turns s new key live.serial slot → new.drawn ≡ s.drawn → under_of new ≡ with_task live.serial x (under_of s) →
    doing_of new room ≡ record (doing_of s room) { under = with_task live.serial x (under_of s); due = without live.serial (doing_of s room).due; settled = false; stamps = anew live.serial (with_task live.serial x (under_of s)) (told_by stamp_of s) }
changed_told s new key live slot x room is at by drawn under =
    let h = is.each key live at in
    let y = told_at (is_now new) new.slots live.serial in
    let count : 1 + (live.serial - 1) ≡ live.serial = omega (arith, h.from) in
    doing_same (under_of new) (with_task live.serial x (under_of s)) (cond new.arrived (serials is_so 1 (told_by (is_now new) new)) []) (without live.serial (cond s.arrived (serials is_so 1 (told_by (is_now s) s)) [])) new.settled false room room
    (told_by stamp_of new) (anew live.serial (with_task live.serial x (under_of s)) (told_by stamp_of s)) under
    (ap (λ b. cond b (serials is_so 1 (told_by (is_now new) new)) []) by.arrived ∙ arrive s.arrived (ap (serials is_so 1) (due_set s new key live.serial slot is by drawn h.from h.to)
    ∙ serials_without is_so 1 (live.serial - 1) (told_by (is_now s) s) y (not_now_any s new key live.serial slot is by) ∙ ap (λ n. without n (serials is_so 1 (told_by (is_now s) s))) count))
    by.unsettled refl (stamps_set s new key live.serial slot is by (with_task live.serial x (under_of s)) under drawn h.from h.to)
  where
    arrive : (b : Bool) → serials is_so 1 (told_by (is_now new) new) ≡ without live.serial (serials is_so 1 (told_by (is_now s) s)) → cond b (serials is_so 1 (told_by (is_now new) new)) [] ≡ without live.serial (cond b (serials is_so 1 (told_by (is_now s) s)) [])
    arrive true e = e
    arrive false e = refl
