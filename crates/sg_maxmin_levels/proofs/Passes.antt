-- Another pass over the users of a resource, on the way to its hold.
use Rattle.std.proofs.Common.{◌≡◌, ◌≢◌, ℕ, suc, ◌+◌, ◌-◌, ◌*◌, ◌<◌, ◌≤◌, inl, inr, lt-ltb, le-ltb, Option, None, Some, IfSome, List, length, get_or, slice_index, refl, sym, ap, subst, ◌∙◌, arith}
use Rattle.sg_maxmin.specs.Chained.{users_on}
use Rattle.sg_maxmin.specs.Fill.{Flow}
use Rattle.sg_maxmin.specs.Held.{IsAtMost, IsHold}
use Rattle.sg_maxmin.specs.Sharing.{Sharing}
use Rattle.sg_maxmin_levels.specs.declared.hold.Above.{Above}
use Rattle.sg_maxmin.specs.Numbered.{below_at, level_at, row_level, row_waiting, when_below}
use Rattle.sg_maxmin_levels.specs.Kept.{IsLevelAbove, IsPass, WaitFrom, hold_looks}
use Rattle.sg_maxmin.proofs.Listed.{at_in, lt_cases, none_some}
use Rattle.sg_maxmin.proofs.Members.{In}
use Rattle.sg_maxmin.proofs.Users.{in_is}
use Rattle.sg_maxmin.proofs.HeldLevels.{row_same, waiting_same}
use Rattle.sg_maxmin_levels.proofs.RowRise.{IsOnWay, Looked, looked_all, looked_first, looked_next, way_ends, way_on}

-- what a pass over the users found, after so many of the available visits
pub record IsNext (s : Sharing) (c : ℕ) (levels : List (Option ℕ)) (low left looks before now : ℕ) (next : Option Above) : Type 0 where
  pub level : IfSome next (λ a. IsLevelAbove s c levels low a.level)
  pub least : IfSome next (λ a. WaitFrom levels low (users_on s.users c) a.least)
  pub users : IfSome next (λ a. IsPass s c left a.users)
  pub spent : IfSome next (λ a. now + left ≡ before + looks + a.users)
  pub looked : IfSome next (λ a. Looked levels (users_on s.users c) low a.level before now)
  pub looks_are : now ≤ before + looks
  pub most : now ≤ before + hold_looks (length (users_on s.users c))
  pub enough : next ≡ None → looks < hold_looks (length (users_on s.users c))

few : (n : ℕ) → n ≤ (n + 2) * n
few n = grind arith

-- the level stays, as the same flows wait
next_is : (o : Option ℕ) (new waiting level : ℕ) → 0 < waiting → level ≡ new → (o ≡ None → waiting ≡ 0) → IfSome o (λ l. (0 < waiting) × (l ≡ level)) → o ≡ Some new
next_is None new waiting level pos is none some = absurd (omega (arith, pos, none refl))
next_is (Some l) new waiting level pos is none some = ap (λ x. Some x) (some.1 ∙ is)

module _ (s : Sharing) (c : ℕ) (levels : List (Option ℕ)) (looks before : ℕ) where
  pub first_pass : (now : ℕ) (next : Option Above) → IfSome next (λ a. IsLevelAbove s c levels 0 a.level) → IfSome next (λ a. WaitFrom levels 0 (users_on s.users c) a.least) → IfSome next (λ a. IsPass s c looks a.users) → IfSome next (λ a. now ≡ before + a.users) → now ≤ before + looks → (next ≡ None → looks < length (users_on s.users c)) →
      IsNext s c levels 0 looks looks before now next
  first_pass now None level least users spent most enough =
      let n = length (users_on s.users c) in
      record {
        level = tt;
        least = tt;
        users = tt;
        spent = tt;
        looked = tt;
        looks_are = most;
        most = omega (arith, most, enough refl, few n);
        enough = λ e. omega (arith, enough refl, few n);
      }
  first_pass now (Some a) level least users spent most enough =
      let looked = looked_first levels (users_on s.users c) a.level before now (omega (arith, spent, users.all)) in
      record {
        level = level;
        least = least;
        users = users;
        spent = omega (arith, spent);
        looked = looked;
        looks_are = most;
        most = looked_all levels (users_on s.users c) 0 a.level before now looked;
        enough = λ e. absurd (none_some (sym e));
      }

  module _ (low left now after new : ℕ) (a : Above) (found : IsNext s c levels low left looks before now (Some a)) (is : a.level ≡ Some new) (ne : new ≢ low) (way : IsOnWay (slice_index s.capacities c) s.slots levels (users_on s.users c) low) where
    told : (0 < row_waiting s.slots (below_at levels low) (users_on s.users c)) × (new ≡ row_level (slice_index s.capacities c) s.slots (below_at levels low) (users_on s.users c))
    told = subst (λ o. IfSome o (λ x. (0 < row_waiting s.slots (below_at levels low) (users_on s.users c)) × (x ≡ row_level (slice_index s.capacities c) s.slots (below_at levels low) (users_on s.users c)))) is found.level.some

    not_low : a.level ≡ Some low → ⊥
    not_low e = ne (same new low (sym is ∙ e))
      where
        same : (x y : ℕ) → Some x ≡ Some y → x ≡ y
        same x y h = cc h

    -- with another pass over the users the visits stay as few
    more_looked : (next : Option ℕ) (then : ℕ) → then ≡ now + length (users_on s.users c) → (next ≡ None → row_waiting s.slots (below_at levels new) (users_on s.users c) ≡ 0) → IfSome next (λ x. (0 < row_waiting s.slots (below_at levels new) (users_on s.users c)) × (x ≡ row_level (slice_index s.capacities c) s.slots (below_at levels new) (users_on s.users c))) →
        Looked levels (users_on s.users c) new next before then
    more_looked next then e none some =
        let row = users_on s.users c in
        let cap = slice_index s.capacities c in
        looked_next levels row low new a.level next before now then (omega (arith, told.1, way.reached told.0)) e not_low
        (λ still.
        let pos : 0 < row_waiting s.slots (below_at levels new) row = omega (arith, told.0, waiting_same s.slots (below_at levels new) (below_at levels low) row still) in
        next_is next new (row_waiting s.slots (below_at levels new) row) (row_level cap s.slots (below_at levels new) row) pos (row_same cap s.slots (below_at levels new) (below_at levels low) row still ∙ sym told.1) none some) found.looked

    enough_for : now + length (users_on s.users c) ≤ before + hold_looks (length (users_on s.users c))
    enough_for =
        let row = users_on s.users c in
        looked_all levels row new (Some new) before (now + length row) (looked_next levels row low new a.level (Some new) before now (now + length row) (omega (arith, told.1, way.reached told.0)) refl not_low (λ still. refl) found.looked)

    pub next_pass : (next : Option Above) → IfSome next (λ b. IsLevelAbove s c levels new b.level) → IfSome next (λ b. WaitFrom levels new (users_on s.users c) b.least) → IfSome next (λ b. IsPass s c (left - a.users) b.users) → IfSome next (λ b. after ≡ now + b.users) → after ≤ now + (left - a.users) → (next ≡ None → left - a.users < length (users_on s.users c)) →
        IsNext s c levels new (left - a.users) looks before after next
    next_pass None level least users spent most enough = record {
      level = tt;
      least = tt;
      users = tt;
      spent = tt;
      looked = tt;
      looks_are = omega (arith, most, found.spent, found.users.few);
      most = omega (arith, most, enough refl, enough_for);
      enough = λ e. omega (arith, enough refl, enough_for, found.spent, found.users.few);
    }
    next_pass (Some b) level least users spent most enough =
        let looked = more_looked b.level after (omega (arith, spent, users.all)) level.none level.some in
        record {
          level = level;
          least = least;
          users = users;
          spent = omega (arith, spent, found.spent, found.users.few);
          looked = looked;
          looks_are = omega (arith, most, found.spent, found.users.few);
          most = looked_all levels (users_on s.users c) new b.level before after looked;
          enough = λ e. absurd (none_some (sym e));
        }

-- the same flows are fixed at a level up to which none waits
still : (o : Option ℕ) (low new least : ℕ) → low ≤ new → new ≤ least → (when_below o low ≡ None → IsAtMost (Some least) o) → when_below o new ≡ when_below o low
unfolding when_below
still None low new least less most from = refl
still (Some n) low new least less most from = elim (lt_cases n low) [
  | inl under ↦ rw (lt-ltb n new (omega (arith, under, less)), lt-ltb n low under) refl
  | inr over ↦
      let at : least ≤ n = from (rw (le-ltb n low over) refl) in
      rw (le-ltb n new (omega (arith, at, most)), le-ltb n low over) refl
]

-- so if the level of the resource is one, the resource holds at it
pub way_last : (capacity : ℕ) (slots : List (Option Flow)) (levels : List (Option ℕ)) (row : List ℕ) (low least : ℕ) → IsOnWay capacity slots levels row low → 0 < row_waiting slots (below_at levels low) row → row_level capacity slots (below_at levels low) row ≤ least → WaitFrom levels low row least →
    IsHold capacity slots levels row (Some (row_level capacity slots (below_at levels low) row))
way_last capacity slots levels row low least way pos most from =
    let l = row_level capacity slots (below_at levels low) row in
    let same : (id : ℕ) → In id row → below_at levels l id ≡ below_at levels low id = λ id i. still (level_at levels id) low l least (way.reached pos) most (from id (in_is id row i)) in
    way_ends capacity slots levels row l (way_on capacity slots levels row low pos way) (omega (arith, pos, waiting_same slots (below_at levels l) (below_at levels low) row same)) (row_same capacity slots (below_at levels l) (below_at levels low) row same)

-- and no flow that waits among the first ones and one more is below the lesser level
at_most_less : (least new : ℕ) (o : Option ℕ) → new ≤ least → IsAtMost (Some least) o → IsAtMost (Some new) o
at_most_less least new None less most = tt
at_most_less least new (Some n) less most = omega (arith, less, most)

abbrev pub WaitFirst : List (Option ℕ) → ℕ → List ℕ → ℕ → ℕ → Type 0
WaitFirst levels low row k least = (j : ℕ) → j < k → below_at levels low (get_or row j 0) ≡ None → IsAtMost (Some least) (level_at levels (get_or row j 0))

pub wait_none : (levels : List (Option ℕ)) (low : ℕ) (row : List ℕ) (least : ℕ) → WaitFirst levels low row 0 least
wait_none levels low row least = λ j less none. absurd (omega (arith, less))

pub wait_next : (levels : List (Option ℕ)) (low : ℕ) (row : List ℕ) (k least new flow : ℕ) (level : Option ℕ) → flow ≡ get_or row k 0 → level ≡ level_at levels flow → new ≤ least → (when_below level low ≡ None → IsAtMost (Some new) level) →
    WaitFirst levels low row k least → WaitFirst levels low row (suc k) new
wait_next levels low row k least new flow level is at less here before = λ j under none. elim (lt_cases j k) [
  | inl old ↦ at_most_less least new (level_at levels (get_or row j 0)) less (before j old none)
  | inr over ↦
      let same : j ≡ k = omega (arith, over, under) in
      let e : level_at levels (get_or row j 0) ≡ level = ap {B = Option ℕ} (λ i. level_at levels (get_or row i 0)) same ∙ ap {B = Option ℕ} (level_at levels) (sym is) ∙ sym at in
      subst (IsAtMost (Some new)) (sym e) (here (sym (ap {B = Option ℕ} (λ o. when_below o low) e) ∙ none))
]

pub wait_all : (levels : List (Option ℕ)) (low : ℕ) (row : List ℕ) (k least : ℕ) → k ≡ length row → WaitFirst levels low row k least → WaitFrom levels low row least
wait_all levels low row k least all first = λ id i none.
    let a = at_in id row i in
    subst (λ n. IsAtMost (Some least) (level_at levels n)) a.2 (first a.0 (omega (arith, a.1, all)) (subst (λ n. below_at levels low n ≡ None) (sym a.2) none))

-- the same with as many more visits before and after
pub shifted : (after now more : ℕ) (o : Option Above) → IfSome o (λ b. after ≡ now + b.users) → IfSome o (λ b. after + more ≡ now + more + b.users)
shifted after now more None told = tt
shifted after now more (Some b) told = omega (arith, told)
