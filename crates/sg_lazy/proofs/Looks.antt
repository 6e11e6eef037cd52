-- The touched flows are connected to what changed, so the visits to them are within the work.
use Rattle.std.proofs.Common.{◌≡◌, ℕ, zero, suc, ◌+◌, ◌*◌, ◌<◌, ◌≤◌, ◌⊎◌, inl, inr, Bool, true, false, true≢false, cond, ◌||◌, ◌&&◌, Option, None, Some, IsSome, is_none, List, [], ◌∷◌, map, length, get_or, sum_by, refl, sym, ap, ap₂, subst, ◌∙◌, arith}
use Rattle.std.specs.List.{list_any}
use Rattle.std.proofs.lemmas.List.{length-map}
use Rattle.std.proofs.lemmas.List.Sums.{sum_by-cons}
use Rattle.sg_base.specs.MarkSet.{MarkSet, is_in}
use Rattle.sg_maxmin.specs.Fill.{Flow, is_on}
use Rattle.sg_maxmin.specs.Sharing.{Sharing, IsSound, flow_at, slot_part, uses_at}
use Rattle.sg_maxmin.proofs.Members.{In, In-map, list_any_in}
use Rattle.sg_maxmin.specs.Chained.{users_on}
use Rattle.sg_maxmin_levels.specs.declared.levels.Levels.{Levels}
use Rattle.sg_maxmin_levels.specs.Joined.{joined_count, joined_part, joined_uses, sum_below}
use Rattle.sg_maxmin_levels.specs.Kept.{IsWithin}
use Rattle.sg_maxmin.specs.Found.{PassAlong}
use Rattle.sg_maxmin_solve.specs.Component.{MarksRow, lengths}
use Rattle.sg_lazy.specs.Touch.{touches, spread, reach}
use Rattle.sg_lazy.specs.RunningFlow.{RunningFlow, running_at, running_flows}
use Rattle.sg_lazy.specs.Work.{is_marked, is_joined, work}
use Rattle.sg_lazy.specs.declared.settle.Pending.{Pending}
use Rattle.sg_lazy.specs.kept.Held.{IsWithout, running_of, running_in, flow_or_none, ended_in}
use Rattle.sg_lazy.specs.kept.Leveled.{AreLeveled, RowsPass}
use Rattle.sg_lazy.specs.kept.Solving.{AreMarkedWithin, solve_looks}
use Rattle.sg_lazy.proofs.Joining.{along_all, listed_le, or_left, or_right}
use Rattle.sg_lazy.proofs.Leveled.{widen}
use Rattle.sg_lazy.proofs.Listed.{at_listed}
use Rattle.sg_lazy.proofs.Reached.{all_reached_lem}
use Rattle.sg_lazy.proofs.Settled.{held_runs}
use Rattle.sg_lazy.proofs.Whole.{length-ended, lengths-ended}
use Rattle.sg_lazy.proofs.Works.{more_looks, suffices_lem}
use Rattle.sg_maxmin.proofs.Listed.{in_at, bool_cases, some_of}
use Rattle.sg_maxmin.proofs.Users.{in_uses, is_in_In, on_held}

-- ---- sums over what runs
abbrev part : (RunningFlow → ℕ) → Option RunningFlow → ℕ
part g None = 0
part g (Some r) = g r

sum_held : (g : RunningFlow → ℕ) (slots : List (Option RunningFlow)) → sum_by g (running_flows slots) ≡ sum_by (part g) slots
sum_held g [] = refl
sum_held g (None ∷ slots) = omega (arith, sum_held g slots, sum_by-cons (part g) None slots)
sum_held g (Some r ∷ slots) = sum_by-cons g r (running_flows slots) ∙ ap (λ n. g r + n) (sum_held g slots) ∙ sym (sum_by-cons (part g) (Some r) slots)

pub In-held : (slots : List (Option RunningFlow)) (id : ℕ) (r : RunningFlow) → get_or slots id None ≡ Some r → In r (running_flows slots)
In-held [] id r h = let q : None ≡ Some r = h in cc
In-held (None ∷ slots) zero r h = let q : None ≡ Some r = h in cc
In-held (Some s ∷ slots) zero r h = inl (same s r h)
  where
    same : (a b : RunningFlow) → Some a ≡ Some b → a ≡ b
    same a b e = cc e
In-held (None ∷ slots) (suc id) r h = In-held slots id r h
In-held (Some s ∷ slots) (suc id) r h = inr (In-held slots id r h)

-- if no flow is connected there are no uses of connected flows
pub none_joined : (j : RunningFlow → Bool) (xs : List RunningFlow) → sum_by (λ r. cond (j r) 1 0) xs ≡ 0 → sum_by (λ (r : RunningFlow). cond (j r) (length r.flow.uses) 0) xs ≡ 0
none_joined j [] e = refl
none_joined j (r ∷ xs) e =
    let first : ◌≡◌ {A = ℕ} (cond (j r) 1 0) 0 = omega (arith, e, sum_by-cons (λ r. cond (j r) 1 0) r xs) in
    omega (arith, sum_by-cons (λ (r : RunningFlow). cond (j r) (length r.flow.uses) 0) r xs, nothing (j r) (length r.flow.uses) first, none_joined j xs (omega (arith, e, sum_by-cons (λ r. cond (j r) 1 0) r xs)))
  where
    nothing : (b : Bool) (n : ℕ) → ◌≡◌ {A = ℕ} (cond b 1 0) 0 → cond b n 0 ≡ 0
    nothing true n e = absurd (omega (arith, e))
    nothing false n e = refl

or_parts : (a b : Bool) → (a || b) ≡ true → (a ≡ true) ⊎ (b ≡ true)
or_parts true b e = inl refl
or_parts false b e = inr e

pub both_true : (a b : Bool) → a ≡ true → b ≡ true → (a && b) ≡ true
both_true true true e f = refl
both_true false b e f = absurd (true≢false (sym e))
both_true true false e f = absurd (true≢false (sym f))

pub first_reached : (n : ℕ) (flows : List Flow) (first : ℕ → Bool) (c : ℕ) → first c ≡ true → reach n flows first c ≡ true
unfolding reach spread
first_reached zero flows first c e = e
first_reached (suc n) flows first c e = or_left (reach n flows first c) (list_any (λ flow. is_on c flow && touches (reach n flows first) flow) flows) (first_reached n flows first c e)

pub next_reached : (n : ℕ) (flows : List Flow) (first : ℕ → Bool) (c : ℕ) (flow : Flow) → In flow flows → is_on c flow ≡ true → touches (reach n flows first) flow ≡ true → reach (suc n) flows first c ≡ true
unfolding reach spread
next_reached n flows first c flow i u t = or_right (reach n flows first c) (list_any (λ flow. is_on c flow && touches (reach n flows first) flow) flows) (list_any_in (λ flow. is_on c flow && touches (reach n flows first) flow) flows flow i (both_true (is_on c flow) (touches (reach n flows first) flow) u t))

module _ (s t : Sharing) (rates began marked ended resources : List ℕ) (without : IsWithout s t ended) (sound : IsSound t) (ended_are : (id : ℕ) → is_in id ended ≡ true → IsSome (flow_at s.slots id)) where
  abbrev all : List (Option RunningFlow)
  all = running_in s.slots rates began marked ended

  abbrev run : List RunningFlow
  run = running_flows all

  abbrev gone : List Flow
  gone = ended_in s.slots ended

  abbrev pub close : ℕ → Bool
  close = reach (length run) (map (λ (r : RunningFlow). r.flow) run) (is_marked run gone resources)

  abbrev test : Option RunningFlow → Bool
  test None = false
  test (Some r) = is_joined run gone resources r

  abbrev goes : ℕ → Bool
  goes id = test (running_at all id)

  as_runs : (id : ℕ) (flow : Flow) → flow_at t.slots id ≡ Some flow → running_at all id ≡ Some (record { flow = flow; rate = get_or rates id 0; began = is_in id began; marked = is_in id marked })
  as_runs = held_runs s t rates began marked ended without sound

  joined_is : (r : RunningFlow) → is_joined run gone resources r ≡ (r.marked || touches close r.flow)
  unfolding is_joined
  joined_is r = refl

  run_closed : (c : ℕ) (r : RunningFlow) → In r run → is_on c r.flow ≡ true → touches close r.flow ≡ true → close c ≡ true
  run_closed c r i u k =
      let flows = map (λ (r : RunningFlow). r.flow) run in
      let first = is_marked run gone resources in
      subst (λ n. reach n flows first c ≡ true) (length-map run (λ (r : RunningFlow). r.flow)) (all_reached_lem flows first (suc (length run)) c (next_reached (length run) flows first c r.flow (In-map (λ (r : RunningFlow). r.flow) run r i) u k))

  marked_closed : (c : ℕ) → is_marked run gone resources c ≡ true → close c ≡ true
  marked_closed c e = first_reached (length run) (map (λ (r : RunningFlow). r.flow) run) (is_marked run gone resources) c e

  rows_pass : (id c : ℕ) → goes id ≡ true → is_in c (uses_at t.slots id) ≡ true → close c ≡ true
  rows_pass id c e i =
      let u = in_uses t.slots id c i in
      let r : RunningFlow = record { flow = u.0; rate = get_or rates id 0; began = is_in id began; marked = is_in id marked } in
      let at = as_runs id u.0 u.1 in
      let in' = In-held all id r at in
      elim (or_parts (is_in id marked) (touches close u.0) (sym (joined_is r) ∙ sym (ap {B = Bool} test at) ∙ e)) [
        | inl b ↦ marked_closed c (or_left (list_any (λ (r : RunningFlow). r.marked && is_on c r.flow) run) (list_any (is_on c) gone || is_in c resources) (list_any_in (λ (r : RunningFlow). r.marked && is_on c r.flow) run r in' (both_true (is_in id marked) (is_on c u.0) b u.2)))
        | inr k ↦ run_closed c r in' u.2 k
      ]

  users_pass : (c id : ℕ) → close c ≡ true → is_in id (users_on t.users c) ≡ true → goes id ≡ true
  users_pass c id e i =
      let u = on_held t sound c id i in
      let r : RunningFlow = record { flow = u.0; rate = get_or rates id 0; began = is_in id began; marked = is_in id marked } in
      ap {B = Bool} test (as_runs id u.0 u.1) ∙ joined_is r ∙ or_right (is_in id marked) (touches close u.0) (list_any_in close u.0.uses c (is_in_In c u.0.uses u.2) e)

  resource_pass : (c : ℕ) → is_in c resources ≡ true → close c ≡ true
  resource_pass c e = marked_closed c (or_right (list_any (λ (r : RunningFlow). r.marked && is_on c r.flow) run) (list_any (is_on c) gone || is_in c resources) (or_right (list_any (is_on c) gone) (is_in c resources) e))

  ended_pass : (id c : ℕ) → is_in id ended ≡ true → is_in c (uses_at s.slots id) ≡ true → close c ≡ true
  ended_pass id c e i =
      let u = in_uses s.slots id c i in
      marked_closed c (or_right (list_any (λ (r : RunningFlow). r.marked && is_on c r.flow) run) (list_any (is_on c) gone || is_in c resources) (or_left (list_any (is_on c) gone) (is_in c resources)
      (list_any_in (is_on c) gone (flow_or_none (flow_at s.slots id)) (In-map (λ id. flow_or_none (flow_at s.slots id)) ended id (is_in_In id ended e)) (ap (is_on c) (ap flow_or_none u.1) ∙ u.2))))

  marked_pass : (id : ℕ) → is_in id marked ≡ true → is_in id ended ≡ false → IsSome (flow_at s.slots id) → goes id ≡ true
  marked_pass id b off some =
      let f = some_of (flow_at s.slots id) some in
      ap {B = Bool} test (as_runs id f.0 (without.slots id ∙ ap (λ e. cond e None (flow_at s.slots id)) off ∙ f.1)) ∙ joined_is (record { flow = f.0; rate = get_or rates id 0; began = is_in id began; marked = is_in id marked }) ∙ or_left (is_in id marked) (touches close f.0) b

  at_row : (i : ℕ) (row : List ℕ) → i < length row → is_in (get_or row i 0) row ≡ true
  at_row i row h = in_at (get_or row i 0) row i h refl

  -- what isn't held any more passes as well
  abbrev pub passes : ℕ → Bool
  passes id = goes id || is_none (flow_at t.slots id)

  pub along : PassAlong t passes close
  along = along_all t goes close (record { uses = rows_pass; users = users_pass })

  passes_marked : ((id : ℕ) → is_in id marked ≡ true → IsSome (flow_at s.slots id)) → (id : ℕ) → is_in id marked ≡ true → passes id ≡ true
  passes_marked marked_are id m = elim (bool_cases (is_in id ended)) [
    | inl gone ↦ or_right (goes id) (is_none (flow_at t.slots id)) (ap is_none (without.slots id ∙ ap (λ b. cond b None (flow_at s.slots id)) gone))
    | inr off ↦ or_left (goes id) (is_none (flow_at t.slots id)) (marked_pass id m off (marked_are id m))
  ]

  -- what is marked is connected
  pub marked_within : ((id : ℕ) → is_in id marked ≡ true → IsSome (flow_at s.slots id)) → (a b : Levels) (pending : Pending) (old : MarkSet) → AreLeveled s a rates began marked resources → ((p q : ℕ → Bool) → RowsPass q (uses_at s.slots) ended → IsWithin p q a → IsWithin p q b) →
      old.members ≡ resources → MarksRow b.active.members old pending.resources → pending.marked.members ≡ marked → AreMarkedWithin passes close pending
  marked_within marked_are a b pending old was stays those marks same =
      let first = widen (λ id. is_in id marked) (λ c. is_in c resources) passes close a (passes_marked marked_are) resource_pass was.within in
      let next = stays passes close (λ i h c on. ended_pass (get_or ended i 0) c (at_row i ended h) on) first in
      record {
        flows = λ id m. passes_marked marked_are id (subst (λ xs. is_in id xs ≡ true) same m);
        resources = marks.least close (λ i h. next.active (get_or b.active.members i 0) (at_row i b.active.members h)) (λ c h. resource_pass c (subst (λ xs. is_in c xs ≡ true) those h));
      }

  sum_joined : (amount : Flow → ℕ) → sum_below (joined_part t.slots amount passes) (length t.slots) ≤ sum_by (λ (r : RunningFlow). cond (is_joined run gone resources r) (amount r.flow) 0) run
  sum_joined amount =
      let g : RunningFlow → ℕ = λ r. cond (is_joined run gone resources r) (amount r.flow) 0 in
      let f : ℕ → Option RunningFlow = running_of s.slots rates began marked ended in
      let each : (i : ℕ) → i < length s.slots → cond (passes i) (slot_part amount (flow_at t.slots i)) 0 ≤ part g (f i) = λ i h. one amount i h (flow_at t.slots i) refl in
      omega (arith, sum_held g all, listed_le t.slots amount passes (part g) (length s.slots) f each, ap (sum_below (joined_part t.slots amount passes)) without.slots_len)
    where
      one : (amount : Flow → ℕ) (i : ℕ) → i < length s.slots → (o : Option Flow) → flow_at t.slots i ≡ o → cond (passes i) (slot_part amount (flow_at t.slots i)) 0 ≤ part (λ (r : RunningFlow). cond (is_joined run gone resources r) (amount r.flow) 0) (running_of s.slots rates began marked ended i)
      one amount i h None e = subst (λ n. cond (passes i) n 0 ≤ part (λ (r : RunningFlow). cond (is_joined run gone resources r) (amount r.flow) 0) (running_of s.slots rates began marked ended i)) (sym (ap (slot_part amount) e)) (zeros (passes i) (part (λ (r : RunningFlow). cond (is_joined run gone resources r) (amount r.flow) 0) (running_of s.slots rates began marked ended i)))
        where
          zeros : (b : Bool) (n : ℕ) → cond b 0 0 ≤ n
          zeros true n = omega arith
          zeros false n = omega arith
      one amount i h (Some flow) e =
          let r : RunningFlow = record { flow = flow; rate = get_or rates i 0; began = is_in i began; marked = is_in i marked } in
          let at = as_runs i flow e in
          let here : running_of s.slots rates began marked ended i ≡ Some r = sym (at_listed (length s.slots) (running_of s.slots rates began marked ended) i None h) ∙ at in
          let pass : passes i ≡ is_joined run gone resources r = ap (λ o. goes i || is_none o) e ∙ or_false (goes i) ∙ ap {B = Bool} test at in
          let left : cond (passes i) (slot_part amount (flow_at t.slots i)) 0 ≡ cond (is_joined run gone resources r) (amount flow) 0 = ap₂ (λ b n. cond b n 0) pass (ap (slot_part amount) e) in
          omega (arith, left, ap (part (λ (r : RunningFlow). cond (is_joined run gone resources r) (amount r.flow) 0)) here)
        where
          or_false : (b : Bool) → (b || false) ≡ b
          or_false true = refl
          or_false false = refl

  pub within_work : (before middle after : ℕ) → middle ≡ before + lengths (uses_at s.slots) ended → after ≤ middle + solve_looks (length ended) (joined_count t.slots passes) (joined_uses t.slots passes) → after ≤ before + work run gone resources
  unfolding work
  within_work before middle after first then =
      let flows = sum_by (λ (r : RunningFlow). cond (is_joined run gone resources r) 1 0) run in
      let uses = sum_by (λ (r : RunningFlow). cond (is_joined run gone resources r) (length r.flow.uses) 0) run in
      let gone_uses = sum_by (λ (flow : Flow). length flow.uses) gone in
      let e : gone_uses ≡ lengths (uses_at s.slots) ended = lengths-ended s.slots ended (λ i h. ended_are (get_or ended i 0) (at_row i ended h)) in
      let m : length gone ≡ length ended = length-ended s.slots ended in
      let enough = suffices_lem (length ended) flows uses gone_uses (none_joined (is_joined run gone resources) run) in
      let most = more_looks (length ended) (joined_count t.slots passes) flows (joined_uses t.slots passes) uses (sum_joined (λ f. 1)) (sum_joined (λ f. length f.uses)) in
      subst (λ n. after ≤ before + 4 * (n + flows + 1) * (n + flows + (gone_uses + uses))) (sym m) (omega (arith, first, then, e, enough, most))
