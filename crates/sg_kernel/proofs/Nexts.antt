-- Which date time advances to next.
use Rattle.std.proofs.Common.{◌≡◌, ◌≢◌, ℕ, ◌+◌, ◌-◌, ◌<◌, ◌≤◌, ◌==◌, min, Bool, true, false, cond, inl, inr, ◌⊎◌, Option, None, Some, List, [], ◌∷◌, length, refl, sym, ap, subst, ◌∙◌, arith}
use Rattle.std.specs.Option.{IfSome, MatchOption}
use Rattle.sg_activity.specs.Doing.{Doing, IsNext, IsUpTo, later_in}
use Rattle.sg_activity_table.specs.Slots.{sooner, soonest, serials, is_over_after}
use Rattle.sg_activity.specs.Underway.{next_in, wait_in}
use Rattle.sg_activity.proofs.Times.{sooner_cases, sooner_never}
use Rattle.sg_profile.specs.Ahead.{IsNear}
use Rattle.sg_profile.specs.Profiles.{dates_of, earliest, rows_due_from}
use Rattle.sg_profile.proofs.Cases.{earlier_of}
use Rattle.sg_actor_states.specs.States.{ActorStates}
use Rattle.sg_kernel_calls.specs.declared.simulation_state.Fields.{Fields}
use Rattle.sg_kernel.specs.Passes.{next_span, span_to}
use Rattle.sg_kernel.specs.kept.Coming.{IsNextDate, rows_now}
use Rattle.sg_kernel_calls.specs.kept.Sound.{core_of, latest, setup_in, IsDated, IsSound, IsTimely}
use Rattle.sg_kernel.proofs.Timely.{entry_near, next_entry}

-- ---- no later than a date may be after one more event
some_tasks : {X : Type 0} (waits : X → Option ℕ) (n : ℕ) (xs : List (Option X)) → soonest waits xs ≡ Some n → 0 < length xs
unfolding soonest
some_tasks waits n [] e = absurd (cc e)
some_tasks waits n (x ∷ xs) e = omega arith

-- what completes was begun by an event before
phase_soon : (fields : Fields) (date : ℕ) → IsSound fields → IsDated fields → IsNext fields.doing date → date ≤ latest (fields.events + 1)
phase_soon fields date sound dated next =
    let some = some_tasks (wait_in fields.doing.under) (date - fields.doing.under.date) fields.doing.under.tasks next.in_time in
    omega (arith, some, next.soon, sound.few, dated)

entry_soon : (fields : Fields) (date : ℕ) → IsDated fields → IsNear fields.doing.under.date date → date ≤ latest (fields.events + 1)
entry_soon fields date dated near = omega (arith, near.to, dated)

-- ---- the sooner of the next phase end and the next entry
next_both : (fields : Fields) (entry : Option ℕ) → next_entry fields ≡ entry → next_span (setup_in fields) (core_of fields) ≡ sooner (next_in fields.doing.under) (span_to (core_of fields) entry)
next_both fields entry is = ap (λ o. sooner (next_in fields.doing.under) (span_to (core_of fields) o)) is

-- if no entry is left
pub phases_alone : (fields : Fields) (phase : Option ℕ) → IsSound fields → IsDated fields → next_entry fields ≡ None → MatchOption phase (next_in fields.doing.under ≡ None) (λ date. IsNext fields.doing date) →
    MatchOption phase (next_span (setup_in fields) (core_of fields) ≡ None) (λ date. IsNextDate fields date)
phases_alone fields None sound dated none never = next_both fields None none ∙ sooner_never (next_in fields.doing.under) ∙ never
phases_alone fields (Some date) sound dated none next = record {
  from = next.from;
  in_time = next_both fields None none ∙ sooner_never (next_in fields.doing.under) ∙ next.in_time;
  soon = phase_soon fields date sound dated next;
}

-- if no phase ever completes
pub entry_alone : (fields : Fields) (entry : ℕ) → IsDated fields → IsTimely fields → next_entry fields ≡ Some entry → next_in fields.doing.under ≡ None → IsNextDate fields entry
entry_alone fields entry dated timely is none =
    let near = entry_near fields entry timely is in
    record {
      from = near.from;
      in_time = next_both fields (Some entry) is ∙ ap (λ o. sooner o (Some (entry - fields.doing.under.date))) none;
      soon = entry_soon fields entry dated near;
    }

min_gap : (a b now : ℕ) → now ≤ a → now ≤ b → min (a - now) (b - now) ≡ min a b - now
min_gap a b now from to = omega (arith, from, to)

pub sooner_of_both : (fields : Fields) (phase entry : ℕ) → IsSound fields → IsDated fields → IsTimely fields → IsNext fields.doing phase → next_entry fields ≡ Some entry → IsNextDate fields (min phase entry)
sooner_of_both fields phase entry sound dated timely next is =
    let now = fields.doing.under.date in
    let near = entry_near fields entry timely is in
    record {
      from = omega (arith, next.from, near.from);
      in_time = next_both fields (Some entry) is ∙ ap (λ o. sooner o (Some (entry - now))) next.in_time ∙ ap (λ n. Some n) (min_gap phase entry now next.from near.from);
      soon = omega (arith, entry_soon fields entry dated near);
    }

-- ---- it is no later than either
sooner_first : (a b : Option ℕ) (n : ℕ) → sooner a b ≡ Some n → IsUpTo n a
sooner_first None b n e = tt
sooner_first (Some x) None n e = let is : x ≡ n = cc e in omega (arith, is)
sooner_first (Some x) (Some y) n e = let is : min x y ≡ n = cc e in omega (arith, is)

sooner_second : (a b : Option ℕ) (n : ℕ) → sooner a b ≡ Some n → IsUpTo n b
sooner_second a None n e = tt
sooner_second None (Some y) n e = let is : y ≡ n = cc e in omega (arith, is)
sooner_second (Some x) (Some y) n e = let is : min x y ≡ n = cc e in omega (arith, is)

pub up_to_phases : (fields : Fields) (date : ℕ) → IsNextDate fields date → IsUpTo (date - fields.doing.under.date) (next_in fields.doing.under)
up_to_phases fields date next = sooner_first (next_in fields.doing.under) (span_to (core_of fields) (next_entry fields)) (date - fields.doing.under.date) next.in_time

pub up_to_entries : (fields : Fields) (date : ℕ) → IsTimely fields → IsNextDate fields date → IfSome (next_entry fields) (λ next. date ≤ next)
up_to_entries fields date timely next = cases (next_entry fields) refl
  where
    cases : (entry : Option ℕ) → next_entry fields ≡ entry → IfSome entry (λ next. date ≤ next)
    cases None is = tt
    cases (Some entry) is =
        let near = entry_near fields entry timely is in
        let gap = sooner_second (next_in fields.doing.under) (Some (entry - fields.doing.under.date)) (date - fields.doing.under.date) (sym (next_both fields (Some entry) is) ∙ next.in_time) in
        omega (arith, gap, near.from, next.from)

-- ---- something comes then
same : (n : ℕ) → (n == n) ≡ true
same n = grind arith

back : (b : Bool) (k : ℕ) (l : List ℕ) → cond b (k ∷ l) l ≡ [] → l ≡ []
back true k l z = absurd (cc z)
back false k l z = z

-- a phase completes at the next date of phases
some_due : {X : Type 0} (waits : X → Option ℕ) (n serial : ℕ) (xs : List (Option X)) → soonest waits xs ≡ Some n → serials (λ x. is_over_after (waits x) n) serial xs ≡ [] → ⊥
unfolding soonest serials
some_due waits n serial [] e none = cc e
some_due waits n serial (None ∷ xs) e none = some_due waits n (serial + 1) xs e none
some_due waits n serial (Some x ∷ xs) e none =
    let rest = serials (λ y. is_over_after (waits y) n) (serial + 1) xs in
    elim (sooner_cases (waits x) (soonest waits xs) n e) [
      | inl a ↦ cc (sym (ap (λ b. cond b (serial ∷ rest) rest) (ap (λ w. is_over_after w n) a ∙ same n)) ∙ none)
      | inr b ↦ some_due waits n (serial + 1) xs b (back (is_over_after (waits x) n) serial rest none)
    ]

-- an entry comes at the next date of entries
earlier_cases : (x : ℕ) (other : Option ℕ) (date : ℕ) → earlier_of x other ≡ date → (x ≡ date) ⊎ (other ≡ Some date)
earlier_cases x None date e = inl e
earlier_cases x (Some y) date e = elim (less x y) [ inl h ↦ inl (sym h ∙ e) | inr h ↦ inr (ap (λ k. Some k) (sym h ∙ e)) ]
  where
    less : (x y : ℕ) → (min x y ≡ x) ⊎ (min x y ≡ y)
    less x y = grind arith

some_row : (row date : ℕ) (dates : List (Option ℕ)) → earliest dates ≡ Some date → rows_due_from row date dates ≡ [] → ⊥
unfolding earliest rows_due_from
some_row row date [] e none = cc e
some_row row date (None ∷ dates) e none = some_row (row + 1) date dates e none
some_row row date (Some x ∷ dates) e none =
    let rest = rows_due_from (row + 1) date dates in
    let is : earlier_of x (earliest dates) ≡ date = cc e in
    elim (earlier_cases x (earliest dates) date is) [
      | inl a ↦ cc (sym (ap (λ b. cond b (row ∷ rest) rest) (ap (λ k. k == date) a ∙ same date)) ∙ none)
      | inr b ↦ some_row (row + 1) date dates b (back (x == date) row rest none)
    ]

-- the date moves
abbrev pub with_later : Fields → ℕ → Fields
with_later fields date = record fields { doing = later_in (date - fields.doing.under.date) fields.doing }

some_comes : (fields : Fields) (date : ℕ) → IsTimely fields → IsNextDate fields date → (rows_now (with_later fields date) ≢ []) ⊎ ((with_later fields date).doing.due ≢ [])
some_comes fields date timely next = elim (sooner_cases (next_in fields.doing.under) (span_to (core_of fields) (next_entry fields)) (date - now) next.in_time) [
  | inl phase ↦ inr (λ none. some_due (wait_in fields.doing.under) (date - now) 1 fields.doing.under.tasks phase none)
  | inr entry ↦ inl (λ none. some_row 0 (now + (date - now)) dates (at (next_entry fields) refl entry) none)
]
  where
    now : ℕ
    now = fields.doing.under.date

    dates : List (Option ℕ)
    dates = dates_of fields.profiles.profiles fields.profiles.turns

    at : (o : Option ℕ) → next_entry fields ≡ o → span_to (core_of fields) o ≡ Some (date - now) → earliest dates ≡ Some (now + (date - now))
    at None is e = absurd (cc e)
    at (Some entry) is e =
        let near = entry_near fields entry timely is in
        let gap : entry - now ≡ date - now = cc e in
        let there : entry ≡ now + (date - now) = omega (arith, gap, near.from) in
        is ∙ ap (λ n. Some n) there

pub some_moved : (fields : Fields) (doing : Doing) (states : ActorStates) (date : ℕ) → IsTimely fields → IsNextDate fields date → doing ≡ later_in (date - fields.doing.under.date) fields.doing →
    (rows_now (record fields { doing = doing; states = states }) ≢ []) ⊎ (doing.due ≢ [])
some_moved fields doing states date timely next to =
    let Some_at : Doing → Type 0 = λ (d : Doing). (rows_now (record fields { doing = d; states = states }) ≢ []) ⊎ (d.due ≢ []) in
    subst Some_at (sym to) (some_comes fields date timely next)
