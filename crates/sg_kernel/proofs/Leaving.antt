-- What completes at the date, as entries come and activities fail.
use Rattle.std.proofs.Common.{◌≡◌, ℕ, ◌-◌, ◌==◌, ◌&&◌, not, Bool, true, false, true≢false, cond, None, List, [], ◌∷◌, filter, set, get_or, refl, sym, ap, ◌∙◌, arith}
use Rattle.sg_activity.specs.Doing.{Doing, gave_up}
use Rattle.sg_activity.specs.Task.{task_at}
use Rattle.sg_kernel_calls.specs.declared.simulation_state.Fields.{Fields}
use Rattle.sg_kernel.specs.kept.Coming.{LeavesDue}
use Rattle.sg_kernel.proofs.Skips.{none_set, none_there}

filter_all : (xs : List ℕ) → filter (λ x. true) xs ≡ xs
filter_all [] = refl
filter_all (x ∷ xs) = ap (λ l. x ∷ l) (filter_all xs)

filter_filter : (p q : ℕ → Bool) (xs : List ℕ) → filter q (filter p xs) ≡ filter (λ x. p x && q x) xs
filter_filter p q [] = refl
filter_filter p q (x ∷ xs) = by (p x) (filter_filter p q xs)
  where
    by : (b : Bool) → filter q (filter p xs) ≡ filter (λ x. p x && q x) xs → filter q (cond b (x ∷ filter p xs) (filter p xs)) ≡ cond (b && q x) (x ∷ filter (λ x. p x && q x) xs) (filter (λ x. p x && q x) xs)
    by true more = ap (λ l. cond (q x) (x ∷ l) l) more
    by false more = more

-- if nothing fails
pub leaves_same : (old new : Fields) → new.doing.under.date ≡ old.doing.under.date → new.doing.under.tasks ≡ old.doing.under.tasks → new.doing.due ≡ old.doing.due → LeavesDue old new
leaves_same old new date tasks due = record {
  date = date;
  idle = λ serial none. ap (λ l. task_at l serial) tasks ∙ none;
  test = λ serial. true;
  due = due ∙ sym (filter_all old.doing.due);
  gone = λ serial e. absurd (true≢false e);
}

-- one after another
pub leaves_both : (old mid new : Fields) → LeavesDue old mid → LeavesDue mid new → LeavesDue old new
leaves_both old mid new one two = record {
  date = two.date ∙ one.date;
  idle = λ serial none. two.idle serial (one.idle serial none);
  test = λ serial. one.test serial && two.test serial;
  due = two.due ∙ ap (filter two.test) one.due ∙ filter_filter one.test two.test old.doing.due;
  gone = λ serial e. gone serial (one.test serial) refl e;
}
  where
    gone : (serial : ℕ) (b : Bool) → one.test serial ≡ b → (b && two.test serial) ≡ false → task_at new.doing.under.tasks serial ≡ None
    gone serial true is e = two.gone serial e
    gone serial false is e = two.idle serial (one.gone serial is)

-- ---- the first that is hit is given up
pub leaves_given : (old new : Fields) (serial : ℕ) → new.doing ≡ gave_up serial old.doing → LeavesDue old new
leaves_given old new serial is = record {
  date = ap (λ (d : Doing). d.under.date) is;
  idle = λ other none. tasks other ∙ none_set old.doing.under.tasks (serial - 1) (other - 1) none;
  test = λ other. not (other == serial);
  due = ap (λ (d : Doing). d.due) is;
  gone = λ other e. tasks other ∙ ap (λ k. get_or (set old.doing.under.tasks (serial - 1) None) (k - 1) None) (same other e) ∙ none_there old.doing.under.tasks (serial - 1);
}
  where
    tasks : (other : ℕ) → task_at new.doing.under.tasks other ≡ task_at (set old.doing.under.tasks (serial - 1) None) other
    tasks other = ap (λ (d : Doing). task_at d.under.tasks other) is

    same : (other : ℕ) → not (other == serial) ≡ false → other ≡ serial
    same other e = grind (arith, e)
