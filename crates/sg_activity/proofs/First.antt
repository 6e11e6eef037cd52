-- At first no activity is running.
use Rattle.std.proofs.Common.{◌≡◌, ℕ, suc, Bool, true, false, IsTrue, true≢false, subst, Option, None, Some, All, List, [], ◌∷◌, length, map, replicate, arith, refl, sym, ap, ap₂, ◌∙◌}
use Rattle.sg_base.specs.MarkSet.{is_in}
use Rattle.sg_base.specs.declared.ids.LinkId.{LinkId}
use Rattle.sg_heap.specs.Agenda.{Key, key_at}
use Rattle.sg_maxmin.specs.Fill.{Flow}
use Rattle.sg_lazy.specs.RunningFlow.{RunningFlow, running_at}
use Rattle.sg_activity_table.specs.declared.kinds.HostCap.{HostCap}
use Rattle.sg_activity_table.specs.declared.kinds.LinkCap.{LinkCap}
use Rattle.sg_activity_table.specs.declared.lives.Live.{Live}
use Rattle.sg_activity.specs.Doing.{idle_on}
use Rattle.sg_activity.specs.Links.{Switches, machines}
use Rattle.sg_activity_table.specs.Slots.{listed}
use Rattle.sg_activity_table.specs.Pool.{slot_at}
use Rattle.sg_activity.specs.kept.Metered.{metered_in}
use Rattle.sg_activity.specs.kept.State.{State, doing_of}
use Rattle.sg_activity.specs.kept.Sound.{IsKept}

none_is : {X : Type 0} {o : Option X} {x : X} → o ≡ None → o ≡ Some x → ⊥
none_is none e = cc (sym none ∙ e)

pub first_kept : (s : State) → s.slots ≡ [] → s.keys ≡ [] → s.runs ≡ [] → s.fresh ≡ [] → IsKept s
first_kept s slots keys runs fresh = record {
  each = λ key live at. absurd (none_is (ap (λ l. slot_at l key) slots) at);
  idle = λ key none. ap (λ l. key_at l key) keys;
  apart = λ i j one other a b e. absurd (none_is (ap (λ l. slot_at l i) slots) a);
  back = λ id running e. absurd (none_is (ap (λ l. running_at l id) runs) e);
  fresh = λ key is. absurd (true≢false (sym (subst (λ (f : List ℕ). IsTrue (is_in key f)) fresh is)));
  fresh_now = λ key live at. absurd (none_is (ap (λ l. slot_at l key) slots) at);
  none_fresh = λ set. fresh;
  rates = λ set id running e. absurd (none_is (ap (λ l. running_at l id) runs) e);
}

pub first_told : (hosts : List HostCap) (links : List LinkCap) (slots : List (Option Live)) (ways : ℕ → List LinkId) (keys : List (Option Key)) (runs : List (Option RunningFlow)) (by_flow fresh : List ℕ) (ended : List Flow) (resources : List ℕ) (on : Switches) (energy : List ℕ) → ended ≡ [] → resources ≡ [] → on ≡ record { hosts = map (λ _. true) hosts; links = map (λ _. true) links } → energy ≡ replicate (length hosts) 0 →
    metered_in energy (doing_of (record { capacities = machines hosts links; on = on; date = 0; drawn = 0; slots = slots; ways = ways; keys = keys; runs = runs; by_flow = by_flow; fresh = fresh; ended = ended; resources = resources; settled = false; arrived = false }) 0) ≡ idle_on hosts links
unfolding listed
first_told hosts links slots ways keys runs by_flow fresh ended resources on energy gone same all used =
    ap₂ (λ e r. record { under = record { date = 0; capacities = machines hosts links; on = on; tasks = []; marks = record { changed = []; ended = e; resources = r }; energy = energy }; due = []; settled = false; room = 0; stamps = [] }) gone same
    ∙ ap₂ (λ o n. record { under = record { date = 0; capacities = machines hosts links; on = o; tasks = []; marks = record { changed = []; ended = []; resources = [] }; energy = n }; due = []; settled = false; room = 0; stamps = [] }) all used

-- all that are on
pub all_true : {X : Type 0} (on : List Bool) (xs : List X) → length on ≡ length xs → All (λ b. b ≡ true) on → on ≡ map (λ _. true) xs
all_true [] [] long is = refl
all_true [] (x ∷ xs) long is = absurd (omega (arith, long))
all_true (b ∷ on) [] long is = absurd (omega (arith, long))
all_true (b ∷ on) (x ∷ xs) long is = ap₂ (λ c l. c ∷ l) (is 0 b (omega arith)) (all_true on xs (omega (arith, long)) (λ k d within. is (suc k) d (omega (arith, within))))
