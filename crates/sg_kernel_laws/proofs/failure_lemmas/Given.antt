-- Which activities fail by a kill.
use Rattle.std.proofs.Common.{◌≡◌, ℕ, zero, suc, ◌-◌, ◌<◌, ◌==◌, ◌||◌, Bool, true, false, true≢false, cond, Option, None, Some, List, [], ◌∷◌, length, set, get_or, refl, sym, ap, subst, ◌∙◌, arith}
use Rattle.std.specs.List.{All, Contains}
use Rattle.std.proofs.lemmas.Bool.{cond-false, or_right}
use Rattle.std.proofs.lemmas.List.{get_or-set_same, get_or-set_other}
use Rattle.std.proofs.lemmas.List.Elements.{All-head, All-tail}
use Rattle.sg_base.specs.declared.call.Answer.TheVariants as answer
use Rattle.sg_base.specs.declared.call.Call.TheVariants as call
use Rattle.sg_base.specs.declared.ids.ActorId.{ActorId}
use Rattle.sg_actor_states.specs.declared.state.Blocking.{Blocking}
use Rattle.sg_actor_states.specs.Actors.{blocking_in, joiners}
use Rattle.sg_mailbox.specs.declared.owners.How.TheVariants as how
use Rattle.sg_mailbox.specs.declared.owners.Whose.{Whose}
use Rattle.sg_mailbox.specs.declared.owners.Whose.TheVariants.{Over, Alone, Posted, Pair}
use Rattle.sg_kernel_calls.specs.declared.stop.Stop.{Stop}
use Rattle.sg_kernel_calls.specs.declared.stop.Stop.TheVariants.{Budget}
use Rattle.sg_kernel_calls.specs.Answers.{finishes}
use Rattle.sg_kernel_calls.specs.Calls.{answered}
use Rattle.sg_kernel_calls.specs.Kills.{awaited, gives_up, gives_up_by, kill_stretches, kills, withdrawn}
use Rattle.sg_kernel_calls.specs.Locks.{joiners_wake, wakes, wakes_from}
use Rattle.sg_kernel_calls.specs.Steps.{Step, all_of, and_then, at_once, counted, each, follows, goes_on, stops}
use Rattle.sg_kernel_calls.specs.World.{Core, state_of, whose_at}
use Rattle.sg_kernel_calls.proofs.Each.{all_of-two, each_on, eq_no}
use Rattle.sg_kernel_calls.proofs.Finishes.{finishes_goes}
use Rattle.sg_kernel_laws.specs.failures.Given.{FailsByKill, KillsFailWhatIsAwaited}
use Rattle.sg_kernel_laws.specs.failures.Laws.{is_over}
use Rattle.sg_kernel_laws.proofs.failure_lemmas.Cut.{finishes_mark, has, within}

-- ---- one activity, amid a kill
give_goes : (serial : ℕ) (core : Core) → (gives_up serial core).stop ≡ None
give_goes serial core = by (whose_at core serial)
  where
    by : (whose : Whose) → (gives_up_by whose serial core).stop ≡ None
    by (Over before) = refl
    by (Alone actor) = finishes_goes how.Failed serial core
    by (Posted mailbox sends side) = finishes_goes how.Failed serial core
    by (Pair sender receiver) = finishes_goes how.Failed serial core

module _ (place : ℕ) (was : Whose) (live : is_over was ≡ false) where
  abbrev Now : Bool → Core → Type 0
  Now true core = get_or core.whose place (Over how.Done) ≡ Over how.Failed
  Now false core = get_or core.whose place (Over how.Done) ≡ was

  now_within : (b : Bool) (core : Core) → Now b core → place < length core.whose
  now_within true core n = within core.whose place (Over how.Failed) n (λ e. cc e)
  now_within false core n = within core.whose place was n (λ e. true≢false (sym (ap is_over e) ∙ live))

  same_whose : (b : Bool) (core later : Core) → later.whose ≡ core.whose → Now b core → Now b later
  same_whose true core later is n = ap (λ (w : List Whose). get_or w place (Over how.Done)) is ∙ n
  same_whose false core later is n = ap (λ (w : List Whose). get_or w place (Over how.Done)) is ∙ n

  failed : (k : ℕ) (b : Bool) (core : Core) → Now b core → Now (b || ((k - 1) == place)) (finishes how.Failed k core).core
  failed k b core n = by ((k - 1) == place) refl
    where
      after : Core
      after = (finishes how.Failed k core).core

      here : k - 1 ≡ place → Now true after
      here same = ap (λ (w : List Whose). get_or w place (Over how.Done)) (finishes_mark how.Failed k core) ∙ ap (λ (i : ℕ). get_or (set core.whose i (Over how.Failed)) place (Over how.Done)) same ∙ get_or-set_same core.whose place (Over how.Failed) (Over how.Done) (now_within b core n)

      mark : (place ≡ k - 1 → ⊥) → get_or after.whose place (Over how.Done) ≡ get_or core.whose place (Over how.Done)
      mark apart = ap (λ (w : List Whose). get_or w place (Over how.Done)) (finishes_mark how.Failed k core) ∙ get_or-set_other core.whose (k - 1) place (Over how.Failed) (Over how.Done) apart

      other : (c : Bool) → (place ≡ k - 1 → ⊥) → Now c core → Now (c || false) after
      other true apart m = mark apart ∙ m
      other false apart m = mark apart ∙ m

      by : (c : Bool) → ((k - 1) == place) ≡ c → Now (b || c) after
      by true is = subst (λ (d : Bool). Now d after) (sym (or_right b true refl)) (here (grind (arith, is)))
      by false is = other b (λ same. grind (arith, is, same)) n

  -- what is over already stays so
  passed_over : (k : ℕ) (b : Bool) (core : Core) (its : Whose) → whose_at core k ≡ its → is_over its ≡ true → Now b core → Now (b || ((k - 1) == place)) core
  passed_over k true core its is over n = n
  passed_over k false core its is over n = by ((k - 1) == place) refl
    where
      by : (c : Bool) → ((k - 1) == place) ≡ c → Now c core
      by true same =
          (let here : k - 1 ≡ place = grind (arith, same) in
          let one : its ≡ was = sym is ∙ ap (λ (i : ℕ). get_or core.whose i (Over how.Done)) here ∙ n in
          absurd (true≢false (sym over ∙ ap is_over one ∙ live)))
      by false same = n

  given_up : (k : ℕ) (b : Bool) (core : Core) → Now b core → Now (b || ((k - 1) == place)) (gives_up k core).core
  given_up k b core n = by (whose_at core k) refl
    where
      by : (whose : Whose) → whose_at core k ≡ whose → Now (b || ((k - 1) == place)) (gives_up_by whose k core).core
      by (Over before) e = passed_over k b core (Over before) e refl n
      by (Alone actor) e = failed k b core n
      by (Posted mailbox sends side) e = failed k b core n
      by (Pair sender receiver) e = failed k b core n

  all_given : (ks : List ℕ) (b : Bool) (core : Core) → Now b core → Now (b || has place ks) (each gives_up ks core).core
  unfolding each
  all_given [] b core n = nothing b n
    where
      nothing : (c : Bool) → Now c core → Now (c || false) core
      nothing true m = m
      nothing false m = m
  all_given (k ∷ ks) b core n =
      let first = gives_up k core in
      let on = give_goes k core in
      let more = all_given ks (b || ((k - 1) == place)) first.core (given_up k b core n) in
      subst (λ (o : Option Stop). Now (b || (((k - 1) == place) || has place ks)) (follows o first (each gives_up ks first.core)).core) (sym on) (both b ((k - 1) == place) (has place ks) (each gives_up ks first.core) more)
    where
      both : (c h r : Bool) (step : Step) → Now ((c || h) || r) step.core → Now (c || (h || r)) step.core
      both true h r step m = m
      both false h r step m = m

  -- ---- a kill
  wake_same : (actor : ActorId) (core : Core) → (wakes actor core).core.whose ≡ core.whose
  wake_same actor core = by (blocking_in (state_of core actor.0))
    where
      by : (o : Option Blocking) → (wakes_from o actor core).core.whose ≡ core.whose
      by None = refl
      by (Some blocking) = refl

  all_same : (actors : List ActorId) (core : Core) → (each wakes actors core).core.whose ≡ core.whose
  unfolding each
  all_same [] core = refl
  all_same (actor ∷ actors) core = by (wakes actor core).stop (all_same actors (wakes actor core).core)
    where
      first : Step
      first = wakes actor core

      by : (o : Option Stop) → (each wakes actors first.core).core.whose ≡ first.core.whose → (follows o first (each wakes actors first.core)).core.whose ≡ core.whose
      by None more = more ∙ wake_same actor core
      by (Some why) more = wake_same actor core

  killed : (actor : ℕ) (target : ActorId) (serials : List ℕ) (core : Core) → Now false core → Now (has place serials) (all_of (kill_stretches actor target serials) core).core
  unfolding all_of
  killed actor target serials core n = by (actor == target.0)
    where
      rest : Core → Step
      rest mid = all_of (each gives_up serials ∷ joiners_wake target.0 ∷ []) mid

      behind : (mid : Core) → Now false mid → Now (has place serials) (rest mid).core
      behind mid m =
          let sides = each gives_up serials mid in
          let on : sides.stop ≡ None = each_on gives_up give_goes serials mid in
          subst (λ (s : Step). Now (has place serials) s.core) (sym (all_of-two (each gives_up serials) (joiners_wake target.0) mid))
          (subst (λ (o : Option Stop). Now (has place serials) (follows o sides (joiners_wake target.0 sides.core)).core) (sym on)
          (same_whose (has place serials) sides.core (joiners_wake target.0 sides.core).core (all_same (joiners target.0 1 sides.core.actors) sides.core) (all_given serials false mid m)))

      by : (b : Bool) → Now (has place serials) (and_then (cond b (goes_on core []) (at_once actor (call.Kill target) 0 answer.Done core)) (all_of (each gives_up serials ∷ joiners_wake target.0 ∷ []))).core
      by true = behind core n
      by false = behind (at_once actor (call.Kill target) 0 answer.Done core).core n

-- ---- who is among the awaited
has_it : (serial : ℕ) (ks : List ℕ) (i : ℕ) → i < length ks → get_or ks i serial ≡ serial → has (serial - 1) ks ≡ true
has_it serial [] i below is = absurd (omega (arith, below))
has_it serial (k ∷ ks) zero below is = (let one : ((k - 1) == (serial - 1)) ≡ true = grind (arith, is) in ap (λ (b : Bool). b || has (serial - 1) ks) one)
has_it serial (k ∷ ks) (suc i) below is = or_right ((k - 1) == (serial - 1)) (has (serial - 1) ks) (has_it serial ks i (omega (arith, below)) is)

it_is : (serial : ℕ) (ks : List ℕ) → 0 < serial → All (λ k. 0 < k) ks → has (serial - 1) ks ≡ true → Contains ks serial
it_is serial [] from drawn h = absurd (true≢false (sym h))
it_is serial (k ∷ ks) from drawn h = by ((k - 1) == (serial - 1)) refl (it_is serial ks from (All-tail (λ k. 0 < k) k ks drawn))
  where
    low : 0 < k
    low = All-head (λ k. 0 < k) k ks drawn

    by : (b : Bool) → ((k - 1) == (serial - 1)) ≡ b → (has (serial - 1) ks ≡ true → Contains ks serial) → Contains (k ∷ ks) serial
    by true same more = (let place : k - 1 ≡ serial - 1 = grind (arith, same) in (0, omega arith, omega (arith, place, low, from)))
    by false same more = (let c = more (ap (λ (b : Bool). b || has (serial - 1) ks) (sym same) ∙ h) in (suc c.0, omega (arith, c.1), c.2))

kill_fails : (core : Core) (actor : ℕ) (target : ActorId) (serial : ℕ) → 0 < serial → is_over (whose_at core serial) ≡ false → FailsByKill target core serial (all_of (kill_stretches actor target (awaited target core)) (withdrawn target (counted core)))
kill_fails core actor target serial from live = by (has (serial - 1) (awaited target core)) refl (killed (serial - 1) (whose_at core serial) live actor target (awaited target core) (withdrawn target (counted core)) refl)
  where
    step : Step
    step = all_of (kill_stretches actor target (awaited target core)) (withdrawn target (counted core))

    by : (b : Bool) → has (serial - 1) (awaited target core) ≡ b → Now (serial - 1) (whose_at core serial) live b step.core → FailsByKill target core serial step
    by true is n = record { fails = λ c. n; stays = λ drawn none. absurd (none (it_is serial (awaited target core) from drawn is)) }
    by false is n = record { fails = λ c. absurd (true≢false (sym (has_it serial (awaited target core) c.0 c.1 c.2) ∙ is)); stays = λ drawn none. n }

pub kills_fail_what_is_awaited : KillsFailWhatIsAwaited
kills_fail_what_is_awaited roads setup core actor target serial alive left from live =
    let ends = all_of (kill_stretches actor target (awaited target core)) (withdrawn target (counted core)) in
    let stays = at_once actor (call.Kill target) 0 answer.Done (counted core) in
    let is : answered roads setup core actor (call.Kill target) ≡ ends = cond-false (core.events == setup.budget) (stops core [] Budget) (kills actor target (counted core)) (eq_no core.events setup.budget left) ∙ ap (λ (b : Bool). cond b ends stays) alive in
    subst (FailsByKill target core serial) (sym is) (kill_fails core actor target serial from live)
