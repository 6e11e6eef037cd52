-- An actor that is answered that its call failed has a record of that.
use Rattle.std.proofs.Common.{◌≡◌, ◌⊎◌, ℕ, ◌-◌, Bool, true, false, inl, inr, List, [], ◌∷◌, ◌++◌, append_assoc, get_or, refl, sym, ap, ◌∙◌}
use Rattle.sg_base.specs.declared.call.Answer.{Answer}
use Rattle.sg_base.specs.declared.call.Answer.TheVariants as answer
use Rattle.sg_base.specs.declared.call.Call.{Call}
use Rattle.sg_base.specs.declared.trace_record.Record.{Record}
use Rattle.sg_actor_states.specs.declared.state.Actor.{Actor}
use Rattle.sg_actor_states.specs.declared.state.State.{State}
use Rattle.sg_actor_states.specs.declared.state.State.TheVariants.{Ready, Blocked, Ended}
use Rattle.sg_actor_states.specs.Actors.{put_state, put_suspended, not_suspended, state_at}
use Rattle.sg_actor_states.specs.Records.{end_by, record_of}
use Rattle.sg_kernel_calls.specs.Steps.{readied}
use Rattle.sg_kernel_calls.specs.World.{Core, state_of}
use Rattle.sg_kernel_laws.specs.failures.Answers.{FailedAnswersHaveRecords, FailuresHaveRecords, HasFailed}
use Rattle.sg_kernel_laws.specs.failures.Laws.{is_failed}
use Rattle.sg_kernel_laws.proofs.failure_lemmas.Between.{Between, Calling, answered_so, created_so, fails_by, pass_so, told_so}
use Rattle.sg_kernel_laws.proofs.failure_lemmas.Passed.{put_there, set_there}

-- where one of the list gets a state, who has failed did so before, or by that
put_told : (actors : List Actor) (actor other : ℕ) (state : State) (made : List Record) → (other - 1 ≡ actor - 1 → state ≡ Ready answer.Failed → HasFailed other made) → state_at (put_state actors actor state) other ≡ Ready answer.Failed → (state_at actors other ≡ Ready answer.Failed) ⊎ HasFailed other made
put_told actors actor other state made has =
    put_there (λ (s : State). s ≡ Ready answer.Failed → (state_at actors other ≡ Ready answer.Failed) ⊎ HasFailed other made) actors actor other state (λ same e. inr (has same e)) (λ e. inl e)

failed_end : (given : Answer) (ns : ℕ) → Ready given ≡ Ready answer.Failed → is_failed (end_by given ns) ≡ true
failed_end given ns e = (let is : given ≡ answer.Failed = cc e in ap (λ (a : Answer). is_failed (end_by a ns)) is)

one_told : (actor : ℕ) (what : Call) (since bytes : ℕ) (given : Answer) (core : Core) → FailuresHaveRecords core (readied actor given core) (record_of actor what since bytes given core.under.date ∷ [])
one_told actor what since bytes given core other =
    put_told core.actors actor other (Ready given) (record_of actor what since bytes given core.under.date ∷ [])
    (λ same e. record { front = []; own = record_of actor what since bytes given core.under.date; back = []; among = refl; of = sym same; fails = failed_end given (core.under.date - since) e })

later_told : (front made : List Record) (actor : ℕ) → HasFailed actor made → HasFailed actor (front ++ made)
later_told front made actor h = record { front = front ++ h.front; own = h.own; back = h.back; among = ap (λ (l : List Record). front ++ l) h.among ∙ sym (append_assoc front h.front (h.own ∷ h.back)); of = h.of; fails = h.fails }

sooner_told : (made back : List Record) (actor : ℕ) → HasFailed actor made → HasFailed actor (made ++ back)
sooner_told made back actor h = record { front = h.front; own = h.own; back = h.back ++ back; among = ap (λ (l : List Record). l ++ back) h.among ∙ append_assoc h.front (h.own ∷ h.back) back; of = h.of; fails = h.fails }

told_between : Between FailuresHaveRecords
told_between = record {
  still = λ core later is actor e. inl (ap (λ (actors : List Actor). state_at actors actor) (sym is) ∙ e);
  next = λ a b c first second one two actor e. by a b first second actor (one actor) (two actor e);
  replies = λ actor blocking bytes given core is. one_told actor blocking.what blocking.since bytes given core;
}
  where
    earlier : (a : Core) (first second : List Record) (actor : ℕ) → (state_of a actor ≡ Ready answer.Failed) ⊎ HasFailed actor first → (state_of a actor ≡ Ready answer.Failed) ⊎ HasFailed actor (first ++ second)
    earlier a first second actor (inl is) = inl is
    earlier a first second actor (inr h) = inr (sooner_told first second actor h)

    by : (a b : Core) (first second : List Record) (actor : ℕ) → (state_of b actor ≡ Ready answer.Failed → (state_of a actor ≡ Ready answer.Failed) ⊎ HasFailed actor first) → (state_of b actor ≡ Ready answer.Failed) ⊎ HasFailed actor second →
        (state_of a actor ≡ Ready answer.Failed) ⊎ HasFailed actor (first ++ second)
    by a b first second actor one (inl is) = earlier a first second actor (one is)
    by a b first second actor one (inr h) = inr (later_told first second actor h)

no_failure : (given : Answer) → fails_by given ≡ false → Ready given ≡ Ready answer.Failed → ⊥
no_failure given is e = (let one : given ≡ answer.Failed = cc e in absurd (cc (sym is ∙ ap fails_by one)))

pub told_calling : Calling FailuresHaveRecords
told_calling = record {
  between = told_between;
  now = λ actor what bytes given core. one_told actor what core.under.date bytes given core;
  silent = λ actor given core is other. put_told core.actors actor other (Ready given) [] (λ same e. absurd (no_failure given is e));
  blocks = λ actor what on core other. put_told core.actors actor other (Blocked what core.under.date on) [] (λ same e. absurd (cc e));
  gone = λ actor core later is other e. put_told core.actors actor other Ended [] (λ same no. absurd (cc no)) (ap (λ (actors : List Actor). state_at actors other) (sym is) ∙ e);
  marks = λ actor on core other e. inl (sym (marked core.actors actor other on) ∙ e);
}
  where
    marked : (actors : List Actor) (actor other : ℕ) (on : Bool) → state_at (put_suspended actors actor on) other ≡ state_at actors other
    marked actors actor other on =
        set_there (λ (a : Actor). a.state ≡ state_at actors other) actors (actor - 1) (other - 1) (record { state = state_at actors actor; suspended = on }) (not_suspended Ended)
        (λ same. ap (λ (k : ℕ). (get_or actors k (not_suspended Ended)).state) (sym same)) refl

pub failed_answers_have_records : FailedAnswersHaveRecords
failed_answers_have_records = record {
  calls = answered_so FailuresHaveRecords told_calling;
  creates = created_so FailuresHaveRecords told_calling;
  asks = told_so FailuresHaveRecords told_calling;
  passes = pass_so FailuresHaveRecords told_between;
}
