-- An actor that is blocked on what ends in a time advance has its record and its answer.
use Rattle.std.proofs.Common.{◌≡◌, ◌⊎◌, ℕ, ◌+◌, ◌-◌, ◌<◌, inl, inr, Some, List, ◌∷◌, ◌++◌, length, get_or, sym, ap, subst, ◌∙◌, arith}
use Rattle.std.specs.List.{All}
use Rattle.std.proofs.lemmas.List.{get_or-append-add, length-append}
use Rattle.sg_base.specs.declared.awaits.Await.{Await}
use Rattle.sg_base.specs.declared.call.Call.{Call}
use Rattle.sg_base.specs.declared.trace_record.Record.{Record}
use Rattle.sg_actor_states.specs.declared.state.State.TheVariants.{Blocked}
use Rattle.sg_actor_states.specs.Records.{end_by, record_of}
use Rattle.sg_mailbox.specs.declared.owners.How.{How}
use Rattle.sg_mailbox.specs.declared.owners.Whose.TheVariants.{Over}
use Rattle.sg_kernel.specs.Passes.{pass_of}
use Rattle.sg_kernel_calls.specs.Setup.{Setup}
use Rattle.sg_kernel_calls.specs.World.{Core, state_of, whose_at}
use Rattle.sg_kernel_laws.specs.failures.Laws.{TellsHow, over_by}
use Rattle.sg_kernel_laws.proofs.failure_lemmas.Passed.{passes_tell}
use Rattle.sg_engine_laws.specs.changes.Theirs.{PartOf}
use Rattle.sg_engine_laws.specs.changes.Told.{IsAnswered, IsTold, PassesAnswer, setup_in}
use Rattle.sg_engine_laws.proofs.change_lemmas.Finished.{parts_passed}
use Rattle.sg_engine_laws.proofs.change_lemmas.Reached.{run_parts}
use Rattle.sg_engine_laws.proofs.change_lemmas.Theirs.{IsPart, Nobody, TakePart}
use Rattle.sg_engine_laws.proofs.change_lemmas.Tracked.{pass_tracks}

-- one of a list
all_there : (P : Record → Type 0) (front back : List Record) (r : Record) (made : List Record) → made ≡ front ++ r ∷ back → All P made → P r
all_there P front back r made e all =
    let d : Record = r in
    let place : length front ≡ length front + 0 = omega arith in
    let there : get_or (front ++ r ∷ back) (length front) d ≡ r = ap (λ k. get_or (front ++ r ∷ back) k d) place ∙ get_or-append-add front (r ∷ back) 0 d in
    subst P there (subst (All P) e all (length front) d (omega (arith, length-append front (r ∷ back))))

module _ (setup : Setup) (core : Core) (actor since : ℕ) (what : Call) (on : Await) (over : How) (blocked : state_of core actor ≡ Blocked what since (Some on)) (is : whose_at (pass_of setup core).core on.serial.0 ≡ Over over) where
  tells : (t : IsTold actor since what (pass_of setup core)) → over_by (end_by t.given ((pass_of setup core).core.under.date - since)) ≡ over
  tells t =
      let step = pass_of setup core in
      let r = record_of actor what since t.bytes t.given step.core.under.date in
      let told : TellsHow core step.core r = all_there (TellsHow core step.core) t.front t.back r step.made t.made (passes_tell setup core) in
      let same : Some on ≡ Some told.on = cc (sym blocked ∙ told.blocked) in
      let await : on ≡ told.on = cc same in
      cc (sym told.over ∙ ap (λ (a : Await). whose_at step.core a.serial.0) (sym await) ∙ is)

  answered_in : 0 < actor → TakePart Nobody core → IsAnswered actor since what over (pass_of setup core)
  answered_in from p = by (pass_tracks setup core actor since what (Some on) from p blocked)
    where
      still : IsPart (pass_of setup core).core.whose actor on ⊎ ⊥ → ⊥
      still (inl part) = subst (λ w. PartOf actor w on.party) is part.part
      still (inr none) = none

      by : (state_of (pass_of setup core).core actor ≡ Blocked what since (Some on)) ⊎ IsTold actor since what (pass_of setup core) → IsAnswered actor since what over (pass_of setup core)
      by (inl stays) = absurd (still ((parts_passed setup core p).waits actor since what on from stays))
      by (inr told) = record { told = told; tells = tells told }

pub passes_answer : PassesAnswer
passes_answer run core of_run actor since what on over from blocked is = answered_in (setup_in run) core actor since what on over blocked is from (run_parts run core of_run)
