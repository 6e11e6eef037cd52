-- A create is refused exactly if no context was given.
use Rattle.std.proofs.Common.{◌≢◌, ℕ, ◌-◌, true, false, true≢false, IsTrue, refl, sym, subst, ◌∙◌, arith}
use Rattle.std.proofs.lemmas.List.{length-set}
use Rattle.sg_base.specs.declared.call.Answer.TheVariants as answer
use Rattle.sg_actor_states.specs.declared.state.State.{State}
use Rattle.sg_actor_states.specs.declared.state.State.TheVariants.{Unstarted, Ready, Blocked, Ended}
use Rattle.sg_actor_states.specs.Actors.{actor_at, is_answered, is_unstarted, put_state}
use Rattle.sg_kernel_calls.specs.World.{Core, MayCall, state_of}
use Rattle.sg_kernel_calls.proofs.Stated.{state_other, state_same}
use Rattle.sg_kernel_laws.specs.actors.Creates.{CreatesAreExact}

not_both : (state : State) → IsTrue (is_answered state) → IsTrue (is_unstarted state) → ⊥
not_both Unstarted a u = true≢false (sym a)
not_both (Ready answer) a u = true≢false (sym u)
not_both (Blocked what since on) a u = true≢false (sym a)
not_both Ended a u = true≢false (sym a)

apart : (core : Core) (actor target : ℕ) → MayCall core actor → IsTrue (is_unstarted (state_of core target)) → target ≢ actor
apart core actor target may fresh same = not_both (state_of core actor) may.ready (subst (λ n. IsTrue (is_unstarted (state_of core n))) same fresh)

pub creates_are_exact : CreatesAreExact
creates_are_exact true actor target core may is fresh =
    let differs = apart core actor target.0 may (fresh refl) in
    record {
      caller = state_same (put_state core.actors target.0 (Ready answer.Start)) actor (Ready answer.Done) (record { from = may.from; to = omega (arith, may.to, length-set core.actors (target.0 - 1) (record (actor_at core.actors target.0) { state = Ready answer.Start })) });
      starts = λ given. state_other (put_state core.actors target.0 (Ready answer.Start)) actor target.0 (Ready answer.Done) may.from is.from differs ∙ state_same core.actors target.0 (Ready answer.Start) is;
      others = λ other some one two. state_other (put_state core.actors target.0 (Ready answer.Start)) actor other (Ready answer.Done) may.from some one ∙ state_other core.actors target.0 other (Ready answer.Start) is.from some (two refl);
      told = refl;
      events = refl;
    }
creates_are_exact false actor target core may is fresh = record {
  caller = state_same core.actors actor (Ready answer.Refused) (record { from = may.from; to = may.to });
  starts = λ given. absurd (true≢false (sym given));
  others = λ other some one two. state_other core.actors actor other (Ready answer.Refused) may.from some one;
  told = refl;
  events = refl;
}
