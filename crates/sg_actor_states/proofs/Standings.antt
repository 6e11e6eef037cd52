-- What always holds of the actors, as one of them becomes another.
use Rattle.std.proofs.Common.{◌≡◌, ℕ, ◌+◌, ◌*◌, ◌-◌, ◌<◌, ◌≤◌, ◌^◌, Bool, false, true≢false, cond, List, [], length, replicate, inl, inr, refl, sym, ap, subst, ◌∙◌, arith}
use Rattle.std.specs.Prelude.{count_by}
use Rattle.std.proofs.lemmas.Bool.{cases_lt}
use Rattle.std.proofs.lemmas.List.{get_or_past, length-replicate, length-set}
use Rattle.std.proofs.lemmas.List.Elements.{All-replicate, All-get_or}
use Rattle.sg_base.specs.declared.ids.ActorId.{ActorId}
use Rattle.sg_actor_states.specs.declared.joiners.Joiner.{Joiner}
use Rattle.sg_actor_states.specs.declared.state.Actor.{Actor}
use Rattle.sg_actor_states.specs.declared.state.State.TheVariants.{Ended}
use Rattle.sg_actor_states.specs.Actors.{actor_at, first_actor, is_over, is_ready, joined_in, not_suspended, put_actor, state_at, IsActor}
use Rattle.sg_actor_states.specs.Queue.{is_ready_in}
use Rattle.sg_actor_states.specs.kept.Standing.{Counts, IsQueued, IsStanding, Standing}
use Rattle.sg_actor_states.specs.kept.Waiting.{is_joining, is_some_id, AreWaiting}
use Rattle.sg_actor_states.proofs.Counts.{count_replicate, count_set}

abbrev pub one_if : Bool → ℕ
one_if b = cond b 1 0

-- one becomes another, with what goes with it
pub standing_moved : (standing : Standing) (queue queued : List ActorId) (list listed : List Joiner) (old new : Counts) (actor : ActorId) (next : Actor) (actors : List Actor) → IsActor standing.actors actor.0 → actors ≡ put_actor standing.actors actor.0 next
    → IsQueued standing.passing (put_actor standing.actors actor.0 next) queued → AreWaiting (put_actor standing.actors actor.0 next) listed
    → new.ready + one_if (is_ready (actor_at standing.actors actor.0)) ≡ old.ready + one_if (is_ready next)
    → new.over + one_if (is_over (actor_at standing.actors actor.0)) ≡ old.over + one_if (is_over next)
    → new.queue_room ≡ old.queue_room → new.joiners_room ≡ old.joiners_room
    → IsStanding standing queue list old → IsStanding (record { actors = actors; passing = standing.passing; trimmed = false }) queued listed new
standing_moved standing queue queued list listed old new actor next actors is same follows waits ready over queue_room joiners_room was =
    let place : actor.0 - 1 < length standing.actors = omega (arith, is.from, is.to) in
    let long : length actors ≡ length standing.actors = ap length same ∙ length-set standing.actors (actor.0 - 1) next in
    let counted : (p : Actor → Bool) → count_by p actors + one_if (p (actor_at standing.actors actor.0)) ≡ count_by p standing.actors + one_if (p next) = λ p.
    omega (arith, ap (count_by p) same, count_set p standing.actors (actor.0 - 1) next (not_suspended Ended) place) in
    record {
      few = omega (arith, long, was.few);
      ready_count = omega (arith, ready, was.ready_count, counted is_ready);
      over_count = omega (arith, over, was.over_count, counted is_over);
      queued = subst (λ xs. IsQueued standing.passing xs queued) (sym same) follows;
      trimmed = λ is. absurd (true≢false (sym is));
      waiting = subst (λ xs. AreWaiting xs listed) (sym same) waits;
      queue_fits = omega (arith, long, queue_room, was.queue_fits);
      joiners_fit = omega (arith, long, joiners_room, was.joiners_fit);
    }

-- ---- if nobody has started
abbrev pub none_of : ℕ → List Actor
none_of n = replicate n (first_actor false)

blank_at : (n id : ℕ) → (is_ready_in (none_of n) id ≡ false) × (is_some_id (joined_in (state_at (none_of n) id)) ≡ false)
blank_at n id = elim (cases_lt (id - 1) n) [
  | inl less ↦
      let here = All-get_or (λ (a : Actor). a ≡ first_actor false) (none_of n) (id - 1) (not_suspended Ended) (omega (arith, less, length-replicate n (first_actor false))) (All-replicate (λ (a : Actor). a ≡ first_actor false) n (first_actor false) refl) in
      (ap is_ready here, ap is_joining here)
  | inr past ↦
      let here = get_or_past (none_of n) (id - 1) (not_suspended Ended) (omega (arith, past, length-replicate n (first_actor false))) in
      (ap is_ready here, ap is_joining here)
]

counts_none : (p : Actor → Bool) (n : ℕ) → p (first_actor false) ≡ false → count_by p (none_of n) ≡ 0
counts_none p n none = omega (arith, count_replicate p n (first_actor false), ap (λ b. n * cond b 1 0) none)

pub standing_blank : (n queue_room joiners_room : ℕ) → n < 2 ^ 32 → n ≤ queue_room → n ≤ joiners_room → IsStanding (record { actors = none_of n; passing = false; trimmed = false }) [] [] (record { ready = 0; over = n; queue_room = queue_room; joiners_room = joiners_room })
standing_blank n queue_room joiners_room few queue_fits joiners_fit =
    let long = length-replicate n (first_actor false) in
    record {
      few = omega (arith, long, few);
      ready_count = sym (counts_none is_ready n refl);
      over_count = omega (arith, count_replicate is_over n (first_actor false));
      queued = record {
        rises = λ i j d less within. absurd (omega (arith, within));
        ids = λ k d within. absurd (omega (arith, within));
        has_ready = λ actor from ready. absurd (true≢false (sym ready ∙ (blank_at n actor.0).0));
      };
      trimmed = λ is. absurd (true≢false (sym is));
      waiting = record {
        rises = λ i j d less within. absurd (omega (arith, within));
        ids = λ k d within. absurd (omega (arith, within));
        wait = λ k d within. absurd (omega (arith, within));
        has_waiting = λ joiner from waits. absurd (true≢false (sym (ap is_some_id waits) ∙ (blank_at n joiner.actor.0).1));
        number = sym (counts_none is_joining n refl);
      };
      queue_fits = omega (arith, long, queue_fits);
      joiners_fit = omega (arith, long, joiners_fit);
    }
