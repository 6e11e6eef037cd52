-- What calls and time advances keep holds from any point of a run on, and so does what holds for each record that they make.
use Rattle.std.proofs.Common.{◌≡◌, ◌≤◌, ◌+◌, ◌||◌, ◌∙◌, ℕ, zero, suc, Bool, true, false, true≢false, cond, sym, ap, subst, refl, List, [], ◌∷◌, ◌++◌, append_assoc, append-nil, length, get_or, take, take_all, Option, None, Some, arith}
use Rattle.std.specs.Prelude.{IsSome}
use Rattle.std.specs.List.{All, list_all, list_any}
use Rattle.std.proofs.lemmas.Bool.{and_left, and_right}
use Rattle.std.proofs.lemmas.List.Elements.{All-nil, All-append}
use Rattle.sg_activity.specs.Underway.{work_of}
use Rattle.sg_base.specs.declared.call.Call.{Call}
use Rattle.sg_base.specs.declared.trace_record.Record.{Record}
use Rattle.sg_actor_states.specs.declared.state.Actor.{Actor}
use Rattle.sg_actor_states.specs.declared.state.State.{State}
use Rattle.sg_actor_states.specs.declared.state.State.TheVariants as state
use Rattle.sg_actor_states.specs.Actors.{is_over, is_ready}
use Rattle.sg_kernel.specs.Passes.{pass_of}
use Rattle.sg_kernel_calls.specs.World.{Core}
use Rattle.sg_engine.specs.World.{World}
use Rattle.sg_engine.specs.declared.ended.Ended.{Ended}
use Rattle.sg_engine.specs.declared.ended.Ended.TheVariants as ended
use Rattle.sg_engine.specs.Fuel.{parts_from}
use Rattle.sg_engine.specs.Run.{Scene, Answering, Progress, then_unless_ended, and_then_by, anyone_ready, are_completed, at_world, calls_from, if_call, in_world, round, round_or_pass, run_from, with_front}
use Rattle.sg_kernel_laws.proofs.actor_lemmas.Kept.{Kept}
use Rattle.sg_engine_laws.specs.awaits.Runs.{calls_in, round_to}
use Rattle.sg_engine_laws.proofs.await_lemmas.Later.{ready_at, turned}
use Rattle.sg_engine_laws.proofs.await_lemmas.Rounds.{who_calls}
use Rattle.sg_engine_laws.proofs.change_lemmas.Parts.{Calling, KeptOn, calls_kept, on_at, parts_kept, round_to_kept}

-- it holds after the longer stretch, and the other for each record that this makes more
pub record Extends (P : Core → Type 0) (Q : Record → Type 0) (before after : Progress) : Type 0 where
  pub holds : P after.world.core
  pub more : List Record
  pub made : after.made ≡ before.made ++ more
  pub all : All Q more

module _ (P : Core → Type 0) (Q : Record → Type 0) where
  same_extends : (p : Progress) → P p.world.core → Extends P Q p p
  same_extends p holds = record { holds = holds; more = []; made = sym (append-nil p.made); all = All-nil Q }

  pub then_extends : (a b c : Progress) → Extends P Q a b → Extends P Q b c → Extends P Q a c
  then_extends a b c one two = record {
    holds = two.holds;
    more = one.more ++ two.more;
    made = two.made ∙ ap (λ (l : List Record). l ++ two.more) one.made ∙ append_assoc a.made one.more two.more;
    all = All-append Q one.more two.more one.all two.all;
  }

  front_extends : (front : List Record) (p q : Progress) → Extends P Q p q → Extends P Q (with_front front p) (with_front front q)
  front_extends front p q e = record { holds = e.holds; more = e.more; made = ap (λ (l : List Record). front ++ l) e.made ∙ sym (append_assoc front p.made e.more); all = e.all }

  -- from a stretch that makes nothing
  kept_extends : (p q : Progress) → p.made ≡ [] → KeptOn P Q q → Extends P Q p q
  kept_extends p q none k = record { holds = k.holds; more = q.made; made = ap (λ (l : List Record). l ++ q.made) (sym none); all = k.made }

  -- one stretch, and what follows it
  pub begin_extends : (first : Progress) (next : World → Progress) → P first.world.core → (P first.world.core → KeptOn P Q (next first.world)) → Extends P Q first (then_unless_ended first next)
  begin_extends first next p more = by first.ended
    where
      by : (how : Option Ended) → Extends P Q first (and_then_by how first next)
      by None = (let k = more p in record { holds = k.holds; more = (next first.world).made; made = refl; all = k.made })
      by (Some how) = same_extends first p

  -- a longer stretch behind the same one
  pub after_extends : (how : Option Ended) (first : Progress) (f g : World → Progress) → P (and_then_by how first f).world.core → (P (f first.world).world.core → Extends P Q (f first.world) (g first.world)) → Extends P Q (and_then_by how first f) (and_then_by how first g)
  after_extends None first f g p more = front_extends first.made (f first.world) (g first.world) (more p)
  after_extends (Some how) first f g p more = same_extends first p

  either_extends : (b : Bool) (x y z : Progress) → P (cond b x y).world.core → (P y.world.core → Extends P Q y z) → Extends P Q (cond b x y) (cond b x z)
  either_extends true x y z p more = same_extends x p
  either_extends false x y z p more = more p

-- ---- nobody is ready
ready_goes : (actors : List Actor) → list_any is_ready actors ≡ true → list_all is_over actors ≡ false
ready_goes [] ready = absurd (true≢false (sym ready))
ready_goes (actor ∷ actors) ready = by (is_ready actor) refl (ready_goes actors)
  where
    alive : (suspended : Bool) (now : State) → actor.state ≡ now → actor.suspended ≡ suspended → is_ready (record { state = now; suspended = suspended }) ≡ true → is_over (record { state = now; suspended = suspended }) ≡ false
    alive true state.Unstarted s t is = absurd (true≢false (sym is))
    alive true (state.Ready answer) s t is = refl
    alive true (state.Blocked what since on) s t is = refl
    alive true state.Ended s t is = absurd (true≢false (sym is))
    alive false state.Unstarted s t is = absurd (true≢false (sym is))
    alive false (state.Ready answer) s t is = refl
    alive false (state.Blocked what since on) s t is = refl
    alive false state.Ended s t is = absurd (true≢false (sym is))

    by : (b : Bool) → is_ready actor ≡ b → (list_any is_ready actors ≡ true → list_all is_over actors ≡ false) → list_all is_over (actor ∷ actors) ≡ false
    by true is more = and_left (is_over actor) (list_all is_over actors) (alive actor.suspended actor.state refl refl is)
    by false is more = and_right (is_over actor) (list_all is_over actors) (more (ap (λ (b : Bool). b || list_any is_ready actors) (sym is) ∙ ready))

no_calls : (world : World) → anyone_ready world.core ≡ false → (j : ℕ) → IsSome (get_or (calls_in world) j None) → ⊥
no_calls world idle j some = true≢false (sym (ready_at world.core.actors j (who_calls world.minds world.core.actors j some)) ∙ idle)

silent_calls : (at : Scene) (answers : Answering) (n actor : ℕ) (calls : List (Option Call)) (world : World) → ((j : ℕ) → IsSome (get_or calls j None) → ⊥) → calls_from at answers actor (take n calls) world ≡ at_world None world
unfolding calls_from
silent_calls at answers zero actor calls world none = refl
silent_calls at answers (suc n) actor [] world none = refl
silent_calls at answers (suc n) actor (None ∷ rest) world none = ap (with_front []) (silent_calls at answers n (actor + 1) rest world (λ j. none (suc j)))
silent_calls at answers (suc n) actor (Some what ∷ rest) world none = absurd (none 0 refl)

pub front_then : (front : List Record) (first : Progress) (next : World → Progress) → then_unless_ended (with_front front first) next ≡ with_front front (then_unless_ended first next)
front_then front first next = by first.ended
  where
    by : (how : Option Ended) → and_then_by how (with_front front first) next ≡ with_front front (and_then_by how first next)
    by None = ap (λ (l : List Record). record (next first.world) { made = l }) (append_assoc front first.made (next first.world).made)
    by (Some how) = refl

-- ---- from within a scheduling round
module _ (at : Scene) (answers : Answering) (P : Core → Type 0) (Q : Record → Type 0) (calling : Calling at P Q) where
  calls_extend : (n m actor : ℕ) (calls : List (Option Call)) (world : World) → n ≤ m → P (calls_from at answers actor (take n calls) world).world.core → Extends P Q (calls_from at answers actor (take n calls) world) (calls_from at answers actor (take m calls) world)
  unfolding calls_from
  calls_extend zero m actor calls world below p = kept_extends P Q (at_world None world) (calls_from at answers actor (take m calls) world) refl (calls_kept at answers P Q calling actor (take m calls) world p)
  calls_extend (suc n) zero actor calls world below p = absurd (omega (arith, below))
  calls_extend (suc n) (suc m) actor [] world below p = same_extends P Q (at_world None world) p
  calls_extend (suc n) (suc m) actor (what ∷ rest) world below p =
      let first = if_call at answers actor what world in
      after_extends P Q first.ended first (calls_from at answers (actor + 1) (take n rest)) (calls_from at answers (actor + 1) (take m rest)) p (λ q. calls_extend n m (actor + 1) rest first.world (omega (arith, below)) q)

  pub round_extends : (n m : ℕ) (world : World) → n ≤ m → P (round_to n at answers world).world.core → Extends P Q (round_to n at answers world) (round_to m at answers world)
  round_extends n m world below p = calls_extend n m 1 (calls_in world) (turned world) below p

  round_ends : (n : ℕ) (world : World) → P (round_to n at answers world).world.core → Extends P Q (round_to n at answers world) (round at answers world)
  round_ends n world p =
      let calls = calls_in world in
      let all : take (n + length calls) calls ≡ calls = take_all (n + length calls) calls (omega arith) in
      subst (λ (cs : List (Option Call)). Extends P Q (round_to n at answers world) (calls_from at answers 1 cs (turned world))) all (round_extends n (n + length calls) world (omega arith) p)

-- ---- from a round to the end of the run
module _ (at : Scene) (answers : Answering) (P : Core → Type 0) (Q : Record → Type 0) (calling : Calling at P Q) (passing : (core : Core) → P core → Kept P Q (pass_of at.setup core)) where
  one_part : (n : ℕ) (world : World) → P (round_to n at answers world).world.core → Extends P Q (round_to n at answers world) (parts_from 1 at answers world)
  unfolding parts_from
  one_part n world p = by (anyone_ready world.core) refl
    where
      pass : Progress
      pass = in_world (record world { work = world.work + work_of world.core.under }) (pass_of at.setup world.core)

      ready : anyone_ready world.core ≡ true → Extends P Q (round_to n at answers world) (then_unless_ended (round at answers world) (at_world None))
      ready is = (let e = round_ends at answers P Q calling n world p in then_extends P Q _ (round at answers world) _ e (begin_extends P Q (round at answers world) (at_world None) e.holds (on_at P Q None (round at answers world).world)))

      by : (b : Bool) → anyone_ready world.core ≡ b → Extends P Q (round_to n at answers world) (parts_from 1 at answers world)
      by true is =
          subst (λ (b : Bool). Extends P Q (round_to n at answers world) (cond (are_completed world.core) (at_world (Some ended.Completed) world) (then_unless_ended (cond b (round at answers world) pass) (at_world None)))) (sym is)
          (subst (λ (b : Bool). Extends P Q (round_to n at answers world) (cond b (at_world (Some ended.Completed) world) (then_unless_ended (round at answers world) (at_world None)))) (sym (ready_goes world.core.actors is)) (ready is))
      by false is =
          (let none = silent_calls at answers n 1 (calls_in world) (turned world) (no_calls world is) in
          kept_extends P Q (round_to n at answers world) (parts_from 1 at answers world) (ap (λ (p : Progress). p.made) none)
          (parts_kept at answers P Q calling passing 1 world (subst (λ (p : Progress). P p.world.core) none p)))

  -- until the end of the part that the calls belong to
  pub part_extends : (n actors : ℕ) (world : World) → P (then_unless_ended (parts_from n at answers world) (round_to actors at answers)).world.core → Extends P Q (then_unless_ended (parts_from n at answers world) (round_to actors at answers)) (parts_from (suc n) at answers world)
  unfolding parts_from
  part_extends zero actors world p = one_part actors world p
  part_extends (suc n) actors world p = over (are_completed world.core) p (part_extends n actors (round_or_pass at answers world).world)
    where
      first : Progress
      first = round_or_pass at answers world

      More : Type 0
      More = P (then_unless_ended (parts_from n at answers first.world) (round_to actors at answers)).world.core → Extends P Q (then_unless_ended (parts_from n at answers first.world) (round_to actors at answers)) (parts_from (suc n) at answers first.world)

      then_by : (how : Option Ended) → first.ended ≡ how → More → P (then_unless_ended (and_then_by how first (parts_from n at answers)) (round_to actors at answers)).world.core → Extends P Q (then_unless_ended (and_then_by how first (parts_from n at answers)) (round_to actors at answers)) (and_then_by how first (parts_from (suc n) at answers))
      then_by None on more p =
          (let is = front_then first.made (parts_from n at answers first.world) (round_to actors at answers) in
          subst (λ (q : Progress). Extends P Q q (with_front first.made (parts_from (suc n) at answers first.world))) (sym is)
          (front_extends P Q first.made (then_unless_ended (parts_from n at answers first.world) (round_to actors at answers)) (parts_from (suc n) at answers first.world)
          (more (subst (λ (q : Progress). P q.world.core) is p))))
      then_by (Some how) on more p =
          (let is : then_unless_ended first (round_to actors at answers) ≡ first = ap (λ (o : Option Ended). and_then_by o first (round_to actors at answers)) on in
          subst (λ (q : Progress). Extends P Q q first) (sym is) (same_extends P Q first (subst (λ (q : Progress). P q.world.core) is p)))

      over : (b : Bool) → P (then_unless_ended (cond b (at_world (Some ended.Completed) world) (then_unless_ended first (parts_from n at answers))) (round_to actors at answers)).world.core → More →
          Extends P Q (then_unless_ended (cond b (at_world (Some ended.Completed) world) (then_unless_ended first (parts_from n at answers))) (round_to actors at answers)) (cond b (at_world (Some ended.Completed) world) (then_unless_ended first (parts_from (suc n) at answers)))
      over true p more = same_extends P Q (at_world (Some ended.Completed) world) p
      over false p more = then_by first.ended refl more p

  pub parts_extend : (n m k : ℕ) (world : World) → k ≡ n + m → P (parts_from n at answers world).world.core → Extends P Q (parts_from n at answers world) (parts_from k at answers world)
  unfolding parts_from
  parts_extend zero m k world is p = kept_extends P Q (at_world None world) (parts_from k at answers world) refl (parts_kept at answers P Q calling passing k world p)
  parts_extend (suc n) m k world is p =
      let e : k ≡ suc (n + m) = omega (arith, is) in
      let first = round_or_pass at answers world in
      subst (λ (j : ℕ). Extends P Q (parts_from (suc n) at answers world) (parts_from j at answers world)) (sym e)
      (either_extends P Q (are_completed world.core) (at_world (Some ended.Completed) world) (then_unless_ended first (parts_from n at answers)) (then_unless_ended first (parts_from (n + m) at answers)) p
      (λ q. after_extends P Q first.ended first (parts_from n at answers) (parts_from (n + m) at answers) q (λ r. parts_extend n m (n + m) first.world refl r)))

  pub run_extends : (n : ℕ) (world : World) → P (parts_from n at answers world).world.core → Extends P Q (parts_from n at answers world) (run_from n at answers world)
  unfolding run_from parts_from
  run_extends zero world p = kept_extends P Q (at_world None world) (at_world (Some ended.Budget) world) refl (on_at P Q (Some ended.Budget) world p)
  run_extends (suc n) world p =
      let first = round_or_pass at answers world in
      either_extends P Q (are_completed world.core) (at_world (Some ended.Completed) world) (then_unless_ended first (parts_from n at answers)) (then_unless_ended first (run_from n at answers)) p
      (λ q. after_extends P Q first.ended first (parts_from n at answers) (run_from n at answers) q (λ r. run_extends n first.world r))

  pub round_to_extends : (actors : ℕ) (first : Progress) → P first.world.core → Extends P Q first (then_unless_ended first (round_to actors at answers))
  round_to_extends actors first p = begin_extends P Q first (round_to actors at answers) p (round_to_kept at answers P Q calling actors first.world)
