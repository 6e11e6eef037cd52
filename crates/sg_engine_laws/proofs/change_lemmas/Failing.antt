-- Which activities fail in a run, and which complete.
use Rattle.std.proofs.Common.{◌≡◌, ◌≢◌, ℕ, zero, suc, ◌+◌, ◌-◌, ◌<◌, Bool, true, false, true≢false, cond, Option, None, Some, List, ◌++◌, append_assoc, set, get_or, refl, sym, ap, subst, ◌∙◌, arith}
use Rattle.std.proofs.lemmas.List.{get_or-set_other, get_or-set_same}
use Rattle.sg_base.specs.declared.awaits.Await.{Await}
use Rattle.sg_base.specs.declared.awaits.Party.TheVariants as party
use Rattle.sg_base.specs.declared.call.Call.{Call}
use Rattle.sg_base.specs.declared.call.Call.TheVariants as call
use Rattle.sg_base.specs.declared.trace_record.Record.{Record}
use Rattle.sg_activity.specs.Underway.{work_of}
use Rattle.sg_mailbox.specs.declared.sides.Post.{Post}
use Rattle.sg_mailbox.specs.declared.sides.Side.{Side}
use Rattle.sg_mailbox.specs.Posts.{is_other}
use Rattle.sg_route.specs.Roads.{Roads, roads_of}
use Rattle.sg_actor_states.specs.declared.state.State.TheVariants as state
use Rattle.sg_actor_states.specs.Actors.{is_answered, not_suspended}
use Rattle.sg_kernel_calls.specs.declared.meetings.Comer.{Comer}
use Rattle.sg_mailbox.specs.declared.owners.How.TheVariants as how
use Rattle.sg_mailbox.specs.declared.owners.Whose.{Whose}
use Rattle.sg_mailbox.specs.declared.owners.Whose.TheVariants.{Over, Posted}
use Rattle.sg_kernel_calls.specs.Answers.{answers_side, for_receiver, side_of, with_over}
use Rattle.sg_kernel_calls.specs.Calls.{answered, answered_call}
use Rattle.sg_kernel_calls.specs.Meetings.{both_fail, comer_fails, comer_of, comes, fails_with, other_fails, party_of, receives_by, sends_by, takes_part_failed}
use Rattle.sg_kernel_calls.specs.Steps.{Step, and_then, counted}
use Rattle.sg_kernel_calls.specs.World.{Core, state_of, whose_at}
use Rattle.sg_kernel_calls.proofs.Postings.{found_post}
use Rattle.sg_kernel.specs.Passes.{next_span, pass_at, pass_of, settled}
use Rattle.sg_kernel_calls.specs.Setup.{Setup}
use Rattle.sg_engine.specs.World.{World}
use Rattle.sg_engine.specs.declared.ended.Ended.{Ended}
use Rattle.sg_engine.specs.declared.ended.Ended.TheVariants as ended
use Rattle.sg_engine.specs.Fuel.{parts_from}
use Rattle.sg_engine.specs.Run.{Scene, Answering, Progress, and_then_by, are_completed, at_world, in_world, round, round_or_pass, then_unless_ended, with_front}
use Rattle.sg_kernel_laws.specs.failures.Cut.{EndsBy}
use Rattle.sg_kernel_laws.specs.failures.Laws.{call_fails, is_over, side_fails}
use Rattle.sg_kernel_laws.proofs.failure_lemmas.Cut.{time_advances_fail_what_is_off}
use Rattle.sg_kernel_laws.proofs.failure_lemmas.Given.{kills_fail_what_is_awaited}
use Rattle.sg_kernel_laws.proofs.actor_lemmas.Kept.{Kept, Replying, both, either, one_made, side_kept}
use Rattle.sg_engine_laws.specs.awaits.Runs.{Run, first_in, parts_in, run_to, scene_in, within}
use Rattle.sg_engine_laws.proofs.await_lemmas.Killed.{without_stop}
use Rattle.sg_engine_laws.proofs.await_lemmas.Over.{anything}
use Rattle.sg_engine_laws.specs.changes.Failing.{FailsAlone, KillsFailWhatIsAwaitedInRuns, MeetingsTellBothInRuns, MeetsCut, TellsBothInRun, TimeAdvancesFailWhatIsOffInRuns, over_next}
use Rattle.sg_engine_laws.specs.changes.Meets.{MeetsBlocked}
use Rattle.sg_engine_laws.specs.changes.Theirs.{PartOf}
use Rattle.sg_engine_laws.specs.changes.Told.{setup_in}
use Rattle.sg_engine_laws.proofs.change_lemmas.Calling.{IsCalled, IsPlain, called_in, is_left, then_nothing}
use Rattle.sg_engine_laws.proofs.change_lemmas.Meets.{answered_is, comes_fails, meetings_tell_both, place_is}
use Rattle.sg_engine_laws.proofs.change_lemmas.Reached.{awaited_are_drawn, nobody_waits_for_over}

-- ---- time advances
-- the next part of a run that has not ended
next_part : (at : Scene) (answers : Answering) (n : ℕ) (world : World) → (parts_from n at answers world).ended ≡ None → are_completed (parts_from n at answers world).world.core ≡ false →
    parts_from (suc n) at answers world ≡ with_front (parts_from n at answers world).made (round_or_pass at answers (parts_from n at answers world).world)
unfolding parts_from
next_part at answers zero world on going =
    let first = round_or_pass at answers world in
    ap (λ (b : Bool). cond b (at_world (Some ended.Completed) world) (then_unless_ended first (at_world None))) going ∙ then_nothing first
next_part at answers (suc n) world on going = over (are_completed world.core) first.ended refl (next_part at answers n first.world) on going
  where
    first : Progress
    first = round_or_pass at answers world

    early : Progress
    early = parts_from n at answers first.world

    last : Progress
    last = round_or_pass at answers early.world

    so_far : Bool → Option Ended → Progress
    so_far b how = cond b (at_world (Some ended.Completed) world) (and_then_by how first (parts_from n at answers))

    over : (b : Bool) (how : Option Ended) → first.ended ≡ how → (early.ended ≡ None → are_completed early.world.core ≡ false → parts_from (suc n) at answers first.world ≡ with_front early.made last) →
        (so_far b how).ended ≡ None → are_completed (so_far b how).world.core ≡ false →
        cond b (at_world (Some ended.Completed) world) (and_then_by how first (parts_from (suc n) at answers)) ≡ with_front (so_far b how).made (round_or_pass at answers (so_far b how).world)
    over true how e more on going = absurd (cc on)
    over false None e more on going = ap (with_front first.made) (more on going) ∙ ap (λ (l : List Record). record last { made = l }) (sym (append_assoc first.made early.made last.made))
    over false (Some how) e more on going = absurd (cc (sym e ∙ on))

module _ (setup : Setup) (core : Core) (serial : ℕ) (from : 0 < serial) (live : is_over (whose_at core serial) ≡ false) where
  ends_so : (o : Option ℕ) → next_span setup (settled core) ≡ o → EndsBy (over_next o setup (settled core) serial) serial (pass_of setup core)
  ends_so None e =
      subst (λ (o : Option ℕ). EndsBy None serial (pass_at setup (settled core) o)) (sym e)
      (record { so = λ over no on. absurd (cc no); only = λ over is. absurd (true≢false (sym (ap is_over is) ∙ live)) })
  ends_so (Some span) e = time_advances_fail_what_is_off setup core span serial e from live

pub time_advances_fail_what_is_off_in_runs : TimeAdvancesFailWhatIsOffInRuns
time_advances_fail_what_is_off_in_runs run parts serial p from live =
    let at = scene_in run in
    let first = parts_in parts run in
    let world = first.world in
    let passed : World = record world { work = world.work + work_of world.core.under } in
    let step = pass_of at.setup world.core in
    let one : suc parts ≡ parts + 1 = omega arith in
    let here : parts_in (parts + 1) run ≡ with_front first.made (in_world passed step) =
    sym (ap (λ (n : ℕ). parts_in n run) one)
    ∙ next_part at run.answers parts (first_in run) p.goes_on p.going
    ∙ ap (λ (b : Bool). with_front first.made (cond b (round at run.answers world) (in_world passed step))) p.idle in
    let e = ends_so at.setup world.core serial from live (next_span at.setup (settled world.core)) refl in
    record {
      so = λ over is on. ap (λ (q : Progress). whose_at q.world.core serial) here ∙ e.so over is (without_stop step.stop (ap (λ (q : Progress). q.ended) (sym here) ∙ on));
      only = λ over is. e.only over (ap (λ (q : Progress). whose_at q.world.core serial) (sym here) ∙ is);
    }

-- ---- kills
pub kills_fail_what_is_awaited_in_runs : KillsFailWhatIsAwaitedInRuns
kills_fail_what_is_awaited_in_runs run parts actors target serial k from live =
    let what = call.Kill target in
    let before = run_to parts actors run in
    let c = called_in run parts actors what (record { creates = refl; asks = refl }) (record { calls = k.calls; caller = k.caller; goes_on = k.goes_on }) in
    let left = is_left (roads_of run.platform) (setup_in run) before.world.core (actors + 1) what c.stop in
    let f = kills_fail_what_is_awaited (roads_of run.platform) (setup_in run) before.world.core (actors + 1) target serial k.alive left from live in
    let drawn = awaited_are_drawn run before.world.core (within parts actors) target k.exists.from in
    let mark = ap (λ (core : Core). whose_at core serial) c.core in
    record { fails = λ has. mark ∙ f.fails has; stays = λ none. mark ∙ f.stays drawn none }

-- ---- meetings
-- the call of an arriving endpoint
record IsComing (roads : Roads) (setup : Setup) (core : Core) (actor : ℕ) (what : Call) (comer : Comer) : Type 0 where
  plain : IsPlain what
  is : answered_call roads setup core actor what ≡ comes roads setup comer core
  fails : call_fails roads setup core actor what ≡ side_fails (Some comer) roads setup core

coming : (roads : Roads) (setup : Setup) (core : Core) (actor : ℕ) (what : Call) (comer : Comer) → comer_of actor what ≡ Some comer → IsComing roads setup core actor what comer
coming roads setup core actor call.Ask comer e = absurd (cc e)
coming roads setup core actor (call.Compute n p) comer e = absurd (cc e)
coming roads setup core actor (call.Sleep n) comer e = absurd (cc e)
coming roads setup core actor (call.Send b n m r) comer e =
    (let same : sends_by (side_of actor n m r) (call.Send b n m r) true b ≡ comer = cc e in
    subst (IsComing roads setup core actor (call.Send b n m r)) same (record { plain = record { creates = refl; asks = refl }; is = refl; fails = refl }))
coming roads setup core actor (call.Recv b) comer e =
    (let same : receives_by actor (call.Recv b) true b ≡ comer = cc e in
    subst (IsComing roads setup core actor (call.Recv b)) same (record { plain = record { creates = refl; asks = refl }; is = refl; fails = refl }))
coming roads setup core actor (call.ISend b n m r) comer e =
    (let same : sends_by (side_of actor n m r) (call.ISend b n m r) false b ≡ comer = cc e in
    subst (IsComing roads setup core actor (call.ISend b n m r)) same (record { plain = record { creates = refl; asks = refl }; is = refl; fails = refl }))
coming roads setup core actor (call.IRecv b) comer e =
    (let same : receives_by actor (call.IRecv b) false b ≡ comer = cc e in
    subst (IsComing roads setup core actor (call.IRecv b)) same (record { plain = record { creates = refl; asks = refl }; is = refl; fails = refl }))
coming roads setup core actor call.Wait comer e = absurd (cc e)
coming roads setup core actor (call.Lock n) comer e = absurd (cc e)
coming roads setup core actor (call.Unlock n) comer e = absurd (cc e)
coming roads setup core actor (call.Acquire n) comer e = absurd (cc e)
coming roads setup core actor (call.Release n) comer e = absurd (cc e)
coming roads setup core actor call.Barrier comer e = absurd (cc e)
coming roads setup core actor (call.Create n) comer e = absurd (cc e)
coming roads setup core actor (call.Join n) comer e = absurd (cc e)
coming roads setup core actor (call.Kill n) comer e = absurd (cc e)
coming roads setup core actor (call.Suspend n) comer e = absurd (cc e)
coming roads setup core actor (call.Resume n) comer e = absurd (cc e)
coming roads setup core actor call.Yield comer e = absurd (cc e)
coming roads setup core actor call.Exit comer e = absurd (cc e)

-- answers leave whose the activities are
module _ (whose : List Whose) where
  abbrev Is : Core → Type 0
  Is core = core.whose ≡ whose

  is_kept : Replying Is anything
  is_kept = record { replies = λ actor blocking bytes given core blocked e. one_made Is anything _ _ e tt }

  comer_kept : (comer : Comer) (serial : ℕ) (other : Side) (core : Core) → Is core → Kept Is anything (comer_fails comer serial other core)
  comer_kept comer serial other core e = by comer.waits
    where
      by : (waits : Bool) → Kept Is anything (takes_part_failed waits comer serial (cond comer.sends comer.side other).bytes core)
      by true = one_made Is anything _ _ e tt
      by false = one_made Is anything _ _ e tt

  other_kept : (comer : Comer) (serial : ℕ) (other : Side) (core : Core) → Is core → Kept Is anything (other_fails comer serial other core)
  other_kept comer serial other core e =
      either Is anything comer.sends (answers_side how.Failed serial party.Receiver (for_receiver comer.side other) core) (answers_side how.Failed serial party.Sender other core)
      (side_kept Is anything is_kept how.Failed serial party.Receiver (for_receiver comer.side other) core e) (side_kept Is anything is_kept how.Failed serial party.Sender other core e)

  both_kept : (comer : Comer) (serial : ℕ) (other : Side) (core : Core) → Is core → Kept Is anything (both_fail comer serial other core)
  both_kept comer serial other core e =
      let own = comer_fails comer serial other core in
      let theirs = other_fails comer serial other core in
      either Is anything comer.sends (and_then own (other_fails comer serial other)) (and_then theirs (comer_fails comer serial other))
      (both Is anything own (other_fails comer serial other) (comer_kept comer serial other core e) (other_kept comer serial other own.core))
      (both Is anything theirs (comer_fails comer serial other) (other_kept comer serial other core e) (comer_kept comer serial other theirs.core))

module _ (run : Run) (parts actors : ℕ) (what : Call) (comer : Comer) (post : Post) (m : MeetsCut run parts actors what comer post) where
  abbrev roads : Roads
  roads = roads_of run.platform

  abbrev setup : Setup
  setup = setup_in run

  abbrev before : Progress
  before = run_to parts actors run

  abbrev old : Core
  old = before.world.core

  abbrev step : Step
  step = answered roads setup old (actors + 1) what

  c : IsCalled roads setup (actors + 1) what before (run_to parts (actors + 1) run)
  c = called_in run parts actors what (coming roads setup old (actors + 1) what comer m.comes).plain m.calls

  left : old.events ≢ setup.budget
  left = is_left roads setup old (actors + 1) what c.stop

  step_is : step ≡ fails_with comer post.serial post.side (counted old)
  step_is =
      let k = coming roads setup old (actors + 1) what comer m.comes in
      answered_is roads setup old (actors + 1) what left ∙ k.is ∙ comes_fails roads setup comer old post m.meets (sym k.fails ∙ m.fails)

  marks : (run_to parts (actors + 1) run).world.core.whose ≡ set old.whose (post.serial.0 - 1) (Over how.Failed)
  marks =
      ap (λ (core : Core). core.whose) c.core ∙ ap (λ (s : Step). s.core.whose) step_is
      ∙ (both_kept (set old.whose (post.serial.0 - 1) (Over how.Failed)) comer post.serial.0 post.side (with_over how.Failed post.serial.0 (counted old)) refl).holds

  alone : FailsAlone post.serial.0 old (run_to parts (actors + 1) run).world.core
  alone = record {
    fails = ap (λ (w : List Whose). get_or w (post.serial.0 - 1) (Over how.Done)) marks ∙ get_or-set_same old.whose (post.serial.0 - 1) (Over how.Failed) (Over how.Done) (place_is comer old post m.meets);
    others = λ other apart. ap (λ (w : List Whose). get_or w (other - 1) (Over how.Done)) marks ∙ get_or-set_other old.whose (post.serial.0 - 1) (other - 1) (Over how.Failed) (Over how.Done) apart;
  }

  -- the other endpoint is that of the post, and isn't the caller
  module _ (since : ℕ) (called : Call) (on : Await) (blocked : state_of old post.side.actor.0 ≡ state.Blocked called since (Some on)) (same : on.serial.0 ≡ post.serial.0) where
    apart : post.side.actor.0 - 1 ≢ actors + 1 - 1
    apart is =
        absurd (cc (sym c.may.ready ∙ ap (λ (i : ℕ). is_answered (get_or old.actors i (not_suspended state.Ended)).state) (sym is) ∙ ap is_answered blocked))

    its_side : on.party ≡ party_of post.sends
    its_side =
        let found = found_post (is_other comer.sends) comer.mailbox 1 old.whose post m.meets in
        let me = post.side.actor.0 - 1 + 1 in
        let here : me - 1 ≡ post.side.actor.0 - 1 = omega arith in
        let part = nobody_waits_for_over run old (within parts actors) me since called on (omega arith) (ap (λ (i : ℕ). (get_or old.actors i (not_suspended state.Ended)).state) here ∙ blocked) in
        let whose : whose_at old on.serial.0 ≡ Posted comer.mailbox post.sends post.side = ap (whose_at old) same ∙ found.is in
        (subst (λ (w : Whose). PartOf me w on.party) whose part).0

    told : TellsBothInRun (actors + 1) what comer post since called before (run_to parts (actors + 1) run)
    told =
        let meets : MeetsBlocked old (actors + 1) what comer post since called on =
        record { comes = m.comes; meets = m.meets; blocked = blocked; serial = same; side = its_side; apart = apart } in
        let t = meetings_tell_both roads setup old (actors + 1) what comer post since called on meets m.fails left in
        record {
          made = c.made ∙ ap (λ (l : List Record). before.made ++ l) t.made;
          other = ap (λ (core : Core). state_of core post.side.actor.0) c.core ∙ t.other;
          caller = ap (λ (core : Core). state_of core (actors + 1)) c.core ∙ t.caller c.may;
        }

pub meetings_tell_both_in_runs : MeetingsTellBothInRuns
meetings_tell_both_in_runs = record {
  alone = λ run parts actors what comer post m. alone run parts actors what comer post m;
  both = λ run parts actors what comer post since called on m blocked same. told run parts actors what comer post m since called on blocked same;
}
