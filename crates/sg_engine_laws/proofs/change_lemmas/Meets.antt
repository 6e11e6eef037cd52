-- If a communication fails in a call, both endpoints get a record.
use Rattle.std.proofs.Common.{◌≡◌, ◌≢◌, ℕ, ◌-◌, ◌<◌, ◌==◌, not, Bool, true, false, cond, Some, Result, Ok, Err, List, [], ◌∷◌, length, set, get_or, refl, sym, ap, subst, ◌∙◌, arith}
use Rattle.std.proofs.lemmas.Bool.{cond-false}
use Rattle.std.proofs.lemmas.List.{get_or-set_same}
use Rattle.sg_base.specs.declared.awaits.Await.{Await}
use Rattle.sg_base.specs.declared.awaits.Party.{Party}
use Rattle.sg_base.specs.declared.awaits.Party.TheVariants as party
use Rattle.sg_base.specs.declared.call.Answer.{Answer}
use Rattle.sg_base.specs.declared.call.Answer.TheVariants as answer
use Rattle.sg_base.specs.declared.call.Call.{Call}
use Rattle.sg_base.specs.declared.call.Call.TheVariants as call
use Rattle.sg_base.specs.declared.call.Msg.{Msg}
use Rattle.sg_base.specs.declared.ids.BoxId.{BoxId}
use Rattle.sg_mailbox.specs.declared.sides.Post.{Post}
use Rattle.sg_mailbox.specs.declared.sides.Side.{Side}
use Rattle.sg_mailbox.specs.Posts.{is_other, partner}
use Rattle.sg_route.specs.declared.router.RouteFault.{RouteFault}
use Rattle.sg_route.specs.Roads.{Roads}
use Rattle.sg_route.specs.Route.{Route}
use Rattle.sg_actor_states.specs.declared.state.Actor.{Actor}
use Rattle.sg_actor_states.specs.declared.state.State.TheVariants.{Ready, Blocked}
use Rattle.sg_actor_states.specs.Actors.{blocking_in, put_state, state_at}
use Rattle.sg_kernel_calls.specs.declared.meetings.Comer.{Comer}
use Rattle.sg_mailbox.specs.declared.owners.How.TheVariants as how
use Rattle.sg_mailbox.specs.declared.owners.Whose.TheVariants.{Over}
use Rattle.sg_kernel_calls.specs.declared.stop.Stop.TheVariants.{Budget}
use Rattle.sg_kernel_calls.specs.Answers.{answers_by, answers_side, for_receiver, side_of, tells_bytes, with_over}
use Rattle.sg_kernel_calls.specs.Calls.{answered, answered_call}
use Rattle.sg_kernel_calls.specs.Meetings.{asks_for, await, comer_fails, comer_of, comes, comes_by, fails_with, joins_over, joins_with, party_of, posts_at, receiver_of, receives_by, route_between, sender_of, sends_by}
use Rattle.sg_kernel_calls.specs.Steps.{Step, and_then, counted, goes_on, readied, replied, stops}
use Rattle.sg_kernel_calls.specs.Setup.{Setup}
use Rattle.sg_kernel_calls.specs.World.{Core, MayCall, state_of}
use Rattle.sg_kernel_calls.proofs.Each.{eq_no}
use Rattle.sg_kernel_calls.proofs.Postings.{found_post}
use Rattle.sg_kernel_laws.specs.failures.Laws.{call_fails, meeting_fails, side_fails, way_fails}
use Rattle.sg_engine_laws.proofs.await_lemmas.Awaiting.{put_at, put_long, put_there}
use Rattle.sg_engine_laws.specs.changes.Meets.{MeetingsTellBoth, MeetsBlocked, TellsBoth, comer_record}
use Rattle.sg_engine_laws.proofs.change_lemmas.Finished.{is_on_it}
use Rattle.sg_engine_laws.proofs.change_lemmas.CalledParts.{found_passes, other_kind}
use Rattle.sg_engine_laws.proofs.change_lemmas.Tracked.{blocked_within}

-- ---- the call leads to a meeting that fails
pub comes_fails : (roads : Roads) (setup : Setup) (comer : Comer) (core : Core) (post : Post) → partner comer.sends (posts_at comer.mailbox core) ≡ Some post → side_fails (Some comer) roads setup core ≡ true → comes roads setup comer core ≡ fails_with comer post.serial post.side (counted core)
comes_fails roads setup comer core post e fails =
    ap (λ o. comes_by o roads setup comer core) e ∙ route (route_between roads setup (sender_of comer post.side) (receiver_of comer post.side)) (sym (ap (λ o. meeting_fails o roads setup comer core) e) ∙ fails)
  where
    route : (r : Result Route RouteFault) → way_fails r setup comer post core ≡ true → joins_over r setup comer post core ≡ fails_with comer post.serial post.side (counted core)
    route (Err why) is = absurd (cc is)
    route (Ok way) is = ap (λ b. cond b (fails_with comer post.serial post.side (counted core)) (joins_with way setup comer post.serial post.side (counted core))) is

-- ---- the record of the other endpoint
module _ (core : Core) (actor : ℕ) (post : Post) (since : ℕ) (called : Call) (on : Await) (blocked : state_of core post.side.actor.0 ≡ Blocked called since (Some on)) (apart : post.side.actor.0 - 1 ≢ actor - 1) where
  abbrev other : ℕ
  other = post.side.actor.0

  abbrev over : Core
  over = with_over how.Failed post.serial.0 (counted core)

  within : other - 1 < length core.actors
  within = blocked_within core.actors (other - 1) (record { what = called; since = since; on = Some on }) (ap blocking_in blocked)

  still : (given : Answer) → state_at (put_state core.actors actor (Ready given)) other ≡ Blocked called since (Some on)
  still given = put_there (λ s. s ≡ Blocked called since (Some on)) core.actors actor other (Ready given) (λ same. absurd (apart same)) blocked

  replies : (serial : ℕ) (side : Party) (given : Side) (mid : Core) → given.actor.0 ≡ other → state_of mid other ≡ Blocked called since (Some on) → on.serial.0 ≡ serial → on.party ≡ side →
      answers_side how.Failed serial side given mid ≡ replied given.actor.0 called since (cond (tells_bytes called) given.bytes 0) answer.Failed mid
  replies serial side given mid same is of kind =
      ap (λ o. answers_by how.Failed serial side given (blocking_in o) mid) (ap (state_of mid) same ∙ is)
      ∙ ap (λ b. cond b (replied given.actor.0 called since (cond (tells_bytes called) given.bytes 0) answer.Failed mid) (goes_on mid [])) (is_on_it serial side on of kind)

  ready_first : (actors : List Actor) → length actors ≡ length core.actors → state_at (put_state actors other (Ready answer.Failed)) other ≡ Ready answer.Failed
  ready_first actors long = put_at (λ s. s ≡ Ready answer.Failed) actors other other (Ready answer.Failed) (omega (arith, within, long)) (λ same. refl) (λ differs. absurd (differs refl))

  ready_last : (given : Answer) → state_at (put_state (put_state core.actors other (Ready answer.Failed)) actor (Ready given)) other ≡ Ready answer.Failed
  ready_last given = put_there (λ s. s ≡ Ready answer.Failed) (put_state core.actors other (Ready answer.Failed)) actor other (Ready given) (λ same. absurd (apart same)) (ready_first core.actors refl)

  caller_ready : (given : Answer) (actors : List Actor) → length actors ≡ length core.actors → MayCall core actor → state_at (put_state actors actor (Ready given)) actor ≡ Ready given
  caller_ready given actors long may = put_at (λ s. s ≡ Ready given) actors actor actor (Ready given) (omega (arith, may.from, may.to, long)) (λ same. refl) (λ differs. absurd (differs refl))

  caller_first : (given : Answer) → MayCall core actor → state_at (put_state (put_state core.actors actor (Ready given)) other (Ready answer.Failed)) actor ≡ Ready given
  caller_first given may = put_there (λ s. s ≡ Ready given) (put_state core.actors actor (Ready given)) other actor (Ready answer.Failed) (λ same. absurd (apart (sym same))) (caller_ready given core.actors refl may)

  caller_last : (given : Answer) → MayCall core actor → state_at (put_state (put_state core.actors other (Ready answer.Failed)) actor (Ready given)) actor ≡ Ready given
  caller_last given may = caller_ready given (put_state core.actors other (Ready answer.Failed)) (put_long core.actors other (Ready answer.Failed)) may

  has_failed : post.serial.0 - 1 < length core.whose → get_or (set core.whose (post.serial.0 - 1) (Over how.Failed)) (post.serial.0 - 1) (Over how.Done) ≡ Over how.Failed
  has_failed there = get_or-set_same core.whose (post.serial.0 - 1) (Over how.Failed) (Over how.Done) there

  -- if the sender arrives
  sender_comes : (waits : Bool) (what : Call) (mailbox : BoxId) (bytes : ℕ) (message : Msg) (rate : ℕ) → post.serial.0 - 1 < length core.whose → on.serial.0 ≡ post.serial.0 → on.party ≡ party.Receiver →
      TellsBoth core actor what (sends_by (side_of actor bytes message rate) what waits mailbox) post since called (fails_with (sends_by (side_of actor bytes message rate) what waits mailbox) post.serial post.side (counted core))
  sender_comes true what mailbox bytes message rate there of kind =
      let comer = sends_by (side_of actor bytes message rate) what true mailbox in
      let mid = readied actor answer.Failed over in
      subst (λ (t : Step). TellsBoth core actor what comer post since called (record t { made = comer_record core actor what comer post ∷ t.made }))
      (sym (replies post.serial.0 party.Receiver (for_receiver comer.side post.side) mid refl (still answer.Failed) of kind))
      (record { made = refl; goes_on = refl; other = ready_first mid.actors (put_long core.actors actor (Ready answer.Failed)); caller = caller_first answer.Failed; over = has_failed there })
  sender_comes false what mailbox bytes message rate there of kind =
      let comer = sends_by (side_of actor bytes message rate) what false mailbox in
      let mid = readied actor answer.Done (asks_for actor (await post.serial.0 true) over) in
      subst (λ (t : Step). TellsBoth core actor what comer post since called (record t { made = comer_record core actor what comer post ∷ t.made }))
      (sym (replies post.serial.0 party.Receiver (for_receiver comer.side post.side) mid refl (still answer.Done) of kind))
      (record { made = refl; goes_on = refl; other = ready_first mid.actors (put_long core.actors actor (Ready answer.Done)); caller = caller_first answer.Done; over = has_failed there })

  -- if the receiver arrives
  receiver_comes : (waits : Bool) (what : Call) (mailbox : BoxId) → post.serial.0 - 1 < length core.whose → on.serial.0 ≡ post.serial.0 → on.party ≡ party.Sender →
      TellsBoth core actor what (receives_by actor what waits mailbox) post since called (fails_with (receives_by actor what waits mailbox) post.serial post.side (counted core))
  receiver_comes true what mailbox there of kind =
      let comer = receives_by actor what true mailbox in
      subst (λ (t : Step). TellsBoth core actor what comer post since called (and_then t (comer_fails comer post.serial.0 post.side)))
      (sym (replies post.serial.0 party.Sender post.side over refl blocked of kind)) (record { made = refl; goes_on = refl; other = ready_last answer.Failed; caller = caller_last answer.Failed; over = has_failed there })
  receiver_comes false what mailbox there of kind =
      let comer = receives_by actor what false mailbox in
      subst (λ (t : Step). TellsBoth core actor what comer post since called (and_then t (comer_fails comer post.serial.0 post.side)))
      (sym (replies post.serial.0 party.Sender post.side over refl blocked of kind)) (record { made = refl; goes_on = refl; other = ready_last answer.Done; caller = caller_last answer.Done; over = has_failed there })

-- ---- any such call
pub answered_is : (roads : Roads) (setup : Setup) (core : Core) (actor : ℕ) (what : Call) → core.events ≢ setup.budget → answered roads setup core actor what ≡ answered_call roads setup core actor what
answered_is roads setup core actor what left = cond-false (core.events == setup.budget) (stops core [] Budget) (answered_call roads setup core actor what) (eq_no core.events setup.budget left)

pub place_is : (comer : Comer) (core : Core) (post : Post) → partner comer.sends (posts_at comer.mailbox core) ≡ Some post → post.serial.0 - 1 < length core.whose
place_is comer core post e = (let found = found_post (is_other comer.sends) comer.mailbox 1 core.whose post e in omega (arith, found.from, found.to))

kind_is : (comer : Comer) (core : Core) (post : Post) → partner comer.sends (posts_at comer.mailbox core) ≡ Some post → post.sends ≡ not comer.sends
kind_is comer core post e = other_kind comer.sends post (found_passes (is_other comer.sends) (posts_at comer.mailbox core) post e)

module _ (roads : Roads) (setup : Setup) (core : Core) (actor : ℕ) (post : Post) (since : ℕ) (called : Call) (on : Await) (left : core.events ≢ setup.budget) where
  abbrev Tells : Call → Comer → Type 0
  Tells what comer = MeetsBlocked core actor what comer post since called on → call_fails roads setup core actor what ≡ true → TellsBoth core actor what comer post since called (answered roads setup core actor what)

  -- the call is that of the arriving endpoint
  by_side : (what : Call) (comer : Comer) → answered_call roads setup core actor what ≡ comes roads setup comer core → call_fails roads setup core actor what ≡ side_fails (Some comer) roads setup core →
      (MeetsBlocked core actor what comer post since called on → TellsBoth core actor what comer post since called (fails_with comer post.serial post.side (counted core))) → Tells what comer
  by_side what comer is same tells m fails =
      subst (TellsBoth core actor what comer post since called) (sym (answered_is roads setup core actor what left ∙ is ∙ comes_fails roads setup comer core post m.meets (sym same ∙ fails))) (tells m)

  send_tells : (b : BoxId) (n : ℕ) (m : Msg) (r : ℕ) → Tells (call.Send b n m r) (sends_by (side_of actor n m r) (call.Send b n m r) true b)
  send_tells b n m r =
      let what = call.Send b n m r in
      let comer = sends_by (side_of actor n m r) what true b in
      by_side what comer refl refl (λ k. sender_comes core actor post since called on k.blocked k.apart true what b n m r (place_is comer core post k.meets) k.serial (k.side ∙ ap party_of (kind_is comer core post k.meets)))

  isend_tells : (b : BoxId) (n : ℕ) (m : Msg) (r : ℕ) → Tells (call.ISend b n m r) (sends_by (side_of actor n m r) (call.ISend b n m r) false b)
  isend_tells b n m r =
      let what = call.ISend b n m r in
      let comer = sends_by (side_of actor n m r) what false b in
      by_side what comer refl refl (λ k. sender_comes core actor post since called on k.blocked k.apart false what b n m r (place_is comer core post k.meets) k.serial (k.side ∙ ap party_of (kind_is comer core post k.meets)))

  recv_tells : (b : BoxId) → Tells (call.Recv b) (receives_by actor (call.Recv b) true b)
  recv_tells b =
      let comer = receives_by actor (call.Recv b) true b in
      by_side (call.Recv b) comer refl refl (λ k. receiver_comes core actor post since called on k.blocked k.apart true (call.Recv b) b (place_is comer core post k.meets) k.serial (k.side ∙ ap party_of (kind_is comer core post k.meets)))

  irecv_tells : (b : BoxId) → Tells (call.IRecv b) (receives_by actor (call.IRecv b) false b)
  irecv_tells b =
      let comer = receives_by actor (call.IRecv b) false b in
      by_side (call.IRecv b) comer refl refl (λ k. receiver_comes core actor post since called on k.blocked k.apart false (call.IRecv b) b (place_is comer core post k.meets) k.serial (k.side ∙ ap party_of (kind_is comer core post k.meets)))

  all_tell : (what : Call) (comer : Comer) → comer_of actor what ≡ Some comer → Tells what comer
  all_tell call.Ask comer e = absurd (cc e)
  all_tell (call.Compute n p) comer e = absurd (cc e)
  all_tell (call.Sleep n) comer e = absurd (cc e)
  all_tell (call.Send b n m r) comer e = (let same : sends_by (side_of actor n m r) (call.Send b n m r) true b ≡ comer = cc e in subst (Tells (call.Send b n m r)) same (send_tells b n m r))
  all_tell (call.Recv b) comer e = (let same : receives_by actor (call.Recv b) true b ≡ comer = cc e in subst (Tells (call.Recv b)) same (recv_tells b))
  all_tell (call.ISend b n m r) comer e = (let same : sends_by (side_of actor n m r) (call.ISend b n m r) false b ≡ comer = cc e in subst (Tells (call.ISend b n m r)) same (isend_tells b n m r))
  all_tell (call.IRecv b) comer e = (let same : receives_by actor (call.IRecv b) false b ≡ comer = cc e in subst (Tells (call.IRecv b)) same (irecv_tells b))
  all_tell call.Wait comer e = absurd (cc e)
  all_tell (call.Lock n) comer e = absurd (cc e)
  all_tell (call.Unlock n) comer e = absurd (cc e)
  all_tell (call.Acquire n) comer e = absurd (cc e)
  all_tell (call.Release n) comer e = absurd (cc e)
  all_tell call.Barrier comer e = absurd (cc e)
  all_tell (call.Create n) comer e = absurd (cc e)
  all_tell (call.Join n) comer e = absurd (cc e)
  all_tell (call.Kill n) comer e = absurd (cc e)
  all_tell (call.Suspend n) comer e = absurd (cc e)
  all_tell (call.Resume n) comer e = absurd (cc e)
  all_tell call.Yield comer e = absurd (cc e)
  all_tell call.Exit comer e = absurd (cc e)

pub meetings_tell_both : MeetingsTellBoth
meetings_tell_both roads setup core actor what comer post since called on m fails left = all_tell roads setup core actor post since called on left what comer m.comes m fails
