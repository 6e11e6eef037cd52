-- How far a run has come after so many scheduling rounds and time advances, and that its lines are
-- written by then.
use Rattle.std.proofs.Common.{arith, ◌≡◌, ◌≤◌, ◌+◌, ◌∙◌, sym, ap, subst, refl, ℕ, zero, suc, Bool, true, false, cond, List, [], ◌++◌, length, Option, None, Some, append_assoc}
use Rattle.std.specs.Prelude.{MatchBool}
use Rattle.std.specs.List.{list_all}
use Rattle.std.proofs.lemmas.List.{append-nil}
use Rattle.sg_base.specs.declared.trace_record.Record.{Record}
use Rattle.sg_edge.specs.declared.files.Part.{Part}
use Rattle.sg_edge.specs.declared.files.Part.TheVariants.{Script}
use Rattle.sg_edge.specs.declared.sinks.Stream.{Stream}
use Rattle.sg_edge.specs.declared.sinks.Stream.TheVariants.{Out}
use Rattle.sg_edge.specs.Files.{PartView}
use Rattle.sg_edge.specs.Sinks.{gain}
use Rattle.sg_edge.specs.Sources.{Source}
use Rattle.sg_edge.proofs.Writing.{gain-nil, gain-gain}
use Rattle.sg_actor_states.specs.Actors.{is_over}
use Rattle.sg_platform_rows.specs.Deployment.{Deployed}
use Rattle.sg_platform_rows.specs.Platform.{Platform}
use Rattle.sg_script.specs.Fetched.{fetches_of}
use Rattle.sg_script.specs.Answer.{answer_of}
use Rattle.sg_script.specs.Known.{ScriptNames as Names, known_in}
use Rattle.sg_script.specs.Needed.{needed_by}
use Rattle.sg_script.specs.Rest.{GoesOn}
use Rattle.sg_script.specs.Stands.{IsWithinNeed, Reads}
use Rattle.sg_script.proofs.AllNeeds.{most, within_more}
use Rattle.sg_script.proofs.Chains.{reads_then}
use Rattle.sg_kernel_calls.specs.Known.{Known}
use Rattle.sg_kernel_calls.specs.World.{Core}
use Rattle.sg_script.specs.Stands.{Kept}
use Rattle.sg_engine.specs.World.{World}
use Rattle.sg_engine.specs.declared.ended.Ended.{Ended}
use Rattle.sg_engine.specs.declared.ended.Ended.TheVariants as ended
use Rattle.sg_engine.specs.declared.show.Show.{Show}
use Rattle.sg_engine.specs.Fuel.{parts_from}
use Rattle.sg_engine.specs.Gains.{GainsAll, GainsFronts}
use Rattle.sg_engine.specs.Output.{first_of, scene_of, trace_of}
use Rattle.sg_engine.specs.Pace.{IsInPace, first_parts, pace_of}
use Rattle.sg_engine.specs.Run.{Scene, Answering, Progress, are_completed, at_world, then_unless_ended, and_then_by, round_or_pass, with_front}
use Rattle.sg_engine.specs.kept.Moments.{AreNeededBy, StaysOpen, Cast, moment, script_part}
use Rattle.sg_engine.specs.kept.Stretches.{Trace, Advances, CutsOff, IsPaced}
use Rattle.sg_engine.proofs.Fetches.{fetches_rise}
use Rattle.sg_engine.proofs.Endings.{Going, answers_all, ends_none, ends_up, takes_none, takes_up}
use Rattle.sg_engine.proofs.Reaching.{answers_fewer, goes_back, open_then, reached_needed}
use Rattle.sg_engine.proofs.Runs.{parts_keep, then_keeps}
use Rattle.sg_engine.proofs.Simulating.{SoFar, trace_none}
use Rattle.sg_engine.proofs.Waiting.{gains_then}

-- ---- one scheduling round or time advance more
-- the last stretch of all changes nothing
then_none : (how : Option Ended) (world : World) (made : List Record) → and_then_by how (record { world = world; made = made; ended = how }) (at_world None) ≡ record { world = world; made = made; ended = how }
then_none None world made = ap (λ (l : List Record). record { world = world; made = l; ended = None }) (append-nil made)
then_none (Some how) world made = refl

-- records stand before a stretch and the next
front_then : (how : Option Ended) (front made : List Record) (world : World) (next : World → Progress) →
    with_front front (and_then_by how (record { world = world; made = made; ended = how }) next) ≡ and_then_by how (record { world = world; made = front ++ made; ended = how }) next
front_then None front made world next = ap (λ (l : List Record). record (next world) { made = l }) (sym (append_assoc front made (next world).made))
front_then (Some how) front made world next = refl

-- a stretch, another, and one more, if the other with one more is that
then_then : (how : Option Ended) (world : World) (made : List Record) (next more : World → Progress) (last : World → Progress) → next world ≡ then_unless_ended (more world) last →
    and_then_by how (record { world = world; made = made; ended = how }) next ≡ then_unless_ended (and_then_by how (record { world = world; made = made; ended = how }) more) last
then_then None world made next more last same =
    ap (with_front made) same ∙ front_then (more world).ended made (more world).made (more world).world last
then_then (Some how) world made next more last same = refl

unless_done : (b : Bool) (over x y : Progress) (last : World → Progress) → over ≡ then_unless_ended over last → x ≡ then_unless_ended y last → cond b over x ≡ then_unless_ended (cond b over y) last
unless_done true over x y last first then = first
unless_done false over x y last first then = then

-- one more of these is the last of them
parts_more : (n : ℕ) (at : Scene) (answers : Answering) (world : World) → parts_from (suc n) at answers world ≡ then_unless_ended (parts_from n at answers world) (parts_from 1 at answers)
unfolding parts_from
parts_more zero at answers world = refl
parts_more (suc n) at answers world =
    let first = round_or_pass at answers world in
    unless_done (are_completed world.core) (at_world (Some ended.Completed) world) (then_unless_ended first (parts_from (suc n) at answers)) (then_unless_ended first (parts_from n at answers)) (parts_from 1 at answers) refl
    (then_then first.ended first.world first.made (parts_from (suc n) at answers) (parts_from n at answers) (parts_from 1 at answers) (parts_more n at answers first.world))

-- one if an actor hasn't ended
one_part : (at : Scene) (answers : Answering) (world : World) → list_all is_over world.core.actors ≡ false → parts_from 1 at answers world ≡ round_or_pass at answers world
unfolding parts_from
one_part at answers world some =
    let first = round_or_pass at answers world in
    ap (λ (b : Bool). cond b (at_world (Some ended.Completed) world) (then_unless_ended first (at_world None))) some ∙ then_none first.ended first.world first.made

-- after nothing
pub parts_none : (n : ℕ) (at : Scene) (answers : Answering) (world : World) → n ≡ 0 → parts_from n at answers world ≡ record { world = world; made = []; ended = None }
unfolding parts_from
parts_none n at answers world none = ap (λ (k : ℕ). parts_from k at answers world) none

-- how far it has come by so many parts, and by one more
pub part_next : (n m : ℕ) (at : Scene) (answers : Answering) (first world : World) (made : List Record) → m ≡ suc n → list_all is_over world.core.actors ≡ false →
    parts_from n at answers first ≡ record { world = world; made = made; ended = None } → parts_from m at answers first ≡ with_front made (round_or_pass at answers world)
part_next n m at answers first world made more some here =
    ap (λ (k : ℕ). parts_from k at answers first) more
    ∙ parts_more n at answers first
    ∙ ap (λ (p : Progress). then_unless_ended p (parts_from 1 at answers)) here
    ∙ ap (with_front made) (one_part at answers world some)

-- the fetches of the parts so far are among those with one more
pub part_rises : (n m : ℕ) (at : Scene) (answers : Answering) (first : World) → m ≡ suc n → (x : ℕ) → fetches_of (parts_from n at answers first).world.fetched x ≤ fetches_of (parts_from m at answers first).world.fetched x
part_rises n m at answers first more x =
    let here = parts_from n at answers first in
    subst (λ (p : Progress). fetches_of here.world.fetched x ≤ fetches_of p.world.fetched x) (sym (ap (λ (k : ℕ). parts_from k at answers first) more ∙ parts_more n at answers first))
    (then_keeps fetches_rise here (parts_from 1 at answers) here.world (fetches_rise.same here.world) (λ mid. parts_keep fetches_rise 1 at answers mid) x)

-- ---- the lines by then
-- a run that has ended before its next part
pub paced_here : {from count : ℕ} (names : Names) (trace : Trace) (whole : Answering → Progress) (rest : Answering → World → Progress) (n : ℕ) (at : Scene) (first : World) (cast : Cast) (p0 p1 : PartView) (q0 q1 : Kept) (k0 k1 : Known) (start before : Option (List ℕ)) →
    SoFar from count names trace whole rest (λ answers. parts_from n at answers first) cast p0 p1 q0 q1 k0 k1 start before → IsPaced names trace (λ parts answers. parts_from parts at answers first) p0 p1 start before
paced_here names trace whole rest n at first cast p0 p1 q0 q1 k0 k1 start before far = record {
  piece = far.reached.piece;
  reads = far.reached.reads;
  last = λ all. far.stays (answers_fewer names (λ answers. parts_from (n + 1) at answers first) (λ answers. parts_from n at answers first) far.reached.piece (λ source goes. part_rises n (n + 1) at (answer_of names source) first (omega arith)) all);
  number = n;
  written = λ source goes. (
    [],
    far.printed ∙ ap (gain start) (ap (λ (p : Progress). trace p.made) (sym (far.counted source goes)) ∙ sym (append-nil (trace (parts_from n at (answer_of names source) first).made))),
  );
  needed = λ source goes.
      let answers = answer_of names source in
      within_more names source (parts_from n at answers first).world.fetched _ _ (part_rises n (n + 1) at answers first (omega arith))
      (subst (λ (p : Progress). IsWithinNeed names source p.world.fetched (length far.reached.piece)) (sym (far.counted source goes)) (far.reached.stands.script.needed source goes));
}

-- what was written of a part, whatever that was
paced_on : {from count : ℕ} (names : Names) (trace : Trace) (whole : Answering → Progress) (rest : Answering → World → Progress) (n : ℕ) (at : Scene) (first : World) (cast : Cast) (p0 p1 p2 : PartView) (q0 q1 : Kept) (k0 k1 : Known) (start before after : Option (List ℕ)) →
    (far : SoFar from count names trace whole rest (λ answers. parts_from n at answers first) cast p0 p1 q0 q1 k0 k1 start before) → list_all is_over k1.core.actors ≡ false →
    (piece : List ℕ) → Reads piece p1 p2 → StaysOpen names (λ answers. round_or_pass at answers far.reached.world) (far.reached.piece ++ piece) p1.stage p2.stage → AreNeededBy names (λ answers. round_or_pass at answers far.reached.world) (far.reached.piece ++ piece) p2.stage →
    ((source : Source) → GoesOn (far.reached.piece ++ piece) p2.stage source → (text : List ℕ) × (after ≡ gain before text)) → IsPaced names trace (λ parts answers. parts_from parts at answers first) p0 p2 start after
paced_on names trace whole rest n at first cast p0 p1 p2 q0 q1 k0 k1 start before after far some piece reads stays needed gains = record {
  piece = far.reached.piece ++ piece;
  reads = reads_then far.reached.piece piece p0 p1 p2 far.reached.reads reads;
  last = open_then names (λ answers. parts_from (n + 1) at answers first) (λ answers. round_or_pass at answers far.reached.world) [] far.reached.piece piece p0 p1 p2 far.reached.reads reads
      (λ source goes x.
      let answers = answer_of names source in
      let some_here : list_all is_over far.reached.world.core.actors ≡ false = ap (λ (c : Core). list_all is_over c.actors) (sym far.reached.stands.core) ∙ some in
      omega (arith, ap (λ (p : Progress). fetches_of p.world.fetched x) (part_next n (n + 1) at answers first far.reached.world far.reached.made (omega arith) some_here (far.counted source goes))))
      (λ all. far.stays (answers_fewer names (λ answers. parts_from (n + 1) at answers first) (λ answers. parts_from n at answers first) far.reached.piece (λ source goes. part_rises n (n + 1) at (answer_of names source) first (omega arith)) all)) stays;
  number = n;
  written = λ source goes.
      let here = far.counted source (goes_back far.reached.piece piece p1 p2 source reads goes) in
      let gained = gains source goes in (
        gained.0,
        gains_then (trace (parts_from n at (answer_of names source) first).made) gained.0 start before after (far.printed ∙ ap (λ (p : Progress). gain start (trace p.made)) (sym here)) gained.1,
      );
  needed = λ source goes.
      let answers = answer_of names source in
      let here = far.counted source (goes_back far.reached.piece piece p1 p2 source reads goes) in
      let some_here : list_all is_over far.reached.world.core.actors ≡ false = ap (λ (c : Core). list_all is_over c.actors) (sym far.reached.stands.core) ∙ some in
      let next : parts_from (n + 1) at answers first ≡ with_front far.reached.made (round_or_pass at answers far.reached.world) = part_next n (n + 1) at answers first far.reached.world far.reached.made (omega arith) some_here here in
      subst (λ (p : Progress). IsWithinNeed names source p.world.fetched (length (far.reached.piece ++ piece))) (sym next) (needed source goes);
}

-- a part that ended the run or cut it off
pub paced_ends : {from count : ℕ} (next : ℕ) (b : Bool) (names : Names) (trace : Trace) (whole : Answering → Progress) (rest : Answering → World → Progress) (n : ℕ) (at : Scene) (first : World) (how : Option Ended) (cast cast' : Cast) (p0 p1 p2 : PartView) (q0 q1 q2 : Kept) (k0 k1 k2 : Known) (start before after : Option (List ℕ)) →
    (far : SoFar from count names trace whole rest (λ answers. parts_from n at answers first) cast p0 p1 q0 q1 k0 k1 start before) → list_all is_over k1.core.actors ≡ false →
    MatchBool b (CutsOff names trace (λ answers. round_or_pass at answers far.reached.world) far.reached.piece cast'.contexts p1 p2 before after) (Advances next names trace (λ answers. round_or_pass at answers far.reached.world) how far.reached.piece cast' (moment p1 q1 k1) (moment p2 q2 k2) before after) →
    IsPaced names trace (λ parts answers. parts_from parts at answers first) p0 p2 start after
paced_ends next true names trace whole rest n at first how cast cast' p0 p1 p2 q0 q1 q2 k0 k1 k2 start before after far some cut =
    paced_on names trace whole rest n at first cast p0 p1 p2 q0 q1 k0 k1 start before after far some cut.piece cut.reads cut.last cut.needed
    (λ source goes. let front = cut.front source goes in (front.1.done, front.1.held))
paced_ends next false names trace whole rest n at first how cast cast' p0 p1 p2 q0 q1 q2 k0 k1 k2 start before after far some part =
    paced_on names trace whole rest n at first cast p0 p1 p2 q0 q1 k0 k1 start before after far some part.reached.piece part.reached.reads part.reached.last
    (reached_needed names (λ answers. round_or_pass at answers far.reached.world) how far.reached.piece cast' (moment p1 q1 k1) (moment p2 q2 (record k2 { records = part.records })) part.reached)
    (λ source goes. (trace part.records, part.printed))

-- ---- the pace of a whole run
-- what Out has gained by the end
pub ends_gain : (b : Bool) (X : Type 0) (out err : List ℕ) (mid new : Stream → Option (List ℕ)) → MatchBool b (GainsFronts out err mid new) (X × GainsAll out err mid new) → (text : List ℕ) × (new Out ≡ gain (mid Out) text)
ends_gain true X out err mid new fronts = (fronts.out_done, fronts.out_held)
ends_gain false X out err mid new all = (out, all.1.out_held)

-- what was written and read of a run, and then a text more
pub run_paced : (platform : Platform) (deployed : Deployed) (script : Bool) (budget crew : ℕ) (show : Show) (old new : Stream → Option (List ℕ)) (mid : Option (List ℕ)) (text : List ℕ) (before after : Part → PartView) (source : Source) →
    Going (script_part script (before Script)) (script_part script (after Script)) source → (script ≡ false → after Script ≡ before Script) →
    IsPaced (known_in deployed) (trace_of show platform deployed) (first_parts platform deployed script budget crew) (script_part script (before Script)) (script_part script (after Script)) (old Out) mid → new Out ≡ gain mid text →
    IsInPace (pace_of platform deployed script budget crew show) source old new before after
run_paced platform deployed script budget crew show old new mid text before after source going same paced more =
    let names = known_in deployed in
    let goes = going paced.piece paced.reads in
    let wrote = paced.written source goes in
    let next = first_parts platform deployed script budget crew (paced.number + 1) (answer_of names source) in
    let made = trace_of show platform deployed (first_parts platform deployed script budget crew paced.number (answer_of names source)).made in
    record {
      parts = paced.number;
      behind = wrote.0 ++ text;
      written = more ∙ ap (λ (h : Option (List ℕ)). gain h text) wrote.1 ∙ gain-gain (old Out) (made ++ wrote.0) text ∙ ap (gain (old Out)) (append_assoc made wrote.0 text);
      read = takes_up script paced.piece (before Script) (after Script) (needed_by names source next.world.fetched + 4095) paced.reads same
          (most names source next.world.fetched (length paced.piece) (paced.needed source goes));
      last = ends_up script paced.piece (before Script) (after Script) (λ other. (pace_of platform deployed script budget crew show other (paced.number + 1)).need) paced.reads same
          (λ enough. paced.last (answers_all names (first_parts platform deployed script budget crew (paced.number + 1)) paced.piece enough));
    }

-- if nothing was done
pub none_paced : (platform : Platform) (deployed : Deployed) (script : Bool) (budget crew : ℕ) (show : Show) (old new : Stream → Option (List ℕ)) (before after : Part → PartView) (source : Source) → new Out ≡ old Out → after Script ≡ before Script → IsInPace (pace_of platform deployed script budget crew show) source old new before after
none_paced platform deployed script budget crew show old new before after source same_out same_part =
    let none : (first_parts platform deployed script budget crew 0 (answer_of (known_in deployed) source)).made ≡ [] =
    ap (λ (p : Progress). p.made) (parts_none 0 (scene_of platform deployed script budget) (answer_of (known_in deployed) source) (first_of platform deployed budget crew) refl) in
    record {
      parts = 0;
      behind = [];
      written = same_out ∙ sym (ap (λ (l : List Record). gain (old Out) (trace_of show platform deployed l ++ [])) none ∙ ap (λ (l : List ℕ). gain (old Out) (l ++ [])) (trace_none show platform deployed) ∙ gain-nil (old Out));
      read = takes_none _ (before Script) (after Script) same_part;
      last = ends_none _ (before Script) (after Script) same_part;
    }
