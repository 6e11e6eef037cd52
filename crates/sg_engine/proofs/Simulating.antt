-- Parts of a run with their lines, one after another.
use Rattle.std.proofs.Common.{arith, ◌+◌, ◌≡◌, ◌≢◌, ◌∙◌, sym, ap, subst, refl, ℕ, suc, ◌≤◌, List, [], ◌++◌, length, Bool, true, false, cond, Option, None, Some, Result}
use Rattle.std.specs.Prelude.{All, MatchBool, vec_capacity}
use Rattle.std.specs.List.{list_all}
use Rattle.std.proofs.lemmas.Grind.{flat_map-append}
use Rattle.std.proofs.lemmas.List.{append-nil}
use Rattle.sg_base.specs.declared.trace_record.Record.{Record}
use Rattle.sg_base.specs.Mind.{Mind}
use Rattle.sg_edge.specs.Files.{PartView}
use Rattle.sg_edge.specs.declared.files.Stage.TheVariants.{Fresh}
use Rattle.sg_edge.specs.declared.files.Part.{Part}
use Rattle.sg_edge.specs.Sinks.{gain, GainsFront}
use Rattle.sg_edge.specs.Sources.{Source}
use Rattle.sg_edge.proofs.Writing.{gain-nil}
use Rattle.sg_kernel_calls.specs.Known.{Known}
use Rattle.sg_base.specs.Limits.{Extent}
use Rattle.sg_kernel_calls.specs.Setup.{Setup}
use Rattle.sg_kernel_calls.specs.World.{Core, extent}
use Rattle.sg_actor_states.specs.Actors.{is_over}
use Rattle.sg_engine.specs.World.{World}
use Rattle.sg_route.specs.Roads.{Roads}
use Rattle.sg_platform_rows.specs.Deployment.{Deployed}
use Rattle.sg_platform_rows.specs.Platform.{Platform}
use Rattle.sg_script.specs.Fetched.{fetches_of}
use Rattle.sg_script.specs.Answer.{answer_of}
use Rattle.sg_script.specs.Known.{ScriptNames as Names}
use Rattle.sg_script.specs.Rest.{GoesOn}
use Rattle.sg_script.specs.Stands.{IsWithinNeed, Kept, kept_of}
use Rattle.sg_script.proofs.AllNeeds.{within_more}
use Rattle.sg_script.proofs.Chains.{reads_then, reads_none}
use Rattle.sg_engine.specs.declared.ended.Ended.{Ended}
use Rattle.sg_engine.specs.declared.ended.Ended.TheVariants as ended
use Rattle.sg_engine.specs.declared.plan.Plan.{Plan}
use Rattle.sg_engine.specs.kept.Moments.{Cast, Moment, moment, Fits, StandsFor, StaysOpen, IsStretch, LacksMemory, cuts, end_in, ending}
use Rattle.sg_engine.specs.Run.{Scene, scene, Answering, Progress, at_world, with_front, then_unless_ended, and_then_by, round_or_pass, run_from, work_behind}
use Rattle.sg_engine.specs.declared.show.Show.{Show}
use Rattle.sg_engine.specs.declared.show.Show.TheVariants as show
use Rattle.sg_engine.specs.Output.{trace_of}
use Rattle.sg_trace.specs.Line.{line_of}
use Rattle.sg_engine.specs.declared.simulation.Simulation.{Simulation}
use Rattle.sg_engine.specs.kept.Invariant.{places_in, AreBlank, IsKept, Holds, PartIs, StaysKept, TakesCrew}
use Rattle.sg_engine.specs.kept.SeatRules.{IsSeated}
use Rattle.sg_engine.specs.kept.Stretches.{Trace, Advances, CutsOff, IsCutOff, IsOver}
use Rattle.sg_engine.proofs.Fronts.{front_more}
use Rattle.sg_engine.proofs.Fetches.{fetches_rise}
use Rattle.sg_engine.proofs.Reaching.{answers_fewer, goes_back, open_then, reached_left, reached_needed, reached_then, reached_as, goes_on_to, ends_at}
use Rattle.sg_engine.proofs.Runs.{contexts_fall, part_keeps, run_keeps_behind}
use Rattle.sg_engine.proofs.Waiting.{front_behind, gains_then}
use Rattle.sg_engine.proofs.Working.{run_rises_behind}

-- ---- one part
-- the records of a stretch stand after others that were cleared since, and there is other room
abbrev pub with_records : {spent : ℕ} (names : Names) (whole : Answering → Progress) (rest : Answering → World → Progress) (taken : List ℕ) (cast : Cast) (part part' : PartView) (kept kept' : Kept) (old new old' new' : Known) (front : List Record) →
    (reached : IsStretch spent names whole rest taken cast (moment part kept old) (moment part' kept' new)) → old'.records ≡ front → old'.setup ≡ old.setup → new'.core ≡ new.core → new'.setup ≡ new.setup → new'.records ≡ front ++ reached.made →
    IsStretch spent names whole rest taken cast (moment part kept old') (moment part' kept' new')
with_records names whole rest taken cast part part' kept kept' old new old' new' front reached before setup core setup' after = record {
  piece = reached.piece;
  reads = reached.reads;
  last = reached.last;
  setup = setup' ∙ reached.setup ∙ sym setup;
  world = reached.world;
  stands = record { script = reached.stands.script; core = core ∙ reached.stands.core; cast = reached.stands.cast };
  work = reached.work;
  made = reached.made;
  records = after ∙ ap (λ (l : List Record). l ++ reached.made) (sym before);
  is = reached.is;
}

-- the same of a scene whose setup is the same
pub scene_as : {spent : ℕ} (names : Names) (roads : Roads) (firsts : List Mind) (script : Bool) (setup setup' : Setup) (how : Option Ended) (taken : List ℕ) (cast : Cast) (world : World) (old new : Moment) → setup' ≡ setup →
    IsStretch spent names (λ answers. round_or_pass (scene roads setup' firsts script) answers world) (ending how) taken cast old new → IsStretch spent names (λ answers. round_or_pass (scene roads setup firsts script) answers world) (ending how) taken cast old new
scene_as {spent} names roads firsts script setup setup' how taken cast world old new same reached =
    subst (λ (s : Setup). IsStretch spent names (λ answers. round_or_pass (scene roads s firsts script) answers world) (ending how) taken cast old new) same reached

-- A part was made and printed. Room was made for it before, and its records are cleared since.
pub advanced : {spent : ℕ} (names : Names) (trace : Trace) (roads : Roads) (firsts : List Mind) (script : Bool) (how : Option Ended) (taken : List ℕ) (cast : Cast) (world : World) (part part' : PartView) (kept kept' : Kept) (old mid new cleared : Known) (before after : Option (List ℕ)) →
    mid ≡ record old { room = mid.room } → IsStretch spent names (λ answers. round_or_pass (scene roads mid.setup firsts script) answers world) (ending how) taken cast (moment part kept mid) (moment part' kept' new) →
    old.records ≡ [] → (written : List Record) → written ≡ new.records → after ≡ gain before (trace written) → cleared ≡ record new { records = [] } →
    Advances spent names trace (λ answers. round_or_pass (scene roads old.setup firsts script) answers world) how taken cast (moment part kept old) (moment part' kept' cleared) before after
advanced names trace roads firsts script how taken cast world part part' kept kept' old mid new cleared before after same stretch none written is printed clears =
    let setup : mid.setup ≡ old.setup = ap (λ (k : Known). k.setup) same in
    let reached = scene_as names roads firsts script old.setup mid.setup how taken cast world (moment part kept mid) (moment part' kept' new) setup stretch in
    let made : written ≡ reached.made = is ∙ reached.records ∙ ap (λ (l : List Record). l ++ reached.made) (ap (λ (k : Known). k.records) same ∙ none) in
    record {
      records = reached.made;
      reached = with_records names (λ answers. round_or_pass (scene roads old.setup firsts script) answers world) (ending how) taken cast part part' kept kept' mid new old (record cleared { records = reached.made }) [] reached none (sym setup)
          (ap (λ (k : Known). k.core) clears) (ap (λ (k : Known). k.setup) clears) refl;
      printed = subst (λ (l : List Record). after ≡ gain before (trace l)) made printed;
    }

-- a write failed in the lines of a part
pub cuts_off_at : {spent : ℕ} (names : Names) (trace : Trace) (whole : Answering → Progress) (how : Option Ended) (taken : List ℕ) (cast : Cast) (part part' : PartView) (kept kept' : Kept) (mid new : Known) (before after : Option (List ℕ)) →
    IsStretch spent names whole (ending how) taken cast (moment part kept mid) (moment part' kept' new) → mid.records ≡ [] → GainsFront (trace new.records) before after → CutsOff names trace whole taken cast.contexts part part' before after
cuts_off_at names trace whole how taken cast part part' kept kept' mid new before after reached none front = record {
  piece = reached.piece;
  reads = reached.reads;
  last = reached.last;
  needed = reached_needed names whole how taken cast (moment part kept mid) (moment part' kept' new) reached;
  contexts = reached_left names whole how taken cast (moment part kept mid) (moment part' kept' new) reached;
  front = λ source goes.
      let made : new.records ≡ (whole (answer_of names source)).made = reached.records ∙ ap (λ (l : List Record). l ++ reached.made) none ∙ sym (ap (λ (p : Progress). p.made) (reached.is source goes) ∙ append-nil reached.made) in
      subst (λ (l : List Record). GainsFront (trace l) before after) made front;
}

-- memory ran out, and nothing was written
pub cuts_off_by : (names : Names) (trace : Trace) (whole : Answering → Progress) (taken : List ℕ) (left : ℕ) (part part' : PartView) (before after : Option (List ℕ)) → LacksMemory names whole taken left part part' → after ≡ before → CutsOff names trace whole taken left part part' before after
cuts_off_by names trace whole taken left part part' before after cut same = record {
  piece = cut.piece;
  reads = cut.reads;
  last = cut.last;
  needed = cut.needed;
  contexts = cut.contexts;
  front = λ source goes. (trace (whole (answer_of names source)).made, record { done = []; split = refl; held = same ∙ sym (gain-nil before) });
}

-- before a part nothing is read
pub lacks_room : (names : Names) (at : Scene) (taken : List ℕ) (cast : Cast) (now : Moment) (world : World) → now.part.stage ≢ Fresh → StandsFor names taken cast now world → LacksMemory names (λ answers. round_or_pass at answers world) taken cast.contexts now.part now.part
lacks_room names at taken cast now world begun stands = record {
  piece = [];
  reads = reads_none now.part begun;
  last = λ all. refl;
  needed = λ source goes.
      let same : taken ++ [] ≡ taken = append-nil taken in
      let there : GoesOn taken now.part.stage source = subst (λ (t : List ℕ). GoesOn t now.part.stage source) same goes in
      subst (λ (t : List ℕ). IsWithinNeed names source (round_or_pass at (answer_of names source) world).world.fetched (length t)) (sym same)
      (within_more names source world.fetched _ _ (part_keeps fetches_rise at (answer_of names source) world) (stands.script.needed source there));
  contexts = λ source goes. omega (arith, part_keeps contexts_fall at (answer_of names source) world, ap (λ (c : Cast). c.contexts) stands.cast);
}

-- memory ran out in a scene whose setup is the same
pub lacks_scene : (names : Names) (roads : Roads) (firsts : List Mind) (script : Bool) (setup setup' : Setup) (taken : List ℕ) (left : ℕ) (world : World) (old new : PartView) → setup' ≡ setup →
    LacksMemory names (λ answers. round_or_pass (scene roads setup' firsts script) answers world) taken left old new → LacksMemory names (λ answers. round_or_pass (scene roads setup firsts script) answers world) taken left old new
lacks_scene names roads firsts script setup setup' taken left world old new same lacks = subst (λ (s : Setup). LacksMemory names (λ answers. round_or_pass (scene roads s firsts script) answers world) taken left old new) same lacks

-- a part of a scene is that of the same one
pub part_as : (spent : ℕ) (names : Names) (trace : Trace) (at at' : Scene) (result : Result (Unit {0}) Ended) (taken : List ℕ) (cast : Cast) (world : World) (old new : Moment) (before after : Option (List ℕ)) → at ≡ at' →
    PartIs spent names trace (λ answers. round_or_pass at answers world) result taken cast old new before after → PartIs spent names trace (λ answers. round_or_pass at' answers world) result taken cast old new before after
part_as spent names trace at at' result taken cast world old new before after same part = subst (λ (s : Scene). PartIs spent names trace (λ answers. round_or_pass s answers world) result taken cast old new before after) same part

-- a part that didn't cut the run off
pub part_is : {spent : ℕ} (names : Names) (trace : Trace) (whole : Answering → Progress) (result : Result (Unit {0}) Ended) (taken : List ℕ) (cast : Cast) (old new : Moment) (before after : Option (List ℕ)) → cuts result ≡ false → Advances spent names trace whole (end_in result) taken cast old new before after → PartIs spent names trace whole result taken cast old new before after
part_is names trace whole result taken cast old new before after uncut advances = rw uncut advances

-- one that was cut off
pub part_short : (spent : ℕ) (names : Names) (trace : Trace) (whole : Answering → Progress) (result : Result (Unit {0}) Ended) (taken : List ℕ) (cast : Cast) (old new : Moment) (before after : Option (List ℕ)) → cuts result ≡ true → CutsOff names trace whole taken cast.contexts old.part new.part before after → PartIs spent names trace whole result taken cast old new before after
part_short spent names trace whole result taken cast old new before after cut is = rw cut is

-- what the first keeps
pub part_kept : {A : Type 0} (mind : A → Option Mind) (plan : Plan) (result : Result (Unit {0}) Ended) (shows : Part → PartView) (old new : Simulation A) → cuts result ≡ false → TakesCrew false old new → new.kernel.setup ≡ old.kernel.setup → Holds mind plan shows new → StaysKept mind plan result shows old new
part_kept mind plan result shows old new uncut crew setup kept = record { crew = rw uncut crew; setup = setup; kept = rw uncut kept }

-- after one that was cut off only the setup is kept
pub short_kept : {A : Type 0} (mind : A → Option Mind) (plan : Plan) (result : Result (Unit {0}) Ended) (shows : Part → PartView) (old new : Simulation A) → cuts result ≡ true → TakesCrew true old new → new.kernel.setup ≡ old.kernel.setup → StaysKept mind plan result shows old new
short_kept mind plan result shows old new cut crew setup = record { crew = rw cut crew; setup = setup; kept = rw cut tt }

-- what a simulation keeps after a part whose records are in lines and cleared
pub kept_on : {A : Type 0} (mind : A → Option Mind) (deployed : Deployed) (part : PartView) (sim : Simulation A) (known : Known) → Fits deployed (moment part (kept_of sim.script) known) → sim.kernel ≡ record known { records = [] } → length known.setup.homes ≡ length deployed.actors →
    All (IsSeated (extent known.setup)) (places_in mind sim) → length sim.seats.items ≡ length deployed.actors → length deployed.actors ≤ vec_capacity sim.calls → length deployed.actors ≤ 65536 → AreBlank mind sim.crew.items → sim.buffer ≡ [] → IsKept mind deployed part sim
kept_on mind deployed part sim known fits is homes seated number calls few blank empty = record {
  fits = record {
    actors = ap (λ (k : Known). length k.core.actors) is ∙ fits.actors;
    queues = fits.queues;
    begun = fits.begun;
    extent = ap (λ (k : Known). extent k.setup) is ∙ fits.extent;
    waiting = fits.waiting;
  };
  homes = ap (λ (k : Known). length k.setup.homes) is ∙ homes;
  number = number;
  seated = subst (λ (e : Extent). All (IsSeated e) (places_in mind sim)) fits.extent seated;
  blank = blank;
  calls = calls;
  few = few;
  cleared = ap (λ (k : Known). k.records) is;
  empty = empty;
}

-- ---- scheduling rounds and time advances one after another
pub run_done : (n m : ℕ) (at : Scene) (answers : Answering) (world : World) → n ≡ suc m → list_all is_over world.core.actors ≡ true → run_from n at answers world ≡ at_world (Some ended.Completed) world
unfolding run_from
run_done n m at answers world more all = ap (λ (k : ℕ). run_from k at answers world) more ∙ ap (λ (b : Bool). cond b (at_world (Some ended.Completed) world) (then_unless_ended (round_or_pass at answers world) (run_from m at answers))) all

pub run_goes : (n m : ℕ) (at : Scene) (answers : Answering) (world : World) → n ≡ suc m → list_all is_over world.core.actors ≡ false → run_from n at answers world ≡ then_unless_ended (round_or_pass at answers world) (run_from m at answers)
unfolding run_from
run_goes n m at answers world more some = ap (λ (k : ℕ). run_from k at answers world) more ∙ ap (λ (b : Bool). cond b (at_world (Some ended.Completed) world) (then_unless_ended (round_or_pass at answers world) (run_from m at answers))) some

pub run_out : (n : ℕ) (at : Scene) (answers : Answering) (world : World) → n ≡ 0 → run_from n at answers world ≡ at_world (Some ended.Budget) world
unfolding run_from
run_out n at answers world none = ap (λ (k : ℕ). run_from k at answers world) none

-- what remains of a run, after so many scheduling rounds and time advances
abbrev pub rest_of : ℕ → Scene → Answering → World → Progress
rest_of n at answers world = run_from n at answers world

pub worked_as : (start spent count n : ℕ) → n ≡ spent → count ≤ start + spent → count ≤ start + n
worked_as start spent count n is worked = omega arith

-- what comes next is counted, and so is what came before
pub work_more : (start count later spent work mine its : ℕ) → count ≤ start + spent → work ≡ spent → mine ≡ its → later ≤ count + mine → later ≤ start + (work + its)
work_more start count later spent work mine its worked is same more = omega arith

-- the run has ended
abbrev pub over_by : {spent : ℕ} (start count : ℕ) (names : Names) (trace : Trace) (whole : Answering → Progress) (how : Ended) (cast : Cast) (p0 p1 : PartView) (q0 q1 : Kept) (k0 k1 : Known) (core : Core) (before after : Option (List ℕ)) →
    (reached : IsStretch spent names whole (ending (Some how)) [] cast (moment p0 q0 k0) (moment p1 q1 k1)) → core ≡ k1.core → after ≡ gain before (trace reached.made) → count ≤ start + spent → IsOver start count cast.contexts names trace whole how core p0 p1 before after
over_by {spent} start count names trace whole how cast p0 p1 q0 q1 k0 k1 core before after reached same printed worked = record {
  piece = reached.piece;
  reads = reached.reads;
  last = reached.last;
  needed = reached_needed names whole (Some how) [] cast (moment p0 q0 k0) (moment p1 q1 k1) reached;
  world = reached.world;
  core_is = same ∙ reached.stands.core;
  contexts = ap (λ (c : Cast). c.contexts) reached.stands.cast;
  worked = worked_as start spent count reached.world.work reached.work worked;
  made = reached.made;
  printed = printed;
  is = λ source goes.
      let end : List Record → Progress = λ made. record { world = reached.world; made = made; ended = Some how } in
      reached.is source goes ∙ ap end (append-nil reached.made);
}

-- all actors have ended
pub completed : {spent : ℕ} (start count : ℕ) (names : Names) (trace : Trace) (whole : Answering → Progress) (n m : ℕ) (at : Scene) (cast : Cast) (p0 p1 : PartView) (q0 q1 : Kept) (k0 k1 : Known) (core : Core) (before after : Option (List ℕ)) →
    (reached : IsStretch spent names whole (rest_of n at) [] cast (moment p0 q0 k0) (moment p1 q1 k1)) → n ≡ suc m → core ≡ k1.core → list_all is_over core.actors ≡ true → after ≡ gain before (trace reached.made) → count ≤ start + spent → IsOver start count cast.contexts names trace whole ended.Completed core p0 p1 before after
completed start count names trace whole n m at cast p0 p1 q0 q1 k0 k1 core before after reached more same all printed worked =
    let all_here : list_all is_over reached.world.core.actors ≡ true = ap (λ (c : Core). list_all is_over c.actors) (sym (same ∙ reached.stands.core)) ∙ all in
    over_by start count names trace whole ended.Completed cast p0 p1 q0 q1 k0 k1 core before after (record {
      piece = reached.piece;
      reads = reached.reads;
      last = reached.last;
      setup = reached.setup;
      world = reached.world;
      stands = reached.stands;
      work = reached.work;
      made = reached.made;
      records = reached.records;
      is = λ source goes. reached.is source goes ∙ ap (with_front reached.made) (run_done n m at (answer_of names source) reached.world more all_here);
    }) same printed worked

-- no scheduling round and no time advance remains
pub used_up : {spent : ℕ} (start count : ℕ) (names : Names) (trace : Trace) (whole : Answering → Progress) (n : ℕ) (at : Scene) (cast : Cast) (p0 p1 : PartView) (q0 q1 : Kept) (k0 k1 : Known) (core : Core) (before after : Option (List ℕ)) →
    (reached : IsStretch spent names whole (rest_of n at) [] cast (moment p0 q0 k0) (moment p1 q1 k1)) → n ≡ 0 → core ≡ k1.core → after ≡ gain before (trace reached.made) → count ≤ start + spent → IsOver start count cast.contexts names trace whole ended.Budget core p0 p1 before after
used_up start count names trace whole n at cast p0 p1 q0 q1 k0 k1 core before after reached none same printed worked =
    over_by start count names trace whole ended.Budget cast p0 p1 q0 q1 k0 k1 core before after (record {
      piece = reached.piece;
      reads = reached.reads;
      last = reached.last;
      setup = reached.setup;
      world = reached.world;
      stands = reached.stands;
      work = reached.work;
      made = reached.made;
      records = reached.records;
      is = λ source goes. reached.is source goes ∙ ap (with_front reached.made) (run_out n at (answer_of names source) reached.world none);
    }) same printed worked

-- one part more, and the run continues
abbrev pub part_on : {spent next : ℕ} (names : Names) (trace : Trace) (whole : Answering → Progress) (n m : ℕ) (at : Scene) (cast cast' : Cast) (p0 p1 p2 : PartView) (q0 q1 q2 : Kept) (k0 k1 k1' k2 : Known) (before after : Option (List ℕ)) →
    (reached : IsStretch spent names whole (rest_of n at) [] cast (moment p0 q0 k0) (moment p1 q1 k1')) → n ≡ suc m → k1'.core ≡ k1.core → k1'.setup ≡ k1.setup → list_all is_over k1.core.actors ≡ false → k0.records ≡ [] →
    (part : Advances next names trace (λ answers. round_or_pass at answers reached.world) None reached.piece cast' (moment p1 q1 k1) (moment p2 q2 k2) before after) → k1.records ≡ [] →
    IsStretch next names whole (rest_of m at) [] cast' (moment p0 q0 k0) (moment p2 q2 (record k2 { records = reached.made ++ part.records }))
part_on {next} names trace whole n m at cast cast' p0 p1 p2 q0 q1 q2 k0 k1 k1' k2 before after reached more core same some first part cleared =
    let made : part.records ≡ part.reached.made = part.reached.records ∙ ap (λ (l : List Record). l ++ part.reached.made) cleared in
    let here : k1'.records ≡ reached.made = reached.records ∙ ap (λ (l : List Record). l ++ reached.made) first in
    let some_here : list_all is_over reached.world.core.actors ≡ false = ap (λ (c : Core). list_all is_over c.actors) (sym (sym core ∙ reached.stands.core)) ∙ some in
    let shifted : IsStretch next names (λ answers. round_or_pass at answers reached.world) (ending None) reached.piece cast' (moment p1 q1 k1') (moment p2 q2 (record k2 { records = reached.made ++ part.records })) =
    with_records names (λ answers. round_or_pass at answers reached.world) (ending None) reached.piece cast' p1 p2 q1 q2 k1 (record k2 { records = part.records }) k1' (record k2 { records = reached.made ++ part.records }) reached.made part.reached here same refl refl (ap (λ (l : List Record). reached.made ++ l) made) in
    reached_then names whole (rest_of n at) (rest_of m at) [] cast cast' (moment p0 q0 k0) (moment p1 q1 k1') (moment p2 q2 (record k2 { records = reached.made ++ part.records })) reached
    (reached_as names (λ answers. then_unless_ended (round_or_pass at answers reached.world) (rest_of m at answers)) (λ answers. rest_of n at answers reached.world) (rest_of m at) reached.piece cast' (moment p1 q1 k1') (moment p2 q2 (record k2 { records = reached.made ++ part.records }))
    (λ answers. run_goes n m at answers reached.world more some_here)
    (goes_on_to names (λ answers. round_or_pass at answers reached.world) (rest_of m at) reached.piece cast' (moment p1 q1 k1') (moment p2 q2 (record k2 { records = reached.made ++ part.records }))
    (λ answers. run_keeps_behind fetches_rise m (round_or_pass at answers reached.world) at answers) shifted))

-- one part more, which has ended the run
abbrev pub part_last : {spent next : ℕ} (names : Names) (trace : Trace) (whole : Answering → Progress) (how : Ended) (n m : ℕ) (at : Scene) (cast cast' : Cast) (p0 p1 p2 : PartView) (q0 q1 q2 : Kept) (k0 k1 k1' k2 : Known) (before after : Option (List ℕ)) →
    (reached : IsStretch spent names whole (rest_of n at) [] cast (moment p0 q0 k0) (moment p1 q1 k1')) → n ≡ suc m → k1'.core ≡ k1.core → k1'.setup ≡ k1.setup → list_all is_over k1.core.actors ≡ false → k0.records ≡ [] →
    (part : Advances next names trace (λ answers. round_or_pass at answers reached.world) (Some how) reached.piece cast' (moment p1 q1 k1) (moment p2 q2 k2) before after) → k1.records ≡ [] →
    IsStretch next names whole (ending (Some how)) [] cast' (moment p0 q0 k0) (moment p2 q2 (record k2 { records = reached.made ++ part.records }))
part_last {next} names trace whole how n m at cast cast' p0 p1 p2 q0 q1 q2 k0 k1 k1' k2 before after reached more core same some first part cleared =
    let made : part.records ≡ part.reached.made = part.reached.records ∙ ap (λ (l : List Record). l ++ part.reached.made) cleared in
    let here : k1'.records ≡ reached.made = reached.records ∙ ap (λ (l : List Record). l ++ reached.made) first in
    let some_here : list_all is_over reached.world.core.actors ≡ false = ap (λ (c : Core). list_all is_over c.actors) (sym (sym core ∙ reached.stands.core)) ∙ some in
    let shifted : IsStretch next names (λ answers. round_or_pass at answers reached.world) (ending (Some how)) reached.piece cast' (moment p1 q1 k1') (moment p2 q2 (record k2 { records = reached.made ++ part.records })) =
    with_records names (λ answers. round_or_pass at answers reached.world) (ending (Some how)) reached.piece cast' p1 p2 q1 q2 k1 (record k2 { records = part.records }) k1' (record k2 { records = reached.made ++ part.records }) reached.made part.reached here same refl refl (ap (λ (l : List Record). reached.made ++ l) made) in
    reached_then names whole (rest_of n at) (ending (Some how)) [] cast cast' (moment p0 q0 k0) (moment p1 q1 k1') (moment p2 q2 (record k2 { records = reached.made ++ part.records })) reached
    (reached_as names (λ answers. then_unless_ended (round_or_pass at answers reached.world) (rest_of m at answers)) (λ answers. rest_of n at answers reached.world) (ending (Some how)) reached.piece cast' (moment p1 q1 k1') (moment p2 q2 (record k2 { records = reached.made ++ part.records }))
    (λ answers. run_goes n m at answers reached.world more some_here)
    (ends_at names (λ answers. round_or_pass at answers reached.world) (rest_of m at) how reached.piece cast' (moment p1 q1 k1') (moment p2 q2 (record k2 { records = reached.made ++ part.records }))
    (λ answers. run_keeps_behind fetches_rise m (round_or_pass at answers reached.world) at answers) shifted))

-- ---- the lines of records
-- the trace of records and then of others
abbrev pub Appends : Trace → Type 0
Appends trace = (first second : List Record) → trace (first ++ second) ≡ trace first ++ trace second

pub trace_appends : (shown : Show) (platform : Platform) (deployed : Deployed) → Appends (trace_of shown platform deployed)
trace_appends show.All platform deployed first second = flat_map-append (λ r. line_of r platform deployed) first second
trace_appends show.Quiet platform deployed first second = refl
trace_appends show.Summary platform deployed first second = refl

pub trace_none : (shown : Show) (platform : Platform) (deployed : Deployed) → trace_of shown platform deployed [] ≡ []
trace_none show.All platform deployed = refl
trace_none show.Quiet platform deployed = refl
trace_none show.Summary platform deployed = refl

-- ---- a run that is cut off
-- the records of a stretch and what follows it begin with those of the stretch
made_and_then : (how : Option Ended) (first : Progress) (next : World → Progress) → (more : List Record) × ((and_then_by how first next).made ≡ first.made ++ more)
made_and_then None first next = ((next first.world).made, refl)
made_and_then (Some how) first next = ([], sym (append-nil first.made))

-- a part was cut off, and so is the run
pub part_cut : {spent : ℕ} (names : Names) (trace : Trace) → Appends trace → (whole : Answering → Progress) (n m : ℕ) (at : Scene) (cast : Cast) (left : ℕ) (p0 p1 p2 : PartView) (q0 q1 : Kept) (k0 k1 : Known) (start before after : Option (List ℕ)) →
    (reached : IsStretch spent names whole (rest_of n at) [] cast (moment p0 q0 k0) (moment p1 q1 k1)) → n ≡ suc m → list_all is_over k1.core.actors ≡ false → before ≡ gain start (trace reached.made) →
    CutsOff names trace (λ answers. round_or_pass at answers reached.world) reached.piece left p1 p2 before after → CutsOff names trace whole [] left p0 p2 start after
part_cut names trace appends whole n m at cast left p0 p1 p2 q0 q1 k0 k1 start before after reached more some printed cut = record {
  piece = reached.piece ++ cut.piece;
  reads = reads_then reached.piece cut.piece p0 p1 p2 reached.reads cut.reads;
  last = open_then names whole (λ answers. round_or_pass at answers reached.world) [] reached.piece cut.piece p0 p1 p2 reached.reads cut.reads
      (λ source goes x.
      let answers = answer_of names source in
      let first = round_or_pass at answers reached.world in
      let some_here : list_all is_over reached.world.core.actors ≡ false = ap (λ (c : Core). list_all is_over c.actors) (sym reached.stands.core) ∙ some in
      let all : whole answers ≡ with_front reached.made (then_unless_ended first (rest_of m at answers)) = reached.is source goes ∙ ap (with_front reached.made) (run_goes n m at answers reached.world more some_here) in
      omega (arith, ap (λ (p : Progress). fetches_of p.world.fetched x) all, run_keeps_behind fetches_rise m first at answers x))
      reached.last cut.last;
  needed = λ source goes.
      let answers = answer_of names source in
      let first = round_or_pass at answers reached.world in
      let some_here : list_all is_over reached.world.core.actors ≡ false = ap (λ (c : Core). list_all is_over c.actors) (sym reached.stands.core) ∙ some in
      let all : whole answers ≡ with_front reached.made (then_unless_ended first (rest_of m at answers)) =
      reached.is source (goes_back reached.piece cut.piece p1 p2 source cut.reads goes) ∙ ap (with_front reached.made) (run_goes n m at answers reached.world more some_here) in
      subst (λ (p : Progress). IsWithinNeed names source p.world.fetched (length (reached.piece ++ cut.piece))) (sym all)
      (within_more names source first.world.fetched _ _ (run_keeps_behind fetches_rise m first at answers) (cut.needed source goes));
  contexts = λ source goes.
      let answers = answer_of names source in
      let first = round_or_pass at answers reached.world in
      let some_here : list_all is_over reached.world.core.actors ≡ false = ap (λ (c : Core). list_all is_over c.actors) (sym reached.stands.core) ∙ some in
      let all : (whole answers).world.contexts ≡ (then_unless_ended first (rest_of m at answers)).world.contexts =
      ap (λ (p : Progress). p.world.contexts) (reached.is source (goes_back reached.piece cut.piece p1 p2 source cut.reads goes) ∙ ap (with_front reached.made) (run_goes n m at answers reached.world more some_here)) in
      omega (arith, all, run_keeps_behind contexts_fall m first at answers, cut.contexts source goes);
  front = λ source goes.
      let answers = answer_of names source in
      let first = round_or_pass at answers reached.world in
      let some_here : list_all is_over reached.world.core.actors ≡ false = ap (λ (c : Core). list_all is_over c.actors) (sym reached.stands.core) ∙ some in
      let rest = made_and_then first.ended first (rest_of m at answers) in
      let all : (whole answers).made ≡ reached.made ++ (first.made ++ rest.0) =
      ap (λ (p : Progress). p.made) (reached.is source (goes_back reached.piece cut.piece p1 p2 source cut.reads goes) ∙ ap (with_front reached.made) (run_goes n m at answers reached.world more some_here))
      ∙ ap (λ (l : List Record). reached.made ++ l) rest.1 in
      let text : trace (whole answers).made ≡ trace reached.made ++ (trace first.made ++ trace rest.0) =
      ap trace all ∙ appends reached.made (first.made ++ rest.0) ∙ ap (λ (l : List ℕ). trace reached.made ++ l) (appends first.made rest.0) in
      let front = front_more (trace first.made) (trace rest.0) before after (cut.front source goes) in
      subst (λ (l : List ℕ). GainsFront l start after) (sym text) (front_behind (trace reached.made) (trace first.made ++ trace rest.0) start before after printed front);
}

-- a part was cut off that looked no oftener than it may
pub cut_off : {spent : ℕ} (from later : ℕ) (names : Names) (trace : Trace) → Appends trace → (whole : Answering → Progress) (n m : ℕ) (at : Scene) (cast : Cast) (left : ℕ) (p0 p1 p2 : PartView) (q0 q1 : Kept) (k0 k1 : Known) (start before after : Option (List ℕ)) →
    (reached : IsStretch spent names whole (rest_of n at) [] cast (moment p0 q0 k0) (moment p1 q1 k1)) → n ≡ suc m → list_all is_over k1.core.actors ≡ false → before ≡ gain start (trace reached.made) →
    CutsOff names trace (λ answers. round_or_pass at answers reached.world) reached.piece left p1 p2 before after → later ≤ from + work_behind reached.world → IsCutOff from later left names trace whole p0 p2 start after
unfolding part_cut
cut_off from later names trace appends whole n m at cast left p0 p1 p2 q0 q1 k0 k1 start before after reached more some printed cut worked = record {
  cut = part_cut names trace appends whole n m at cast left p0 p1 p2 q0 q1 k0 k1 start before after reached more some printed cut;
  worked = λ source goes.
      let answers = answer_of names source in
      let some_here : list_all is_over reached.world.core.actors ≡ false = ap (λ (c : Core). list_all is_over c.actors) (sym reached.stands.core) ∙ some in
      let all : (whole answers).world.work ≡ (then_unless_ended (round_or_pass at answers reached.world) (rest_of m at answers)).world.work =
      ap (λ (p : Progress). p.world.work) (reached.is source (goes_back reached.piece cut.piece p1 p2 source cut.reads goes) ∙ ap (with_front reached.made) (run_goes n m at answers reached.world more some_here)) in
      omega (arith, all, worked, run_rises_behind m at answers reached.world);
}

-- ---- the run so far, with its trace lines, by the parts that were made
pub record SoFar (start count : ℕ) (names : Names) (trace : Trace) (whole : Answering → Progress) (rest : Answering → World → Progress) (parts : Answering → Progress) (cast : Cast) (p0 p1 : PartView) (q0 q1 : Kept) (k0 k1 : Known) (before after : Option (List ℕ)) : Type 0 where
  pub records : List Record
  pub spent : ℕ
  pub worked : count ≤ start + spent
  pub reached : IsStretch spent names whole rest [] cast (moment p0 q0 k0) (moment p1 q1 (record k1 { records = records }))
  pub stays : StaysOpen names parts reached.piece p0.stage p1.stage
  pub printed : after ≡ gain before (trace reached.made)
  pub counted : (source : Source) → GoesOn reached.piece p1.stage source → parts (answer_of names source) ≡ record { world = reached.world; made = reached.made; ended = None }

-- at the beginning
pub far_first : (start : ℕ) (names : Names) (trace : Trace) (whole : Answering → Progress) (rest : Answering → World → Progress) (parts : Answering → Progress) (cast : Cast) (part : PartView) (kept : Kept) (known : Known) (held : Option (List ℕ)) (world : World) →
    part.stage ≢ Fresh → StandsFor names [] cast (moment part kept known) world → ((answers : Answering) → whole answers ≡ rest answers world) → ((answers : Answering) → parts answers ≡ record { world = world; made = []; ended = None }) → world.work ≡ 0 → trace [] ≡ [] → SoFar start start names trace whole rest parts cast part part kept kept known known held held
far_first start names trace whole rest parts cast part kept known held world begun stands same first idle none = record {
  records = known.records;
  spent = 0;
  worked = omega arith;
  reached = record {
    piece = [];
    reads = reads_none part begun;
    last = λ all. refl;
    setup = refl;
    world = world;
    stands = stands;
    work = idle;
    made = [];
    records = sym (append-nil known.records);
    is = λ source goes. same (answer_of names source);
  };
  stays = λ all. refl;
  printed = sym (ap (gain held) none ∙ gain-nil held);
  counted = λ source goes. first (answer_of names source);
}

-- the lines of a part stand after those of the run so far
far_printed : (trace : Trace) → Appends trace → (so_far records made : List Record) (start before after : Option (List ℕ)) → records ≡ made → before ≡ gain start (trace so_far) → after ≡ gain before (trace records) → after ≡ gain start (trace (so_far ++ made))
far_printed trace appends so_far records made start before after same first then =
    let text : trace so_far ++ trace records ≡ trace (so_far ++ made) = ap (λ (l : List Record). trace so_far ++ trace l) same ∙ sym (appends so_far made) in
    subst (λ (l : List ℕ). after ≡ gain start l) text (gains_then (trace so_far) (trace records) start before after first then)

-- one part more
pub far_on : {next : ℕ} (from count later : ℕ) (names : Names) (trace : Trace) → Appends trace → (whole : Answering → Progress) (n m : ℕ) (at : Scene) (parts parts' : Answering → Progress) (cast cast' : Cast) (p0 p1 p2 : PartView) (q0 q1 q2 : Kept) (k0 k1 k2 : Known) (start before after : Option (List ℕ)) →
    (far : SoFar from count names trace whole (rest_of n at) parts cast p0 p1 q0 q1 k0 k1 start before) → n ≡ suc m → list_all is_over k1.core.actors ≡ false → k0.records ≡ [] → k1.records ≡ [] →
    Advances next names trace (λ answers. round_or_pass at answers far.reached.world) None far.reached.piece cast' (moment p1 q1 k1) (moment p2 q2 k2) before after → later ≤ from + next →
    (list_all is_over far.reached.world.core.actors ≡ false → (answers : Answering) → parts answers ≡ record { world = far.reached.world; made = far.reached.made; ended = None } → parts' answers ≡ with_front far.reached.made (round_or_pass at answers far.reached.world)) →
    ((answers : Answering) (x : ℕ) → fetches_of (parts answers).world.fetched x ≤ fetches_of (parts' answers).world.fetched x) → SoFar from later names trace whole (rest_of m at) parts' cast' p0 p2 q0 q2 k0 k2 start after
far_on {next} from count later names trace appends whole n m at parts parts' cast cast' p0 p1 p2 q0 q1 q2 k0 k1 k2 start before after far more some first cleared part worked one_more rises =
    let some_here : list_all is_over far.reached.world.core.actors ≡ false = ap (λ (c : Core). list_all is_over c.actors) (sym far.reached.stands.core) ∙ some in
    let made : part.records ≡ part.reached.made = part.reached.records ∙ ap (λ (l : List Record). l ++ part.reached.made) cleared in
    record {
      records = far.reached.made ++ part.records;
      spent = next;
      worked = worked;
      reached = part_on names trace whole n m at cast cast' p0 p1 p2 q0 q1 q2 k0 k1 (record k1 { records = far.records }) k2 before after far.reached more refl refl some first part cleared;
      stays = open_then names parts' (λ answers. round_or_pass at answers far.reached.world) [] far.reached.piece part.reached.piece p0 p1 p2 far.reached.reads part.reached.reads
          (λ source goes x. omega (arith, ap (λ (p : Progress). fetches_of p.world.fetched x) (one_more some_here (answer_of names source) (far.counted source goes))))
          (λ all. far.stays (answers_fewer names parts' parts far.reached.piece (λ source goes. rises (answer_of names source)) all)) part.reached.last;
      printed = far_printed trace appends far.reached.made part.records part.reached.made start before after made far.printed part.printed;
      counted = λ source goes.
          let answers = answer_of names source in
          one_more some_here answers (far.counted source (goes_back far.reached.piece part.reached.piece p1 p2 source part.reached.reads goes))
          ∙ ap (with_front far.reached.made) (part.reached.is source goes)
          ∙ ap (λ (l : List Record). record { world = part.reached.world; made = far.reached.made ++ l; ended = None }) (append-nil part.reached.made);
    }

-- the last part
pub far_over : {next : ℕ} (from count later : ℕ) (names : Names) (trace : Trace) → Appends trace → (whole : Answering → Progress) (how : Ended) (n m : ℕ) (at : Scene) (parts : Answering → Progress) (cast cast' : Cast) (p0 p1 p2 : PartView) (q0 q1 q2 : Kept) (k0 k1 k2 : Known) (start before after : Option (List ℕ)) →
    (far : SoFar from count names trace whole (rest_of n at) parts cast p0 p1 q0 q1 k0 k1 start before) → n ≡ suc m → list_all is_over k1.core.actors ≡ false → k0.records ≡ [] → k1.records ≡ [] →
    Advances next names trace (λ answers. round_or_pass at answers far.reached.world) (Some how) far.reached.piece cast' (moment p1 q1 k1) (moment p2 q2 k2) before after → later ≤ from + next → IsOver from later cast'.contexts names trace whole how k2.core p0 p2 start after
far_over from count later names trace appends whole how n m at parts cast cast' p0 p1 p2 q0 q1 q2 k0 k1 k2 start before after far more some first cleared part worked =
    let made : part.records ≡ part.reached.made = part.reached.records ∙ ap (λ (l : List Record). l ++ part.reached.made) cleared in
    over_by from later names trace whole how cast' p0 p2 q0 q2 k0 (record k2 { records = far.reached.made ++ part.records }) k2.core start after
    (part_last names trace whole how n m at cast cast' p0 p1 p2 q0 q1 q2 k0 k1 (record k1 { records = far.records }) k2 before after far.reached more refl refl some first part cleared) refl
    (far_printed trace appends far.reached.made part.records part.reached.made start before after made far.printed part.printed) worked

-- what a part did that ended the run or cut it off
pub far_ends : (from count later : ℕ) (names : Names) (trace : Trace) → Appends trace → (whole : Answering → Progress) (how : Ended) (b : Bool) (n m : ℕ) (at : Scene) (parts : Answering → Progress) (cast cast' : Cast) (p0 p1 p2 : PartView) (q0 q1 q2 : Kept) (k0 k1 k2 : Known) (start before after : Option (List ℕ)) →
    (far : SoFar from count names trace whole (rest_of n at) parts cast p0 p1 q0 q1 k0 k1 start before) → n ≡ suc m → list_all is_over k1.core.actors ≡ false → k0.records ≡ [] → k1.records ≡ [] →
    MatchBool b (CutsOff names trace (λ answers. round_or_pass at answers far.reached.world) far.reached.piece cast'.contexts p1 p2 before after) (Advances (work_behind far.reached.world) names trace (λ answers. round_or_pass at answers far.reached.world) (Some how) far.reached.piece cast' (moment p1 q1 k1) (moment p2 q2 k2) before after) →
    later ≤ from + work_behind far.reached.world → MatchBool b (IsCutOff from later cast'.contexts names trace whole p0 p2 start after) (IsOver from later cast'.contexts names trace whole how k2.core p0 p2 start after)
far_ends from count later names trace appends whole how true n m at parts cast cast' p0 p1 p2 q0 q1 q2 k0 k1 k2 start before after far more some first cleared cut worked = cut_off from later names trace appends whole n m at cast cast'.contexts p0 p1 p2 q0 q1 k0 (record k1 { records = far.records }) start before after far.reached more some far.printed cut worked
far_ends from count later names trace appends whole how false n m at parts cast cast' p0 p1 p2 q0 q1 q2 k0 k1 k2 start before after far more some first cleared part worked = far_over from count later names trace appends whole how n m at parts cast cast' p0 p1 p2 q0 q1 q2 k0 k1 k2 start before after far more some first cleared part worked
