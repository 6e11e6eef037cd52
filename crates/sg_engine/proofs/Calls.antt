-- Calls that are answered one after another.
use Rattle.std.proofs.Common.{◌≡◌, ◌≢◌, ◌∙◌, sym, ap, ap₂, subst, refl, ℕ, ◌+◌, ◌==◌, ◌<◌, ◌≤◌, Bool, true, false, cond, List, [], ◌++◌, length, get_or, drop, Option, None, Some, Result, Ok, Err, append_assoc, arith}
use Rattle.std.specs.Prelude.{option_map, MatchBool}
use Rattle.std.proofs.lemmas.List.{append-nil, at_drop_more, at_drop_all}
use Rattle.sg_base.specs.declared.call.Action.{Action}
use Rattle.sg_base.specs.declared.trace_record.Record.{Record}
use Rattle.sg_base.specs.Mind.{Mind}
use Rattle.sg_edge.specs.Files.{PartView}
use Rattle.sg_edge.specs.declared.files.Stage.TheVariants.{Fresh, Broken}
use Rattle.sg_kernel_calls.specs.Setup.{Setup}
use Rattle.sg_kernel_calls.specs.World.{Core}
use Rattle.sg_engine.specs.World.{World}
use Rattle.sg_kernel_calls.specs.Calls.{told}
use Rattle.sg_kernel_calls.specs.Steps.{Step}
use Rattle.sg_kernel_calls.specs.Known.{Known, after}
use Rattle.sg_platform_rows.specs.Deployment.{Deployed}
use Rattle.sg_route.specs.Roads.{Roads}
use Rattle.sg_script.specs.Fetched.{fetches_of, one_more}
use Rattle.sg_script.specs.Answer.{answer_of}
use Rattle.sg_script.specs.Known.{ScriptNames as Names}
use Rattle.sg_script.specs.declared.script.Script.{Script}
use Rattle.sg_script.specs.Rest.{GoesOn}
use Rattle.sg_script.specs.Stands.{Kept, kept_of, IsFetched, IsCut, FetchIs, IsEnough, IsWithinNeed}
use Rattle.sg_script.specs.declared.fault.ScriptFault.{ScriptFault}
use Rattle.sg_script.specs.declared.fault.ScriptFault.TheVariants as fault
use Rattle.sg_script.proofs.AllNeeds.{add_up, within_more}
use Rattle.sg_script.proofs.Counting.{one_more_made}
use Rattle.sg_script.proofs.Chains.{reads_none, reads_then}
use Rattle.sg_engine.specs.declared.actor_call.ActorCall.{ActorCall}
use Rattle.sg_engine.specs.declared.ended.Ended.{Ended}
use Rattle.sg_engine.specs.declared.ended.Ended.TheVariants as ended
use Rattle.sg_engine.specs.kept.CallList.{calls_of}
use Rattle.sg_engine.specs.Run.{Scene, scene, Answering, Progress, at_world, then_unless_ended, in_world, with_front, ask_step, answer_step, ended_at, unless_killed, ended_by}
use Rattle.sg_engine.specs.kept.Moments.{Cast, Moment, moment, moment_of, Fits, StandsFor, StaysOpen, IsStretch, LacksMemory, LeadsOn, ending, script_part}
use Rattle.sg_engine.proofs.Fetches.{fetch_made, fetches_rise}
use Rattle.sg_engine.proofs.Runs.{ask_keeps, calls_keep_behind, contexts_fall}
use Rattle.sg_engine.proofs.Reaching.{goes_back, matched_as, open_then, reached_then, reached_as, reached_spent, rest_as, goes_on_to, ends_at, stands_as}

-- ---- one call
-- a step of the kernel, for which nothing of the script was read
pub stepped : (names : Names) (taken : List ℕ) (cast : Cast) (part : PartView) (kept : Kept) (old new : Known) (room : ℕ) (world : World) (step : Core → Step) (how : Option Ended) →
    part.stage ≢ Fresh → StandsFor names taken cast (moment part kept old) world → new ≡ record (after (step old.core) old) { room = room } → how ≡ option_map ended_by (step old.core).stop →
    IsStretch world.work names (λ answers. in_world world (step world.core)) (ending how) taken cast (moment part kept old) (moment part kept new)
stepped names taken cast part kept old new room world step how begun stands is ends =
    let led : World = record world { core = (step world.core).core } in
    let core : new.core ≡ led.core = ap (λ (k : Known). k.core) is ∙ ap (λ (c : Core). (step c).core) stands.core in
    let ended : how ≡ option_map ended_by (step world.core).stop = ends ∙ ap (λ (c : Core). option_map ended_by (step c).stop) stands.core in
    record {
      piece = [];
      reads = reads_none part begun;
      last = λ all. refl;
      setup = ap (λ (k : Known). k.setup) is;
      world = led;
      stands = stands_as names taken (taken ++ []) cast (moment part kept new) led (sym (append-nil taken)) (record { script = stands.script; core = core; cast = stands.cast });
      work = refl;
      made = (step world.core).made;
      records = ap (λ (k : Known). k.records) is ∙ ap (λ (c : Core). old.records ++ (step c).made) stands.core;
      is = λ source goes.
          let end : List Record → Option Ended → Progress = λ made why. record { world = led; made = made; ended = why } in
          ap₂ end (sym (append-nil (step world.core).made)) (sym ended);
    }

-- the budget is used up: nothing happens
pub used_up : (names : Names) (taken : List ℕ) (cast : Cast) (part : PartView) (kept : Kept) (known : Known) (world : World) (actor : ℕ) →
    part.stage ≢ Fresh → StandsFor names taken cast (moment part kept known) world → (known.core.events == known.setup.budget) ≡ true →
    IsStretch world.work names (λ answers. ask_step known.setup answers actor world) (ending (Some ended.Budget)) taken cast (moment part kept known) (moment part kept known)
used_up names taken cast part kept known world actor begun stands used = record {
  piece = [];
  reads = reads_none part begun;
  last = λ all. refl;
  setup = refl;
  world = world;
  stands = stands_as names taken (taken ++ []) cast (moment part kept known) world (sym (append-nil taken)) stands;
  work = refl;
  made = [];
  records = sym (append-nil known.records);
  is = λ source goes.
      let here : (world.core.events == known.setup.budget) ≡ true = ap (λ (core : Core). core.events == known.setup.budget) (sym stands.core) ∙ used in
      ap (λ (b : Bool). cond b (at_world (Some ended.Budget) world) (answer_step known.setup actor (answer_of names source actor (fetches_of world.fetched actor)) (record world { fetched = one_more actor world.fetched }))) here;
}

-- the fetch is among those that were made
pub ask_last : (names : Names) (taken piece : List ℕ) (part part' : PartView) (kept : Kept) (cast : Cast) (known : Known) (world : World) (actor : ℕ) → StandsFor names taken cast (moment part kept known) world → (known.core.events == known.setup.budget) ≡ false →
    (IsEnough names (taken ++ piece) actor (fetches_of world.fetched actor) → part'.stage ≡ part.stage) → StaysOpen names (λ answers. ask_step known.setup answers actor world) (taken ++ piece) part.stage part'.stage
ask_last names taken piece part part' kept cast known world actor stands unused last all =
    let here : (world.core.events == known.setup.budget) ≡ false = ap (λ (core : Core). core.events == known.setup.budget) (sym stands.core) ∙ unused in
    last (λ rest broken.
    let answers = answer_of names (record { bytes = (taken ++ piece) ++ rest; broken = broken }) in
    all rest broken actor (fetches_of world.fetched actor) (subst (λ (fetched : List ℕ). fetches_of world.fetched actor < fetches_of fetched actor) (sym (fetch_made known.setup answers actor world here)) (one_more_made actor world.fetched)))

-- the script has answered a fetch
abbrev pub asked_to : (names : Names) (taken : List ℕ) (cast : Cast) (part part' : PartView) (kept kept' : Kept) (known : Known) (world : World) (actor : ℕ) (answer : Result (Option Action) ScriptFault) →
    StandsFor names taken cast (moment part kept known) world → (known.core.events == known.setup.budget) ≡ false → IsFetched names taken world.fetched actor answer part part' kept' →
    IsStretch world.work names (λ answers. ask_step known.setup answers actor world) (λ answers w. answer_step known.setup actor answer w) taken cast (moment part kept known) (moment part' kept' known)
asked_to names taken cast part part' kept kept' known world actor answer stands unused is_fetched = record {
  piece = is_fetched.piece;
  reads = is_fetched.reads;
  last = ask_last names taken is_fetched.piece part part' kept cast known world actor stands unused is_fetched.last;
  setup = refl;
  world = record world { fetched = one_more actor world.fetched };
  stands = record {
    script = record { stands = is_fetched.stands; needed = add_up names taken is_fetched.piece world.fetched actor part part' is_fetched.reads stands.script.needed is_fetched.near };
    core = stands.core;
    cast = stands.cast;
  };
  work = refl;
  made = [];
  records = sym (append-nil known.records);
  is = λ source goes.
      let here : (world.core.events == known.setup.budget) ≡ false = ap (λ (core : Core). core.events == known.setup.budget) (sym stands.core) ∙ unused in
      let next : World = record world { fetched = one_more actor world.fetched } in
      let said : answer_of names source actor (fetches_of world.fetched actor) ≡ answer = ap (λ (b : List ℕ). answer_of names (record { bytes = b; broken = source.broken }) actor (fetches_of world.fetched actor)) goes.bytes ∙ is_fetched.answer_is goes.rest source.broken goes.may in
      ap (λ (b : Bool). cond b (at_world (Some ended.Budget) world) (answer_step known.setup actor (answer_of names source actor (fetches_of world.fetched actor)) next)) here
      ∙ ap (λ (a : Result (Option Action) ScriptFault). answer_step known.setup actor a next) said;
}

-- and the kernel has passed it to the actor
pub told_to : (names : Names) (taken : List ℕ) (cast : Cast) (part part' : PartView) (kept kept' : Kept) (old new : Known) (room : ℕ) (world : World) (actor : ℕ) (action : Option Action) (how : Option Ended) →
    StandsFor names taken cast (moment part kept old) world → (old.core.events == old.setup.budget) ≡ false → IsFetched names taken world.fetched actor (Ok action) part part' kept' →
    new ≡ record (after (told old.setup old.core actor action) old) { room = room } → how ≡ option_map ended_by (told old.setup old.core actor action).stop →
    IsStretch world.work names (λ answers. ask_step old.setup answers actor world) (ending how) taken cast (moment part kept old) (moment part' kept' new)
told_to names taken cast part part' kept kept' old new room world actor action how stands unused is_fetched is ends =
    let first = asked_to names taken cast part part' kept kept' old world actor (Ok action) stands unused is_fetched in
    let step : Core → Step = λ c. told old.setup c actor action in
    reached_then names (λ answers. ask_step old.setup answers actor world) (λ answers w. answer_step old.setup actor (Ok action) w) (ending how) taken cast cast (moment part kept old) (moment part' kept' old) (moment part' kept' new) first
    (stepped names (taken ++ is_fetched.piece) cast part' kept' old new room (record world { fetched = one_more actor world.fetched }) step how is_fetched.reads.begun first.stands is ends)

-- or memory ran out for it
cut_asked : (names : Names) (taken : List ℕ) (cast : Cast) (part part' : PartView) (kept kept' : Kept) (known : Known) (world : World) (actor : ℕ) →
    StandsFor names taken cast (moment part kept known) world → (known.core.events == known.setup.budget) ≡ false → IsCut names taken world.fetched actor part part' kept' →
    LacksMemory names (λ answers. ask_step known.setup answers actor world) taken cast.contexts part part'
cut_asked names taken cast part part' kept kept' known world actor stands unused cut = record {
  piece = cut.piece;
  reads = cut.reads;
  last = ask_last names taken cut.piece part part' kept cast known world actor stands unused cut.last;
  needed = λ source goes.
      let here : (world.core.events == known.setup.budget) ≡ false = ap (λ (core : Core). core.events == known.setup.budget) (sym stands.core) ∙ unused in
      subst (λ (fetched : List ℕ). IsWithinNeed names source fetched (length (taken ++ cut.piece))) (sym (fetch_made known.setup (answer_of names source) actor world here))
      (add_up names taken cut.piece world.fetched actor part part' cut.reads stands.script.needed cut.near source goes);
  contexts = λ source goes. omega (arith, ask_keeps contexts_fall known.setup (answer_of names source) actor world, ap (λ (c : Cast). c.contexts) stands.cast);
}

-- a fault of the script ends the run, or memory ran out
pub fetch_failed : (names : Names) (taken : List ℕ) (cast : Cast) (part part' : PartView) (kept kept' : Kept) (known : Known) (world : World) (actor : ℕ) (why : ScriptFault) (result : Result (Unit {0}) Ended) → result ≡ Err (ended_at why) →
    StandsFor names taken cast (moment part kept known) world → (known.core.events == known.setup.budget) ≡ false → FetchIs names taken world.fetched actor (Err why) part part' kept' →
    LeadsOn world.work names (λ answers. ask_step known.setup answers actor world) result taken cast (moment part kept known) (moment part' kept' known)
fetch_failed names taken cast part part' kept kept' known world actor (fault.Line number kind) result is stands unused fetched = rw is (asked_to names taken cast part part' kept kept' known world actor (Err (fault.Line number kind)) stands unused fetched)
fetch_failed names taken cast part part' kept kept' known world actor fault.Read result is stands unused fetched = rw is (asked_to names taken cast part part' kept kept' known world actor (Err fault.Read) stands unused fetched)
fetch_failed names taken cast part part' kept kept' known world actor fault.Memory result is stands unused fetched = rw is (cut_asked names taken cast part part' kept kept' known world actor stands unused fetched)

-- ---- the script
-- a fetch from the script leads on in the run, if there is a script
pub script_answers : (script : Bool) (names : Names) (whole other : Answering → Progress) (taken : List ℕ) (cast : Cast) (world : World) (part part' : PartView) (reader reader' : Script) (old new : Known) (result : Result (Unit {0}) Ended) →
    script ≡ true → ((answers : Answering) → other answers ≡ whole answers) →
    (StandsFor names taken cast (moment part (kept_of reader) old) world → LeadsOn world.work names whole result taken cast (moment part (kept_of reader) old) (moment part' (kept_of reader') new)) →
    StandsFor names taken cast (moment_of script part reader old) world →
    LeadsOn world.work names other result taken cast (moment_of script part reader old) (moment_of script part' reader' new)
script_answers true names whole other taken cast world part part' reader reader' old new result is same step stands = matched_as world.work result names whole other taken cast _ _ same (step stands)
script_answers false names whole other taken cast world part part' reader reader' old new result is same step stands = absurd (cc is)

pub fits_scripted : (script : Bool) (deployed : Deployed) (part : PartView) (reader : Script) (known : Known) → script ≡ true → Fits deployed (moment part (kept_of reader) known) → Fits deployed (moment_of script part reader known)
fits_scripted true deployed part reader known is fits = fits
fits_scripted false deployed part reader known is fits = absurd (cc is)

pub scripted_fits : (script : Bool) (deployed : Deployed) (part : PartView) (reader : Script) (known : Known) → script ≡ true → Fits deployed (moment_of script part reader known) → Fits deployed (moment part (kept_of reader) known)
scripted_fits true deployed part reader known is fits = fits
scripted_fits false deployed part reader known is fits = absurd (cc is)

pub broken_scripted : (script : Bool) (part : PartView) → script ≡ true → part.stage ≡ Broken → (script_part script part).stage ≡ Broken
broken_scripted true part is broken = broken
broken_scripted false part is broken = absurd (cc is)

pub not_unscripted : {P : Type 0} (script : Bool) → script ≡ true → script ≡ false → P
not_unscripted script is isnt = absurd (let e : true ≡ false = sym is ∙ isnt in cc e)

-- ---- calls one after another
calls_more : (at : Scene) (answers : Answering) (calls : List ActorCall) (i : ℕ) (d : ActorCall) (world : World) → i < length calls →
    calls_of at answers (drop i calls) world ≡ then_unless_ended (unless_killed at answers (get_or calls i d).actor.0 (get_or calls i d).call world) (calls_of at answers (drop (i + 1) calls))
unfolding calls_of
calls_more at answers calls i d world within = at_drop_more (λ l. calls_of at answers l world) calls i d within

calls_none : (at : Scene) (answers : Answering) (calls : List ActorCall) (i : ℕ) (world : World) → length calls ≤ i → calls_of at answers (drop i calls) world ≡ at_world None world
unfolding calls_of
calls_none at answers calls i world past = at_drop_all (λ l. calls_of at answers l world) calls i past

-- the calls from a place on
abbrev pub rest_from : Scene → List ActorCall → ℕ → Answering → World → Progress
rest_from at calls i answers world = calls_of at answers (drop i calls) world

abbrev at_place : Scene → ActorCall → World → Answering → Progress
at_place at made world answers = unless_killed at answers made.actor.0 made.call world

-- one more call was answered, and the run continues
pub one_more_call : {spent : ℕ} (names : Names) (whole : Answering → Progress) (roads : Roads) (setup : Setup) (firsts : List Mind) (script : Bool) (calls : List ActorCall) (i : ℕ) (d : ActorCall) (taken : List ℕ) (cast cast' : Cast) (old mid new : Moment) → i < length calls → mid.kernel.setup ≡ setup →
    (first : IsStretch spent names whole (rest_from (scene roads setup firsts script) calls i) taken cast old mid) → IsStretch first.world.work names (λ answers. unless_killed (scene roads mid.kernel.setup firsts script) answers (get_or calls i d).actor.0 (get_or calls i d).call first.world) (ending None) (taken ++ first.piece) cast' mid new →
    IsStretch spent names whole (rest_from (scene roads setup firsts script) calls (i + 1)) taken cast' old new
one_more_call {spent} names whole roads setup firsts script calls i d taken cast cast' old mid new within same first step =
    let here : IsStretch first.world.work names (at_place (scene roads setup firsts script) (get_or calls i d) first.world) (ending None) (taken ++ first.piece) cast' mid new =
    subst (λ (s : Setup). IsStretch first.world.work names (at_place (scene roads s firsts script) (get_or calls i d) first.world) (ending None) (taken ++ first.piece) cast' mid new) same step in
    reached_spent first.world.work spent names whole (rest_from (scene roads setup firsts script) calls (i + 1)) taken cast' old new first.work
    (reached_then names whole (rest_from (scene roads setup firsts script) calls i) (rest_from (scene roads setup firsts script) calls (i + 1)) taken cast cast' old mid new first
    (reached_as names _ (λ answers. rest_from (scene roads setup firsts script) calls i answers first.world) (rest_from (scene roads setup firsts script) calls (i + 1)) (taken ++ first.piece) cast' mid new (λ answers. calls_more (scene roads setup firsts script) answers calls i d first.world within)
    (goes_on_to names (at_place (scene roads setup firsts script) (get_or calls i d) first.world) (rest_from (scene roads setup firsts script) calls (i + 1)) (taken ++ first.piece) cast' mid new
    (λ answers. calls_keep_behind fetches_rise (at_place (scene roads setup firsts script) (get_or calls i d) first.world answers) (scene roads setup firsts script) answers (drop (i + 1) calls)) here)))

-- one more call was answered, and the run has ended
last_call : {spent : ℕ} (names : Names) (whole : Answering → Progress) (roads : Roads) (setup : Setup) (firsts : List Mind) (script : Bool) (calls : List ActorCall) (i : ℕ) (d : ActorCall) (how : Ended) (taken : List ℕ) (cast cast' : Cast) (old mid new : Moment) → i < length calls → mid.kernel.setup ≡ setup →
    (first : IsStretch spent names whole (rest_from (scene roads setup firsts script) calls i) taken cast old mid) → IsStretch first.world.work names (λ answers. unless_killed (scene roads mid.kernel.setup firsts script) answers (get_or calls i d).actor.0 (get_or calls i d).call first.world) (ending (Some how)) (taken ++ first.piece) cast' mid new →
    IsStretch spent names whole (ending (Some how)) taken cast' old new
last_call {spent} names whole roads setup firsts script calls i d how taken cast cast' old mid new within same first step =
    let here : IsStretch first.world.work names (at_place (scene roads setup firsts script) (get_or calls i d) first.world) (ending (Some how)) (taken ++ first.piece) cast' mid new =
    subst (λ (s : Setup). IsStretch first.world.work names (at_place (scene roads s firsts script) (get_or calls i d) first.world) (ending (Some how)) (taken ++ first.piece) cast' mid new) same step in
    reached_spent first.world.work spent names whole (ending (Some how)) taken cast' old new first.work
    (reached_then names whole (rest_from (scene roads setup firsts script) calls i) (ending (Some how)) taken cast cast' old mid new first
    (reached_as names _ (λ answers. rest_from (scene roads setup firsts script) calls i answers first.world) (ending (Some how)) (taken ++ first.piece) cast' mid new (λ answers. calls_more (scene roads setup firsts script) answers calls i d first.world within)
    (ends_at names (at_place (scene roads setup firsts script) (get_or calls i d) first.world) (rest_from (scene roads setup firsts script) calls (i + 1)) how (taken ++ first.piece) cast' mid new
    (λ answers. calls_keep_behind fetches_rise (at_place (scene roads setup firsts script) (get_or calls i d) first.world answers) (scene roads setup firsts script) answers (drop (i + 1) calls)) here)))

-- no call is left
pub all_called : {spent : ℕ} (names : Names) (whole : Answering → Progress) (at : Scene) (calls : List ActorCall) (i : ℕ) (taken : List ℕ) (cast : Cast) (old new : Moment) → length calls ≤ i →
    IsStretch spent names whole (rest_from at calls i) taken cast old new → IsStretch spent names whole (ending None) taken cast old new
all_called names whole at calls i taken cast old new past reached = rest_as names whole (rest_from at calls i) (ending None) taken cast old new (λ answers world. calls_none at answers calls i world past) reached

-- memory ran out at a later call
cut_later : {spent : ℕ} (names : Names) (whole : Answering → Progress) (roads : Roads) (setup : Setup) (firsts : List Mind) (script : Bool) (calls : List ActorCall) (i : ℕ) (d : ActorCall) (taken : List ℕ) (cast : Cast) (left : ℕ) (old mid : Moment) (new : PartView) → i < length calls → mid.kernel.setup ≡ setup →
    (first : IsStretch spent names whole (rest_from (scene roads setup firsts script) calls i) taken cast old mid) → LacksMemory names (λ answers. unless_killed (scene roads mid.kernel.setup firsts script) answers (get_or calls i d).actor.0 (get_or calls i d).call first.world) (taken ++ first.piece) left mid.part new →
    LacksMemory names whole taken left old.part new
cut_later names whole roads setup firsts script calls i d taken cast left old mid new within same first cut =
    let joined : (taken ++ first.piece) ++ cut.piece ≡ taken ++ (first.piece ++ cut.piece) = append_assoc taken first.piece cut.piece in
    record {
      piece = first.piece ++ cut.piece;
      reads = reads_then first.piece cut.piece old.part mid.part new first.reads cut.reads;
      last = open_then names whole (λ answers. unless_killed (scene roads mid.kernel.setup firsts script) answers (get_or calls i d).actor.0 (get_or calls i d).call first.world) taken first.piece cut.piece old.part mid.part new first.reads cut.reads
          (λ source goes x.
          let at : Scene = scene roads setup firsts script in
          let answers = answer_of names source in
          let call : Progress = at_place at (get_or calls i d) first.world answers in
          let here : fetches_of (at_place (scene roads mid.kernel.setup firsts script) (get_or calls i d) first.world answers).world.fetched x ≡ fetches_of call.world.fetched x = ap (λ (s : Setup). fetches_of (at_place (scene roads s firsts script) (get_or calls i d) first.world answers).world.fetched x) same in
          let all : whole answers ≡ with_front first.made (then_unless_ended call (calls_of at answers (drop (i + 1) calls))) = first.is source goes ∙ ap (with_front first.made) (calls_more at answers calls i d first.world within) in
          omega (arith, here, ap (λ (p : Progress). fetches_of p.world.fetched x) all, calls_keep_behind fetches_rise call at answers (drop (i + 1) calls) x))
          first.last cut.last;
      needed = λ source goes.
          let at : Scene = scene roads setup firsts script in
          let answers = answer_of names source in
          let there : GoesOn ((taken ++ first.piece) ++ cut.piece) new.stage source = subst (λ (t : List ℕ). GoesOn t new.stage source) (sym joined) goes in
          let call : Progress = at_place at (get_or calls i d) first.world answers in
          let here : IsWithinNeed names source call.world.fetched (length ((taken ++ first.piece) ++ cut.piece)) = subst (λ (s : Setup). IsWithinNeed names source (at_place (scene roads s firsts script) (get_or calls i d) first.world answers).world.fetched (length ((taken ++ first.piece) ++ cut.piece))) same (cut.needed source there) in
          let all : whole answers ≡ with_front first.made (then_unless_ended call (calls_of at answers (drop (i + 1) calls))) =
          first.is source (goes_back (taken ++ first.piece) cut.piece mid.part new source cut.reads there) ∙ ap (with_front first.made) (calls_more at answers calls i d first.world within) in
          let behind : IsWithinNeed names source (then_unless_ended call (calls_of at answers (drop (i + 1) calls))).world.fetched (length ((taken ++ first.piece) ++ cut.piece)) =
          within_more names source call.world.fetched _ _ (calls_keep_behind fetches_rise call at answers (drop (i + 1) calls)) here in
          subst (λ (t : List ℕ). IsWithinNeed names source (whole answers).world.fetched (length t)) joined
          (subst (λ (p : Progress). IsWithinNeed names source p.world.fetched (length ((taken ++ first.piece) ++ cut.piece))) (sym all) behind);
      contexts = λ source goes.
          let at : Scene = scene roads setup firsts script in
          let answers = answer_of names source in
          let there : GoesOn ((taken ++ first.piece) ++ cut.piece) new.stage source = subst (λ (t : List ℕ). GoesOn t new.stage source) (sym joined) goes in
          let call : Progress = at_place at (get_or calls i d) first.world answers in
          let here : call.world.contexts ≤ left = subst (λ (s : Setup). (at_place (scene roads s firsts script) (get_or calls i d) first.world answers).world.contexts ≤ left) same (cut.contexts source there) in
          let all : whole answers ≡ with_front first.made (then_unless_ended call (calls_of at answers (drop (i + 1) calls))) =
          first.is source (goes_back (taken ++ first.piece) cut.piece mid.part new source cut.reads there) ∙ ap (with_front first.made) (calls_more at answers calls i d first.world within) in
          omega (arith, ap (λ (p : Progress). p.world.contexts) all, calls_keep_behind contexts_fall call at answers (drop (i + 1) calls), here);
    }

-- a later call has ended the run, or cut it off
pub ends_call : {spent : ℕ} (b : Bool) (names : Names) (whole : Answering → Progress) (roads : Roads) (setup : Setup) (firsts : List Mind) (script : Bool) (calls : List ActorCall) (i : ℕ) (d : ActorCall) (how : Ended) (taken : List ℕ) (cast cast' : Cast) (old mid new : Moment) → i < length calls → mid.kernel.setup ≡ setup →
    (first : IsStretch spent names whole (rest_from (scene roads setup firsts script) calls i) taken cast old mid) →
    MatchBool b (LacksMemory names (λ answers. unless_killed (scene roads mid.kernel.setup firsts script) answers (get_or calls i d).actor.0 (get_or calls i d).call first.world) (taken ++ first.piece) cast'.contexts mid.part new.part)
    (IsStretch first.world.work names (λ answers. unless_killed (scene roads mid.kernel.setup firsts script) answers (get_or calls i d).actor.0 (get_or calls i d).call first.world) (ending (Some how)) (taken ++ first.piece) cast' mid new) →
    MatchBool b (LacksMemory names whole taken cast'.contexts old.part new.part) (IsStretch spent names whole (ending (Some how)) taken cast' old new)
ends_call true names whole roads setup firsts script calls i d how taken cast cast' old mid new within same first cut = cut_later names whole roads setup firsts script calls i d taken cast cast'.contexts old mid new.part within same first cut
ends_call false names whole roads setup firsts script calls i d how taken cast cast' old mid new within same first step = last_call names whole roads setup firsts script calls i d how taken cast cast' old mid new within same first step
