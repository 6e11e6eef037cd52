-- From what a run has come to, to what it has written in all.
use Rattle.std.proofs.Common.{◌≡◌, ◌≢◌, ◌≤◌, ◌+◌, ◌-◌, ◌∙◌, arith, ap, sym, subst, refl, ℕ, List, [], ◌++◌, length, Bool, true, false, IsTrue, Option, None, Some}
use Rattle.std.proofs.lemmas.List.{append-nil}
use Rattle.std.specs.Prelude.{MatchBool, IsSome}
use Rattle.sg_edge.specs.declared.sinks.Stream.{Stream}
use Rattle.sg_edge.specs.declared.sinks.Stream.TheVariants.{Out, Err}
use Rattle.sg_edge.specs.declared.files.Stage.TheVariants.{Fresh, Over, Broken}
use Rattle.sg_edge.proofs.Reading.{before-nil}
use Rattle.sg_edge.specs.Files.{PartView, before, KeepsTelling, NoneLeft, TakesUpTo}
use Rattle.sg_edge.specs.Sources.{Source, Gives}
use Rattle.sg_edge.specs.Sinks.{IsWritten}
use Rattle.sg_kernel_calls.specs.World.{Core}
use Rattle.sg_platform_rows.specs.Deployment.{Deployed, started_number}
use Rattle.sg_platform_rows.specs.Platform.{Platform}
use Rattle.sg_script.specs.Answer.{answer_of}
use Rattle.sg_script.specs.Known.{ScriptNames as Names, known_in}
use Rattle.sg_script.specs.Needed.{needed_by}
use Rattle.sg_script.specs.Stands.{Reads}
use Rattle.sg_script.specs.Rest.{GoesOn}
use Rattle.sg_script.proofs.AllNeeds.{most, one_needs}
use Rattle.sg_script.proofs.Whole.{given_goes_on}
use Rattle.sg_engine.specs.declared.ended.Ended.{Ended}
use Rattle.sg_engine.specs.declared.show.Show.{Show}
use Rattle.sg_engine.specs.Gains.{GainsAll, GainsFronts}
use Rattle.sg_engine.specs.RunContract.{is_cut, AreEnough, Ends, EndsOnDemand, IsBroken, TakesContexts}
use Rattle.sg_engine.specs.Output.{Report, first_of, trace_of, last_lines, fault_line, report_of, written_of, run_output, scene_of}
use Rattle.sg_engine.specs.kept.Moments.{AnswersAll, AreNeededBy, StaysOpen, script_part}
use Rattle.sg_engine.specs.Run.{Answering, Progress, run_of}
use Rattle.sg_engine.specs.kept.Stretches.{CutsOff, IsOver}
use Rattle.sg_engine.proofs.Runs.{contexts_fall, run_keeps}
use Rattle.sg_engine.proofs.Fronts.{front_more, fronts_out, fronts_behind, all_behind, written_whole}

-- the source that a run's part gives continues from what was read
abbrev pub Going : PartView → PartView → Source → Type 0
Going old new source = (piece : List ℕ) → Reads piece old new → GoesOn piece new.stage source

-- what was written at the end of a run, seen from its beginning
ends_by : (b : Bool) (front waiting out err : List ℕ) (how result : Ended) (old mid new : Stream → Option (List ℕ)) → IsWritten front waiting (old Out) (mid Out) → mid Err ≡ old Err →
    MatchBool b (GainsFronts (waiting ++ out) err mid new) ((how ≡ result) × GainsAll (waiting ++ out) err mid new) → MatchBool b (GainsFronts (front ++ out) err old new) ((how ≡ result) × GainsAll (front ++ out) err old new)
ends_by true front waiting out err how result old mid new wrote same ends = fronts_behind front waiting out err old mid new wrote same ends
ends_by false front waiting out err how result old mid new wrote same ends = (ends.0, all_behind front waiting out err old mid new wrote same ends.1)

pub run_ends : (start count left : ℕ) (platform : Platform) (deployed : Deployed) (script : Bool) (budget crew : ℕ) (show : Show) (how result : Ended) (core : Core) (p0 p1 : PartView) (old mid new : Stream → Option (List ℕ)) (source : Source) → Going p0 p1 source →
    IsOver start count left (known_in deployed) (trace_of show platform deployed) (run_of (scene_of platform deployed script budget) (first_of platform deployed budget crew)) how core p0 p1 (old Out) (mid Out) → mid Err ≡ old Err →
    Ends (last_lines platform deployed core (report_of show platform (length deployed.actors) budget core how)) (fault_line (report_of show platform (length deployed.actors) budget core how)) how result mid new →
    let want = run_output platform deployed script budget crew show source in Ends want.out want.err want.ended result old new
run_ends start count left platform deployed script budget crew show how result core p0 p1 old mid new source going over same ends =
    let trace = trace_of show platform deployed over.made in
    let report : Core → Report = λ c. report_of show platform (length deployed.actors) budget c how in
    let world = over.world.core in
    let last : Ends (last_lines platform deployed world (report world)) (fault_line (report world)) how result mid new = subst (λ (c : Core). Ends (last_lines platform deployed c (report c)) (fault_line (report c)) how result mid new) over.core_is ends in
    let all : Ends (trace ++ last_lines platform deployed world (report world)) (fault_line (report world)) how result old new =
    ends_by (is_cut result) trace [] (last_lines platform deployed world (report world)) (fault_line (report world)) how result old mid new (written_whole trace (old Out) (mid Out) over.printed) same last in
    let written : Progress → Type 0 = λ p. Ends (written_of show platform deployed budget crew source p).out (written_of show platform deployed budget crew source p).err (written_of show platform deployed budget crew source p).ended result old new in
    subst written (sym (over.is source (going over.piece over.reads))) all

-- the work of a run that has ended
pub run_work : (start count left : ℕ) (platform : Platform) (deployed : Deployed) (script : Bool) (budget crew : ℕ) (show : Show) (how : Ended) (core : Core) (p0 p1 : PartView) (before after : Option (List ℕ)) (source : Source) → Going p0 p1 source →
    IsOver start count left (known_in deployed) (trace_of show platform deployed) (run_of (scene_of platform deployed script budget) (first_of platform deployed budget crew)) how core p0 p1 before after →
    count ≤ start + (run_output platform deployed script budget crew show source).work
run_work start count left platform deployed script budget crew show how core p0 p1 before after source going over =
    let spent : Progress → Type 0 = λ p. count ≤ start + p.world.work in
    subst spent (sym (over.is source (going over.piece over.reads))) over.worked

-- each actor that starts takes a context of the pool
crew_first : (platform : Platform) (deployed : Deployed) (script : Bool) (budget crew : ℕ) (answers : Answering) → (run_of (scene_of platform deployed script budget) (first_of platform deployed budget crew) answers).world.contexts ≤ crew - started_number deployed
crew_first platform deployed script budget crew answers = run_keeps contexts_fall (budget + 1) (scene_of platform deployed script budget) answers (first_of platform deployed budget crew)

crew_most : (platform : Platform) (deployed : Deployed) (script : Bool) (budget crew : ℕ) (answers : Answering) → (run_of (scene_of platform deployed script budget) (first_of platform deployed budget crew) answers).world.contexts ≤ crew
crew_most platform deployed script budget crew answers = omega (arith, crew_first platform deployed script budget crew answers)

-- if memory ran out for the beginning, no more were taken than that
pub run_left_none : (platform : Platform) (deployed : Deployed) (script : Bool) (budget crew left : ℕ) (show : Show) (source : Source) → started_number deployed ≤ crew → crew ≤ left + started_number deployed → crew ≤ left + (run_output platform deployed script budget crew show source).contexts
run_left_none platform deployed script budget crew left show source enough most =
    omega (arith, crew_first platform deployed script budget crew (answer_of (known_in deployed) source), enough, most)

left_by : (b : Bool) (crew left want : ℕ) → crew ≡ left + want → MatchBool b (crew ≤ left + want) (crew ≡ left + want)
left_by true crew left want is = omega (arith, is)
left_by false crew left want is = is

-- the contexts of a run that has ended
pub run_left : (start count left : ℕ) (platform : Platform) (deployed : Deployed) (script : Bool) (budget crew : ℕ) (show : Show) (how result : Ended) (core : Core) (p0 p1 : PartView) (before after : Option (List ℕ)) (source : Source) → Going p0 p1 source →
    IsOver start count left (known_in deployed) (trace_of show platform deployed) (run_of (scene_of platform deployed script budget) (first_of platform deployed budget crew)) how core p0 p1 before after →
    TakesContexts (run_output platform deployed script budget crew show source).contexts result crew left
run_left start count left platform deployed script budget crew show how result core p0 p1 before after source going over =
    let whole = run_of (scene_of platform deployed script budget) (first_of platform deployed budget crew) (answer_of (known_in deployed) source) in
    let is : whole.world.contexts ≡ left = ap (λ (p : Progress). p.world.contexts) (over.is source (going over.piece over.reads)) ∙ sym over.contexts in
    left_by (is_cut result) crew left (crew - whole.world.contexts) (omega (arith, is, crew_most platform deployed script budget crew (answer_of (known_in deployed) source)))

-- and of one that was cut off
left_cut : (b : Bool) (crew left want : ℕ) → b ≡ true → crew ≤ left + want → MatchBool b (crew ≤ left + want) (crew ≡ left + want)
left_cut true crew left want is few = few
left_cut false crew left want is few = absurd (cc is)

pub run_left_cut : (left : ℕ) (platform : Platform) (deployed : Deployed) (script : Bool) (budget crew : ℕ) (show : Show) (how : Ended) (p0 p1 : PartView) (before after : Option (List ℕ)) (source : Source) → Going p0 p1 source → is_cut how ≡ true →
    CutsOff (known_in deployed) (trace_of show platform deployed) (run_of (scene_of platform deployed script budget) (first_of platform deployed budget crew)) [] left p0 p1 before after → TakesContexts (run_output platform deployed script budget crew show source).contexts how crew left
run_left_cut left platform deployed script budget crew show how p0 p1 before after source going is cut =
    let whole = run_of (scene_of platform deployed script budget) (first_of platform deployed budget crew) (answer_of (known_in deployed) source) in
    left_cut (is_cut how) crew left (crew - whole.world.contexts) is (omega (arith, cut.contexts source (going cut.piece cut.reads)))

cut_by : (b : Bool) (out err : List ℕ) (want how : Ended) (old new : Stream → Option (List ℕ)) → b ≡ true → GainsFronts out err old new → MatchBool b (GainsFronts out err old new) ((want ≡ how) × GainsAll out err old new)
cut_by true out err want how old new is fronts = fronts
cut_by false out err want how old new is fronts = absurd (cc is)

-- a run that was cut off
pub run_cut : (left : ℕ) (platform : Platform) (deployed : Deployed) (script : Bool) (budget crew : ℕ) (show : Show) (how : Ended) (p0 p1 : PartView) (old new : Stream → Option (List ℕ)) (source : Source) → Going p0 p1 source → is_cut how ≡ true →
    CutsOff (known_in deployed) (trace_of show platform deployed) (run_of (scene_of platform deployed script budget) (first_of platform deployed budget crew)) [] left p0 p1 (old Out) (new Out) → new Err ≡ old Err → let want = run_output platform deployed script budget crew show source in Ends want.out want.err want.ended how old new
run_cut left platform deployed script budget crew show how p0 p1 old new source going is cut same =
    let want = run_output platform deployed script budget crew show source in
    let made = (run_of (scene_of platform deployed script budget) (first_of platform deployed budget crew) (answer_of (known_in deployed) source)).made in
    let front = front_more (trace_of show platform deployed made) _ (old Out) (new Out) (cut.front source (going cut.piece cut.reads)) in
    cut_by (is_cut how) want.out want.err want.ended how old new is (fronts_out want.out want.err old new front same)

-- of a part that is as it was nothing was taken
pub takes_none : (bound : ℕ) (old new : PartView) → new ≡ old → TakesUpTo bound old new
takes_none bound old new same = subst (λ (p : PartView). TakesUpTo bound old p) (sym same) (record { bytes = []; left = sym (before-nil old.left); few = omega arith })

pub takes_up : (script : Bool) (piece : List ℕ) (old new : PartView) (bound : ℕ) → Reads piece (script_part script old) (script_part script new) → (script ≡ false → new ≡ old) → length piece ≤ bound → TakesUpTo bound old new
takes_up true piece old new bound reads same few = record { bytes = piece; left = reads.left; few = few }
takes_up false piece old new bound reads same few = takes_none bound old new (same refl)

-- what a run has taken of its script is near to what it needs
pub run_needed : (platform : Platform) (deployed : Deployed) (script : Bool) (budget crew : ℕ) (show : Show) (piece : List ℕ) (old new : PartView) (source : Source) → Going (script_part script old) (script_part script new) source → Reads piece (script_part script old) (script_part script new) → (script ≡ false → new ≡ old) →
    AreNeededBy (known_in deployed) (run_of (scene_of platform deployed script budget) (first_of platform deployed budget crew)) piece (script_part script new).stage → TakesUpTo ((run_output platform deployed script budget crew show source).need + 4095) old new
run_needed platform deployed script budget crew show piece old new source going reads same needed =
    let names = known_in deployed in
    let fetched = (run_of (scene_of platform deployed script budget) (first_of platform deployed budget crew) (answer_of names source)).world.fetched in
    takes_up script piece old new (needed_by names source fetched + 4095) reads same
    (most names source fetched (length piece) (needed source (going piece reads)))

-- what is enough for the fetches of a whole answers all of them
pub answers_all : (names : Names) (whole : Answering → Progress) (taken : List ℕ) → AreEnough (λ source. needed_by names source (whole (answer_of names source)).world.fetched) taken → AnswersAll names whole taken
answers_all names whole taken enough rest broken actor earlier made =
    let source : Source = record { bytes = taken ++ rest; broken = broken } in
    let few : needed_by names source (whole (answer_of names source)).world.fetched ≤ length taken = enough rest broken in
    omega (arith, few, one_needs names source (whole (answer_of names source)).world.fetched actor earlier made)

-- a part that is as it was is as open as it was
pub ends_none : (need : Source → ℕ) (old new : PartView) → new ≡ old → EndsOnDemand need old new
ends_none need old new same = subst (λ (p : PartView). EndsOnDemand need old p) (sym same) (record { taken = []; left = sym (before-nil old.left); shut = λ isnt. refl; last = λ enough. refl })

pub ends_up : (script : Bool) (piece : List ℕ) (old new : PartView) (need : Source → ℕ) → Reads piece (script_part script old) (script_part script new) → (script ≡ false → new ≡ old) → (AreEnough need piece → (script_part script new).stage ≡ (script_part script old).stage) → EndsOnDemand need old new
ends_up true piece old new need reads same last = record { taken = piece; left = reads.left; shut = λ isnt. (reads.stayed isnt).0; last = last }
ends_up false piece old new need reads same last = ends_none need old new (same refl)

-- no read of a run followed one after which its fetches had their answers
pub run_last : (platform : Platform) (deployed : Deployed) (script : Bool) (budget crew : ℕ) (show : Show) (piece : List ℕ) (old new : PartView) → Reads piece (script_part script old) (script_part script new) → (script ≡ false → new ≡ old) →
    StaysOpen (known_in deployed) (run_of (scene_of platform deployed script budget) (first_of platform deployed budget crew)) piece (script_part script old).stage (script_part script new).stage → EndsOnDemand (λ source. (run_output platform deployed script budget crew show source).need) old new
run_last platform deployed script budget crew show piece old new reads same stays =
    let names = known_in deployed in
    let whole = run_of (scene_of platform deployed script budget) (first_of platform deployed budget crew) in
    ends_up script piece old new (λ source. (run_output platform deployed script budget crew show source).need) reads same
    (λ enough. stays (answers_all names whole piece enough))

left_told : (piece : List ℕ) (a b : Option (List ℕ)) → a ≡ before piece b → IsSome a → IsSome b
left_told piece a None is some = subst IsSome is some
left_told piece a (Some rest) is some = refl

-- ---- the script's part, with a script and without one
-- a part with known contents keeps them known
pub goes_on_telling : (script : Bool) (piece : List ℕ) (old new : PartView) → Reads piece (script_part script old) (script_part script new) → (script ≡ false → new ≡ old) → KeepsTelling old new
goes_on_telling true piece old new reads same = left_told piece old.left new.left reads.left
goes_on_telling false piece old new reads same = λ some. subst (λ (p : PartView). IsSome p.left) (sym (same refl)) some

pub keeps_name : (script : Bool) (piece : List ℕ) (old new : PartView) → Reads piece (script_part script old) (script_part script new) → (script ≡ false → new ≡ old) → new.name ≡ old.name
keeps_name true piece old new reads same = reads.name
keeps_name false piece old new reads same = ap (λ (p : PartView). p.name) (same refl)

-- the part that a read fault comes from
pub broken_part : (script : Bool) (piece : List ℕ) (old new : PartView) → Reads piece (script_part script old) (script_part script new) → (script_part script new).stage ≡ Broken → IsBroken old new
broken_part true piece old new reads broken = (broken, reads.rising, reads.broke broken)
broken_part false piece old new reads broken = absurd (cc broken)

-- no byte remains of a part that has nothing to give
none_read : (piece : List ℕ) → Some [] ≡ before piece (Some []) → [] ≡ piece
none_read piece is = let all : [] ≡ piece ++ [] = cc is in all ∙ append-nil piece

-- the source that a run's part gives; without a script each one does
pub is_going : (script : Bool) (old new : PartView) (source : Source) → (new.stage ≡ Over → NoneLeft new.left) → (IsTrue script → Gives old new source) → Going (script_part script old) (script_part script new) source
is_going true old new source over gives = λ piece reads. given_goes_on piece old new source reads.left over (gives refl)
is_going false old new source over gives = λ piece reads. record { rest = source.bytes; bytes = ap (λ (l : List ℕ). l ++ source.bytes) (none_read piece reads.left); may = tt }

-- without a script nothing is asked of the part's stage
pub is_begun : (script : Bool) (part : PartView) → (IsTrue script → part.stage ≢ Fresh) → (script_part script part).stage ≢ Fresh
is_begun true part begun = begun refl
is_begun false part begun = λ fresh. absurd (cc fresh)

-- a fact by what a test has shown
pub in_cut : {P : Type 0} (Q : Type 0) (b : Bool) → b ≡ true → MatchBool b P Q → P
in_cut Q true is fact = fact
in_cut Q false is fact = absurd (cc is)

pub in_over : {Q : Type 0} (P : Type 0) (b : Bool) → b ≡ false → MatchBool b P Q → Q
in_over P true is fact = absurd (cc is)
in_over P false is fact = fact
