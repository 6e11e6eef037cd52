-- How the steps of the whole call come together.
use Rattle.std.proofs.Common.{◌≡◌, ◌≢◌, ◌<◌, ◌≤◌, ◌+◌, ◌-◌, ◌∙◌, ◌⊎◌, inl, inr, sym, ap, ap₂, subst, refl, ℕ, List, [], ◌∷◌, ◌++◌, length, get_or, drop, Bool, true, false, Option, None, Some, Result, Ok, arith, rules}
use Rattle.std.proofs.Common as C
use Rattle.sg_base.specs.declared.status.Status.{Status}
use Rattle.sg_base.specs.declared.status.Status.TheVariants as S
use Rattle.sg_edge.specs.declared.sinks.Stream.{Stream}
use Rattle.sg_edge.specs.declared.sinks.Stream.TheVariants.{Out, Err}
use Rattle.sg_edge.specs.Sinks.{gain}
use Rattle.sg_edge.specs.Files.{PartView, KeepsTelling, TakesUpTo}
use Rattle.sg_edge.specs.Sources.{Source, Gives}
use Rattle.sg_engine.specs.declared.ended.Ended.{Ended}
use Rattle.sg_engine.specs.declared.ended.Ended.TheVariants as E
use Rattle.sg_edge.specs.Cause.{HasCause}
use Rattle.sg_edge.specs.declared.files.Stage.{Stage}
use Rattle.sg_edge.specs.declared.files.Stage.TheVariants.{Fresh, Begun, Over, Broken}
use Rattle.sg_edge.proofs.Reading.{before-nil}
use Rattle.sg_engine.specs.Gains.{GainsFronts}
use Rattle.sg_engine.specs.RunContract.{AreEnough, Ends, EndsOnDemand, IsBroken, is_cut as run_cut, TakesContexts as RunTakes, TakesFirst as RunTakesFirst}
use Rattle.sg_engine.specs.declared.show.Show.{Show}
use Rattle.sg_engine.specs.Output.{Output, run_output}
use Rattle.simgrid_replay.specs.declared.refusal.Refusal.{Refusal}
use Rattle.simgrid_replay.specs.declared.refusal.Refusal.TheVariants as R
use Rattle.simgrid_replay.specs.Outcome.{Outcome, IsWhole, Prints, cuts_output_short, is_refusal, of_run, or_refused, status_of, one_text, refusal_outcome}
use Rattle.std.specs.Prelude.{IfOk, IsErr, IsTrue, MatchBool, MatchResult}
use Rattle.std.proofs.lemmas.List.{length-drop}
use Rattle.simgrid_replay.specs.Contexts.{TakesContexts, TakesFirst}
use Rattle.sg_edge.specs.declared.files.Part.{Part}
use Rattle.sg_edge.specs.declared.files.Part.TheVariants.{Platform, Deployment, Script}
use Rattle.sg_words.specs.CommandLine as line
use Rattle.sg_words.specs.CommandLine.{Asked, Request}
use Rattle.simgrid_replay.specs.PartSources.{TextsGive}
use Rattle.simgrid_replay.specs.kept.Reading.{LeavesContexts, PlatformDecides}
use Rattle.simgrid_replay.specs.PartOrder.{IsTextBroken, SparesRest, StopsOnDemand}
use Rattle.simgrid_replay.specs.Settings.{Setting, platform_given}
use Rattle.sg_engine.specs.declared.setup.Setup.{Setup}
use Rattle.sg_platform_rows.specs.Deployment.{started_number}
use Rattle.sg_platform_rows.specs.Platform.{Platform as Loaded}
use Rattle.simgrid_replay.specs.Requests.{has_parts, has_script, show_of}

-- prefixes of nothing are prefixes of anything
fronts_nothing : (out err : List ℕ) (old new : Stream → Option (List ℕ)) → GainsFronts [] [] old new → GainsFronts out err old new
fronts_nothing out err old new f = record {
  out_done = [];
  out_rest = out;
  err_done = [];
  err_rest = err;
  out_split = refl;
  err_split = refl;
  late = inl refl;
  out_held = f.out_held ∙ ap (gain (old Out)) (nothing f.out_done f.out_rest f.out_split);
  err_held = f.err_held ∙ ap (gain (old Err)) (nothing f.err_done f.err_rest f.err_split);
}
  where
    nothing : (front rest : List ℕ) → [] ≡ front ++ rest → front ≡ []
    nothing [] rest is = refl
    nothing (x ∷ front) rest is = absurd (let e : [] ≡ x ∷ (front ++ rest) = is in cc)

pub prints_nothing : (want : Outcome) (how : Status) (old new : Stream → Option (List ℕ)) → Prints (one_text Err [] S.Memory) how old new → Prints want how old new
prints_nothing want S.WriteFault old new p = fronts_nothing want.out want.err old new p
prints_nothing want S.Memory old new p = fronts_nothing want.out want.err old new p
prints_nothing want S.Completed old new p = absurd (let e : S.Memory ≡ S.Completed = p.0 in cc)
prints_nothing want S.Words old new p = absurd (let e : S.Memory ≡ S.Words = p.0 in cc)
prints_nothing want S.Platform old new p = absurd (let e : S.Memory ≡ S.Platform = p.0 in cc)
prints_nothing want S.Deployment old new p = absurd (let e : S.Memory ≡ S.Deployment = p.0 in cc)
prints_nothing want S.Script old new p = absurd (let e : S.Memory ≡ S.Script = p.0 in cc)
prints_nothing want S.Deadlock old new p = absurd (let e : S.Memory ≡ S.Deadlock = p.0 in cc)
prints_nothing want S.Starved old new p = absurd (let e : S.Memory ≡ S.Starved = p.0 in cc)
prints_nothing want S.Budget old new p = absurd (let e : S.Memory ≡ S.Budget = p.0 in cc)
prints_nothing want S.Route old new p = absurd (let e : S.Memory ≡ S.Route = p.0 in cc)
prints_nothing want S.ReadFault old new p = absurd (let e : S.Memory ≡ S.ReadFault = p.0 in cc)

-- a refusal is reported as the definition has it, or memory ran out
pub refusal_prints : {X : Type 0} (after : Result X Refusal → Outcome) (given : Result X Refusal) (why : Refusal) (how : Status) (old new : Stream → Option (List ℕ)) → ((r : Refusal) → after (C.Err r) ≡ refusal_outcome r) → (◌≢◌ {A = Result X Refusal} (C.Err why) (C.Err R.Memory) → C.Err why ≡ given) → Prints (refusal_outcome why) how old new → Prints (after given) how old new
refusal_prints after given R.Memory how old new is known p = prints_nothing (after given) how old new p
refusal_prints after given (R.Platform fault) how old new is known p = rw (sym (known (λ e. cc)), is (R.Platform fault)) p
refusal_prints after given (R.Zones fault) how old new is known p = rw (sym (known (λ e. cc)), is (R.Zones fault)) p
refusal_prints after given (R.Deployment fault) how old new is known p = rw (sym (known (λ e. cc)), is (R.Deployment fault)) p
refusal_prints after given (R.ReplayUnderRun row) how old new is known p = rw (sym (known (λ e. cc)), is (R.ReplayUnderRun row)) p
refusal_prints after given (R.TooFewContexts actors contexts) how old new is known p = rw (sym (known (λ e. cc)), is (R.TooFewContexts actors contexts)) p
refusal_prints after given R.ReadPlatform how old new is known p = rw (sym (known (λ e. cc)), is R.ReadPlatform) p
refusal_prints after given R.ReadDeployment how old new is known p = rw (sym (known (λ e. cc)), is R.ReadDeployment) p

-- a part gives the same from its begin on, since the begin takes nothing
pub begun_gives : (old mid new : PartView) (source : Source) → mid.left ≡ old.left → Gives old new source → Gives mid new source
begun_gives old mid new source same gives = record { all = gives.all; rest = gives.rest; told_old = same ∙ gives.told_old; told_new = gives.told_new; bytes = gives.bytes; broken = gives.broken }

ended_prints : (run : Output) (how : Ended) (old new : Stream → Option (List ℕ)) → Ends run.out run.err run.ended how old new → Prints (of_run run) (status_of how) old new
ended_prints run E.Completed old new ends = (ap status_of ends.0, ends.1)
ended_prints run E.Deadlock old new ends = (ap status_of ends.0, ends.1)
ended_prints run E.Starved old new ends = (ap status_of ends.0, ends.1)
ended_prints run E.Budget old new ends = (ap status_of ends.0, ends.1)
ended_prints run (E.Script number kind) old new ends = (ap status_of ends.0, ends.1)
ended_prints run (E.NoRoute from to zone a b) old new ends = (ap status_of ends.0, ends.1)
ended_prints run (E.TooLong from to) old new ends = (ap status_of ends.0, ends.1)
ended_prints run E.ReadFault old new ends = (ap status_of ends.0, ends.1)
ended_prints run E.WriteFault old new ends = ends
ended_prints run E.Memory old new ends = ends

-- the status of a failed write and of a failed read, and of nothing else
write_status : (how : Ended) → status_of how ≡ S.WriteFault → how ≡ E.WriteFault
write_status E.Completed is = cc is
write_status E.Deadlock is = cc is
write_status E.Starved is = cc is
write_status E.Budget is = cc is
write_status (E.Script number kind) is = cc is
write_status (E.NoRoute from to zone a b) is = cc is
write_status (E.TooLong from to) is = cc is
write_status E.ReadFault is = cc is
write_status E.WriteFault is = refl
write_status E.Memory is = cc is

read_status : (how : Ended) → status_of how ≡ S.ReadFault → how ≡ E.ReadFault
read_status E.Completed is = cc is
read_status E.Deadlock is = cc is
read_status E.Starved is = cc is
read_status E.Budget is = cc is
read_status (E.Script number kind) is = cc is
read_status (E.NoRoute from to zone a b) is = cc is
read_status (E.TooLong from to) is = cc is
read_status E.ReadFault is = refl
read_status E.WriteFault is = cc is
read_status E.Memory is = cc is

-- a script that is broken at the end of a run broke since its begin
broke_since : (old mid new : PartView) → old.faults ≤ mid.faults → (mid.stage ≡ Broken → old.faults < mid.faults) → mid.faults ≤ new.faults → (mid.stage ≡ Broken) ⊎ (mid.faults < new.faults) → old.faults < new.faults
broke_since old mid new rising broke more (inl before) = let first = broke before in omega (arith, first, more)
broke_since old mid new rising broke more (inr since) = omega (arith, rising, since)

-- the cause of a run's fault is the call's
pub run_cause : (how : Ended) (code : Status) (had faults : ℕ) (old mid new : PartView) → code ≡ status_of how → old.faults ≤ mid.faults → (mid.stage ≡ Broken → old.faults < mid.faults) →
    HasCause (how ≡ E.WriteFault) (how ≡ E.ReadFault) had faults (IsBroken mid new) →
    HasCause (code ≡ S.WriteFault) (code ≡ S.ReadFault) had faults ((new.stage ≡ Broken) × (old.faults < new.faults))
run_cause how code had faults old mid new is rising broke cause = record {
  write = λ told. cause.write (write_status how (sym is ∙ told));
  sound = λ untold. cause.sound (λ ended. untold (is ∙ ap status_of ended));
  read = λ told. let broken = cause.read (read_status how (sym is ∙ told)) in (broken.0, broke_since old mid new rising broke broken.1 broken.2);
}

-- what a run has written is what the call prints
pub run_prints : (run : Output) (how : Ended) (code : Status) (old new : Stream → Option (List ℕ)) → code ≡ status_of how → Ends run.out run.err run.ended how old new → Prints (of_run run) code old new
run_prints run how code old new is ends = subst (λ (s : Status). Prints (of_run run) s old new) (sym is) (ended_prints run how old new ends)

as_job : (job : Asked) (contexts : ℕ) (on : Setting) (script : Bool) (budget : ℕ) (show : Show) (source : Source) → script ≡ has_script job.request → budget ≡ job.budget → show ≡ show_of job.request job.quiet →
    run_output on.platform on.deployment script budget contexts show source ≡ run_output on.platform on.deployment (has_script job.request) job.budget contexts (show_of job.request job.quiet) source
as_job job contexts on script budget show source scripted counted shown =
    ap (λ (b : Bool). run_output on.platform on.deployment b budget contexts show source) scripted
    ∙ ap₂ (λ (n : ℕ) (s : Show). run_output on.platform on.deployment (has_script job.request) n contexts s source) counted shown

-- the same on the terms of a job
pub run_prints_on : (job : Asked) (contexts : ℕ) (on : Setting) (script : Bool) (budget : ℕ) (show : Show) (source : Source) (how : Ended) (code : Status) (old new : Stream → Option (List ℕ)) →
    script ≡ has_script job.request → budget ≡ job.budget → show ≡ show_of job.request job.quiet → code ≡ status_of how →
    Ends (run_output on.platform on.deployment script budget contexts show source).out (run_output on.platform on.deployment script budget contexts show source).err
    (run_output on.platform on.deployment script budget contexts show source).ended how old new →
    Prints (or_refused job contexts source (Ok on)) code old new
run_prints_on job contexts on script budget show source how code old new scripted counted shown is ends =
    subst (λ (o : Output). Prints (of_run o) code old new) (as_job job contexts on script budget show source scripted counted shown)
    (run_prints (run_output on.platform on.deployment script budget contexts show source) how code old new is ends)

-- a run is cut off as its call is
cut_as : (how : Ended) → run_cut how ≡ cuts_output_short (status_of how)
cut_as E.Completed = refl
cut_as E.Deadlock = refl
cut_as E.Starved = refl
cut_as E.Budget = refl
cut_as (E.Script number kind) = refl
cut_as (E.NoRoute from to zone a b) = refl
cut_as (E.TooLong from to) = refl
cut_as E.ReadFault = refl
cut_as E.WriteFault = refl
cut_as E.Memory = refl

-- what a run leaves in the pool is what its call leaves
pub run_leaves_on : (job : Asked) (contexts : ℕ) (on : Setting) (script : Bool) (budget : ℕ) (show : Show) (source : Source) (how : Ended) (code : Status) (crew left : ℕ) →
    script ≡ has_script job.request → budget ≡ job.budget → show ≡ show_of job.request job.quiet → code ≡ status_of how →
    RunTakes (run_output on.platform on.deployment script budget contexts show source).contexts how crew left →
    LeavesContexts (or_refused job contexts source (Ok on)).contexts code crew left
run_leaves_on job contexts on script budget show source how code crew left scripted counted shown is leaves =
    subst (λ (o : Output). LeavesContexts o.contexts code crew left) (as_job job contexts on script budget show source scripted counted shown)
    (subst (λ (cut : Bool). MatchBool cut (crew ≤ left + (run_output on.platform on.deployment script budget contexts show source).contexts) (crew ≡ left + (run_output on.platform on.deployment script budget contexts show source).contexts))
    (cut_as how ∙ sym (ap cuts_output_short is)) leaves)

-- the same of the work
pub run_counts_on : (job : Asked) (contexts : ℕ) (on : Setting) (script : Bool) (budget : ℕ) (show : Show) (source : Source) (start count : ℕ) →
    script ≡ has_script job.request → budget ≡ job.budget → show ≡ show_of job.request job.quiet →
    count ≤ start + (run_output on.platform on.deployment script budget contexts show source).work → count ≤ start + (or_refused job contexts source (Ok on)).work
run_counts_on job contexts on script budget show source start count scripted counted shown work =
    subst (λ (o : Output). count ≤ start + o.work) (as_job job contexts on script budget show source scripted counted shown) work

-- and of what is taken of the script
pub run_needs_on : (job : Asked) (contexts : ℕ) (on : Setting) (script : Bool) (budget : ℕ) (show : Show) (source : Source) (old mid new : PartView) →
    script ≡ has_script job.request → budget ≡ job.budget → show ≡ show_of job.request job.quiet → mid.left ≡ old.left →
    TakesUpTo ((run_output on.platform on.deployment script budget contexts show source).need + 4095) mid new → TakesUpTo ((or_refused job contexts source (Ok on)).need + 4095) old new
run_needs_on job contexts on script budget show source old mid new scripted counted shown left takes =
    let all : TakesUpTo ((or_refused job contexts source (Ok on)).need + 4095) mid new = subst (λ (o : Output). TakesUpTo (o.need + 4095) mid new) (as_job job contexts on script budget show source scripted counted shown) takes in
    record { bytes = all.bytes; left = sym left ∙ all.left; few = all.few }

-- of a script that was begun and read by a run no read met the end or failed if what was taken is enough
pub run_stops_on : (job : Asked) (contexts : ℕ) (on : Setting) (script : Bool) (budget : ℕ) (show : Show) (old mid new : PartView) →
    script ≡ has_script job.request → budget ≡ job.budget → show ≡ show_of job.request job.quiet → mid.left ≡ old.left → mid.stage ≢ Over →
    EndsOnDemand (λ source. (run_output on.platform on.deployment script budget contexts show source).need) mid new → StopsOnDemand (λ source. (or_refused job contexts source (Ok on)).need) old new
run_stops_on job contexts on script budget show old mid new scripted counted shown left unread ends =
    let same : (taken : List ℕ) → AreEnough (λ source. (or_refused job contexts source (Ok on)).need) taken → AreEnough (λ source. (run_output on.platform on.deployment script budget contexts show source).need) taken =
    λ taken enough rest broken. omega (arith, enough rest broken, ap (λ (o : Output). o.need) (as_job job contexts on script budget show (record { bytes = taken ++ rest; broken = broken }) scripted counted shown)) in
    record {
      taken = ends.taken;
      left = sym left ∙ ends.left;
      unended = λ enough over. unread (sym (ends.last (same ends.taken enough)) ∙ over);
      unbroken = λ enough broken. ends.shut (not_begun mid.stage (sym (ends.last (same ends.taken enough)) ∙ broken));
    }
  where
    not_begun : (stage : Stage) → stage ≡ Broken → stage ≢ Begun
    not_begun stage is also = cc (is, also)

-- nor if none was read
pub none_stops : (need : Source → ℕ) (old new : PartView) → old.stage ≡ Fresh → new ≡ old → StopsOnDemand need old new
none_stops need old new fresh same =
    let stage : new.stage ≡ Fresh = ap (λ (v : PartView). v.stage) same ∙ fresh in
    record {
      taken = [];
      left = ap (λ (v : PartView). v.left) (sym same) ∙ sym (before-nil new.left);
      unended = λ enough over. cc (stage, over);
      unbroken = λ enough broken. refl;
    }

-- the contexts that a run takes are the call's
pub seats_run : {A : Type 0} (on : Setting) (how : Ended) (code : Status) (old new : List A) → code ≡ status_of how → RunTakesFirst on.deployment how old new → TakesFirst (Ok on) code old new
seats_run on how code old new is first = record {
  taken = first.taken;
  least = λ some. first.least (λ memory. some (is ∙ ap status_of memory));
  most = first.most;
  within = first.within;
  left = first.left;
}

pub none_most : (given : Result Setting Refusal) → MatchResult given (λ on. 0 ≤ length on.deployment.actors) (λ why. ◌≡◌ {A = ℕ} 0 0)
none_most (Ok on) = omega arith
none_most (C.Err why) = refl

-- if there is no run no actor takes a context
pub none_taken : {A : Type 0} (given : Result Setting Refusal) (why : Refusal) (how : Status) (crew : List A) →
    (◌≢◌ {A = Result Setting Refusal} (C.Err why) (C.Err R.Memory) → C.Err why ≡ given) → (why ≡ R.Memory → how ≡ S.Memory) → TakesFirst given how crew crew
none_taken given why how crew known memory = record {
  taken = 0;
  least = λ some. subst (λ (r : Result Setting Refusal). IfOk r (λ on. started_number on.deployment ≤ 0)) (known (λ e. some (memory (cc)))) tt;
  most = none_most given;
  within = omega (arith);
  left = refl;
}

leaves_all : (cut : Bool) (want crew : ℕ) → (cut ≡ false → want ≡ 0) → MatchBool cut (crew ≤ crew + want) (crew ≡ crew + want)
leaves_all true want crew none = omega (arith)
leaves_all false want crew none = let is : want ≡ 0 = none refl in omega (arith, is)

refusal_none : (why : Refusal) → (refusal_outcome why).contexts ≡ 0
refusal_none (R.Platform fault) = refl
refusal_none (R.Zones fault) = refl
refusal_none (R.Deployment fault) = refl
refusal_none (R.ReplayUnderRun row) = refl
refusal_none (R.TooFewContexts actors contexts) = refl
refusal_none R.ReadPlatform = refl
refusal_none R.ReadDeployment = refl
refusal_none R.Memory = refl

-- and the whole pool remains
pub refusal_leaves : (after : Result Setting Refusal → Outcome) (given : Result Setting Refusal) (why : Refusal) (how : Status) (crew : ℕ) → ((r : Refusal) → after (C.Err r) ≡ refusal_outcome r) →
    (◌≢◌ {A = Result Setting Refusal} (C.Err why) (C.Err R.Memory) → C.Err why ≡ given) → (why ≡ R.Memory → how ≡ S.Memory) → LeavesContexts (after given).contexts how crew crew
refusal_leaves after given why how crew is known memory =
    leaves_all (cuts_output_short how) (after given).contexts crew
    (λ uncut. ap (λ (r : Result Setting Refusal). (after r).contexts) (sym (known (λ e. absurd (let cut : true ≡ false = sym (ap cuts_output_short (memory (cc))) ∙ uncut in cc)))) ∙ ap (λ (o : Outcome). o.contexts) (is why) ∙ refusal_none why)

-- as many are taken as aren't left
left_number : {A : Type 0} (taken : ℕ) (old new : List A) → taken ≤ length old → new ≡ drop taken old → length old ≡ length new + taken
left_number taken old new within is =
    let rest : length new ≡ length old - taken = ap length is ∙ length-drop taken old in
    omega (arith, rest, within)

-- of the first contexts that were taken, how many
pub takes_contexts : {A : Type 0} (given : Result Setting Refusal) (want : Outcome) (how : Status) (old new : List A) → TakesFirst given how old new →
    LeavesContexts want.contexts how (length old) (length new) → TakesContexts want how old new
takes_contexts given want how old new first leaves = record {
  taken = first.taken;
  most = few (cuts_output_short how) leaves;
  all = λ uncut. exact (cuts_output_short how) uncut leaves;
  left = first.left;
}
  where
    number : length old ≡ length new + first.taken
    number = left_number first.taken old new first.within first.left

    few : (cut : Bool) → MatchBool cut (length old ≤ length new + want.contexts) (length old ≡ length new + want.contexts) → first.taken ≤ want.contexts
    few true is = let n = number in omega (arith, n, is)
    few false is = let n = number in omega (arith, n, is)

    exact : (cut : Bool) → cut ≡ false → MatchBool cut (length old ≤ length new + want.contexts) (length old ≡ length new + want.contexts) → first.taken ≡ want.contexts
    exact true uncut is = absurd (cc uncut)
    exact false uncut is = let n = number in omega (arith, n, is)

-- what a run comes to is what the definition says if nothing is refused
pub setting_prints : (job : Asked) (contexts : ℕ) (s : Source) (given : Result Setting Refusal) (on : Setting) (code : Status) (old new : Stream → Option (List ℕ)) → given ≡ Ok on →
    Prints (or_refused job contexts s (Ok on)) code old new → Prints (or_refused job contexts s given) code old new
setting_prints job contexts s given on code old new is prints = subst (λ (r : Result Setting Refusal). Prints (or_refused job contexts s r) code old new) (sym is) prints

pub setting_counts : (job : Asked) (contexts : ℕ) (s : Source) (given : Result Setting Refusal) (on : Setting) (start count : ℕ) → given ≡ Ok on →
    count ≤ start + (or_refused job contexts s (Ok on)).work → count ≤ start + (or_refused job contexts s given).work
setting_counts job contexts s given on start count is work = subst (λ (r : Result Setting Refusal). count ≤ start + (or_refused job contexts s r).work) (sym is) work

pub setting_needs : (job : Asked) (contexts : ℕ) (s : Source) (given : Result Setting Refusal) (on : Setting) (old mid new : PartView) → given ≡ Ok on → mid ≡ old →
    TakesUpTo ((or_refused job contexts s (Ok on)).need + 4095) mid new → TakesUpTo ((or_refused job contexts s given).need + 4095) old new
setting_needs job contexts s given on old mid new is same takes =
    subst (λ (v : PartView). TakesUpTo ((or_refused job contexts s given).need + 4095) v new) same
    (subst (λ (r : Result Setting Refusal). TakesUpTo ((or_refused job contexts s r).need + 4095) mid new) (sym is) takes)

pub setting_stops : (job : Asked) (contexts : ℕ) (given : Result Setting Refusal) (on : Setting) (old mid new : PartView) → given ≡ Ok on → mid ≡ old →
    StopsOnDemand (λ s. (or_refused job contexts s (Ok on)).need) mid new → StopsOnDemand (λ s. (or_refused job contexts s given).need) old new
setting_stops job contexts given on old mid new is same stops =
    subst (λ (v : PartView). StopsOnDemand (λ s. (or_refused job contexts s given).need) v new) same
    (subst (λ (r : Result Setting Refusal). StopsOnDemand (λ s. (or_refused job contexts s r).need) mid new) (sym is) stops)

pub setting_leaves : (job : Asked) (contexts : ℕ) (s : Source) (given : Result Setting Refusal) (on : Setting) (how : Status) (crew left : ℕ) → given ≡ Ok on →
    LeavesContexts (or_refused job contexts s (Ok on)).contexts how crew left → LeavesContexts (or_refused job contexts s given).contexts how crew left
setting_leaves job contexts s given on how crew left is leaves = subst (λ (r : Result Setting Refusal). LeavesContexts (or_refused job contexts s r).contexts how crew left) (sym is) leaves

-- what a run has taken was taken for what was given
pub setting_seats : {A : Type 0} (given : Result Setting Refusal) (on : Setting) (how : Status) (old new : List A) → given ≡ Ok on → TakesFirst (Ok on) how old new → TakesFirst given how old new
setting_seats given on how old new is first = subst (λ (r : Result Setting Refusal). TakesFirst r how old new) (sym is) first

-- a setting that is there is no refusal
pub not_refused : {X E : Type 0} (given : Result X E) (on : X) → given ≡ Ok on → IsErr given → ⊥
not_refused {X = X} {E = E} given on is err = let no : IsErr {T = X} {E = E} (Ok on) = subst (λ (r : Result X E). IsErr r) is err in cc no

-- a platform that is there wasn't refused
pub platform_decides : (result : Result Setup Refusal) (on : Loaded) (old new : Part → PartView) → ((p : Source) → Gives (old Platform) (new Platform) p → Ok on ≡ platform_given p) → PlatformDecides true result old new
platform_decides result on old new is = record {
  refused = λ p gives err ok. absurd (not_refused (platform_given p) on (sym (is p gives)) err);
  behind = λ p gives err. absurd (not_refused (platform_given p) on (sym (is p gives)) err);
}

-- a platform and a deployment that weren't broken before the script was begun aren't after it
pub none_broken : {X : Type 0} (mid new : Part → PartView) → new Platform ≡ mid Platform → new Deployment ≡ mid Deployment →
    (mid Platform).stage ≢ Broken → (mid Deployment).stage ≢ Broken → IsTextBroken new → X
none_broken mid new same also platform deployment (inl broken) = absurd (platform (ap (λ (v : PartView). v.stage) (sym same) ∙ broken))
none_broken mid new same also platform deployment (inr broken) = absurd (deployment (ap (λ (v : PartView). v.stage) (sym also) ∙ broken))

-- what the platform and the deployment gave before the script was begun
pub texts_before : (request : Request) (old mid new : Part → PartView) (p d : Source) → new Platform ≡ mid Platform → new Deployment ≡ mid Deployment →
    TextsGive request old new p d → TextsGive request old mid p d
texts_before request old mid new p d same also texts = record {
  platform = λ has. subst (λ (v : PartView). Gives (old Platform) v p) same (texts.platform has);
  deployment = λ has. subst (λ (v : PartView). Gives (old Deployment) v d) also (texts.deployment has);
}

-- what the script gives from its begin on
pub script_after : (request : Request) (old mid new : Part → PartView) (s : Source) → mid Script ≡ old Script → (IsTrue (has_script request) → Gives (old Script) (new Script) s)
    → IsTrue (has_script request) → Gives (mid Script) (new Script) s
script_after request old mid new s same gives = λ has. subst (λ (v : PartView). Gives v (new Script) s) (sym same) (gives has)

-- what is made from numbers has no script
pub partless : (request : Request) → has_parts request ≡ false → has_script request ≡ false
partless (line.replay p d s) none = absurd (cc none)
partless (line.run p d) none = refl
partless (line.churn seed actors steps) none = refl

-- a part whose contents stay known keeps them known wherever it is the same
tells_as : (old mid new : PartView) → new ≡ mid → KeepsTelling old mid → KeepsTelling old new
tells_as old mid new same tells = subst (λ (v : PartView). KeepsTelling old v) (sym same) tells

-- what stays known before a part is begun and after it stays known
pub telling_before : (old mid new : Part → PartView) → ((part : Part) → KeepsTelling (old part) (mid part)) → mid Script ≡ old Script → KeepsTelling (mid Script) (new Script) →
    ((part : Part) → part ≢ Script → new part ≡ mid part) → (part : Part) → KeepsTelling (old part) (new part)
telling_before old mid new tells same script others Platform = tells_as (old Platform) (mid Platform) (new Platform) (others Platform (λ e. cc)) (tells Platform)
telling_before old mid new tells same script others Deployment = tells_as (old Deployment) (mid Deployment) (new Deployment) (others Deployment (λ e. cc)) (tells Deployment)
telling_before old mid new tells same script others Script = subst (λ (v : PartView). KeepsTelling v (new Script)) same script

-- the same of a platform and then a deployment
pub telling_texts : (old mid new : Part → PartView) → KeepsTelling (old Platform) (mid Platform) → ((part : Part) → part ≢ Platform → mid part ≡ old part) →
    KeepsTelling (mid Deployment) (new Deployment) → ((part : Part) → part ≢ Deployment → new part ≡ mid part) → (part : Part) → KeepsTelling (old part) (new part)
telling_texts old mid new platform first deployment second Platform = tells_as (old Platform) (mid Platform) (new Platform) (second Platform (λ e. cc)) platform
telling_texts old mid new platform first deployment second Deployment = subst (λ (v : PartView). KeepsTelling v (new Deployment)) (first Deployment (λ e. cc)) deployment
telling_texts old mid new platform first deployment second Script =
    tells_as (old Script) (old Script) (new Script) (second Script (λ e. cc) ∙ first Script (λ e. cc)) (λ told. told)

-- what isn't refused spares what it likes
pub unrefused_spares : (how : Status) (old new : Part → PartView) → is_refusal how ≡ false → SparesRest how old new
unrefused_spares how old new not = record {
  platform = λ is. absurd (let e : true ≡ false = sym (ap is_refusal is) ∙ not in cc);
  deployment = λ is. absurd (let e : true ≡ false = sym (ap is_refusal is) ∙ not in cc);
}

-- if no write failed, the outcome is there whole, or memory ran out
whole_or_memory : (want : Outcome) (how : Status) (had faults : ℕ) (broke : Type 0) (old new : Stream → Option (List ℕ)) → Prints want how old new →
    HasCause (how ≡ S.WriteFault) (how ≡ S.ReadFault) had faults broke → faults ≡ 0 → (how ≡ S.Memory) ⊎ IsWhole want how old new
whole_or_memory want S.WriteFault had faults broke old new prints cause none = absurd (let some = cause.write refl in omega (arith, some, none))
whole_or_memory want S.Memory had faults broke old new prints cause none = inl refl
whole_or_memory want S.Completed had faults broke old new prints cause none = inr prints
whole_or_memory want S.Words had faults broke old new prints cause none = inr prints
whole_or_memory want S.Platform had faults broke old new prints cause none = inr prints
whole_or_memory want S.Deployment had faults broke old new prints cause none = inr prints
whole_or_memory want S.Script had faults broke old new prints cause none = inr prints
whole_or_memory want S.Deadlock had faults broke old new prints cause none = inr prints
whole_or_memory want S.Starved had faults broke old new prints cause none = inr prints
whole_or_memory want S.Budget had faults broke old new prints cause none = inr prints
whole_or_memory want S.Route had faults broke old new prints cause none = inr prints
whole_or_memory want S.ReadFault had faults broke old new prints cause none = inr prints

-- if memory doesn't run out it is there whole
pub whole_of : (want : Outcome) (how : Status) (had faults : ℕ) (broke : Type 0) (old new : Stream → Option (List ℕ)) → Prints want how old new →
    HasCause (how ≡ S.WriteFault) (how ≡ S.ReadFault) had faults broke → faults ≡ 0 → how ≢ S.Memory → IsWhole want how old new
whole_of want how had faults broke old new prints cause none some = all (whole_or_memory want how had faults broke old new prints cause none)
  where
    all : (how ≡ S.Memory) ⊎ IsWhole want how old new → IsWhole want how old new
    all (inl memory) = absurd (some memory)
    all (inr whole) = whole

-- what completes by the definition says so, or that memory ran out
pub completed_of : (want : Outcome) (how : Status) (had faults : ℕ) (broke : Type 0) (old new : Stream → Option (List ℕ)) → Prints want how old new →
    HasCause (how ≡ S.WriteFault) (how ≡ S.ReadFault) had faults broke → faults ≡ 0 → want.status ≡ S.Completed → (how ≡ S.Completed) ⊎ (how ≡ S.Memory)
completed_of want how had faults broke old new prints cause none done = told (whole_or_memory want how had faults broke old new prints cause none)
  where
    told : (how ≡ S.Memory) ⊎ IsWhole want how old new → (how ≡ S.Completed) ⊎ (how ≡ S.Memory)
    told (inl memory) = inr memory
    told (inr whole) = inl (sym whole.0 ∙ done)
