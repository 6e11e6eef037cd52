-- Ends that don't cut a run off.
use Rattle.std.proofs.Common.{◌≡◌, ◌≢◌, ◌∙◌, ap, sym, refl, ℕ, Bool, true, false, cond, Option, None, Some, option_map, Result, Ok, Err}
use Rattle.std.specs.Result.{IsErrAnd}
use Rattle.std.specs.Borrow.{MutBor}
use Rattle.sg_kernel_calls.specs.Steps.{result_of}
use Rattle.sg_kernel_calls.specs.declared.stop.Stop.{Stop}
use Rattle.sg_kernel_calls.specs.declared.stop.Stop.TheVariants as stop
use Rattle.sg_edge.specs.Files.{PartView}
use Rattle.sg_edge.specs.declared.files.Stage.TheVariants.{Broken}
use Rattle.sg_script.specs.Stands.{IsRead}
use Rattle.sg_script.specs.declared.fault.ScriptFault.{ScriptFault}
use Rattle.sg_script.specs.declared.fault.ScriptFault.TheVariants as fault
use Rattle.sg_engine.specs.declared.ended.Ended.{Ended}
use Rattle.sg_engine.specs.declared.ended.Ended.TheVariants as ended
use Rattle.sg_engine.specs.Run.{ended_at, ended_by}
use Rattle.sg_engine.specs.RunContract.{is_cut}
use Rattle.sg_engine.specs.kept.Writing.{HasReason}

uncut_not : (b : Bool) → b ≡ true → b ≡ false → ⊥
uncut_not b is isnt = absurd (let e : true ≡ false = sym is ∙ isnt in cc e)

pub not_write : (how : Ended) → is_cut how ≡ false → how ≡ ended.WriteFault → ⊥
not_write how uncut is = uncut_not (is_cut how) (ap is_cut is) uncut

pub not_memory : (how : Ended) → is_cut how ≡ false → how ≡ ended.Memory → ⊥
not_memory how uncut is = uncut_not (is_cut how) (ap is_cut is) uncut

pub ok_not : (how : Ended) (done : Unit {0}) → ◌≡◌ {A = Result (Unit {0}) Ended} (Ok done) (Err how) → ⊥
ok_not how done is = cc is

-- ---- what the exit of a `?` returns
pub exit_is : {E : Type 0} (why : E) (result : Result (Unit {0}) E) → IsErrAnd result (λ e. e ≡ why) → result ≡ Err why
exit_is why (Ok done) is = absurd is
exit_is {E} why (Err other) is = ap (λ (e : E). Err e) is

-- by what the kernel has stopped for, if it has
pub stops_so : (why : Stop) (o : Option Stop) → ◌≡◌ {A = Result (Unit {0}) Stop} (Err why) (result_of o) → ◌≡◌ {A = Option Ended} (Some (ended_by why)) (option_map ended_by o)
stops_so why None is = absurd (cc is)
stops_so why (Some other) is = let same : why ≡ other = cc is in ap (λ (stop : Stop). Some (ended_by stop)) same

pub goes_so : (done : Unit {0}) (o : Option Stop) → ◌≡◌ {A = Result (Unit {0}) Stop} (Ok done) (result_of o) → ◌≡◌ {A = Option Ended} None (option_map ended_by o)
goes_so done None is = refl
goes_so done (Some why) is = absurd (cc is)

-- so a run isn't cut off, and nothing has failed
pub stop_uncut : (why : Stop) → is_cut (ended_by why) ≡ false
stop_uncut stop.Budget = refl
stop_uncut (stop.NoRoute from to zone a b) = refl
stop_uncut (stop.TooLong from to) = refl
stop_uncut stop.Deadlock = refl
stop_uncut stop.Starved = refl

pub stop_unwritten : (why : Stop) → ended_by why ≢ ended.WriteFault
stop_unwritten why is = not_write (ended_by why) (stop_uncut why) is

pub stop_unread : (why : Stop) → ended_by why ≢ ended.ReadFault
stop_unread stop.Budget is = cc is
stop_unread (stop.NoRoute from to zone a b) is = cc is
stop_unread (stop.TooLong from to) is = cc is
stop_unread stop.Deadlock is = cc is
stop_unread stop.Starved is = cc is

-- the budget is used up
used_why : {X E : Type 0} (b : Bool) (why budget : E) (x : X) → ◌≡◌ {A = Result X E} (Err why) (cond b (Err budget) (Ok x)) → why ≡ budget
used_why true why budget x is = cc is
used_why false why budget x is = absurd (cc is)

pub ended_from : {X : Type 0} (b : Bool) (why : Stop) (x : X) (result : Result (Unit {0}) Ended) → IsErrAnd result (λ e. e ≡ ended_by why) → ◌≡◌ {A = Result X Stop} (Err why) (cond b (Err stop.Budget) (Ok x)) → result ≡ Err ended.Budget
ended_from b why x result is used = exit_is (ended_by why) result is ∙ ap (λ (s : Stop). Err (ended_by s)) (used_why b why stop.Budget x used)

-- a fault of the script is no failed write, and a failed read is of a part that is broken
pub fault_unwritten : (why : ScriptFault) → ended_at why ≢ ended.WriteFault
fault_unwritten (fault.Line number kind) is = cc is
fault_unwritten fault.Read is = cc is
fault_unwritten fault.Memory is = cc is

pub fault_read : (why : ScriptFault) (part : PartView) → IsRead (Err why) part → ended_at why ≡ ended.ReadFault → part.stage ≡ Broken
fault_read (fault.Line number kind) part read is = absurd (cc is)
fault_read fault.Read part read is = read
fault_read fault.Memory part read is = absurd (cc is)

-- ---- causes
-- no write and no read has failed
pub no_cause : {O : Type 0} (faults : O → ℕ) (how : Ended) (result : Result (Unit {0}) Ended) (broke : Type 0) (out : MutBor O) → result ≡ Err how → how ≢ ended.WriteFault → (how ≡ ended.ReadFault → broke) →
    HasReason faults (result ≡ Err ended.WriteFault) (result ≡ Err ended.ReadFault) broke out out
no_cause faults how result broke out is unwritten read = record {
  same = refl;
  write = λ written. absurd (unwritten (cc (sym is ∙ written)));
  sound = λ isnt. refl;
  read = λ failed. read (cc (sym is ∙ failed));
}
