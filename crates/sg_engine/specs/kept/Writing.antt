-- What writes of a run have done to an output, by what its sink shows: what the streams hold, and how many writes have
-- failed.
use Rattle.std.specs.Prelude.{◌≡◌, ◌<◌, ℕ, Option, Result, Ok, Err as Error, List}
use Rattle.std.specs.Borrow.{MutBor}
use Rattle.sg_edge.specs.declared.sinks.Stream.{Stream}
use Rattle.sg_edge.specs.declared.sinks.Stream.TheVariants.{Out, Err}
use Rattle.sg_edge.specs.Sinks.{gain, GainsFront, IsWritten}
use Rattle.sg_edge.specs.declared.files.Failed.{Failed}
use Rattle.sg_engine.specs.Gains.{GainsAll, GainsFronts}

-- the text was appended to Out, and no write has failed since
pub record Wrote {O : Type 0} (contents : O → Stream → Option (List ℕ)) (faults : O → ℕ) (text : List ℕ) (old new : MutBor O) : Type 0 where
  pub same : new.ghost_name ≡ old.ghost_name
  pub out_held : contents new.now Out ≡ gain (contents old.now Out) text
  pub err_held : contents new.now Err ≡ contents old.now Err
  pub sound : faults new.now ≡ faults old.now

-- a write has failed, after a prefix of the text
pub record Broke {O : Type 0} (contents : O → Stream → Option (List ℕ)) (faults : O → ℕ) (text : List ℕ) (old new : MutBor O) : Type 0 where
  pub same : new.ghost_name ≡ old.ghost_name
  pub front : GainsFront text (contents old.now Out) (contents new.now Out)
  pub err_held : contents new.now Err ≡ contents old.now Err
  pub failed : 0 < faults new.now

-- what writing a text to Out has done
abbrev pub Writes : {O : Type 0} → (O → Stream → Option (List ℕ)) → (O → ℕ) → List ℕ → Result (Unit {0}) Failed → MutBor O → MutBor O → Type 0
Writes contents faults text (Ok done) old new = Wrote contents faults text old new
Writes contents faults text (Error why) old new = Broke contents faults text old new

-- of a text that was handed over this waits, what stands before it was appended to Out, and no write has failed since
pub record IsPut {O : Type 0} (contents : O → Stream → Option (List ℕ)) (faults : O → ℕ) (text waiting : List ℕ) (old new : MutBor O) : Type 0 where
  pub same : new.ghost_name ≡ old.ghost_name
  pub written : IsWritten text waiting (contents old.now Out) (contents new.now Out)
  pub err_held : contents new.now Err ≡ contents old.now Err
  pub sound : faults new.now ≡ faults old.now

-- what putting a text into a buffer has done
abbrev pub Puts : {O : Type 0} → (O → Stream → Option (List ℕ)) → (O → ℕ) → List ℕ → List ℕ → Result (Unit {0}) Failed → MutBor O → MutBor O → Type 0
Puts contents faults text waiting (Ok done) old new = IsPut contents faults text waiting old new
Puts contents faults text waiting (Error why) old new = Broke contents faults text old new

-- ---- at the end
-- both texts were appended, and no write has failed since
pub record Told {O : Type 0} (contents : O → Stream → Option (List ℕ)) (faults : O → ℕ) (out err : List ℕ) (old new : MutBor O) : Type 0 where
  pub same : new.ghost_name ≡ old.ghost_name
  pub all : GainsAll out err (contents old.now) (contents new.now)
  pub sound : faults new.now ≡ faults old.now

-- a write has failed, after prefixes of the texts
pub record BrokeOff {O : Type 0} (contents : O → Stream → Option (List ℕ)) (faults : O → ℕ) (out err : List ℕ) (old new : MutBor O) : Type 0 where
  pub same : new.ghost_name ≡ old.ghost_name
  pub fronts : GainsFronts out err (contents old.now) (contents new.now)
  pub failed : 0 < faults new.now

-- what writing a text to Out and then one to Err has done
abbrev pub Tells : {O : Type 0} → (O → Stream → Option (List ℕ)) → (O → ℕ) → List ℕ → List ℕ → Result (Unit {0}) Failed → MutBor O → MutBor O → Type 0
Tells contents faults out err (Ok done) old new = Told contents faults out err old new
Tells contents faults out err (Error why) old new = BrokeOff contents faults out err old new

-- Why a call says that a write or a read has failed: if it says so, a write has failed by now, and else none has since;
-- a failed read is of a broken part.
pub record HasReason {O : Type 0} (faults : O → ℕ) (tells_write tells_read : Type 0) (broke : Type 0) (old new : MutBor O) : Type 0 where
  pub same : new.ghost_name ≡ old.ghost_name
  pub write : tells_write → 0 < faults new.now
  pub sound : ¬ tells_write → faults new.now ≡ faults old.now
  pub read : tells_read → broke
