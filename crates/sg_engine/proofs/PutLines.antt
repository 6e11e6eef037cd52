-- Lines that are put one after another.
use Rattle.std.proofs.Common.{◌≡◌, ◌∙◌, sym, ap, refl, Result, Ok, Err, ℕ, ◌+◌, ◌-◌, ◌*◌, ◌/◌, ◌%◌, ◌^◌, ◌<◌, ◌≤◌, List, [], ◌∷◌, ◌++◌, length, get_or, drop, Option, None, Some, arith, append_assoc}
use Rattle.std.specs.Borrow.{MutBor}
use Rattle.std.proofs.lemmas.List.{append-nil, at_drop_more, at_drop_all}
use Rattle.sg_base.specs.declared.trace_record.Record.{Record}
use Rattle.sg_edge.specs.declared.files.Failed.{Failed}
use Rattle.sg_edge.specs.declared.sinks.Stream.{Stream}
use Rattle.sg_actor_states.specs.Actors.{not_suspended}
use Rattle.sg_actor_states.specs.declared.state.Actor.{Actor}
use Rattle.sg_actor_states.specs.declared.state.State.TheVariants.{Ended}
use Rattle.sg_platform_rows.specs.Deployment.{Deployed}
use Rattle.sg_platform_rows.specs.Platform.{Platform}
use Rattle.sg_platform_rows.specs.declared.rows.HostRow.{HostRow}
use Rattle.sg_trace.specs.Line.{line_of}
use Rattle.sg_engine.specs.declared.plan.Plan.{Plan}
use Rattle.sg_engine.specs.declared.show.Show.{Show}
use Rattle.sg_engine.specs.declared.show.Show.TheVariants.{All, Quiet, Summary}
use Rattle.sg_edge.specs.Sinks.{gain}
use Rattle.sg_engine.specs.kept.Stretches.{trace_in}
use Rattle.sg_engine.specs.kept.Writing.{IsPut, Broke, Puts, Wrote, Writes}
use Rattle.sg_engine.specs.Output.{energy_last, stuck_last, trace_of}
use Rattle.sg_engine.specs.kept.Listed.{energy_lines, line_if, stuck_lines}
use Rattle.sg_engine.proofs.Fronts.{put_on, put_as, broke_on, wrote_all}
use Rattle.sg_engine.proofs.Waiting.{adds_front, adds_then, front_adds}

-- ---- one line of several
-- a line that stands first in what is left was put
pub line_put : {O : Type 0} {contents : O → Stream → Option (List ℕ)} {faults : O → ℕ} (whole buffer line left rest waiting : List ℕ) (old mid new : MutBor O) → left ≡ line ++ rest → IsPut contents faults whole (buffer ++ left) old mid → IsPut contents faults (buffer ++ line) waiting mid new → IsPut contents faults whole (waiting ++ rest) old new
line_put whole buffer line left rest waiting old mid new first put then =
    put_on whole (buffer ++ line) rest waiting old mid new (put_as whole (buffer ++ left) (buffer ++ line ++ rest) old mid (ap (λ (l : List ℕ). buffer ++ l) first ∙ sym (append_assoc buffer line rest)) put) then

pub line_broke : {O : Type 0} {contents : O → Stream → Option (List ℕ)} {faults : O → ℕ} (whole buffer line left rest : List ℕ) (old mid new : MutBor O) → left ≡ line ++ rest → IsPut contents faults whole (buffer ++ left) old mid → Broke contents faults (buffer ++ line) mid new → Broke contents faults whole old new
line_broke whole buffer line left rest old mid new first put broke =
    broke_on whole (buffer ++ line) rest old mid new (put_as whole (buffer ++ left) (buffer ++ line ++ rest) old mid (ap (λ (l : List ℕ). buffer ++ l) first ∙ sym (append_assoc buffer line rest)) put) broke

-- no line remains
pub none_left : {O : Type 0} {contents : O → Stream → Option (List ℕ)} {faults : O → ℕ} (whole buffer left : List ℕ) (old new : MutBor O) → left ≡ [] → IsPut contents faults whole (buffer ++ left) old new → IsPut contents faults whole buffer old new
none_left whole buffer left old new none put = put_as whole (buffer ++ left) buffer old new (ap (λ (l : List ℕ). buffer ++ l) none ∙ append-nil buffer) put

-- a text, and then one more
pub put_then : {O : Type 0} {contents : O → Stream → Option (List ℕ)} {faults : O → ℕ} (buffer first second waiting left : List ℕ) (old mid new : MutBor O) → IsPut contents faults (buffer ++ first) waiting old mid → IsPut contents faults (waiting ++ second) left mid new → IsPut contents faults (buffer ++ (first ++ second)) left old new
put_then buffer first second waiting left old mid new put then = record {
  same = then.same ∙ put.same;
  written = adds_then first second buffer waiting left _ _ _ put.written then.written;
  err_held = then.err_held ∙ put.err_held;
  sound = then.sound ∙ put.sound;
}

-- the second of two texts broke off
pub put_breaks : {O : Type 0} {contents : O → Stream → Option (List ℕ)} {faults : O → ℕ} (buffer first second waiting : List ℕ) (old mid new : MutBor O) → IsPut contents faults (buffer ++ first) waiting old mid → Broke contents faults (waiting ++ second) mid new → Broke contents faults (buffer ++ (first ++ second)) old new
put_breaks buffer first second waiting old mid new put broke = record {
  same = broke.same ∙ put.same;
  front = adds_front first second buffer waiting _ _ _ put.written broke.front;
  err_held = broke.err_held ∙ put.err_held;
  failed = broke.failed;
}

-- the two of them, whatever the second has come to
pub puts_then : {O : Type 0} {contents : O → Stream → Option (List ℕ)} {faults : O → ℕ} (buffer first second waiting left : List ℕ) (result : Result (Unit {0}) Failed) (old mid new : MutBor O) → IsPut contents faults (buffer ++ first) waiting old mid → Puts contents faults (waiting ++ second) left result mid new → Puts contents faults (buffer ++ (first ++ second)) left result old new
puts_then buffer first second waiting left (Ok done) old mid new put then = put_then buffer first second waiting left old mid new put then
puts_then buffer first second waiting left (Err why) old mid new put broke = put_breaks buffer first second waiting old mid new put broke

-- the first of two texts broke off
pub first_breaks : {O : Type 0} {contents : O → Stream → Option (List ℕ)} {faults : O → ℕ} (buffer first second : List ℕ) (old new : MutBor O) → Broke contents faults (buffer ++ first) old new → Broke contents faults (buffer ++ (first ++ second)) old new
first_breaks buffer first second old new broke = record {
  same = broke.same;
  front = front_adds first second buffer _ _ broke.front;
  err_held = broke.err_held;
  failed = broke.failed;
}

-- a write of what waits failed
pub put_breaks_off : {O : Type 0} {contents : O → Stream → Option (List ℕ)} {faults : O → ℕ} (whole waiting : List ℕ) (old mid new : MutBor O) → IsPut contents faults whole waiting old mid → Broke contents faults waiting mid new → Broke contents faults whole old new
put_breaks_off whole waiting old mid new put broke = broke_on whole waiting [] old mid new (put_as whole waiting (waiting ++ []) old mid (sym (append-nil waiting)) put) broke

-- what waits is written, whatever that has come to
pub put_written : {O : Type 0} {contents : O → Stream → Option (List ℕ)} {faults : O → ℕ} (text waiting : List ℕ) (result : Result (Unit {0}) Failed) (old mid new : MutBor O) → IsPut contents faults text waiting old mid → Writes contents faults waiting result mid new → Writes contents faults text result old new
put_written text waiting (Ok done) old mid new put wrote = wrote_all text waiting old mid new put wrote
put_written text waiting (Err why) old mid new put broke = put_breaks_off text waiting old mid new put broke

-- ---- no text
gain_none : (held : Option (List ℕ)) → held ≡ gain held []
gain_none None = refl
gain_none (Some held) = ap Some (sym (append-nil held))

pub none_written : {O : Type 0} {contents : O → Stream → Option (List ℕ)} {faults : O → ℕ} (text : List ℕ) (out : MutBor O) → text ≡ [] → Wrote contents faults text out out
none_written text out none = record {
  same = refl;
  out_held = gain_none _ ∙ ap (gain _) (sym none);
  err_held = refl;
  sound = refl;
}

-- no records have no lines
pub none_traced : (plan : Plan) (records : List Record) → length records ≡ 0 → trace_in plan records ≡ []
none_traced plan [] none = by plan.terms.show
  where
    by : (show : Show) → trace_of show plan.platform.now plan.deployment.now [] ≡ []
    by All = refl
    by Quiet = refl
    by Summary = refl
none_traced plan (one ∷ more) none = absurd (omega (arith, none))

-- ---- the lines of actors that are suspended or blocked
pub stuck_more : (platform : Platform) (deployed : Deployed) (actors : List Actor) (i : ℕ) → i < length actors →
    stuck_lines platform deployed (i + 1) (drop i actors) ≡ line_if platform deployed (stuck_last (i + 1) (get_or actors (i + 1 - 1) (not_suspended Ended))) ++ stuck_lines platform deployed (i + 1 + 1) (drop (i + 1) actors)
stuck_more platform deployed actors i within =
    let back : i ≡ i + 1 - 1 = omega arith in
    at_drop_more (λ l. stuck_lines platform deployed (i + 1) l) actors i (not_suspended Ended) within
    ∙ ap (λ (k : ℕ). line_if platform deployed (stuck_last (i + 1) (get_or actors k (not_suspended Ended))) ++ stuck_lines platform deployed (i + 1 + 1) (drop (i + 1) actors)) back

pub stuck_none : (platform : Platform) (deployed : Deployed) (actors : List Actor) (i : ℕ) → length actors ≤ i → stuck_lines platform deployed (i + 1) (drop i actors) ≡ []
stuck_none platform deployed actors i past = at_drop_all (λ l. stuck_lines platform deployed (i + 1) l) actors i past

-- ---- the lines of energies
pub energy_more : (platform : Platform) (deployed : Deployed) (energies : List ℕ) (rows : List HostRow) (i : ℕ) (row : HostRow) → i < length rows → row ≡ get_or rows i row →
    energy_lines platform deployed energies i (drop i rows) ≡ line_if platform deployed (energy_last i row (get_or energies i 0)) ++ energy_lines platform deployed energies (i + 1) (drop (i + 1) rows)
energy_more platform deployed energies rows i row within is =
    at_drop_more (λ l. energy_lines platform deployed energies i l) rows i row within
    ∙ ap (λ (r : HostRow). line_if platform deployed (energy_last i r (get_or energies i 0)) ++ energy_lines platform deployed energies (i + 1) (drop (i + 1) rows)) (sym is)

pub energy_none : (platform : Platform) (deployed : Deployed) (energies : List ℕ) (rows : List HostRow) (i : ℕ) → length rows ≤ i → energy_lines platform deployed energies i (drop i rows) ≡ []
energy_none platform deployed energies rows i past = at_drop_all (λ l. energy_lines platform deployed energies i l) rows i past

-- the parts of an energy: its whole joules and their rest
pub parts_of : (whole rest energy : ℕ) → whole * 10 ^ 12 + rest ≡ energy → rest < 10 ^ 12 → (energy / 10 ^ 12 ≡ whole) × (energy % 10 ^ 12 ≡ rest)
parts_of whole rest energy is less = (omega (arith, is, less), omega (arith, is, less))

-- ---- the lines of records
pub trace_more : (platform : Platform) (deployed : Deployed) (records : List Record) (i : ℕ) (d : Record) → i < length records →
    trace_of All platform deployed (drop i records) ≡ line_of (get_or records i d) platform deployed ++ trace_of All platform deployed (drop (i + 1) records)
trace_more platform deployed records i d within = at_drop_more (trace_of All platform deployed) records i d within

pub trace_none : (platform : Platform) (deployed : Deployed) (records : List Record) (i : ℕ) → length records ≤ i → trace_of All platform deployed (drop i records) ≡ []
trace_none platform deployed records i past = at_drop_all (trace_of All platform deployed) records i past
