-- Fronts of texts that were written.
use Rattle.std.proofs.Common.{Result, Ok, Err as Error, ◌≡◌, ◌<◌, ◌∙◌, sym, ap, subst, refl, inl, inr, ℕ, List, [], ◌++◌, Option, append_assoc}
use Rattle.sg_edge.specs.declared.sinks.Stream.{Stream}
use Rattle.sg_edge.specs.declared.sinks.Stream.TheVariants.{Out, Err}
use Rattle.std.specs.Borrow.{MutBor}
use Rattle.std.specs.Prelude.{OnErr, OnOk}
use Rattle.std.proofs.lemmas.List.{append-nil}
use Rattle.sg_edge.specs.Sinks.{gain, IsWritten, GainsFront, SameBut}
use Rattle.sg_edge.proofs.Writing.{gain-gain, gain-nil}
use Rattle.sg_edge.specs.declared.files.Failed.{Failed}
use Rattle.sg_engine.specs.Gains.{GainsAll, GainsFronts}
use Rattle.sg_engine.specs.kept.Writing.{Wrote, Broke, BrokeOff, IsPut, Tells, Writes}

-- what is left begins with a text, of which a prefix was written then
written_on : (whole text rest left : List ℕ) (old mid new : Option (List ℕ)) → IsWritten whole (text ++ rest) old mid → IsWritten text left mid new → IsWritten whole (left ++ rest) old new
written_on whole text rest left old mid new first then = record {
  done = first.done ++ then.done;
  split = first.split ∙ ap (λ (l : List ℕ). first.done ++ (l ++ rest)) then.split ∙ ap (λ (l : List ℕ). first.done ++ l) (append_assoc then.done left rest) ∙ sym (append_assoc first.done then.done (left ++ rest));
  held = then.held ∙ ap (λ (h : Option (List ℕ)). gain h then.done) first.held ∙ gain-gain old first.done then.done;
}

-- what waits begins with a text, which is put then
pub put_on : {O : Type 0} {contents : O → Stream → Option (List ℕ)} {faults : O → ℕ} (whole text rest waiting : List ℕ) (old mid new : MutBor O) → IsPut contents faults whole (text ++ rest) old mid → IsPut contents faults text waiting mid new → IsPut contents faults whole (waiting ++ rest) old new
put_on whole text rest waiting old mid new first then = record {
  same = then.same ∙ first.same;
  written = written_on whole text rest waiting _ _ _ first.written then.written;
  err_held = then.err_held ∙ first.err_held;
  sound = then.sound ∙ first.sound;
}

-- the same with what waits in other words
pub put_as : {O : Type 0} {contents : O → Stream → Option (List ℕ)} {faults : O → ℕ} (whole waiting other : List ℕ) (old new : MutBor O) → waiting ≡ other → IsPut contents faults whole waiting old new → IsPut contents faults whole other old new
put_as {O} {contents} {faults} whole waiting other old new same put = subst (λ (l : List ℕ). IsPut contents faults whole l old new) same put

-- a write failed at a text that is put then
pub broke_on : {O : Type 0} {contents : O → Stream → Option (List ℕ)} {faults : O → ℕ} (whole text rest : List ℕ) (old mid new : MutBor O) → IsPut contents faults whole (text ++ rest) old mid → Broke contents faults text mid new → Broke contents faults whole old new
broke_on whole text rest old mid new first broke = record {
  same = broke.same ∙ first.same;
  front = (broke.front.0 ++ rest, written_on whole text rest broke.front.0 _ _ _ first.written broke.front.1);
  err_held = broke.err_held ∙ first.err_held;
  failed = broke.failed;
}

-- all that waits is written
pub wrote_all : {O : Type 0} {contents : O → Stream → Option (List ℕ)} {faults : O → ℕ} (whole waiting : List ℕ) (old mid new : MutBor O) → IsPut contents faults whole waiting old mid → Wrote contents faults waiting mid new → Wrote contents faults whole old new
wrote_all whole waiting old mid new put wrote = record {
  same = wrote.same ∙ put.same;
  out_held = wrote.out_held ∙ ap (λ (h : Option (List ℕ)). gain h waiting) put.written.held ∙ gain-gain _ put.written.done waiting ∙ ap (gain _) (sym put.written.split);
  err_held = wrote.err_held ∙ put.err_held;
  sound = wrote.sound ∙ put.sound;
}

-- a prefix of a text is a prefix of a longer one
pub front_more : (text more : List ℕ) (old new : Option (List ℕ)) → GainsFront text old new → GainsFront (text ++ more) old new
front_more text more old new front = (
  front.0 ++ more,
  record { done = front.1.done; split = ap (λ (l : List ℕ). l ++ more) front.1.split ∙ append_assoc front.1.done front.0 more; held = front.1.held },
)

-- a prefix of the second text, after nothing of the first
pub fronts_err : (text : List ℕ) (old new : Stream → Option (List ℕ)) → GainsFront text (old Err) (new Err) → new Out ≡ old Out → GainsFronts [] text old new
fronts_err text old new front same = record {
  out_done = [];
  out_rest = [];
  err_done = front.1.done;
  err_rest = front.0;
  out_split = refl;
  err_split = front.1.split;
  late = inr refl;
  out_held = same ∙ sym (gain-nil (old Out));
  err_held = front.1.held;
}

-- a prefix of the first text alone
pub fronts_out : (out err : List ℕ) (old new : Stream → Option (List ℕ)) → GainsFront out (old Out) (new Out) → new Err ≡ old Err → GainsFronts out err old new
fronts_out out err old new front same = record {
  out_done = front.1.done;
  out_rest = front.0;
  err_done = [];
  err_rest = err;
  out_split = front.1.split;
  err_split = refl;
  late = inl refl;
  out_held = front.1.held;
  err_held = same ∙ sym (gain-nil (old Err));
}

-- nothing of either text
pub fronts_none : (out err : List ℕ) (old new : Stream → Option (List ℕ)) → new Out ≡ old Out → new Err ≡ old Err → GainsFronts out err old new
fronts_none out err old new same_out same_err = record {
  out_done = [];
  out_rest = out;
  err_done = [];
  err_rest = err;
  out_split = refl;
  err_split = refl;
  late = inl refl;
  out_held = same_out ∙ sym (gain-nil (old Out));
  err_held = same_err ∙ sym (gain-nil (old Err));
}

-- the first text begins with what waited after a text that was written
pub fronts_behind : (front waiting out err : List ℕ) (old mid new : Stream → Option (List ℕ)) → IsWritten front waiting (old Out) (mid Out) → mid Err ≡ old Err → GainsFronts (waiting ++ out) err mid new → GainsFronts (front ++ out) err old new
fronts_behind front waiting out err old mid new wrote same f = record {
  out_done = wrote.done ++ f.out_done;
  out_rest = f.out_rest;
  err_done = f.err_done;
  err_rest = f.err_rest;
  out_split = ap (λ (l : List ℕ). l ++ out) wrote.split
      ∙ append_assoc wrote.done waiting out
      ∙ ap (λ (l : List ℕ). wrote.done ++ l) f.out_split
      ∙ sym (append_assoc wrote.done f.out_done f.out_rest);
  err_split = f.err_split;
  late = f.late;
  out_held = f.out_held ∙ ap (λ (h : Option (List ℕ)). gain h f.out_done) wrote.held ∙ gain-gain (old Out) wrote.done f.out_done;
  err_held = f.err_held ∙ ap (λ (h : Option (List ℕ)). gain h f.err_done) same;
}

pub all_behind : (front waiting out err : List ℕ) (old mid new : Stream → Option (List ℕ)) → IsWritten front waiting (old Out) (mid Out) → mid Err ≡ old Err → GainsAll (waiting ++ out) err mid new → GainsAll (front ++ out) err old new
all_behind front waiting out err old mid new wrote same g = record {
  out_held = g.out_held
      ∙ ap (λ (h : Option (List ℕ)). gain h (waiting ++ out)) wrote.held
      ∙ gain-gain (old Out) wrote.done (waiting ++ out)
      ∙ ap (gain (old Out)) (sym (append_assoc wrote.done waiting out) ∙ ap (λ (l : List ℕ). l ++ out) (sym wrote.split));
  err_held = g.err_held ∙ ap (λ (h : Option (List ℕ)). gain h err) same;
}

-- a text that is written whole
pub written_whole : (text : List ℕ) (old new : Option (List ℕ)) → new ≡ gain old text → IsWritten text [] old new
written_whole text old new held = record { done = text; split = sym (append-nil text); held = held }

-- a line on Err after a text that is written
pub told_behind : {O : Type 0} {contents : O → Stream → Option (List ℕ)} {faults : O → ℕ} (text err : List ℕ) (result : Result (Unit {0}) Failed) (old mid new : MutBor O) → Wrote contents faults text old mid → Tells contents faults [] err result mid new → Tells contents faults text err result old new
told_behind {O} {contents} {faults} text err (Ok done) old mid new wrote told = record {
  same = told.same ∙ wrote.same;
  all = subst (λ (t : List ℕ). GainsAll t err (contents old.now) (contents new.now)) (append-nil text) (all_behind text [] [] err _ _ _ (written_whole text _ _ wrote.out_held) wrote.err_held told.all);
  sound = told.sound ∙ wrote.sound;
}
told_behind {O} {contents} {faults} text err (Error why) old mid new wrote told = record {
  same = told.same ∙ wrote.same;
  fronts = subst (λ (t : List ℕ). GainsFronts t err (contents old.now) (contents new.now)) (append-nil text) (fronts_behind text [] [] err _ _ _ (written_whole text _ _ wrote.out_held) wrote.err_held told.fronts);
  failed = told.failed;
}

-- a text on Out that broke off, so that Err got nothing
pub told_broke : {O : Type 0} {contents : O → Stream → Option (List ℕ)} {faults : O → ℕ} (text err : List ℕ) (old new : MutBor O) → Broke contents faults text old new → BrokeOff contents faults text err old new
told_broke text err old new broke = record {
  same = broke.same;
  fronts = fronts_out text err _ _ broke.front broke.err_held;
  failed = broke.failed;
}

-- a line on Err alone
pub told_err : (text : List ℕ) (old new : Stream → Option (List ℕ)) → new Err ≡ gain (old Err) text → new Out ≡ old Out → GainsAll [] text old new
told_err text old new wrote same = record { out_held = same ∙ sym (gain-nil (old Out)); err_held = wrote }

-- a line on Err alone, by what appending it has done
pub tells_err : {O : Type 0} (contents : O → Stream → Option (List ℕ)) (faults : O → ℕ) (text : List ℕ) (result : Result (Unit {0}) Failed) (old new : MutBor O) → OnOk result (contents new.now Err ≡ gain (contents old.now Err) text) → OnOk result (faults new.now ≡ faults old.now) → OnErr result (GainsFront text (contents old.now Err) (contents new.now Err)) → OnErr result (0 < faults new.now) → SameBut Err (contents old.now) (contents new.now) → new.ghost_name ≡ old.ghost_name → Tells contents faults [] text result old new
tells_err contents faults text (Ok done) old new wrote sound front failed other same = record { same = same; all = told_err text _ _ wrote (other Out (λ e. cc)); sound = sound }
tells_err contents faults text (Error why) old new wrote sound front failed other same = record { same = same; fronts = fronts_err text _ _ front (other Out (λ e. cc)); failed = failed }

-- a text on Out alone, by what writing it has done
pub tells_out : {O : Type 0} (contents : O → Stream → Option (List ℕ)) (faults : O → ℕ) (text : List ℕ) (result : Result (Unit {0}) Failed) (old new : MutBor O) → Writes contents faults text result old new → Tells contents faults text [] result old new
tells_out contents faults text (Ok done) old new wrote = record { same = wrote.same; all = record { out_held = wrote.out_held; err_held = wrote.err_held ∙ sym (gain-nil _) }; sound = wrote.sound }
tells_out contents faults text (Error why) old new broke = told_broke text [] old new broke
