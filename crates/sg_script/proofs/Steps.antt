-- One step of reading on.
use Rattle.std.proofs.Common.{◌≡◌, ◌≢◌, ◌<◌, ◌≤◌, ◌+◌, ◌∙◌, sym, ap, refl, ℕ, Bool, true, false, List, [], ◌∷◌, ◌++◌, length, take, Option, None, Some, Result, Ok, Err, inl, inr, arith}
use Rattle.std.proofs.lemmas.Bool.{cases_lt}
use Rattle.std.proofs.lemmas.Bool.Decides.{nat_tests}
use Rattle.std.proofs.lemmas.List.{length-set}
use Rattle.sg_edge.specs.Files.{PartView}
use Rattle.sg_edge.specs.declared.files.Stage.{Stage}
use Rattle.sg_edge.specs.declared.files.Stage.TheVariants.{Fresh, Begun, Over, Broken}
use Rattle.sg_base.specs.declared.call.Action.{Action}
use Rattle.sg_script.specs.declared.line.Entry.{Entry}
use Rattle.sg_script.specs.declared.waiting.Waiting.{Waiting}
use Rattle.sg_script.specs.Known.{ScriptNames}
use Rattle.sg_script.specs.declared.fault.ScriptFault.{ScriptFault}
use Rattle.sg_script.specs.declared.fault.ScriptFault.TheVariants.{Line, Read, Memory}
use Rattle.sg_script.specs.Answer.{judgement_of}
use Rattle.sg_script.specs.Line.{Judgement}
use Rattle.sg_script.specs.Rest.{May}
use Rattle.sg_script.specs.kept.Front.{Leads, IsOpen, own_actions}
use Rattle.sg_script.specs.kept.Queues.{queue_at, waits}
use Rattle.sg_script.specs.Stands.{Kept}
use Rattle.sg_script.specs.kept.Steps.{Answers, Ends, Goes, HasQueue, LineTells, no_fetch, one_fetch, Passes, Pops, queues_with, ReadIs, StepIs, to_do}
use Rattle.sg_script.proofs.Chains.{reads_none}
use Rattle.sg_script.proofs.Deciding.{needs_bad, needs_none}
use Rattle.sg_script.proofs.Going.{ends_then, goes_not, moves_then, tells_then}
use Rattle.sg_script.proofs.Spending.{said_queued, spends_line, spends_piece, spends_stuck, spends_then, thrifty_none, thrifty_piece}
use Rattle.sg_script.proofs.StandLemmas.{moves_line, moves_piece, moves_pop, none_left, spends_none_waits, spends_pop, tells_bad, tells_broken, tells_end, tells_pop}

-- a line that isn't bad is one of those allowed
ok_few : (known : ScriptNames) (lines : ℕ) (line : List ℕ) (said : Option Entry) → judgement_of known (lines + 1) line ≡ Ok said → lines < 100000000
ok_few known lines line said is = elim (cases_lt 100000000 (lines + 1)) [
  | inl late ↦ grind (arith, nat_tests)
  | inr few ↦ omega arith
]

less : (stage : Stage) (end : ℕ) (queues : List (List Waiting)) (old mid new : Kept) → old.lines < 100000000 → Passes queues end old mid → new.lines ≡ mid.lines → to_do stage new < to_do stage old
less stage end queues old mid new few passes same =
    let lines : new.lines ≡ old.lines + 1 = same ∙ passes.lines in
    omega arith

queued_length : (said : Option Entry) (queues : List (List Waiting)) → length (queues_with said queues) ≡ length queues
queued_length None queues = refl
queued_length (Some entry) queues = length-set queues entry.actor.0 (queue_at queues entry.actor.0 ++ record { operation = entry.operation; place = 0 } ∷ [])

pub popped_length : (known : ScriptNames) (actor : ℕ) (first : Option Action) (old new : Kept) → Pops known actor first old new → length new.queues ≡ length old.queues
popped_length known actor first old new pops = ap length pops.others ∙ length-set old.queues actor (queue_at new.queues actor)

line_queued : (known : ScriptNames) (old new : Kept) (end : ℕ) (said : Option Entry) (x : ℕ) → HasQueue (length old.queues) said → Passes (queues_with said old.queues) end old new
    → no_fetch x + length (waits known.members new.queues x) ≡ length (waits known.members old.queues x) + own_actions known x said
line_queued known old new end said x within passes =
    ap (λ (qs : List (List Waiting)). no_fetch x + length (waits known.members qs x)) passes.queued ∙ said_queued known old.queues said x within

none_read : (s : Stage) (piece : List ℕ) → piece ≡ [] → s ≢ Begun → (piece ≡ []) × (s ≡ s)
none_read s piece none isnt = (none, refl)

-- a line that isn't bad, after which no action waits for the actor
line_goes : (known : ScriptNames) (v : PartView) (old new : Kept) (len end actor : ℕ) → v.stage ≢ Fresh → end ≤ length old.pending
    → ((rest : List ℕ) (broken : Bool) → May v.stage rest broken → Leads known old.lines old.pending len end rest broken)
    → LineTells known (judgement_of known (old.lines + 1) (take len old.pending)) end actor None old new → StepIs known actor None v v old new
line_goes known v old new len end actor begun fits leads is =
    let (mid, taken, pops) = is in
    let (said, judged_is, within, passes) = taken in (
      record {
        piece = [];
        reads = reads_none v begun;
        thrifty = thrifty_none known actor v.stage old;
        spends = spends_then known v.stage v.stage [] [] no_fetch old mid new (none_read v.stage [] refl)
            (spends_line known v.stage no_fetch old mid len end said fits leads judged_is (λ x. line_queued known old mid end said x within passes) passes.lines passes.pending)
            (spends_none_waits known v.stage actor mid new pops);
        moves = moves_then known v.stage v.stage [] [] old mid new (none_read v.stage [] refl) (moves_line known v.stage old mid len end said leads judged_is within passes) (moves_pop known v.stage actor mid new pops);
        queues = popped_length known actor None mid new pops ∙ ap length passes.queued ∙ queued_length said old.queues;
      },
      sym pops.first_is ∙ pops.empty,
      less v.stage end (queues_with said old.queues) old mid new (ok_few known old.lines (take len old.pending) said judged_is) passes pops.lines,
    )

-- a line after which an action waits for the actor
line_answers : (known : ScriptNames) (v : PartView) (old new : Kept) (len end actor : ℕ) (action : Action) → v.stage ≢ Fresh → end ≤ length old.pending
    → ((rest : List ℕ) (broken : Bool) → May v.stage rest broken → Leads known old.lines old.pending len end rest broken)
    → LineTells known (judgement_of known (old.lines + 1) (take len old.pending)) end actor (Some (Ok (Some action))) old new → Answers known actor (Ok (Some action)) v v old new
line_answers known v old new len end actor action begun fits leads is =
    let (mid, taken, pops) = is in
    let (said, judged_is, within, passes) = taken in
    record {
      piece = [];
      reads = reads_none v begun;
      thrifty = thrifty_none known actor v.stage old;
      spends = spends_then known v.stage v.stage [] [] (one_fetch actor) old mid new (none_read v.stage [] refl)
          (spends_line known v.stage no_fetch old mid len end said fits leads judged_is (λ x. line_queued known old mid end said x within passes) passes.lines passes.pending)
          (spends_pop known v.stage actor action mid new pops);
      tells = tells_then known actor (Ok (Some action)) v.stage v.stage [] [] old mid new (none_read v.stage [] refl) (moves_line known v.stage old mid len end said leads judged_is within passes) (tells_pop known v.stage actor action mid new pops);
      queues = popped_length known actor (Some action) mid new pops ∙ ap length passes.queued ∙ queued_length said old.queues;
    }

pub line_steps : (known : ScriptNames) (v : PartView) (old new : Kept) (len end actor : ℕ) (r : Option (Result (Option Action) ScriptFault)) → v.stage ≢ Fresh → end ≤ length old.pending
    → ((rest : List ℕ) (broken : Bool) → May v.stage rest broken → Leads known old.lines old.pending len end rest broken)
    → waits known.members old.queues actor ≡ []
    → LineTells known (judgement_of known (old.lines + 1) (take len old.pending)) end actor r old new → StepIs known actor r v v old new
line_steps known v old new len end actor None begun fits leads empty is = line_goes known v old new len end actor begun fits leads is
line_steps known v old new len end actor (Some (Ok None)) begun fits leads empty is = absurd is
line_steps known v old new len end actor (Some (Ok (Some action))) begun fits leads empty is = (line_answers known v old new len end actor action begun fits leads is, tt)
line_steps known v old new len end actor (Some (Err (Line n kind))) begun fits leads empty is = rw (is.1, is.2) (
  record {
    piece = [];
    reads = reads_none v begun;
    thrifty = thrifty_none known actor v.stage old;
    spends = spends_stuck known v.stage actor old (λ rest broken may x.
        let l : Leads known old.lines old.pending len end rest broken = leads rest broken may in
        needs_bad known broken x old.lines (old.pending ++ rest) kind l.others (l.all ∙ ap (λ (j : Judgement). j ∷ l.others) is.0));
    tells = tells_bad known v.stage old len end actor kind leads empty is.0;
    queues = refl;
  },
  tt,
)
line_steps known v old new len end actor (Some (Err Read)) begun fits leads empty is = absurd is
line_steps known v old new len end actor (Some (Err Memory)) begun fits leads empty is = rw is (goes_not known actor v old begun, tt)

pub broken_steps : (known : ScriptNames) (v : PartView) (kept : Kept) (actor : ℕ) → v.stage ≡ Broken → IsOpen kept.lines kept.pending → waits known.members kept.queues actor ≡ [] → v.stage ≢ Fresh → StepIs known actor (Some (Err Read)) v v kept kept
broken_steps known v kept actor broken_is unended empty begun = (
  record {
    piece = [];
    reads = reads_none v begun;
    thrifty = thrifty_none known actor v.stage kept;
    spends = spends_stuck known v.stage actor kept (λ rest broken may x.
        let may' : (rest ≡ []) × (broken ≡ true) = rw broken_is at may in
        rw (may'.0, may'.1) (needs_none known true x kept.lines (kept.pending ++ []) (none_left known kept.lines kept.pending unended)));
    tells = tells_broken known v.stage kept actor broken_is unended empty;
    queues = refl;
  },
  broken_is,
)

pub end_steps : (known : ScriptNames) (v : PartView) (kept : Kept) (actor : ℕ) → v.stage ≡ Over → kept.pending ≡ [] → waits known.members kept.queues actor ≡ [] → v.stage ≢ Fresh → StepIs known actor (Some (Ok None)) v v kept kept
end_steps known v kept actor over none empty begun = (
  record {
    piece = [];
    reads = reads_none v begun;
    thrifty = thrifty_none known actor v.stage kept;
    spends = spends_stuck known v.stage actor kept (λ rest broken may x i j.
        let may' : (rest ≡ []) × (broken ≡ false) = rw over at may in
        rw (may'.0, may'.1, none) refl);
    tells = tells_end known v.stage kept actor over none empty;
    queues = refl;
  },
  tt,
)

pub piece_steps : (known : ScriptNames) (v w : PartView) (old new : Kept) (actor : ℕ) → IsOpen old.lines old.pending → old.lines ≤ 100000000 → waits known.members old.queues actor ≡ [] → ReadIs v w old new → StepIs known actor None v w old new
piece_steps known v w old new actor unended few empty read = (
  record {
    piece = read.piece;
    reads = read.reads;
    thrifty = thrifty_piece known actor v w old new unended few empty read;
    spends = spends_piece known v w old new read;
    moves = moves_piece known w.stage read.piece old new read.queues read.lines read.pending;
    queues = ap length read.queues;
  },
  ap (λ (qs : List (List Waiting)). waits known.members qs actor) read.queues ∙ empty,
  read.less,
)

-- ---- without a step
-- no action waits for the actor
pub pop_goes : (known : ScriptNames) (v : PartView) (old new : Kept) (actor : ℕ) → v.stage ≢ Fresh → Pops known actor None old new → Goes known actor v v old new
pop_goes known v old new actor begun pops = record {
  piece = [];
  reads = reads_none v begun;
  thrifty = thrifty_none known actor v.stage old;
  spends = spends_none_waits known v.stage actor old new pops;
  moves = moves_pop known v.stage actor old new pops;
  queues = popped_length known actor None old new pops;
}

-- then what follows has its answer
pub ends_behind : (known : ScriptNames) (v w : PartView) (old mid new : Kept) (actor : ℕ) (answer : Result (Option Action) ScriptFault) → v.stage ≢ Fresh → Pops known actor None old mid → Ends known actor answer v w mid new → Ends known actor answer v w old new
ends_behind known v w old mid new actor answer begun pops ends =
    ends_then known actor answer v v w old mid new pops.empty (sym pops.first_is ∙ pops.empty) (pop_goes known v old mid actor begun pops) ends

-- the first action that waits is the answer
pub pop_answers : (known : ScriptNames) (v : PartView) (old new : Kept) (actor : ℕ) (action : Action) → v.stage ≢ Fresh → Pops known actor (Some action) old new → Answers known actor (Ok (Some action)) v v old new
pop_answers known v old new actor action begun pops = record {
  piece = [];
  reads = reads_none v begun;
  thrifty = thrifty_none known actor v.stage old;
  spends = spends_pop known v.stage actor action old new pops;
  tells = tells_pop known v.stage actor action old new pops;
  queues = popped_length known actor (Some action) old new pops;
}
