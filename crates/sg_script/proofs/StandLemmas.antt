-- What taking a line and reading a piece change.
use Rattle.std.proofs.Common.{◌≡◌, ◌≢◌, ◌+◌, ◌∙◌, suc, sym, ap, refl, ℕ, Bool, true, false, eqb, List, [], ◌∷◌, ◌++◌, length, take, drop, Option, None, Some, Result, Ok, Err, inl, inr, arith, append_assoc}
use Rattle.std.specs.Prelude.{slice_get}
use Rattle.std.specs.Result.{is_ok}
use Rattle.std.proofs.lemmas.Bool.{cases_Bool}
use Rattle.std.proofs.lemmas.Bool.Decides.{nat_tests}
use Rattle.std.proofs.lemmas.List.{append-nil, get_or-set_other}
use Rattle.sg_edge.specs.declared.files.Stage.{Stage}
use Rattle.sg_edge.specs.declared.files.Stage.TheVariants.{Over, Broken}
use Rattle.sg_base.specs.declared.call.Action.{Action}
use Rattle.sg_script.specs.declared.line.Entry.{Entry}
use Rattle.sg_script.specs.declared.waiting.Waiting.{Waiting}
use Rattle.sg_script.specs.declared.fault.LineFault.{LineFault}
use Rattle.sg_script.specs.Known.{ScriptNames}
use Rattle.sg_script.specs.declared.fault.ScriptFault.{ScriptFault}
use Rattle.sg_script.specs.declared.fault.ScriptFault.TheVariants.{Line, Read}
use Rattle.sg_script.specs.Answer.{is_newline, lines_among, line_judgements, judgement_of, judgements}
use Rattle.sg_script.specs.kept.Answers.{answered_by, first_bad, script_actions}
use Rattle.sg_script.specs.Line.{Judgement}
use Rattle.std.specs.List.{flat_map, slice_split}
use Rattle.sg_script.proofs.Splits.{split_none}
use Rattle.sg_script.specs.Rest.{May}
use Rattle.sg_script.specs.kept.Front.{Leads, IsOpen}
use Rattle.sg_script.specs.kept.Queues.{left_of, queue_at, waits}
use Rattle.sg_script.specs.kept.Spending.{Spends}
use Rattle.sg_script.specs.kept.Steps.{HasQueue, Moves, no_fetch, one_fetch, Passes, Pops, queues_with, Tells}
use Rattle.sg_script.specs.Needed.{need_from}
use Rattle.sg_script.specs.Operation.{line_actions}
use Rattle.sg_script.specs.Stands.{Kept, answer_from}
use Rattle.sg_script.proofs.QueueLemmas.{said_waits}
use Rattle.sg_script.proofs.Spending.{later_same}

-- the answer by the judgements of what is still to come
abbrev answer_with : ScriptNames → Kept → Bool → List Judgement → ℕ → ℕ → Result (Option Action) ScriptFault
answer_with known kept broken more actor earlier = answered_by broken (first_bad kept.lines more) (slice_get (waits known.members kept.queues actor ++ script_actions known actor more) earlier)

-- the line at the front is good or skipped, and its entry goes into its queue
said_more : (known : ScriptNames) (queues : List (List Waiting)) (said : Option Entry) (actor : ℕ) (more : List Judgement) → HasQueue (length queues) said → waits known.members queues actor ++ script_actions known actor (Ok said ∷ more) ≡ waits known.members (queues_with said queues) actor ++ script_actions known actor more
said_more known queues said actor more within =
    sym (append_assoc (waits known.members queues actor) (line_actions known actor said) (script_actions known actor more))
    ∙ ap (λ (q : List Action). q ++ script_actions known actor more) (sym (said_waits known queues said actor within))

-- a line that isn't bad
pub moves_line : (known : ScriptNames) (stage : Stage) (old new : Kept) (len end : ℕ) (said : Option Entry)
    → ((rest : List ℕ) (broken : Bool) → May stage rest broken → Leads known old.lines old.pending len end rest broken)
    → judgement_of known (old.lines + 1) (take len old.pending) ≡ Ok said → HasQueue (length old.queues) said → Passes (queues_with said old.queues) end old new → Moves known stage [] old new
moves_line known stage old new len end said leads is within passes rest broken may actor later =
    let l : Leads known old.lines old.pending len end rest broken = leads rest broken may in
    let all : judgements known old.lines (old.pending ++ rest) broken ≡ Ok said ∷ judgements known (old.lines + 1) (drop end old.pending ++ rest) broken =
    l.all ∙ ap (λ (list : List Judgement). judgement_of known (old.lines + 1) (take len old.pending) ∷ list) (l.behind (ap is_ok is)) ∙ ap (λ (j : Judgement). j ∷ judgements known (old.lines + 1) (drop end old.pending ++ rest) broken) is in
    let front : answer_with known old broken (judgements known old.lines (old.pending ++ rest) broken) actor later ≡ answer_with known old broken (Ok said ∷ judgements known (old.lines + 1) (drop end old.pending ++ rest) broken) actor later =
    ap (λ (list : List Judgement). answer_with known old broken list actor later) all in
    front ∙ ap (λ (q : List Action). answered_by broken (first_bad (old.lines + 1) (judgements known (old.lines + 1) (drop end old.pending ++ rest) broken)) (slice_get q later)) (said_more known old.queues said actor (judgements known (old.lines + 1) (drop end old.pending ++ rest) broken) within)
    ∙ rw (passes.queued, passes.lines, passes.pending) refl

-- ---- taking the first action that waits
waits_same : (known : ScriptNames) (actor other : ℕ) (first : Option Action) (old new : Kept) → Pops known actor first old new → other ≢ actor → waits known.members new.queues other ≡ waits known.members old.queues other
waits_same known actor other first old new pops isnt =
    ap (λ (qs : List (List Waiting)). waits known.members qs other) pops.others
    ∙ ap (flat_map (left_of known.members other)) (get_or-set_other old.queues actor other (queue_at new.queues actor) [] isnt)

-- if none does, only used-up lines were dropped
none_waits : (known : ScriptNames) (actor other : ℕ) (old new : Kept) → Pops known actor None old new → waits known.members new.queues other ≡ waits known.members old.queues other
none_waits known actor other old new pops = elim (cases_Bool (eqb other actor)) [
  | inl is ↦
      let same : other ≡ actor = grind (arith, nat_tests) in
      rw same (sym pops.first_is)
  | inr isnt ↦
      let differs : other ≢ actor = grind (arith, nat_tests) in
      waits_same known actor other None old new pops differs
]

pub moves_pop : (known : ScriptNames) (stage : Stage) (actor : ℕ) (old new : Kept) → Pops known actor None old new → Moves known stage [] old new
moves_pop known stage actor old new pops rest broken may other later =
    rw (none_waits known actor other old new pops, pops.lines, pops.pending) refl

pub tells_pop : (known : ScriptNames) (stage : Stage) (actor : ℕ) (action : Action) (old new : Kept) → Pops known actor (Some action) old new → Tells known actor (Ok (Some action)) stage [] old new
tells_pop known stage actor action old new pops =
    let more : List ℕ → Bool → List Judgement = λ rest broken. judgements known old.lines (old.pending ++ rest) broken in
    let whole : (rest : List ℕ) (broken : Bool) (k : ℕ) → answer_from known old rest broken actor k ≡ answered_by broken (first_bad old.lines (more rest broken)) (slice_get (action ∷ (waits known.members new.queues actor ++ script_actions known actor (more rest broken))) k) = λ rest broken k.
    ap (λ (q : List Action). answered_by broken (first_bad old.lines (more rest broken)) (slice_get (q ++ script_actions known actor (more rest broken)) k)) pops.first_is in
    record {
      now = λ rest broken may. whole rest broken 0;
      later = λ rest broken may later. whole rest broken (suc later) ∙ rw (pops.lines, pops.pending) refl;
      others = λ rest broken may other later isnt. rw (waits_same known actor other (Some action) old new pops isnt, pops.lines, pops.pending) refl;
    }

-- a queue is shorter by what was taken
queued_none : (known : ScriptNames) (actor x : ℕ) (old new : Kept) → Pops known actor None old new → no_fetch x + length (waits known.members new.queues x) ≡ length (waits known.members old.queues x) + no_fetch x
queued_none known actor x old new pops = omega (arith, ap length (none_waits known actor x old new pops))

queued_some : (known : ScriptNames) (actor x : ℕ) (action : Action) (old new : Kept) → Pops known actor (Some action) old new → one_fetch actor x + length (waits known.members new.queues x) ≡ length (waits known.members old.queues x) + no_fetch x
queued_some known actor x action old new pops = elim (cases_Bool (eqb x actor)) [
  | inl is ↦
      let same : x ≡ actor = grind (arith, nat_tests) in
      let first : waits known.members old.queues actor ≡ action ∷ waits known.members new.queues actor = pops.first_is in
      rw is (rw same (omega (arith, ap length first)))
  | inr isnt ↦
      let other : x ≢ actor = grind (arith, nat_tests) in
      rw isnt (omega (arith, ap length (waits_same known actor x (Some action) old new pops other)))
]

pops_cost : (known : ScriptNames) (actor : ℕ) (first : Option Action) (old new : Kept) → Pops known actor first old new → (rest : List ℕ) (broken : Bool) (x later : ℕ) →
    need_from known broken x old.lines (old.pending ++ rest) (no_fetch x + later) + length new.pending ≡ length old.pending + 0 + need_from known broken x new.lines (new.pending ++ rest) later
pops_cost known actor first old new pops rest broken x later = rw (pops.lines, pops.pending) (omega (arith, later_same known broken x old.lines (old.pending ++ rest) 0 later refl))

pub spends_none_waits : (known : ScriptNames) (stage : Stage) (actor : ℕ) (old new : Kept) → Pops known actor None old new → Spends known stage [] no_fetch old new
spends_none_waits known stage actor old new pops = record {
  own = no_fetch;
  queued = λ x. queued_none known actor x old new pops;
  cost = λ rest broken may x later. pops_cost known actor None old new pops rest broken x later;
}

pub spends_pop : (known : ScriptNames) (stage : Stage) (actor : ℕ) (action : Action) (old new : Kept) → Pops known actor (Some action) old new → Spends known stage [] (one_fetch actor) old new
spends_pop known stage actor action old new pops = record {
  own = no_fetch;
  queued = λ x. queued_some known actor x action old new pops;
  cost = λ rest broken may x later. pops_cost known actor (Some action) old new pops rest broken x later;
}

-- a fetch that gets no action changes nothing
stuck : (known : ScriptNames) (actor : ℕ) (answer : Result (Option Action) ScriptFault) (stage : Stage) (kept : Kept) → ((rest : List ℕ) (broken : Bool) → May stage rest broken → (k : ℕ) → answer_from known kept rest broken actor k ≡ answer) → Tells known actor answer stage [] kept kept
stuck known actor answer stage kept same = record {
  now = λ rest broken may. same rest broken may 0;
  later = λ rest broken may later. same rest broken may (suc later) ∙ sym (same rest broken may later);
  others = λ rest broken may other later isnt. refl;
}

pub tells_bad : (known : ScriptNames) (stage : Stage) (kept : Kept) (len end actor : ℕ) (kind : LineFault)
    → ((rest : List ℕ) (broken : Bool) → May stage rest broken → Leads known kept.lines kept.pending len end rest broken)
    → waits known.members kept.queues actor ≡ []
    → judgement_of known (kept.lines + 1) (take len kept.pending) ≡ Err kind → Tells known actor (Err (Line (kept.lines + 1) kind)) stage [] kept kept
tells_bad known stage kept len end actor kind leads empty is = stuck known actor (Err (Line (kept.lines + 1) kind)) stage kept (λ rest broken may k.
    let l : Leads known kept.lines kept.pending len end rest broken = leads rest broken may in
    ap (λ (list : List Judgement). answer_with known kept broken list actor k) (l.all ∙ ap (λ (j : Judgement). j ∷ l.others) is)
    ∙ ap (λ (q : List Action). answered_by broken (Some (Line (kept.lines + 1) kind)) (slice_get (q ++ []) k)) empty)

pub tells_end : (known : ScriptNames) (stage : Stage) (kept : Kept) (actor : ℕ) → stage ≡ Over → kept.pending ≡ [] → waits known.members kept.queues actor ≡ [] → Tells known actor (Ok None) stage [] kept kept
tells_end known stage kept actor over none empty = stuck known actor (Ok None) stage kept (λ rest broken may k.
    let may' : (rest ≡ []) × (broken ≡ false) = rw over at may in
    rw (may'.0, may'.1, none, empty) refl)

pub none_left : (known : ScriptNames) (lines : ℕ) (bytes : List ℕ) → IsOpen lines bytes → judgements known lines (bytes ++ []) true ≡ []
none_left known lines bytes unended =
    ap (λ (list : List (List ℕ)). line_judgements known lines (lines_among true lines list)) (ap (slice_split is_newline) (append-nil bytes) ∙ split_none is_newline bytes unended.unended)
    ∙ rw unended.not_bad refl

pub tells_broken : (known : ScriptNames) (stage : Stage) (kept : Kept) (actor : ℕ) → stage ≡ Broken → IsOpen kept.lines kept.pending → waits known.members kept.queues actor ≡ [] → Tells known actor (Err Read) stage [] kept kept
tells_broken known stage kept actor is unended empty = stuck known actor (Err Read) stage kept (λ rest broken may k.
    let may' : (rest ≡ []) × (broken ≡ true) = rw is at may in
    rw (may'.0, may'.1) (ap (λ (list : List Judgement). answer_with known kept true list actor k) (none_left known kept.lines kept.pending unended)
    ∙ ap (λ (q : List Action). answered_by true None (slice_get (q ++ []) k)) empty))

pub moves_piece : (known : ScriptNames) (stage : Stage) (piece : List ℕ) (old new : Kept) → new.queues ≡ old.queues → new.lines ≡ old.lines → new.pending ≡ old.pending ++ piece → Moves known stage piece old new
moves_piece known stage piece old new queues lines pending rest broken may actor later =
    rw (queues, lines, pending) (ap (λ (bytes : List ℕ). answer_with known old broken (judgements known old.lines bytes broken) actor later) (sym (append_assoc old.pending piece rest)))
