-- From what one call did to what the whole script says.
use Rattle.std.proofs.Common.{◌≡◌, ◌≢◌, ◌⊎◌, ◌+◌, ◌∙◌, suc, ap, ap₂, refl, ℕ, Bool, eqb, List, [], ◌∷◌, ◌++◌, length, Option, Result, Ok, Err, inl, inr, arith, append_assoc, length-append}
use Rattle.std.specs.Prelude.{replicate}
use Rattle.std.proofs.lemmas.Bool.{cases_Bool}
use Rattle.std.proofs.lemmas.Bool.Decides.{nat_tests}
use Rattle.sg_edge.specs.Files.{PartView}
use Rattle.sg_edge.specs.Sources.{Source}
use Rattle.sg_edge.specs.declared.files.Part.{Part}
use Rattle.sg_edge.specs.declared.files.Stage.{Stage}
use Rattle.sg_base.specs.declared.call.Action.{Action}
use Rattle.sg_script.specs.Fetched.{fetches_of, one_more}
use Rattle.sg_script.specs.Known.{ScriptNames}
use Rattle.sg_script.specs.declared.fault.ScriptFault.{ScriptFault}
use Rattle.sg_script.specs.declared.fault.ScriptFault.TheVariants.{Line, Read, Memory}
use Rattle.sg_script.specs.Answer.{answer_of}
use Rattle.sg_script.specs.Needed.{need_from, need_of}
use Rattle.sg_script.specs.Rest.{May}
use Rattle.sg_script.specs.Stands.{IsFetched, IsCut, IsEnough, IsNearNeed, FetchIs, BreaksOnFailure, Kept, nothing_read, answer_from, Stands, Reads}
use Rattle.sg_script.specs.kept.Queues.{waits}
use Rattle.sg_script.specs.kept.Spending.{IsThrifty, Spends}
use Rattle.sg_script.specs.kept.Steps.{Goes, Answers, Ends, no_fetch, one_fetch}
use Rattle.sg_script.proofs.Answered.{answer_is}
use Rattle.sg_script.proofs.Chains.{may_back}
use Rattle.sg_script.proofs.Counting.{one_more_is}
use Rattle.sg_script.proofs.QueueLemmas.{none_wait}
use Rattle.sg_script.proofs.Spending.{all_may, begun_or_not, no_length}

-- the answer to a fetch from a source that has a piece more
joined : (known : ScriptNames) (taken piece rest : List ℕ) (broken : Bool) (actor k : ℕ) → answer_of known (record { bytes = (taken ++ piece) ++ rest; broken = broken }) actor k ≡ answer_of known (record { bytes = taken ++ (piece ++ rest); broken = broken }) actor k
joined known taken piece rest broken actor k = ap (λ (bytes : List ℕ). answer_of known (record { bytes = bytes; broken = broken }) actor k) (append_assoc taken piece rest)

-- ---- what is needed
some_wait : (l : List Action) → (l ≡ []) ⊎ (l ≢ [])
some_wait [] = inl refl
some_wait (x ∷ l) = inr (λ e. cc)

none_more : (fetched : List ℕ) (x : ℕ) → fetches_of fetched x ≡ fetches_of fetched x + no_fetch x
none_more fetched x = omega arith

-- what an actor's next fetch needs, if no action waits for it
need_next : (known : ScriptNames) (taken piece rest : List ℕ) (broken : Bool) (source : Source) (fetched : List ℕ) (actor : ℕ) (stage : Stage) (old : Kept) → Stands known taken stage fetched old → May stage (piece ++ rest) broken → source.bytes ≡ (taken ++ piece) ++ rest → source.broken ≡ broken → waits known.members old.queues actor ≡ []
    → need_of known source actor (fetches_of fetched actor) + length old.pending ≡ length taken + need_from known broken actor old.lines (old.pending ++ (piece ++ rest)) 0
need_next known taken piece rest broken source fetched actor stage old stands may bytes same empty =
    let number : fetches_of fetched actor ≡ fetches_of fetched actor + length (waits known.members old.queues actor) + 0 = omega (arith, ap length empty) in
    ap (λ (s : Source). need_of known s actor (fetches_of fetched actor) + length old.pending) (source_is source ((taken ++ piece) ++ rest) broken bytes same)
    ∙ ap₂ (λ (b : List ℕ) (k : ℕ). need_of known (record { bytes = b; broken = broken }) actor k + length old.pending) (append_assoc taken piece rest) number
    ∙ stands.needs (piece ++ rest) broken may actor 0
  where
    source_is : (source : Source) (bytes : List ℕ) (broken : Bool) → source.bytes ≡ bytes → source.broken ≡ broken → source ≡ record { bytes = bytes; broken = broken }
    source_is source bytes broken is same = ap₂ (λ (b : List ℕ) (m : Bool). record { bytes = b; broken = m }) is same

near_need : (known : ScriptNames) (taken piece fetched : List ℕ) (actor : ℕ) (v w : PartView) (old : Kept) → Stands known taken v.stage fetched old → Reads piece v w → IsThrifty known actor v.stage w.stage piece old → IsNearNeed known taken piece w.stage actor (fetches_of fetched actor)
near_need known taken piece fetched actor v w old stands reads thrifty source goes = elim (some_wait (waits known.members old.queues actor)) [
  | inr waits ↦ inl (thrifty.idle waits).0
  | inl empty ↦ elim (thrifty.near goes.rest source.broken goes.may) [
    | inl none ↦ inl (no_length piece none)
    | inr near ↦ inr (omega (
      arith,
      near,
      length-append taken piece,
      need_next known taken piece goes.rest source.broken source fetched actor v.stage old stands (may_back v.stage w.stage piece goes.rest source.broken reads.stayed goes.may) goes.bytes refl empty,
    ))
  ]
]

-- after what answers this fetch no read met the end or failed
enough_last : (known : ScriptNames) (taken piece fetched : List ℕ) (actor : ℕ) (v w : PartView) (old : Kept) → Stands known taken v.stage fetched old → Reads piece v w → IsThrifty known actor v.stage w.stage piece old → IsEnough known (taken ++ piece) actor (fetches_of fetched actor) → w.stage ≡ v.stage
enough_last known taken piece fetched actor v w old stands reads thrifty enough = elim (some_wait (waits known.members old.queues actor)) [
  | inr waits ↦ (thrifty.idle waits).1
  | inl empty ↦ elim (begun_or_not v.stage) [
    | inr isnt ↦ (reads.stayed isnt).1
    | inl is ↦ thrifty.last (λ rest broken. omega (
      arith,
      enough rest broken,
      length-append taken piece,
      need_next known taken piece rest broken (record { bytes = (taken ++ piece) ++ rest; broken = broken }) fetched actor v.stage old stands (all_may v.stage (piece ++ rest) broken is) refl refl empty,
    ))
  ]
]

-- what later fetches need, after what was read and answered
needs_on : (known : ScriptNames) (taken piece fetched fetched' : List ℕ) (asked : ℕ → ℕ) (v w : PartView) (old new : Kept) → Stands known taken v.stage fetched old → Reads piece v w → Spends known w.stage piece asked old new → ((x : ℕ) → fetches_of fetched' x ≡ fetches_of fetched x + asked x)
    → (rest : List ℕ) (broken : Bool) → May w.stage rest broken → (x later : ℕ) → need_of known (record { bytes = (taken ++ piece) ++ rest; broken = broken }) x (fetches_of fetched' x + length (waits known.members new.queues x) + later) + length new.pending ≡ length (taken ++ piece) + need_from known broken x new.lines (new.pending ++ rest) later
needs_on known taken piece fetched fetched' asked v w old new stands reads spends more rest broken may x later =
    let may' : May v.stage (piece ++ rest) broken = may_back v.stage w.stage piece rest broken reads.stayed may in
    let number : fetches_of fetched' x + length (waits known.members new.queues x) + later ≡ fetches_of fetched x + length (waits known.members old.queues x) + (spends.own x + later) = omega (arith, more x, spends.queued x) in
    let same : need_of known (record { bytes = (taken ++ piece) ++ rest; broken = broken }) x (fetches_of fetched' x + length (waits known.members new.queues x) + later) ≡ need_of known (record { bytes = taken ++ (piece ++ rest); broken = broken }) x (fetches_of fetched x + length (waits known.members old.queues x) + (spends.own x + later)) =
    ap₂ (λ (b : List ℕ) (k : ℕ). need_of known (record { bytes = b; broken = broken }) x k) (append_assoc taken piece rest) number in
    omega (arith, same, stands.needs (piece ++ rest) broken may' x (spends.own x + later), spends.cost rest broken may x later, length-append taken piece)

-- ---- one call
fetched_is : (known : ScriptNames) (taken fetched : List ℕ) (actor : ℕ) (answer : Result (Option Action) ScriptFault) (v w : PartView) (old new : Kept) → Stands known taken v.stage fetched old → Answers known actor answer v w old new → IsFetched known taken fetched actor answer v w new
fetched_is known taken fetched actor answer v w old new stands is = record {
  piece = is.piece;
  reads = is.reads;
  near = near_need known taken is.piece fetched actor v w old stands is.reads is.thrifty;
  last = enough_last known taken is.piece fetched actor v w old stands is.reads is.thrifty;
  answer_is = λ rest broken may.
      let none : fetches_of fetched actor ≡ fetches_of fetched actor + 0 = omega arith in
      joined known taken is.piece rest broken actor (fetches_of fetched actor)
      ∙ ap (λ (k : ℕ). answer_of known (record { bytes = taken ++ (is.piece ++ rest); broken = broken }) actor k) none
      ∙ stands.answers (is.piece ++ rest) broken (may_back v.stage w.stage is.piece rest broken is.reads.stayed may) actor 0
      ∙ is.tells.now rest broken may;
  stands = record {
    answers = λ rest broken may other later.
        joined known taken is.piece rest broken other (fetches_of (one_more actor fetched) other + later)
        ∙ elim (cases_Bool (eqb other actor)) [
          | inl yes_is ↦
              let same : other ≡ actor = grind (arith, nat_tests) in
              let one : one_fetch actor other ≡ 1 = rw yes_is refl in
              let next : fetches_of (one_more actor fetched) other + later ≡ fetches_of fetched other + suc later = omega (arith, one, one_more_is actor fetched other) in
              ap (λ (k : ℕ). answer_of known (record { bytes = taken ++ (is.piece ++ rest); broken = broken }) other k) next
              ∙ stands.answers (is.piece ++ rest) broken (may_back v.stage w.stage is.piece rest broken is.reads.stayed may) other (suc later)
              ∙ rw same (is.tells.later rest broken may later)
          | inr isnt ↦
              let differs : other ≢ actor = grind (arith, nat_tests) in
              let none : one_fetch actor other ≡ 0 = rw isnt refl in
              let next : fetches_of (one_more actor fetched) other + later ≡ fetches_of fetched other + later = omega (arith, none, one_more_is actor fetched other) in
              ap (λ (k : ℕ). answer_of known (record { bytes = taken ++ (is.piece ++ rest); broken = broken }) other k) next
              ∙ stands.answers (is.piece ++ rest) broken (may_back v.stage w.stage is.piece rest broken is.reads.stayed may) other later
              ∙ is.tells.others rest broken may other later differs
        ];
    needs = needs_on known taken is.piece fetched (one_more actor fetched) (one_fetch actor) v w old new stands is.reads is.spends (one_more_is actor fetched);
  };
}

cut_is : (known : ScriptNames) (taken fetched : List ℕ) (actor : ℕ) (v w : PartView) (old new : Kept) → Stands known taken v.stage fetched old → Goes known actor v w old new → IsCut known taken fetched actor v w new
cut_is known taken fetched actor v w old new stands is = record {
  piece = is.piece;
  reads = is.reads;
  near = near_need known taken is.piece fetched actor v w old stands is.reads is.thrifty;
  last = enough_last known taken is.piece fetched actor v w old stands is.reads is.thrifty;
  stands = record {
    answers = λ rest broken may other later.
        joined known taken is.piece rest broken other (fetches_of fetched other + later)
        ∙ stands.answers (is.piece ++ rest) broken (may_back v.stage w.stage is.piece rest broken is.reads.stayed may) other later
        ∙ is.moves rest broken may other later;
    needs = needs_on known taken is.piece fetched fetched no_fetch v w old new stands is.reads is.spends (none_more fetched);
  };
}

pub fetch_is : (known : ScriptNames) (taken fetched : List ℕ) (actor : ℕ) (answer : Result (Option Action) ScriptFault) (v w : PartView) (old new : Kept) → Stands known taken v.stage fetched old → Ends known actor answer v w old new → FetchIs known taken fetched actor answer v w new
fetch_is known taken fetched actor (Ok found) v w old new stands is = fetched_is known taken fetched actor (Ok found) v w old new stands is
fetch_is known taken fetched actor (Err (Line n kind)) v w old new stands is = fetched_is known taken fetched actor (Err (Line n kind)) v w old new stands is
fetch_is known taken fetched actor (Err Read) v w old new stands is = fetched_is known taken fetched actor (Err Read) v w old new stands is
fetch_is known taken fetched actor (Err Memory) v w old new stands is = cut_is known taken fetched actor v w old new stands is

breaks : (piece : List ℕ) (part : Part) (v w : Part → PartView) → Reads piece (v part) (w part) → BreaksOnFailure part v w
breaks piece part v w r = record { name = r.name; broke = r.broke; sound = r.sound; begun = r.begun }

pub breaking : (known : ScriptNames) (actor : ℕ) (answer : Result (Option Action) ScriptFault) (part : Part) (v w : Part → PartView) (old new : Kept) → Ends known actor answer (v part) (w part) old new → BreaksOnFailure part v w × (length new.queues ≡ length old.queues)
breaking known actor (Ok found) part v w old new is = (breaks is.piece part v w is.reads, is.queues)
breaking known actor (Err (Line n kind)) part v w old new is = (breaks is.piece part v w is.reads, is.queues)
breaking known actor (Err Read) part v w old new is = (breaks is.piece part v w is.reads, is.queues)
breaking known actor (Err Memory) part v w old new is = (breaks is.piece part v w is.reads, is.queues)

-- a new script stands for no bytes and no fetches
pub new_stands : (known : ScriptNames) (stage : Stage) (kept : Kept) (n : ℕ) → kept.queues ≡ replicate n [] → kept.lines ≡ 0 → kept.pending ≡ [] → Stands known [] stage [] kept
new_stands known stage kept n queues lines pending = record {
  answers = λ rest broken may actor later.
      let one : 0 + later ≡ later = omega arith in
      answer_is known (record { bytes = rest; broken = broken }) actor (0 + later)
      ∙ ap (λ (k : ℕ). answer_from known nothing_read rest broken actor k) one ∙ rw (queues, lines, pending, none_wait known.members n actor) refl;
  needs = λ rest broken may actor later.
      let wait : length (waits known.members kept.queues actor) ≡ 0 = rw queues (ap length (none_wait known.members n actor)) in
      let number : 0 + length (waits known.members kept.queues actor) + later ≡ later = omega (arith, wait) in
      let same : need_of known (record { bytes = rest; broken = broken }) actor (0 + length (waits known.members kept.queues actor) + later) ≡ need_from known broken actor kept.lines (kept.pending ++ rest) later = rw (lines, pending) (ap (λ (k : ℕ). need_from known broken actor 0 rest k) number) in
      omega (arith, same, ap length pending);
}
