-- Stretches of a run, one after another.
use Rattle.std.proofs.Common.{◌≡◌, ◌≤◌, ◌∙◌, inl, inr, sym, ap, subst, refl, ℕ, List, [], ◌++◌, length, Bool, true, false, Option, None, Some, Result, append_assoc, arith}
use Rattle.std.specs.Prelude.{MatchBool}
use Rattle.std.proofs.lemmas.List.{append-nil}
use Rattle.sg_base.specs.declared.trace_record.Record.{Record}
use Rattle.sg_edge.specs.Sources.{Source}
use Rattle.sg_edge.specs.Files.{PartView}
use Rattle.sg_edge.specs.declared.files.Stage.TheVariants.{Begun}
use Rattle.sg_engine.specs.World.{World}
use Rattle.sg_script.specs.Fetched.{fetches_of}
use Rattle.sg_script.specs.Answer.{answer_of}
use Rattle.sg_script.specs.Known.{ScriptNames as Names}
use Rattle.sg_script.specs.Stands.{IsWithinNeed, Reads}
use Rattle.sg_script.specs.Rest.{GoesOn}
use Rattle.sg_script.proofs.Chains.{may_back, reads_then}
use Rattle.sg_script.proofs.Spending.{all_may, begun_or_not}
use Rattle.sg_engine.specs.declared.ended.Ended.{Ended}
use Rattle.sg_engine.specs.Run.{Answering, Progress, with_front, then_unless_ended}
use Rattle.sg_engine.specs.kept.Moments.{AnswersAll, AreNeededBy, StaysOpen, Cast, LacksMemory, LeadsOn, LeavesContexts, Moment, StandsFor, IsStretch, cuts, end_in, ending}

-- a source that continues from a later moment continues from an earlier one
pub goes_back : (taken piece : List ℕ) (old new : PartView) (source : Source) → Reads piece old new → GoesOn (taken ++ piece) new.stage source → GoesOn taken old.stage source
goes_back taken piece old new source reads goes = record {
  rest = piece ++ goes.rest;
  bytes = goes.bytes ∙ append_assoc taken piece goes.rest;
  may = may_back old.stage new.stage piece goes.rest source.broken reads.stayed goes.may;
}

pub front-front : (first second : List Record) (progress : Progress) → with_front first (with_front second progress) ≡ with_front (first ++ second) progress
front-front first second progress = ap (λ (l : List Record). record progress { made = l }) (sym (append_assoc first second progress.made))

pub stands_as : (names : Names) (taken other : List ℕ) (cast : Cast) (now : Moment) (world : World) → taken ≡ other → StandsFor names taken cast now world → StandsFor names other cast now world
stands_as names taken other cast now world same stands = subst (λ (t : List ℕ). StandsFor names t cast now world) same stands

-- ---- what was taken answers all fetches
-- what answers all fetches of the whole answers those of what makes no more
pub answers_fewer : (names : Names) (whole fewer : Answering → Progress) (taken : List ℕ) → ((source : Source) → GoesOn taken Begun source → (x : ℕ) → fetches_of (fewer (answer_of names source)).world.fetched x ≤ fetches_of (whole (answer_of names source)).world.fetched x) →
    AnswersAll names whole taken → AnswersAll names fewer taken
answers_fewer names whole fewer taken rises all rest broken actor earlier made =
    let source : Source = record { bytes = taken ++ rest; broken = broken } in
    all rest broken actor earlier (omega (arith, made, rises source (record { rest = rest; bytes = refl; may = tt }) actor))

-- so it is of a whole in other words
pub answers_as : (names : Names) (whole other : Answering → Progress) (taken : List ℕ) → ((answers : Answering) → other answers ≡ whole answers) → AnswersAll names other taken → AnswersAll names whole taken
answers_as names whole other taken same all = answers_fewer names other whole taken (λ source goes x. omega (arith, ap (λ (p : Progress). fetches_of p.world.fetched x) (same (answer_of names source)))) all

-- what is open after a first piece is so after a second, if the fetches behind it are among those of the whole
pub open_then : (names : Names) (whole next : Answering → Progress) (taken p q : List ℕ) (u v w : PartView) → Reads p u v → Reads q v w → ((source : Source) → GoesOn (taken ++ p) v.stage source → (x : ℕ) → fetches_of (next (answer_of names source)).world.fetched x ≤ fetches_of (whole (answer_of names source)).world.fetched x) →
    StaysOpen names whole (taken ++ p) u.stage v.stage → StaysOpen names next ((taken ++ p) ++ q) v.stage w.stage → StaysOpen names whole (taken ++ (p ++ q)) u.stage w.stage
open_then names whole next taken p q u v w reads reads' rises first second all = elim (begun_or_not v.stage) [
  | inl is ↦
      let joined : AnswersAll names whole ((taken ++ p) ++ q) = subst (AnswersAll names whole) (sym (append_assoc taken p q)) all in
      let here : w.stage ≡ v.stage = second (answers_fewer names whole next ((taken ++ p) ++ q) (λ source goes. rises source (record {
        rest = q ++ goes.rest;
        bytes = goes.bytes ∙ append_assoc (taken ++ p) q goes.rest;
        may = all_may v.stage (q ++ goes.rest) source.broken is;
      })) joined) in
      elim (begun_or_not u.stage) [
        | inl was ↦ here ∙ is ∙ sym was
        | inr wasnt ↦ here ∙ (reads.stayed wasnt).1
      ]
  | inr isnt ↦
      let (none, same) = reads'.stayed isnt in
      let shorter : p ++ q ≡ p = rw none (append-nil p) in
      let front : taken ++ (p ++ q) ≡ taken ++ p = ap (λ (l : List ℕ). taken ++ l) shorter in
      same ∙ first (subst (AnswersAll names whole) front all)
]

-- one stretch, and then another from where it led
abbrev pub reached_then : {spent next : ℕ} (names : Names) (whole : Answering → Progress) (middle rest : Answering → World → Progress) (taken : List ℕ) (cast then_cast : Cast) (old mid new : Moment) →
    (first : IsStretch spent names whole middle taken cast old mid) → IsStretch next names (λ answers. middle answers first.world) rest (taken ++ first.piece) then_cast mid new → IsStretch next names whole rest taken then_cast old new
reached_then names whole middle rest taken cast then_cast old mid new first second =
    let joined : (taken ++ first.piece) ++ second.piece ≡ taken ++ (first.piece ++ second.piece) = append_assoc taken first.piece second.piece in
    record {
      piece = first.piece ++ second.piece;
      reads = reads_then first.piece second.piece old.part mid.part new.part first.reads second.reads;
      last = open_then names whole (λ answers. middle answers first.world) taken first.piece second.piece old.part mid.part new.part first.reads second.reads
          (λ source goes x. omega (arith, ap (λ (p : Progress). fetches_of p.world.fetched x) (first.is source goes))) first.last second.last;
      setup = second.setup ∙ first.setup;
      world = second.world;
      stands = stands_as names _ _ then_cast new second.world joined second.stands;
      work = second.work;
      made = first.made ++ second.made;
      records = second.records ∙ ap (λ (l : List Record). l ++ second.made) first.records ∙ append_assoc old.kernel.records first.made second.made;
      is = λ source goes.
          let there : GoesOn ((taken ++ first.piece) ++ second.piece) new.part.stage source = subst (λ (t : List ℕ). GoesOn t new.part.stage source) (sym joined) goes in
          let answers = answer_of names source in
          first.is source (goes_back (taken ++ first.piece) second.piece mid.part new.part source second.reads there)
          ∙ ap (with_front first.made) (second.is source there)
          ∙ front-front first.made second.made (rest answers second.world);
    }

-- the whole in other words
abbrev pub reached_as : {spent : ℕ} (names : Names) (whole other : Answering → Progress) (rest : Answering → World → Progress) (taken : List ℕ) (cast : Cast) (old new : Moment) →
    ((answers : Answering) → other answers ≡ whole answers) → IsStretch spent names whole rest taken cast old new → IsStretch spent names other rest taken cast old new
reached_as names whole other rest taken cast old new same reached = record {
  piece = reached.piece;
  reads = reached.reads;
  last = λ all. reached.last (answers_as names whole other (taken ++ reached.piece) same all);
  setup = reached.setup;
  world = reached.world;
  stands = reached.stands;
  work = reached.work;
  made = reached.made;
  records = reached.records;
  is = λ source goes. same (answer_of names source) ∙ reached.is source goes;
}

-- so it is if memory ran out
lacks_as : (names : Names) (whole other : Answering → Progress) (taken : List ℕ) (left : ℕ) (old new : PartView) → ((answers : Answering) → other answers ≡ whole answers) → LacksMemory names whole taken left old new → LacksMemory names other taken left old new
lacks_as names whole other taken left old new same cut = record {
  piece = cut.piece;
  reads = cut.reads;
  last = λ all. cut.last (answers_as names whole other (taken ++ cut.piece) same all);
  needed = λ source goes.
      let within : Progress → Type 0 = λ p. IsWithinNeed names source p.world.fetched (length (taken ++ cut.piece)) in
      subst within (sym (same (answer_of names source))) (cut.needed source goes);
  contexts = λ source goes. subst (λ (p : Progress). p.world.contexts ≤ left) (sym (same (answer_of names source))) (cut.contexts source goes);
}

matched_by : (b : Bool) (spent : ℕ) (how : Option Ended) (names : Names) (whole other : Answering → Progress) (taken : List ℕ) (cast : Cast) (old new : Moment) → ((answers : Answering) → other answers ≡ whole answers) →
    MatchBool b (LacksMemory names whole taken cast.contexts old.part new.part) (IsStretch spent names whole (ending how) taken cast old new) → MatchBool b (LacksMemory names other taken cast.contexts old.part new.part) (IsStretch spent names other (ending how) taken cast old new)
matched_by true spent how names whole other taken cast old new same cut = lacks_as names whole other taken cast.contexts old.part new.part same cut
matched_by false spent how names whole other taken cast old new same reached = reached_as names whole other (ending how) taken cast old new same reached

pub matched_as : (spent : ℕ) (result : Result (Unit {0}) Ended) (names : Names) (whole other : Answering → Progress) (taken : List ℕ) (cast : Cast) (old new : Moment) → ((answers : Answering) → other answers ≡ whole answers) →
    LeadsOn spent names whole result taken cast old new → LeadsOn spent names other result taken cast old new
matched_as spent result names whole other taken cast old new same leads = matched_by (cuts result) spent (end_in result) names whole other taken cast old new same leads

-- the rest in other words
abbrev pub rest_as : {spent : ℕ} (names : Names) (whole : Answering → Progress) (rest other : Answering → World → Progress) (taken : List ℕ) (cast : Cast) (old new : Moment) →
    ((answers : Answering) (world : World) → rest answers world ≡ other answers world) → IsStretch spent names whole rest taken cast old new → IsStretch spent names whole other taken cast old new
rest_as names whole rest other taken cast old new same reached = record {
  piece = reached.piece;
  reads = reached.reads;
  last = reached.last;
  setup = reached.setup;
  world = reached.world;
  stands = reached.stands;
  work = reached.work;
  made = reached.made;
  records = reached.records;
  is = λ source goes. reached.is source goes ∙ ap (with_front reached.made) (same (answer_of names source) reached.world);
}

-- what follows a first stretch makes no fetch unmade
abbrev pub Rises : (Answering → Progress) → (Answering → World → Progress) → Type 0
Rises first next = (answers : Answering) (x : ℕ) → fetches_of (first answers).world.fetched x ≤ fetches_of (then_unless_ended (first answers) (next answers)).world.fetched x

-- a first stretch that doesn't end the run
abbrev pub goes_on_to : {spent : ℕ} (names : Names) (first : Answering → Progress) (next : Answering → World → Progress) (taken : List ℕ) (cast : Cast) (old new : Moment) → Rises first next →
    IsStretch spent names first (ending None) taken cast old new → IsStretch spent names (λ answers. then_unless_ended (first answers) (next answers)) next taken cast old new
goes_on_to names first next taken cast old new rises reached = record {
  piece = reached.piece;
  reads = reached.reads;
  last = λ all. reached.last (answers_fewer names (λ answers. then_unless_ended (first answers) (next answers)) first (taken ++ reached.piece) (λ source goes. rises (answer_of names source)) all);
  setup = reached.setup;
  world = reached.world;
  stands = reached.stands;
  work = reached.work;
  made = reached.made;
  records = reached.records;
  is = λ source goes.
      let answers = answer_of names source in
      ap (λ (p : Progress). then_unless_ended p (next answers)) (reached.is source goes)
      ∙ ap (λ (l : List Record). with_front l (next answers reached.world)) (append-nil reached.made);
}

-- a first stretch that ends the run
abbrev pub ends_at : {spent : ℕ} (names : Names) (first : Answering → Progress) (next : Answering → World → Progress) (how : Ended) (taken : List ℕ) (cast : Cast) (old new : Moment) → Rises first next →
    IsStretch spent names first (ending (Some how)) taken cast old new → IsStretch spent names (λ answers. then_unless_ended (first answers) (next answers)) (ending (Some how)) taken cast old new
ends_at names first next how taken cast old new rises reached = record {
  piece = reached.piece;
  reads = reached.reads;
  last = λ all. reached.last (answers_fewer names (λ answers. then_unless_ended (first answers) (next answers)) first (taken ++ reached.piece) (λ source goes. rises (answer_of names source)) all);
  setup = reached.setup;
  world = reached.world;
  stands = reached.stands;
  work = reached.work;
  made = reached.made;
  records = reached.records;
  is = λ source goes. ap (λ (p : Progress). then_unless_ended p (next (answer_of names source))) (reached.is source goes);
}

-- nothing has happened yet
pub reached_none : (names : Names) (rest : Answering → World → Progress) (taken : List ℕ) (cast : Cast) (now : Moment) (world : World) → Reads [] now.part now.part → StandsFor names taken cast now world → IsStretch world.work names (λ answers. rest answers world) rest taken cast now now
reached_none names rest taken cast now world reads stands = record {
  piece = [];
  reads = reads;
  last = λ all. refl;
  setup = refl;
  world = world;
  stands = stands_as names _ _ cast now world (sym (append-nil taken)) stands;
  work = refl;
  made = [];
  records = sym (append-nil now.kernel.records);
  is = λ source goes. refl;
}

-- the work in other words
pub reached_spent : (spent other : ℕ) (names : Names) (whole : Answering → Progress) (rest : Answering → World → Progress) (taken : List ℕ) (cast : Cast) (old new : Moment) → spent ≡ other → IsStretch spent names whole rest taken cast old new → IsStretch other names whole rest taken cast old new
reached_spent spent other names whole rest taken cast old new same reached = subst (λ (n : ℕ). IsStretch n names whole rest taken cast old new) same reached

-- what was taken up to an end is needed
pub reached_needed : {spent : ℕ} (names : Names) (whole : Answering → Progress) (how : Option Ended) (taken : List ℕ) (cast : Cast) (old new : Moment) → (reached : IsStretch spent names whole (ending how) taken cast old new) → AreNeededBy names whole (taken ++ reached.piece) new.part.stage
reached_needed names whole how taken cast old new reached source goes =
    let within : Progress → Type 0 = λ p. IsWithinNeed names source p.world.fetched (length (taken ++ reached.piece)) in
    subst within (sym (reached.is source goes)) (reached.stands.script.needed source goes)

-- no fewer contexts are left then than the whole leaves
pub reached_left : {spent : ℕ} (names : Names) (whole : Answering → Progress) (how : Option Ended) (taken : List ℕ) (cast : Cast) (old new : Moment) → (reached : IsStretch spent names whole (ending how) taken cast old new) → LeavesContexts names whole (taken ++ reached.piece) new.part.stage cast.contexts
reached_left names whole how taken cast old new reached source goes =
    omega (arith, ap (λ (p : Progress). p.world.contexts) (reached.is source goes), ap (λ (c : Cast). c.contexts) reached.stands.cast)
