-- What the exit status of a call says of its command line.
use Rattle.std.proofs.Common.{◌≡◌, ◌≢◌, ◌∙◌, ◌⊎◌, inl, inr, sym, refl, ℕ, List, Option, length, true, false}
use Rattle.std.specs.Prelude.{IsTrue}
use Rattle.std.proofs.lemmas.Bool.{cases_Bool}
use Rattle.sg_words.specs.Views.{Kinds, Text}
use Rattle.sg_base.specs.declared.status.Status.{Status}
use Rattle.sg_base.specs.declared.status.Status.TheVariants as S
use Rattle.sg_edge.specs.Files.{PartView}
use Rattle.sg_edge.specs.Sources.{Source}
use Rattle.sg_edge.specs.declared.files.Part.{Part}
use Rattle.sg_edge.specs.declared.sinks.Stream.{Stream}
use Rattle.sg_edge.specs.declared.sinks.Stream.TheVariants.{Out, Err}
use Rattle.sg_words.specs.CommandLine.{Request}
use Rattle.simgrid_replay.specs.Exit.{DoesCall, FitsWords, ReportsKind}
use Rattle.simgrid_replay.specs.Outcome.{Outcome, Prints, ReportsWords, cuts_output_short, one_text, outcome}
use Rattle.simgrid_replay.specs.PartSources.{PartsGive}
use Rattle.simgrid_replay.specs.Requests.{has_parts}
use Rattle.simgrid_replay.proofs.TopLemmas.{partless}

-- a status that doesn't say that the call was cut off is that of the outcome
prints_status : (want : Outcome) (how : Status) (old new : Stream → Option (List ℕ)) → Prints want how old new → IsTrue (cuts_output_short how) ⊎ (want.status ≡ how)
prints_status want S.WriteFault old new prints = inl refl
prints_status want S.Memory old new prints = inl refl
prints_status want S.Completed old new prints = inr prints.0
prints_status want S.Words old new prints = inr prints.0
prints_status want S.Platform old new prints = inr prints.0
prints_status want S.Deployment old new prints = inr prints.0
prints_status want S.Script old new prints = inr prints.0
prints_status want S.Deadlock old new prints = inr prints.0
prints_status want S.Starved old new prints = inr prints.0
prints_status want S.Budget old new prints = inr prints.0
prints_status want S.Route old new prints = inr prints.0
prints_status want S.ReadFault old new prints = inr prints.0

uncut_status : (want : Outcome) (how : Status) (old new : Stream → Option (List ℕ)) → cuts_output_short how ≡ false → Prints want how old new → how ≡ want.status
uncut_status want how old new uncut prints = elim (prints_status want how old new prints) [
  | inl cut ↦ absurd (let e : true ≡ false = sym cut ∙ uncut in cc)
  | inr same ↦ sym same
]

-- the status of an invalid command line is that of its kind
reports_kind : (kinds : Kinds) (how : Status) (old new : Stream → Option (List ℕ)) → ReportsWords kinds how old new → IsTrue (cuts_output_short how) ⊎ ReportsKind kinds how
reports_kind kinds how old new told = elim (cases_Bool (cuts_output_short how)) [
  | inl cut ↦ inl cut
  | inr uncut ↦ inr (record {
    kind = told.kind;
    among = told.among;
    help = λ is. uncut_status (one_text Out told.text S.Completed) how old new uncut (told.help is);
    other = λ no. uncut_status (one_text Err told.text S.Words) how old new uncut (told.other no);
  })
]

-- a request without input has all of it
asks_nothing : (request : Request) (old new : Part → PartView) (p d s : Source) → has_parts request ≡ false → PartsGive request old new p d s
asks_nothing request old new p d s none = record {
  texts = record {
    platform = λ has. absurd (let e : true ≡ false = sym has ∙ none in cc);
    deployment = λ has. absurd (let e : true ≡ false = sym has ∙ none in cc);
  };
  script = λ has. absurd (let e : true ≡ false = sym has ∙ partless request none in cc);
}

-- the status with which a call ended fits its command line
pub call_fits : {F A : Type 0} (shows : F → Part → PartView) (words : List Text) (before after : F) (old new : Stream → Option (List ℕ)) (had faults : ℕ) (crew left : List A) (start count : ℕ) (how : Status) →
    DoesCall shows words before after old new had faults crew left start count how → FitsWords words (length crew) how
call_fits shows words before after old new had faults crew left start count how call = record {
  refused = λ some. reports_kind _ how old new (call.refused some).told;
  accepted = λ none told. call.invalid told none;
  churned = λ job asks made p d s. prints_status (outcome job (length crew) p d s) how old new (call.output job asks p d s (asks_nothing job.request (shows before) (shows after) p d s made));
}

-- if a call was cut off, its status fits every command line
pub cut_fits : (words : List Text) (contexts : ℕ) (how : Status) → IsTrue (cuts_output_short how) → how ≢ S.Words → FitsWords words contexts how
cut_fits words contexts how cut other = record {
  refused = λ some. inl cut;
  accepted = λ none. other;
  churned = λ job asks made p d s. inl cut;
}
