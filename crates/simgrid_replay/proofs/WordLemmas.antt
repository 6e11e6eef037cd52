-- What is printed for words that ask for no run.
use Rattle.std.proofs.Common.{◌≡◌, ◌≢◌, inl, refl, subst, ℕ, List, [], ◌∷◌, Option, Some, Result, Ok}
use Rattle.std.proofs.Common as C
use Rattle.sg_base.specs.declared.status.Status.{Status}
use Rattle.sg_base.specs.declared.status.Status.TheVariants as S
use Rattle.sg_edge.specs.declared.sinks.Stream.{Stream}
use Rattle.sg_edge.specs.declared.sinks.Stream.TheVariants.{Out, Err}
use Rattle.sg_words.specs.CommandLine.{Asked}
use Rattle.sg_words.specs.Views.{Answers, Kinds, job_view}
use Rattle.sg_words.specs.declared.fault.WordsFault.{WordsFault}
use Rattle.sg_words.specs.declared.job.Job.{Job}
use Rattle.simgrid_replay.specs.Outcome.{Prints, one_text}
use Rattle.simgrid_replay.specs.Outcome.{ReportsWords}
use Rattle.simgrid_replay.proofs.TopLemmas.{prints_nothing}

-- memory ran out for the text
pub tells_nothing : (kinds : Kinds) (how : Status) (old new : Stream → Option (List ℕ)) → kinds ≢ [] → Prints (one_text Err [] S.Memory) how old new → ReportsWords kinds how old new
tells_nothing [] how old new some prints = absurd (some refl)
tells_nothing (kind ∷ more) how old new some prints = record {
  kind = kind;
  among = inl refl;
  text = [];
  help = λ is. prints_nothing (one_text Out [] S.Completed) how old new prints;
  other = λ no. prints_nothing (one_text Err [] S.Words) how old new prints;
}

-- the job that was answered is the one that was asked for
pub job_is : (kinds : Kinds) (asked : Option Asked) (result : Result Job WordsFault) (job : Job) (other : Asked) → Answers kinds asked result → result ≡ Ok job → asked ≡ Some other → job_view job ≡ other
job_is kinds asked result job other answers is same =
    let given : Answers kinds asked (Ok job) = subst (λ (r : Result Job WordsFault). Answers kinds asked r) is answers in
    let shown : asked ≡ Some (job_view job) = given.1 in
    cc

-- the answer is this fault
pub fault_is : (kinds other : Kinds) (asked : Option Asked) (result : Result Job WordsFault) (fault : WordsFault) → Answers kinds asked result → result ≡ C.Err fault → kinds ≡ other → Answers other asked (C.Err fault)
fault_is kinds other asked result fault answers is same =
    subst (λ (k : Kinds). Answers k asked (C.Err fault)) same (subst (λ (r : Result Job WordsFault). Answers kinds asked r) is answers)
