-- Steps by which a fetch is answered, one after the other.
use Rattle.std.proofs.Common.{◌≡◌, ◌≢◌, ◌∙◌, suc, ap, refl, ℕ, Bool, List, [], ◌++◌, Option, Result, Ok, Err, append_assoc}
use Rattle.sg_edge.specs.Files.{PartView}
use Rattle.sg_edge.specs.declared.files.Stage.{Stage}
use Rattle.sg_edge.specs.declared.files.Stage.TheVariants.{Fresh, Begun}
use Rattle.sg_base.specs.declared.call.Action.{Action}
use Rattle.sg_script.specs.Known.{ScriptNames}
use Rattle.sg_script.specs.declared.fault.ScriptFault.{ScriptFault}
use Rattle.sg_script.specs.declared.fault.ScriptFault.TheVariants.{Line, Read, Memory}
use Rattle.sg_script.specs.Rest.{May}
use Rattle.sg_script.specs.Stands.{Kept, answer_from}
use Rattle.sg_script.specs.kept.Queues.{waits}
use Rattle.sg_script.specs.kept.Steps.{Moves, Tells, Goes, Answers, Ends, no_fetch, one_fetch}
use Rattle.sg_script.proofs.Chains.{may_back, reads_none, reads_then}
use Rattle.sg_script.proofs.Spending.{spends_none, spends_then, thrifty_none, thrifty_then}

pub moves_then : (known : ScriptNames) (s t : Stage) (p q : List ℕ) (a b c : Kept) → (s ≢ Begun → (q ≡ []) × (t ≡ s)) → Moves known s p a b → Moves known t q b c → Moves known t (p ++ q) a c
moves_then known s t p q a b c stayed first second rest broken may actor later =
    ap (λ (bytes : List ℕ). answer_from known a bytes broken actor later) (append_assoc p q rest)
    ∙ first (q ++ rest) broken (may_back s t q rest broken stayed may) actor later
    ∙ second rest broken may actor later

pub tells_then : (known : ScriptNames) (actor : ℕ) (answer : Result (Option Action) ScriptFault) (s t : Stage) (p q : List ℕ) (a b c : Kept) → (s ≢ Begun → (q ≡ []) × (t ≡ s)) → Moves known s p a b → Tells known actor answer t q b c → Tells known actor answer t (p ++ q) a c
tells_then known actor answer s t p q a b c stayed first second =
    let front : (rest : List ℕ) (broken : Bool) → May t rest broken → (other k : ℕ) → answer_from known a ((p ++ q) ++ rest) broken other k ≡ answer_from known b (q ++ rest) broken other k = λ rest broken may other k.
    ap (λ (bytes : List ℕ). answer_from known a bytes broken other k) (append_assoc p q rest)
    ∙ first (q ++ rest) broken (may_back s t q rest broken stayed may) other k in
    record {
      now = λ rest broken may. front rest broken may actor 0 ∙ second.now rest broken may;
      later = λ rest broken may later. front rest broken may actor (suc later) ∙ second.later rest broken may later;
      others = λ rest broken may other later isnt. front rest broken may other later ∙ second.others rest broken may other later isnt;
    }

pub goes_then : (known : ScriptNames) (actor : ℕ) (u v w : PartView) (a b c : Kept) → waits known.members a.queues actor ≡ [] → waits known.members b.queues actor ≡ [] → Goes known actor u v a b → Goes known actor v w b c → Goes known actor u w a c
goes_then known actor u v w a b c empty empty' first second = record {
  piece = first.piece ++ second.piece;
  reads = reads_then first.piece second.piece u v w first.reads second.reads;
  thrifty = thrifty_then known actor u.stage v.stage w.stage first.piece second.piece a b empty empty' first.reads.stayed second.reads.stayed first.spends first.thrifty second.thrifty;
  spends = spends_then known v.stage w.stage first.piece second.piece no_fetch a b c second.reads.stayed first.spends second.spends;
  moves = moves_then known v.stage w.stage first.piece second.piece a b c second.reads.stayed first.moves second.moves;
  queues = second.queues ∙ first.queues;
}

answers_then : (known : ScriptNames) (actor : ℕ) (answer : Result (Option Action) ScriptFault) (u v w : PartView) (a b c : Kept) → waits known.members a.queues actor ≡ [] → waits known.members b.queues actor ≡ [] → Goes known actor u v a b → Answers known actor answer v w b c → Answers known actor answer u w a c
answers_then known actor answer u v w a b c empty empty' first second = record {
  piece = first.piece ++ second.piece;
  reads = reads_then first.piece second.piece u v w first.reads second.reads;
  thrifty = thrifty_then known actor u.stage v.stage w.stage first.piece second.piece a b empty empty' first.reads.stayed second.reads.stayed first.spends first.thrifty second.thrifty;
  spends = spends_then known v.stage w.stage first.piece second.piece (one_fetch actor) a b c second.reads.stayed first.spends second.spends;
  tells = tells_then known actor answer v.stage w.stage first.piece second.piece a b c second.reads.stayed first.moves second.tells;
  queues = second.queues ∙ first.queues;
}

pub ends_then : (known : ScriptNames) (actor : ℕ) (answer : Result (Option Action) ScriptFault) (u v w : PartView) (a b c : Kept) → waits known.members a.queues actor ≡ [] → waits known.members b.queues actor ≡ [] → Goes known actor u v a b → Ends known actor answer v w b c → Ends known actor answer u w a c
ends_then known actor (Ok found) u v w a b c empty empty' first second = answers_then known actor (Ok found) u v w a b c empty empty' first second
ends_then known actor (Err (Line n kind)) u v w a b c empty empty' first second = answers_then known actor (Err (Line n kind)) u v w a b c empty empty' first second
ends_then known actor (Err Read) u v w a b c empty empty' first second = answers_then known actor (Err Read) u v w a b c empty empty' first second
ends_then known actor (Err Memory) u v w a b c empty empty' first second = goes_then known actor u v w a b c empty empty' first second

pub goes_not : (known : ScriptNames) (actor : ℕ) (v : PartView) (a : Kept) → v.stage ≢ Fresh → Goes known actor v v a a
goes_not known actor v a begun = record {
  piece = [];
  reads = reads_none v begun;
  thrifty = thrifty_none known actor v.stage a;
  spends = spends_none known v.stage a;
  moves = λ rest broken may actor later. refl;
  queues = refl;
}
