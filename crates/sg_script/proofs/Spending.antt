-- What one step reads, and several.
use Rattle.std.proofs.Common.{◌≡◌, ◌≢◌, ◌⊎◌, ◌≤◌, ◌+◌, ◌∙◌, sym, ap, ap₂, subst, refl, ℕ, Bool, false, List, [], ◌∷◌, ◌++◌, length, take, drop, Option, Result, Ok, Err, inl, inr, arith, append_assoc, length-append, length-drop}
use Rattle.std.proofs.lemmas.Bool.{cases_lt}
use Rattle.std.proofs.lemmas.List.{append-nil}
use Rattle.sg_edge.specs.Files.{PartView}
use Rattle.sg_edge.specs.declared.files.Stage.{Stage}
use Rattle.sg_edge.specs.declared.files.Stage.TheVariants.{Fresh, Begun, Over, Broken}
use Rattle.sg_base.specs.declared.call.Action.{Action}
use Rattle.sg_script.specs.declared.line.Entry.{Entry}
use Rattle.sg_script.specs.declared.waiting.Waiting.{Waiting}
use Rattle.sg_script.specs.Known.{ScriptNames}
use Rattle.sg_script.specs.declared.fault.ScriptFault.{ScriptFault}
use Rattle.sg_script.specs.declared.fault.ScriptFault.TheVariants.{Line, Read, Memory}
use Rattle.sg_script.specs.Answer.{judgement_of}
use Rattle.sg_script.specs.Rest.{May}
use Rattle.sg_script.specs.kept.Front.{IsOpen, Leads, own_actions}
use Rattle.sg_script.specs.Needed.{need_from}
use Rattle.sg_script.specs.Operation.{line_actions}
use Rattle.sg_script.specs.kept.Queues.{waits}
use Rattle.sg_script.specs.Stands.{Kept}
use Rattle.sg_script.specs.kept.Steps.{Ends, HasQueue, ReadIs, no_fetch, one_fetch, queues_with}
use Rattle.sg_script.specs.Frugal.{cost_from, IsNear, Frugal, Suffices}
use Rattle.sg_script.specs.kept.Spending.{IsThrifty, Spends}
use Rattle.sg_script.proofs.Chains.{may_back}
use Rattle.sg_script.proofs.Needs.{open_needs}
use Rattle.sg_script.proofs.QueueLemmas.{said_waits}

-- ---- one step
pub no_length : (l : List ℕ) → length l ≡ 0 → l ≡ []
no_length [] none = refl
no_length (x ∷ l) none = absurd (omega (arith, none))

-- nothing was read
pub thrifty_none : (known : ScriptNames) (actor : ℕ) (stage : Stage) (old : Kept) → IsThrifty known actor stage stage [] old
thrifty_none known actor stage old = record {
  near = λ rest broken may. inl refl;
  idle = λ waits. (refl, refl);
  enough = λ suffices. refl;
  last = λ suffices. refl;
}

-- what isn't read or asked for needs what it needed
pub later_same : (known : ScriptNames) (broken : Bool) (actor lines : ℕ) (bytes : List ℕ) (n later : ℕ) → n ≡ 0 → need_from known broken actor lines bytes (n + later) ≡ need_from known broken actor lines bytes later
later_same known broken actor lines bytes n later none =
    let same : n + later ≡ later = omega (arith, none) in
    ap (λ (k : ℕ). need_from known broken actor lines bytes k) same

pub spends_none : (known : ScriptNames) (stage : Stage) (kept : Kept) → Spends known stage [] no_fetch kept kept
spends_none known stage kept = record {
  own = no_fetch;
  queued = λ x. omega arith;
  cost = λ rest broken may x later. omega (arith, later_same known broken x kept.lines (kept.pending ++ rest) 0 later refl);
}

-- a fetch that gets no action, if each fetch needs the same
pub spends_stuck : (known : ScriptNames) (stage : Stage) (actor : ℕ) (kept : Kept) → ((rest : List ℕ) (broken : Bool) → May stage rest broken → (x i j : ℕ) → need_from known broken x kept.lines (kept.pending ++ rest) i ≡ need_from known broken x kept.lines (kept.pending ++ rest) j)
    → Spends known stage [] (one_fetch actor) kept kept
spends_stuck known stage actor kept same = record {
  own = one_fetch actor;
  queued = λ x. omega arith;
  cost = λ rest broken may x later. omega (arith, same rest broken may x (one_fetch actor x + later) later);
}

-- a piece was read
pub spends_piece : (known : ScriptNames) (v w : PartView) (old new : Kept) → (read : ReadIs v w old new) → Spends known w.stage read.piece no_fetch old new
spends_piece known v w old new read = record {
  own = no_fetch;
  queued = λ x. omega (arith, ap (λ (qs : List (List Waiting)). length (waits known.members qs x)) read.queues);
  cost = λ rest broken may x later.
      let after : need_from known broken x old.lines (old.pending ++ (read.piece ++ rest)) later ≡ need_from known broken x new.lines (new.pending ++ rest) later = rw (read.lines, read.pending) (ap (λ (bytes : List ℕ). need_from known broken x old.lines bytes later) (sym (append_assoc old.pending read.piece rest))) in
      omega (arith, after, later_same known broken x old.lines (old.pending ++ (read.piece ++ rest)) 0 later refl, ap length read.pending, length-append old.pending read.piece);
}

-- nothing suffices after an open front
open_lacks : (known : ScriptNames) (actor : ℕ) (kept : Kept) → IsOpen kept.lines kept.pending → kept.lines ≤ 100000000 → Suffices known actor kept [] → ⊥
open_lacks known actor kept is few suffices =
    omega (arith, suffices (10 ∷ []) false, open_needs known false actor kept.lines 0 kept.pending (10 ∷ []) is few (omega arith))

-- a piece that suffices has bytes, and after them the part is open still
last_piece : (known : ScriptNames) (actor : ℕ) (v w : PartView) (old new : Kept) → IsOpen old.lines old.pending → old.lines ≤ 100000000 → (read : ReadIs v w old new) → Suffices known actor old read.piece → w.stage ≡ v.stage
last_piece known actor v w old new is few read suffices = elim (cases_lt 0 (length read.piece)) [
  | inl some ↦ read.some some
  | inr none ↦
      let nothing : read.piece ≡ [] = no_length read.piece (omega (arith, none)) in
      let lacks : Suffices known actor old [] → ⊥ = open_lacks known actor old is few in
      absurd (lacks (subst (Suffices known actor old) nothing suffices))
]

pub thrifty_piece : (known : ScriptNames) (actor : ℕ) (v w : PartView) (old new : Kept) → IsOpen old.lines old.pending → old.lines ≤ 100000000 → waits known.members old.queues actor ≡ [] → (read : ReadIs v w old new) → IsThrifty known actor v.stage w.stage read.piece old
thrifty_piece known actor v w old new is few empty read = record {
  near = λ rest broken may. elim (cases_lt 0 (length read.piece)) [
    | inl some ↦ inr (omega (arith, open_needs known broken actor old.lines 0 old.pending (read.piece ++ rest) is few (omega (arith, some, length-append read.piece rest)), read.short))
    | inr none ↦ inl (omega (arith, none))
  ];
  idle = λ waits. absurd (waits empty);
  enough = λ suffices. absurd (open_lacks known actor old is few suffices);
  last = last_piece known actor v w old new is few read;
}

-- a line was taken off the front
pub spends_line : (known : ScriptNames) (stage : Stage) (asked : ℕ → ℕ) (old new : Kept) (len end : ℕ) (said : Option Entry) → end ≤ length old.pending
    → ((rest : List ℕ) (broken : Bool) → May stage rest broken → Leads known old.lines old.pending len end rest broken)
    → judgement_of known (old.lines + 1) (take len old.pending) ≡ Ok said → ((x : ℕ) → asked x + length (waits known.members new.queues x) ≡ length (waits known.members old.queues x) + own_actions known x said)
    → new.lines ≡ old.lines + 1 → new.pending ≡ drop end old.pending → Spends known stage [] asked old new
spends_line known stage asked old new len end said fits leads is queued lines pending = record {
  own = λ x. own_actions known x said;
  queued = queued;
  cost = λ rest broken may x later.
      let l : Leads known old.lines old.pending len end rest broken = leads rest broken may in
      let need : need_from known broken x old.lines (old.pending ++ rest) (own_actions known x said + later) ≡ end + need_from known broken x new.lines (new.pending ++ rest) later = rw (lines, pending) (l.needs x later said is) in
      omega (arith, need, ap length pending, length-drop end old.pending, fits);
}

-- what it gives each actor waits
pub said_queued : (known : ScriptNames) (queues : List (List Waiting)) (said : Option Entry) (x : ℕ) → HasQueue (length queues) said → no_fetch x + length (waits known.members (queues_with said queues) x) ≡ length (waits known.members queues x) + own_actions known x said
said_queued known queues said x within = omega (arith, ap length (said_waits known queues said x within), length-append (waits known.members queues x) (line_actions known x said))

-- ---- several
pub spends_then : (known : ScriptNames) (s t : Stage) (p q : List ℕ) (asked : ℕ → ℕ) (a b c : Kept) → (s ≢ Begun → (q ≡ []) × (t ≡ s)) → Spends known s p no_fetch a b → Spends known t q asked b c → Spends known t (p ++ q) asked a c
spends_then known s t p q asked a b c stayed first second = record {
  own = λ x. first.own x + second.own x;
  queued = λ x. omega (arith, first.queued x, second.queued x);
  cost = λ rest broken may x later.
      let numbers : first.own x + second.own x + later ≡ first.own x + (second.own x + later) = omega arith in
      let joined : need_from known broken x a.lines (a.pending ++ ((p ++ q) ++ rest)) (first.own x + second.own x + later) ≡ need_from known broken x a.lines (a.pending ++ (p ++ (q ++ rest))) (first.own x + (second.own x + later)) = ap₂ (λ (bytes : List ℕ) (k : ℕ). need_from known broken x a.lines (a.pending ++ bytes) k) (append_assoc p q rest) numbers in
      omega (arith, joined, first.cost (q ++ rest) broken (may_back s t q rest broken stayed may) x (second.own x + later), second.cost rest broken may x later, length-append p q);
}

near_then : (known : ScriptNames) (actor : ℕ) (a b : Kept) (p q rest : List ℕ) (broken : Bool) → cost_from known a (p ++ (q ++ rest)) broken actor + length b.pending ≡ length a.pending + length p + cost_from known b (q ++ rest) broken actor → IsNear known actor p a (q ++ rest) broken → IsNear known actor q b rest broken → IsNear known actor (p ++ q) a rest broken
near_then known actor a b p q rest broken one first second = elim second [
  | inl none ↦ elim first [
    | inl none' ↦ inl (omega (arith, none, none', length-append p q))
    | inr near ↦ inr (rw (append_assoc p q rest) (omega (arith, none, near, length-append p q)))
  ]
  | inr near ↦ inr (rw (append_assoc p q rest) (omega (arith, near, one, length-append p q)))
]

-- what an actor without a queue needs after a piece is less by what was taken off the front
cost_then : (known : ScriptNames) (actor : ℕ) (s : Stage) (p : List ℕ) (a b : Kept) → waits known.members a.queues actor ≡ [] → waits known.members b.queues actor ≡ [] → Spends known s p no_fetch a b → (rest : List ℕ) (broken : Bool) → May s rest broken
    → cost_from known a (p ++ rest) broken actor + length b.pending ≡ length a.pending + length p + cost_from known b rest broken actor
cost_then known actor s p a b empty empty' spends rest broken may =
    let none : spends.own actor ≡ 0 = omega (arith, spends.queued actor, ap length empty, ap length empty') in
    omega (arith, spends.cost rest broken may actor 0, later_same known broken actor a.lines (a.pending ++ (p ++ rest)) (spends.own actor) 0 none)

pub begun_or_not : (s : Stage) → (s ≡ Begun) ⊎ (s ≢ Begun)
begun_or_not Fresh = inr (λ e. cc)
begun_or_not Begun = inl refl
begun_or_not Over = inr (λ e. cc)
begun_or_not Broken = inr (λ e. cc)

pub all_may : (s : Stage) (rest : List ℕ) (broken : Bool) → s ≡ Begun → May s rest broken
all_may s rest broken is = rw is tt

-- what suffices with two pieces suffices with the second, if the first was read
suffices_then : (known : ScriptNames) (actor : ℕ) (s : Stage) (p q : List ℕ) (a b : Kept) → s ≡ Begun → waits known.members a.queues actor ≡ [] → waits known.members b.queues actor ≡ [] → Spends known s p no_fetch a b → Suffices known actor a (p ++ q) → Suffices known actor b q
suffices_then known actor s p q a b is empty empty' spends suffices rest broken =
    let whole : cost_from known a (p ++ (q ++ rest)) broken actor ≤ length a.pending + length (p ++ q) = subst (λ (bytes : List ℕ). cost_from known a bytes broken actor ≤ length a.pending + length (p ++ q)) (append_assoc p q rest) (suffices rest broken) in
    omega (arith, whole, cost_then known actor s p a b empty empty' spends (q ++ rest) broken (all_may s (q ++ rest) broken is), length-append p q)

-- if the first piece suffices nothing is read after it
enough_then : (known : ScriptNames) (actor : ℕ) (u s t : Stage) (p q : List ℕ) (a b : Kept) → waits known.members a.queues actor ≡ [] → waits known.members b.queues actor ≡ [] → (s ≢ Begun → (q ≡ []) × (t ≡ s))
    → Spends known s p no_fetch a b → IsThrifty known actor u s p a → IsThrifty known actor s t q b → Suffices known actor a [] → p ++ q ≡ []
enough_then known actor u s t p q a b empty empty' stayed spends first second suffices =
    let none : p ≡ [] = first.enough suffices in
    let none' : q ≡ [] = elim (begun_or_not s) [
      | inl is ↦
          let front : p ++ [] ≡ [] = rw none refl in
          second.enough (suffices_then known actor s p [] a b is empty empty' spends (subst (Suffices known actor a) (sym front) suffices))
      | inr isnt ↦ (stayed isnt).0
    ] in
    rw (none, none') refl

-- if both pieces suffice the part is as open as before them
last_then : (known : ScriptNames) (actor : ℕ) (u s t : Stage) (p q : List ℕ) (a b : Kept) → waits known.members a.queues actor ≡ [] → waits known.members b.queues actor ≡ [] → (u ≢ Begun → (p ≡ []) × (s ≡ u)) → (s ≢ Begun → (q ≡ []) × (t ≡ s))
    → Spends known s p no_fetch a b → IsThrifty known actor u s p a → IsThrifty known actor s t q b → Suffices known actor a (p ++ q) → t ≡ u
last_then known actor u s t p q a b empty empty' stayed stayed' spends first second suffices = elim (begun_or_not s) [
  | inl is ↦
      let here : t ≡ s = second.last (suffices_then known actor s p q a b is empty empty' spends suffices) in
      elim (begun_or_not u) [
        | inl was ↦ here ∙ is ∙ sym was
        | inr wasnt ↦ here ∙ (stayed wasnt).1
      ]
  | inr isnt ↦
      let (none, same) = stayed' isnt in
      let front : p ++ q ≡ p = rw none (append-nil p) in
      same ∙ first.last (subst (Suffices known actor a) front suffices)
]

pub thrifty_then : (known : ScriptNames) (actor : ℕ) (u s t : Stage) (p q : List ℕ) (a b : Kept) → waits known.members a.queues actor ≡ [] → waits known.members b.queues actor ≡ [] → (u ≢ Begun → (p ≡ []) × (s ≡ u)) → (s ≢ Begun → (q ≡ []) × (t ≡ s))
    → Spends known s p no_fetch a b → IsThrifty known actor u s p a → IsThrifty known actor s t q b → IsThrifty known actor u t (p ++ q) a
thrifty_then known actor u s t p q a b empty empty' stayed stayed' spends first second = record {
  near = λ rest broken may.
      let may' : May s (q ++ rest) broken = may_back s t q rest broken stayed' may in
      near_then known actor a b p q rest broken (cost_then known actor s p a b empty empty' spends (q ++ rest) broken may') (first.near (q ++ rest) broken may') (second.near rest broken may);
  idle = λ waits. absurd (waits empty);
  enough = enough_then known actor u s t p q a b empty empty' stayed' spends first second;
  last = last_then known actor u s t p q a b empty empty' stayed stayed' spends first second;
}

-- ---- a fetch
pub frugal_of : (known : ScriptNames) (actor : ℕ) (answer : Result (Option Action) ScriptFault) (v w : PartView) (old new : Kept) → Ends known actor answer v w old new → Frugal known actor v w old
frugal_of known actor (Ok found) v w old new is = record { piece = is.piece; reads = is.reads; near = is.thrifty.near; idle = is.thrifty.idle; enough = is.thrifty.enough; last = is.thrifty.last }
frugal_of known actor (Err (Line n kind)) v w old new is = record { piece = is.piece; reads = is.reads; near = is.thrifty.near; idle = is.thrifty.idle; enough = is.thrifty.enough; last = is.thrifty.last }
frugal_of known actor (Err Read) v w old new is = record { piece = is.piece; reads = is.reads; near = is.thrifty.near; idle = is.thrifty.idle; enough = is.thrifty.enough; last = is.thrifty.last }
frugal_of known actor (Err Memory) v w old new is = record { piece = is.piece; reads = is.reads; near = is.thrifty.near; idle = is.thrifty.idle; enough = is.thrifty.enough; last = is.thrifty.last }
