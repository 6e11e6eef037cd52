-- What holds of each good line: its actor has a name, and a collective's amounts keep to their limits.
use Rattle.std.proofs.Common.{◌≡◌, ◌≤◌, ◌^◌, ◌==◌, refl, subst, sym, ℕ, Bool, true, false, cond, not, List, [], ◌∷◌, length, Option, None, Some, Result, Ok, Err, nat_le, nat_lt, leb-true}
use Rattle.std.specs.List.{list_all}
use Rattle.std.specs.Result.{result_ok}
use Rattle.std.specs.Prelude.{ok_or, slice_index, ⊤}
use Rattle.sg_base.specs.declared.call.Action.{Action}
use Rattle.sg_base.specs.declared.call.Action.TheVariants as action
use Rattle.sg_base.specs.declared.ids.ActorId.{ActorId}
use Rattle.sg_collectives.specs.Members.{HasAmounts}
use Rattle.sg_collectives.specs.declared.collective.Collective.{Collective}
use Rattle.sg_collectives.specs.declared.collective.Collective.TheVariants as collective
use Rattle.sg_script.specs.Known.{ScriptNames}
use Rattle.sg_script.specs.Line.{Judgement, actor_in, both, computing_of, entry_of, is_plain, line_judgement, no_words, of_words, one_of, receiving_of, script_amount, sending_of, text_judgement, then_go, with_action, without_return}
use Rattle.sg_script.specs.kept.Verbs.{operation_in, operation_of, verb_of}
use Rattle.sg_script.proofs.Actions.{by_verb}
use Rattle.sg_script.specs.Words.{words}
use Rattle.sg_script.specs.declared.fault.LineFault.{LineFault}
use Rattle.sg_script.specs.declared.line.Entry.{Entry}
use Rattle.sg_script.specs.declared.operation.Operation.{Operation}
use Rattle.sg_script.specs.declared.operation.Operation.TheVariants.{Alone, Together}
use Rattle.sg_script.specs.declared.verbs.Verb.{Verb}
use Rattle.sg_script.specs.declared.verbs.Verb.TheVariants.{Compute, Sleep, Send, ISend, Recv, IRecv, Wait, Barrier, Yield, Lock, Unlock, Acquire, Release, Create, Join, Kill, Suspend, Resume, Bcast, Reduce, Allreduce, Alltoall}
use Rattle.sg_script.specs.declared.fault.LineFault.TheVariants as fault
use Rattle.sg_units.specs.Amount.{amount_of, is_short, time_of, up_to, value_in_unit, value_of}
use Rattle.sg_units.specs.Number.{Number, number_of}
use Rattle.sg_units.specs.Units.{amount_units, size_of}
use Rattle.sg_units.specs.declared.fault.AmountFault.{AmountFault}
use Rattle.sg_units.specs.declared.fault.AmountFault.TheVariants as amount
use Rattle.sg_units.specs.declared.units.Ratio.{Ratio}

-- some name stands for the actor
abbrev pub IsKnown : ScriptNames → ActorId → Type 0
IsKnown known actor = (name : List ℕ) × (known.actor name ≡ Some actor)

abbrev pub KeepsAmounts : Operation → Type 0
KeepsAmounts (Alone action) = ⊤
KeepsAmounts (Together collective) = HasAmounts collective

-- ---- one step, and what follows it
-- a fact of what was accepted
abbrev Accepted : {X E : Type 0} → (X → Type 0) → Result X E → Type 0
Accepted P (Ok x) = P x
Accepted P (Err why) = ⊤

either_accepted : {X E : Type 0} (P : X → Type 0) (b : Bool) (r s : Result X E) → Accepted P r → Accepted P s → Accepted P (cond b r s)
either_accepted P true r s one two = one
either_accepted P false r s one two = two

went : {X Y : Type 0} (P : X → Type 0) (Q : Y → Type 0) (r : Result X LineFault) (next : X → Result Y LineFault) → Accepted P r →
    ((x : X) → P x → Accepted Q (next x)) → Accepted Q (then_go r next)
went P Q (Ok x) next held each = each x held
went P Q (Err kind) next held each = tt

anything : {X E : Type 0} (r : Result X E) → Accepted (λ (x : X). ⊤) r
anything (Ok x) = tt
anything (Err why) = tt

-- ---- amounts
abbrev IsSmall : ℕ → Type 0
IsSmall n = n ≤ 1000000000000000

up_to_small : (value : ℕ) → Accepted IsSmall (up_to (10 ^ 15) value)
up_to_small value = by (nat_le value (10 ^ 15)) (leb-true value (10 ^ 15))
  where
    by : (b : Bool) → (b ≡ true → value ≤ 10 ^ 15) → Accepted IsSmall (cond b (Ok value) (Err amount.TooLarge))
    by true within = within refl
    by false within = tt

in_unit_small : (n : Number) (unit : Option Ratio) → Accepted IsSmall (value_in_unit (10 ^ 15) n unit)
in_unit_small n None = tt
in_unit_small n (Some size) =
    either_accepted IsSmall (is_short n) (up_to (10 ^ 15) (value_of n size)) (Err amount.TooLarge) (up_to_small (value_of n size)) tt

amount_small : (text : List ℕ) → Accepted IsSmall (amount_of text)
amount_small text =
    let n : Number = number_of text in
    either_accepted IsSmall (length n.whole == 0) (Err amount.NotANumber) (value_in_unit (10 ^ 15) n (size_of amount_units n.unit)) tt
    (in_unit_small n (size_of amount_units n.unit))

or_fault_small : (r : Result ℕ AmountFault) → Accepted IsSmall r → Accepted IsSmall (ok_or (result_ok r) fault.BadAmount)
or_fault_small (Ok n) held = held
or_fault_small (Err kind) held = tt

argument_small : (text : List ℕ) → Accepted IsSmall (script_amount text)
argument_small text = or_fault_small (amount_of text) (amount_small text)

abbrev AreSmall : ℕ × ℕ → Type 0
AreSmall both = IsSmall both.0 × IsSmall both.1

one_small : (args : List (List ℕ)) → Accepted IsSmall (one_of (λ text. result_ok (amount_of text)) fault.BadAmount args)
one_small [] = tt
one_small (text ∷ []) = argument_small text
one_small (text ∷ next ∷ more) = tt

both_small : (args : List (List ℕ)) → Accepted AreSmall (both script_amount script_amount args)
both_small [] = tt
both_small (one ∷ []) = tt
both_small (one ∷ two ∷ []) =
    went IsSmall AreSmall (script_amount one) (λ a. then_go (script_amount two) (λ b. Ok (a, b))) (argument_small one)
    (λ a small. went IsSmall AreSmall (script_amount two) (λ b. Ok (a, b)) (argument_small two) (λ b small'. (small, small')))
both_small (one ∷ two ∷ three ∷ more) = tt

-- ---- operations
alone_keeps : {X : Type 0} (r : Result X LineFault) (make : X → Action) → Accepted KeepsAmounts (then_go r (λ x. Ok (Alone (make x))))
alone_keeps (Ok x) make = tt
alone_keeps (Err kind) make = tt

together_keeps : {X : Type 0} (P : X → Type 0) (r : Result X LineFault) (make : X → Collective) → Accepted P r → ((x : X) → P x → HasAmounts (make x)) →
    Accepted KeepsAmounts (then_go r (λ x. Ok (Together (make x))))
together_keeps P (Ok x) make held each = each x held
together_keeps P (Err kind) make held each = tt

operation_keeps : (known : ScriptNames) (verb : Verb) (args : List (List ℕ)) → Accepted KeepsAmounts (operation_of known verb args)
operation_keeps known Compute args = alone_keeps (computing_of args) (λ c. action.Compute c.0 c.1)
operation_keeps known Sleep args = alone_keeps (one_of (λ text. result_ok (time_of text)) fault.BadAmount args) action.Sleep
operation_keeps known Send args = alone_keeps (sending_of known args) (λ s. action.Send s.0 s.1 s.2)
operation_keeps known ISend args = alone_keeps (sending_of known args) (λ s. action.ISend s.0 s.1 s.2)
operation_keeps known Recv args = alone_keeps (receiving_of known args) action.Recv
operation_keeps known IRecv args = alone_keeps (receiving_of known args) action.IRecv
operation_keeps known Wait args = alone_keeps (no_words args) (λ _. action.Wait)
operation_keeps known Barrier args = alone_keeps (no_words args) (λ _. action.Barrier)
operation_keeps known Yield args = alone_keeps (no_words args) (λ _. action.Yield)
operation_keeps known Lock args = alone_keeps (one_of known.mutex fault.UnknownObject args) action.Lock
operation_keeps known Unlock args = alone_keeps (one_of known.mutex fault.UnknownObject args) action.Unlock
operation_keeps known Acquire args = alone_keeps (one_of known.semaphore fault.UnknownObject args) action.Acquire
operation_keeps known Release args = alone_keeps (one_of known.semaphore fault.UnknownObject args) action.Release
operation_keeps known Create args = alone_keeps (one_of known.anyone fault.UnknownActor args) action.Create
operation_keeps known Join args = alone_keeps (one_of known.anyone fault.UnknownActor args) action.Join
operation_keeps known Kill args = alone_keeps (one_of known.anyone fault.UnknownActor args) action.Kill
operation_keeps known Suspend args = alone_keeps (one_of known.anyone fault.UnknownActor args) action.Suspend
operation_keeps known Resume args = alone_keeps (one_of known.anyone fault.UnknownActor args) action.Resume
operation_keeps known Bcast args = together_keeps IsSmall (one_of (λ text. result_ok (amount_of text)) fault.BadAmount args) collective.Bcast (one_small args) (λ n small. small)
operation_keeps known Reduce args = together_keeps AreSmall (both script_amount script_amount args) (λ b. collective.Reduce b.0 b.1) (both_small args) (λ b small. small)
operation_keeps known Allreduce args = together_keeps AreSmall (both script_amount script_amount args) (λ b. collective.Allreduce b.0 b.1) (both_small args) (λ b small. small)
operation_keeps known Alltoall args = together_keeps IsSmall (one_of (λ text. result_ok (amount_of text)) fault.BadAmount args) collective.Alltoall (one_small args) (λ n small. small)

-- ---- entries
abbrev IsFrom : ScriptNames → Entry → Type 0
IsFrom known entry = IsKnown known entry.actor × KeepsAmounts entry.operation

abbrev IsGood : ScriptNames → Option Entry → Type 0
IsGood known None = ⊤
IsGood known (Some entry) = IsFrom known entry

verb_keeps : (known : ScriptNames) (found : Option Verb) (args : List (List ℕ)) →
    Accepted KeepsAmounts (then_go (ok_or found fault.UnknownAction) (λ verb. operation_of known verb args))
verb_keeps known None args = tt
verb_keeps known (Some verb) args = operation_keeps known verb args

action_good : (known : ScriptNames) (a : ActorId) (args : List (List ℕ)) → IsKnown known a → Accepted (IsGood known) (with_action known a args)
action_good known a [] is = tt
action_good known a (word ∷ args) is =
    went KeepsAmounts (IsGood known) (operation_in known word args) (λ operation. Ok (Some (record { actor = a; operation = operation })))
    (subst (λ (r : Result Operation LineFault). Accepted KeepsAmounts r) (sym (by_verb known word args)) (verb_keeps known (verb_of word) args))
    (λ operation held. (is, held))

known_actor : (known : ScriptNames) (name : List ℕ) → Accepted (IsKnown known) (actor_in known name)
known_actor known name = by (known.actor name) (λ a e. (name, e))
  where
    by : (found : Option ActorId) → ((a : ActorId) → found ≡ Some a → IsKnown known a) → Accepted (IsKnown known) (ok_or found fault.UnknownActor)
    by None told = tt
    by (Some a) told = told a refl

entry_good : (known : ScriptNames) (name : List ℕ) (args : List (List ℕ)) → Accepted (IsGood known) (entry_of known name args)
entry_good known name args =
    went (IsKnown known) (IsGood known) (actor_in known name) (λ a. with_action known a args) (known_actor known name) (λ a is. action_good known a args is)

words_good : (known : ScriptNames) (plain : Bool) (all : List (List ℕ)) → Accepted (IsGood known) (of_words known plain all)
words_good known plain [] = tt
words_good known plain (word ∷ more) =
    either_accepted (IsGood known) (slice_index word 0 == 35) (Ok None) (cond plain (entry_of known word more) (Err fault.NotAscii)) tt
    (either_accepted (IsGood known) plain (entry_of known word more) (Err fault.NotAscii) (entry_good known word more) tt)

line_good : (known : ScriptNames) (line : List ℕ) → Accepted (IsGood known) (line_judgement known line)
line_good known line =
    let text : List ℕ = without_return line in
    either_accepted (IsGood known) (nat_lt 4096 (length line)) (Err fault.TooLong) (text_judgement known text) tt
    (words_good known (list_all is_plain text) (words text))

pub entry_kept : (known : ScriptNames) (line : List ℕ) (entry : Entry) → line_judgement known line ≡ Ok (Some entry) → IsKnown known entry.actor × KeepsAmounts entry.operation
entry_kept known line entry e = subst (λ (j : Judgement). Accepted (IsGood known) j) e (line_good known line)
