-- The table of actions by the verbs of the code, and the only argument of an action.
use Rattle.std.proofs.Common.{◌≡◌, ap, refl, ℕ, List, [], ◌∷◌, map, Option, Result, Ok, Err, inl, inr}
use Rattle.std.specs.Prelude.{bytes_eq, ok_or, option_map}
use Rattle.std.specs.List.{find}
use Rattle.std.proofs.lemmas.Bool.{cases_Bool}
use Rattle.sg_script.specs.declared.fault.LineFault.{LineFault}
use Rattle.sg_script.specs.declared.fault.LineFault.TheVariants.{ArgumentCount, UnknownAction}
use Rattle.sg_script.specs.declared.operation.Operation.{Operation}
use Rattle.sg_script.specs.declared.verbs.Verb.{Verb}
use Rattle.sg_script.specs.Known.{ScriptNames}
use Rattle.sg_script.specs.Line.{one_of, then_go}
use Rattle.sg_script.specs.kept.Arguments.{one_word}
use Rattle.sg_script.specs.kept.Verbs.{all_verbs, operation_in, operation_of, verb_of}

-- ---- the table
found : (f : Verb → List (List ℕ) → Result Operation LineFault) (rows : List (List ℕ × Verb)) (word : List ℕ) (args : List (List ℕ)) →
    then_go (ok_or (find (λ (row : List ℕ × (List (List ℕ) → Result Operation LineFault)). bytes_eq row.0 word) (map (λ (row : List ℕ × Verb). (row.0, f row.1)) rows)) UnknownAction) (λ (row : List ℕ × (List (List ℕ) → Result Operation LineFault)). row.1 args)
    ≡ then_go (ok_or (option_map (λ (row : List ℕ × Verb). row.1) (find (λ (row : List ℕ × Verb). bytes_eq row.0 word) rows)) UnknownAction) (λ verb. f verb args)
found f [] word args = refl
found f (row ∷ rows) word args = elim (cases_Bool (bytes_eq row.0 word)) [
  | inl is ↦ rw is refl
  | inr isnt ↦ rw isnt (found f rows word args)
]

pub by_verb : (known : ScriptNames) (word : List ℕ) (args : List (List ℕ)) →
    operation_in known word args ≡ then_go (ok_or (verb_of word) UnknownAction) (λ verb. operation_of known verb args)
by_verb known word args = found (operation_of known) all_verbs word args

-- ---- the only argument
pub one_is : {X : Type 0} (read : List ℕ → Option X) (fault : LineFault) (args : List (List ℕ)) (word : List ℕ) → one_word args ≡ Ok word → one_of read fault args ≡ ok_or (read word) fault
one_is read fault [] word is = cc
one_is read fault (first ∷ []) word is = let same : first ≡ word = cc in ap (λ w. ok_or (read w) fault) same
one_is read fault (first ∷ second ∷ more) word is = cc

pub one_fails : {X : Type 0} (read : List ℕ → Option X) (fault : LineFault) (args : List (List ℕ)) (why : LineFault) → one_word args ≡ Err why → one_of read fault args ≡ Err why
one_fails read fault [] why is = let same : ArgumentCount ≡ why = cc in ap (λ kind. Err kind) same
one_fails read fault (first ∷ []) why is = cc
one_fails read fault (first ∷ second ∷ more) why is = let same : ArgumentCount ≡ why = cc in ap (λ kind. Err kind) same
