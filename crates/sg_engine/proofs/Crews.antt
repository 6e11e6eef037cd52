-- Contexts that are taken from the end of a pool.
use Rattle.std.proofs.Common.{◌≡◌, ◌≤◌, ◌+◌, ◌-◌, ◌∙◌, sym, ap, subst, refl, ℕ, zero, suc, List, [], ◌∷◌, ◌++◌, length, Bool, true, false, arith}
use Rattle.std.specs.Prelude.{All, drop, reverse, take}
use Rattle.std.proofs.lemmas.List.{length-drop, length-reverse, length-take, reverse-append, reverse-reverse, take_all, take-append-drop}
use Rattle.std.proofs.lemmas.List.Elements.{All-take}
use Rattle.std.proofs.Math.Seq.{take-append_seam}
use Rattle.sg_engine.specs.declared.simulation.Simulation.{Simulation}
use Rattle.sg_engine.specs.kept.Invariant.{unstarted, StartsFrom, TakesCrew, TakesInAll, TakesLast}
use Rattle.sg_engine.specs.declared.ended.Ended.{Ended}
use Rattle.sg_engine.specs.RunContract.{TakesFirst}
use Rattle.sg_platform_rows.specs.Deployment.{Deployed, started_number}

-- the first so many
abbrev pub IsFront : {X : Type 0} → List X → List X → Type 0
IsFront old new = new ≡ take (length new) old

pub front_same : {X : Type 0} (xs : List X) → IsFront xs xs
front_same xs = sym (take_all (length xs) xs (omega arith))

pub front_short : {X : Type 0} (old new : List X) → IsFront old new → length new ≤ length old
front_short old new front = omega (arith, ap length front, length-take (length new) old)

take_less : {X : Type 0} (n m : ℕ) (xs : List X) → n ≤ m → take n (take m xs) ≡ take n xs
take_less zero m [] le = refl
take_less zero zero (x ∷ xs) le = refl
take_less zero (suc m) (x ∷ xs) le = refl
take_less (suc n) zero xs le = absurd (omega (arith, le))
take_less (suc n) (suc m) [] le = refl
take_less {X} (suc n) (suc m) (x ∷ xs) le = ap (λ (l : List X). x ∷ l) (take_less n m xs (omega (arith, le)))

pub front_then : {X : Type 0} (old mid new : List X) → IsFront old mid → IsFront mid new → IsFront old new
front_then old mid new first second = second ∙ ap (take (length new)) first ∙ take_less (length new) (length mid) old (front_short mid new second)

-- all except the last so many
pub front_less : {X : Type 0} (old new : List X) (n : ℕ) → new ≡ take (length old - n) old → IsFront old new × (length new ≡ length old - n)
front_less old new n is =
    let long : length new ≡ length old - n = omega (arith, ap length is, length-take (length old - n) old) in
    (is ∙ ap (λ k. take k old) (sym long), long)

pub front_all : {X : Type 0} (P : X → Type 0) (old new : List X) → IsFront old new → All P old → All P new
front_all P old new front all = subst (All P) (sym front) (All-take P (length new) old all)

-- reversed, those that aren't taken are the last
pub front_back : {X : Type 0} (old new : List X) → IsFront (reverse old) new → reverse new ≡ drop (length old - length new) old
front_back {X} old new front =
    let n = length old - length new in
    let short : length new ≤ length old = omega (arith, front_short (reverse old) new front, length-reverse old) in
    let back : length (reverse (drop n old)) ≡ length new = omega (arith, length-reverse (drop n old), length-drop n old, short) in
    let split : reverse old ≡ reverse (drop n old) ++ reverse (take n old) = ap reverse (sym (take-append-drop n old)) ∙ reverse-append (take n old) (drop n old) in
    let is : new ≡ reverse (drop n old) =
    front ∙ ap (λ (l : List X). take (length new) l) split ∙ ap (λ k. take k (reverse (drop n old) ++ reverse (take n old))) (sym back) ∙ take-append_seam (reverse (drop n old)) (reverse (take n old)) in
    ap reverse is ∙ reverse-reverse (drop n old)

-- ---- in a simulation
pub crew_then : {A : Type 0} (cut : Bool) (old mid new : Simulation A) → TakesCrew false old mid → TakesCrew cut mid new → TakesCrew cut old new
crew_then cut old mid new first second = record {
  front = front_then old.crew.items mid.crew.items new.crew.items first.front second.front;
  begun = omega (arith, first.begun, second.begun);
}

-- no actor has taken one
pub crew_same : {A : Type 0} (old new : Simulation A) → new.crew.items ≡ old.crew.items → unstarted new.kernel.core ≤ unstarted old.kernel.core → TakesCrew false old new
crew_same old new same begun = record {
  front = same ∙ front_same old.crew.items ∙ ap (λ k. take k old.crew.items) (sym (ap length same));
  begun = omega (arith, begun, ap length same);
}

-- after a cut less is said
pub crew_cut : {A : Type 0} (cut : Bool) (old new : Simulation A) → TakesCrew cut old new → TakesCrew true old new
crew_cut true old new takes = takes
crew_cut false old new takes = record { front = takes.front; begun = omega (arith, takes.begun) }

-- as it is at the end
pub crew_all : {A : Type 0} (cut : Bool) (old new : Simulation A) → new.kernel.setup ≡ old.kernel.setup → TakesCrew cut old new → TakesInAll old new
crew_all cut old new setup takes = record { setup = setup; front = takes.front; most = omega (arith, takes.begun) }

-- ---- from the beginning
pub last_taken : {A : Type 0} (deployed : Deployed) (how : Ended) (crew rest left : List A) → StartsFrom deployed crew rest → IsFront rest left → length rest ≤ length left + (length deployed.actors - started_number deployed) → started_number deployed ≤ length deployed.actors → TakesLast deployed how crew left
last_taken deployed how crew rest left starts front most few = record {
  front = front_then crew rest left starts.front front;
  least = λ isnt. omega (arith, starts.number, front_short rest left front);
  most = omega (arith, starts.number, most, few);
}

-- reversed
pub first_taken : {A : Type 0} (deployed : Deployed) (how : Ended) (old left : List A) → TakesLast deployed how (reverse old) left → TakesFirst deployed how old (reverse left)
first_taken deployed how old left takes = record {
  taken = length old - length left;
  least = λ isnt. omega (arith, takes.least isnt, length-reverse old);
  most = omega (arith, takes.most, length-reverse old);
  within = omega arith;
  left = front_back old left takes.front;
}
