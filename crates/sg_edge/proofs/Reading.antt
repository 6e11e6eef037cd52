-- Bytes that are taken from an input stream piece by piece.
use Rattle.std.proofs.Common.{◌≡◌, ◌∙◌, ◌+◌, ◌-◌, ◌≤◌, sym, ap, refl, ℕ, ◌++◌, List, [], length, take, drop, Option, None, Some, append_assoc, length-append, arith}
use Rattle.std.proofs.lemmas.List.{take-append-drop}
use Rattle.std.proofs.lemmas.Grind.{common_steps}
use Rattle.std.proofs.lemmas.Bool.Decides.{nat_tests}
use Rattle.sg_edge.specs.declared.files.Stage.{Stage}
use Rattle.sg_edge.specs.declared.files.Stage.TheVariants.{Begun}
use Rattle.sg_edge.specs.Files.{PartView, before, Takes, TakesUpTo}

pub before-nil : (left : Option (List ℕ)) → before [] left ≡ left
before-nil None = refl
before-nil (Some rest) = refl

pub before-before : (a b : List ℕ) (left : Option (List ℕ)) → before a (before b left) ≡ before (a ++ b) left
before-before a b None = refl
before-before a b (Some rest) = ap (λ (l : List ℕ). Some l) (sym (append_assoc a b rest))

-- the piece that was copied out, and what follows it
pub piece_split : (bytes copied rest : List ℕ) (taken n : ℕ) → taken + n ≤ length bytes → copied ≡ take (taken + n - taken) (drop taken bytes) → drop taken bytes ≡ take n (copied ++ rest) ++ drop (taken + n) bytes
piece_split bytes copied rest taken n fits is =
    let size : taken + n - taken ≡ n = omega arith in
    let is' : copied ≡ take n (drop taken bytes) = rw size at is in
    let len : length copied ≡ n = grind (arith, common_steps) in
    let front : take n (copied ++ rest) ≡ copied = grind (arith, common_steps) in
    let back : drop (taken + n) bytes ≡ drop n (drop taken bytes) = grind (arith, common_steps) in
    rw (front, back, is') (sym (take-append-drop n (drop taken bytes)))

pub piece_length : (bytes copied rest : List ℕ) (taken n : ℕ) → taken + n ≤ length bytes → copied ≡ take (taken + n - taken) (drop taken bytes) → length (take n (copied ++ rest)) ≡ n
piece_length bytes copied rest taken n fits is =
    let size : taken + n - taken ≡ n = omega arith in
    let is' : copied ≡ take n (drop taken bytes) = rw size at is in
    let len : length copied ≡ n = grind (arith, common_steps) in
    grind (arith, common_steps)

pub takes_piece : (bytes copied rest : List ℕ) (taken n faults : ℕ) (stage : Stage) (name : Option (List ℕ)) → stage ≡ Begun → (n ≡ 0 → ⊥) → taken + n ≤ length bytes → copied ≡ take (taken + n - taken) (drop taken bytes) → Takes (take n (copied ++ rest)) (record { stage = stage; name = name; left = Some (drop taken bytes); faults = faults }) (record { stage = stage; name = name; left = Some (drop (taken + n) bytes); faults = faults })
takes_piece bytes copied rest taken n faults stage name begun some fits is =
    let len : length (take n (copied ++ rest)) ≡ n = piece_length bytes copied rest taken n fits is in
    record {
      left = ap (λ (l : List ℕ). Some l) (piece_split bytes copied rest taken n fits is);
      stage = grind (arith, nat_tests);
      end = λ none. absurd (some (sym len ∙ none));
      name = refl;
      faults = refl;
    }

-- bytes that were taken, and then a piece
pub takes_more : (most : ℕ) (bytes piece : List ℕ) (old mid new : PartView) → old.left ≡ before bytes mid.left → mid.left ≡ before piece new.left → length bytes + length piece ≤ most → TakesUpTo most old new
takes_more most bytes piece old mid new first then few = record {
  bytes = bytes ++ piece;
  left = first ∙ ap (before bytes) then ∙ before-before bytes piece new.left;
  few = omega (arith, few, length-append bytes piece);
}
