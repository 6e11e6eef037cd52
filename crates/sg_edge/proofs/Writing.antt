-- Bytes that a stream gains piece by piece.
use Rattle.std.proofs.Common.{◌≡◌, ◌∙◌, sym, ap, refl, ℕ, ◌++◌, List, [], length, take, drop, Option, None, Some, append_assoc}
use Rattle.std.proofs.lemmas.List.{append-nil, nil_from_length, take-append-drop}
use Rattle.sg_edge.specs.Sinks.{gain, IsWritten}

pub gain-nil : (old : Option (List ℕ)) → gain old [] ≡ old
gain-nil None = refl
gain-nil (Some held) = ap (λ (l : List ℕ). Some l) (append-nil held)

pub gain-gain : (old : Option (List ℕ)) (a b : List ℕ) → gain (gain old a) b ≡ gain old (a ++ b)
gain-gain None a b = refl
gain-gain (Some held) a b = ap (λ (l : List ℕ). Some l) (append_assoc held a b)

pub written_none : (text : List ℕ) (old : Option (List ℕ)) → IsWritten text text old old
written_none text old = record { done = []; split = refl; held = sym (gain-nil old) }

pub written_more : (text rest rest' : List ℕ) (old mid new : Option (List ℕ)) (n : ℕ) → IsWritten text rest old mid → new ≡ gain mid (take n rest) → rest' ≡ drop n rest → IsWritten text rest' old new
written_more text rest rest' old mid new n w step after = record {
  done = w.done ++ take n rest;
  split = w.split ∙ ap (λ (l : List ℕ). w.done ++ l) (sym (take-append-drop n rest) ∙ ap (λ (l : List ℕ). take n rest ++ l) (sym after)) ∙ sym (append_assoc w.done (take n rest) rest');
  held = step ∙ ap (λ (h : Option (List ℕ)). gain h (take n rest)) w.held ∙ gain-gain old w.done (take n rest);
}

pub written_all : (text rest : List ℕ) (old new : Option (List ℕ)) → IsWritten text rest old new → length rest ≡ 0 → new ≡ gain old text
written_all text rest old new w none = w.held ∙ ap (λ (l : List ℕ). gain old l) (sym (w.split ∙ ap (λ (l : List ℕ). w.done ++ l) (nil_from_length rest none) ∙ append-nil w.done))
