-- Texts that come after what waits, and after what is written.
use Rattle.std.proofs.Common.{◌≡◌, ◌∙◌, sym, ap, ℕ, List, ◌++◌, Option, append_assoc}
use Rattle.sg_edge.specs.Sinks.{gain, GainsFront, IsWritten}
use Rattle.sg_edge.proofs.Writing.{gain-gain}

-- ---- after what waits
-- one text and then another
pub adds_then : (first second waits left rest : List ℕ) (old mid new : Option (List ℕ)) → IsWritten (waits ++ first) left old mid → IsWritten (left ++ second) rest mid new → IsWritten (waits ++ (first ++ second)) rest old new
adds_then first second waits left rest old mid new before after = record {
  done = before.done ++ after.done;
  split = sym (append_assoc waits first second)
      ∙ ap (λ (l : List ℕ). l ++ second) before.split
      ∙ append_assoc before.done left second
      ∙ ap (λ (l : List ℕ). before.done ++ l) after.split
      ∙ sym (append_assoc before.done after.done rest);
  held = after.held ∙ ap (λ (h : Option (List ℕ)). gain h after.done) before.held ∙ gain-gain old before.done after.done;
}

-- a text and then a prefix of another
pub adds_front : (first second waits left : List ℕ) (old mid new : Option (List ℕ)) → IsWritten (waits ++ first) left old mid → GainsFront (left ++ second) mid new → GainsFront (waits ++ (first ++ second)) old new
adds_front first second waits left old mid new before front = (front.0, adds_then first second waits left front.0 old mid new before front.1)

-- a prefix of a text is one of a longer one
pub front_adds : (first second waits : List ℕ) (old new : Option (List ℕ)) → GainsFront (waits ++ first) old new → GainsFront (waits ++ (first ++ second)) old new
front_adds first second waits old new front = (
  front.0 ++ second,
  record {
    done = front.1.done;
    split = sym (append_assoc waits first second) ∙ ap (λ (l : List ℕ). l ++ second) front.1.split ∙ append_assoc front.1.done front.0 second;
    held = front.1.held;
  },
)

-- ---- after what is written
-- one text and then another
pub gains_then : (first second : List ℕ) (old mid new : Option (List ℕ)) → mid ≡ gain old first → new ≡ gain mid second → new ≡ gain old (first ++ second)
gains_then first second old mid new before after = after ∙ ap (λ (h : Option (List ℕ)). gain h second) before ∙ gain-gain old first second

-- a text and then a prefix of another
pub front_behind : (first second : List ℕ) (old mid new : Option (List ℕ)) → mid ≡ gain old first → GainsFront second mid new → GainsFront (first ++ second) old new
front_behind first second old mid new held front = (
  front.0,
  record {
    done = first ++ front.1.done;
    split = ap (λ (l : List ℕ). first ++ l) front.1.split ∙ sym (append_assoc first front.1.done front.0);
    held = gains_then first front.1.done old mid new held front.1.held;
  },
)
