-- The flows of the slots, and their sums.
use Rattle.std.proofs.Common.{◌≡◌, ℕ, zero, suc, ◌+◌, ◌<◌, inl, inr, Option, None, Some, List, [], ◌∷◌, length, get_or, set, sum_by, refl, sym, ap, ◌∙◌, arith}
use Rattle.std.proofs.lemmas.List.Sums.{sum_by-set, sum_by-cons}
use Rattle.sg_maxmin.specs.Fill.{Flow}
use Rattle.sg_maxmin.proofs.Members.{In}
use Rattle.sg_lazy.specs.RunningFlow.{RunningFlow, flows_in}

some_same : (a b : RunningFlow) → Some a ≡ Some b → a ≡ b
some_same a b h = cc h

pub In-flows : (slots : List (Option RunningFlow)) (id : ℕ) (r : RunningFlow) → get_or slots id None ≡ Some r → In r.flow (flows_in slots)
In-flows [] id r h = let q : None ≡ Some r = h in cc
In-flows (None ∷ slots) zero r h = cc
In-flows (Some s ∷ slots) zero r h = inl (ap (λ x. x.flow) (some_same s r h))
In-flows (None ∷ slots) (suc id) r h = In-flows slots id r h
In-flows (Some s ∷ slots) (suc id) r h = inr (In-flows slots id r h)

pub In-flows_back : (slots : List (Option RunningFlow)) (f : Flow) → In f (flows_in slots) → (id : ℕ) × (r : RunningFlow) × (get_or slots id None ≡ Some r) × (r.flow ≡ f)
In-flows_back [] f h = absurd h
In-flows_back (None ∷ slots) f h = let k = In-flows_back slots f h in (suc k.0, k.1, k.2, k.3)
In-flows_back (Some s ∷ slots) f (inl e) = (zero, s, refl, e)
In-flows_back (Some s ∷ slots) f (inr h) = let k = In-flows_back slots f h in (suc k.0, k.1, k.2, k.3)

abbrev pub part : (Flow → ℕ) → Option RunningFlow → ℕ
part g None = 0
part g (Some r) = g r.flow

pub sum_flows : (g : Flow → ℕ) (slots : List (Option RunningFlow)) → sum_by g (flows_in slots) ≡ sum_by (part g) slots
sum_flows g [] = refl
sum_flows g (None ∷ slots) = omega (arith, sum_flows g slots, sum_by-cons (part g) None slots)
sum_flows g (Some r ∷ slots) = sum_by-cons g r.flow (flows_in slots) ∙ ap (λ n. g r.flow + n) (sum_flows g slots) ∙ sym (sum_by-cons (part g) (Some r) slots)

-- one slot is written
pub sum_written : (g : Flow → ℕ) (slots : List (Option RunningFlow)) (id : ℕ) (new old : Option RunningFlow) → id < length slots → get_or slots id None ≡ old → sum_by g (flows_in (set slots id new)) + part g old ≡ sum_by g (flows_in slots) + part g new
sum_written g slots id new old h e = omega (arith, sum_flows g (set slots id new), sum_flows g slots, sum_by-set (part g) slots id new None h, ap (part g) e)
