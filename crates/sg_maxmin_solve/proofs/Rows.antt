-- What a sound system says of its flows and of the flows on its resources.
use Rattle.std.proofs.Common.{◌≡◌, ◌≢◌, ℕ, zero, suc, ◌<◌, ◌≤◌, true, true≢false, is_some, cond, Option, None, Some, IsSome, List, [], ◌∷◌, length, get_or, set, sum_by, AllPairs, get_or-set_other, refl, sym, ap, subst, ◌∙◌, arith}
use Rattle.std.proofs.lemmas.List.Sums.{sum_by-set, count_by-le-length}
use Rattle.sg_base.specs.MarkSet.{is_in}
use Rattle.sg_maxmin.specs.Fill.{Flow, is_on}
use Rattle.sg_maxmin.specs.Sharing.{flow_at, uses_at}
use Rattle.sg_maxmin_solve.specs.Component.{AreIn}
use Rattle.sg_maxmin.proofs.Listed.{at_in}
use Rattle.sg_maxmin.proofs.Users.{held_below, uses_held}

-- ---- membership, by a test or by a count
pub into : (row members : List ℕ) (c : ℕ) → AreIn row members → is_in c row ≡ true → is_in c members ≡ true
into row members c all e = let at = at_in c row e in subst (λ k. is_in k members ≡ true) at.2 (all at.0 at.1)

-- ---- what is held
pub uses_in_row : (slots : List (Option Flow)) (id c : ℕ) (flow : Flow) → flow_at slots id ≡ Some flow → is_on c flow ≡ true → is_in c (uses_at slots id) ≡ true
uses_in_row slots id c flow q e = ap (is_in c) (uses_held slots id flow q) ∙ e

-- ---- distinct flows that are held are no more than the numbers
abbrev weight : Option Flow → ℕ
weight o = cond (is_some o) 1 0

all_slots : (slots : List (Option Flow)) → sum_by weight slots ≤ length slots
all_slots slots = count_by-le-length (λ (o : Option Flow). is_some o) slots

one_slot : (o : Option Flow) → IsSome o → weight o ≡ 1
one_slot None h = absurd (true≢false (sym h))
one_slot (Some f) h = refl

few_slots : (slots : List (Option Flow)) (ids : List ℕ) → AllPairs (λ a b. a ≢ b) ids → ((i : ℕ) → i < length ids → IsSome (flow_at slots (get_or ids i 0))) → length ids ≤ sum_by weight slots
few_slots slots [] once held = omega arith
few_slots slots (t ∷ ids) once held =
    let here = held 0 (omega arith) in
    let rest = few_slots (set slots t None) ids (λ i j d a b. once (suc i) (suc j) d (omega (arith, a)) (omega (arith, b)))
    (λ i h. subst IsSome (sym (get_or-set_other slots t (get_or ids i 0) None None (λ e. once 0 (suc i) 0 (omega arith) (omega (arith, h)) (sym e)))) (held (suc i) (omega (arith, h)))) in
    omega (arith, rest, sum_by-set weight slots t None None (held_below slots t here), one_slot (flow_at slots t) here)

pub few_held : (slots : List (Option Flow)) (ids : List ℕ) → AllPairs (λ a b. a ≢ b) ids → ((i : ℕ) → i < length ids → IsSome (flow_at slots (get_or ids i 0))) → length ids ≤ length slots
few_held slots ids once held = omega (arith, few_slots slots ids once held, all_slots slots)

-- ---- reading
pub any_default : {X : Type 0} (xs : List X) (i : ℕ) (d e : X) → i < length xs → get_or xs i d ≡ get_or xs i e
any_default [] i d e h = absurd (omega arith)
any_default (x ∷ xs) zero d e h = refl
any_default (x ∷ xs) (suc i) d e h = any_default xs i d e (omega arith)
