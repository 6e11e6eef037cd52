-- What a sound system says of its flows and of the flows on its resources.
use Rattle.std.proofs.Common.{◌≡◌, ◌≢◌, ℕ, ◌^◌, ◌<◌, inl, inr, true, true≢false, eqb, eq-eqb, eqb-true, Option, None, Some, IsSome, IfSome, List, [], length, get_or, All, AllPairs, lit<, refl, sym, ap, subst, ◌∙◌, arith}
use Rattle.std.proofs.lemmas.List.{get_or_past}
use Rattle.std.proofs.lemmas.List.Elements.{All-from_get_or}
use Rattle.sg_base.specs.MarkSet.{is_in}
use Rattle.sg_maxmin.specs.Chained.{users_on}
use Rattle.sg_maxmin.specs.Fill.{Flow, is_on}
use Rattle.sg_maxmin.specs.Sharing.{Sharing, IsSound, flow_at, uses_at}
use Rattle.sg_maxmin.proofs.Members.{In, list_any_in, list_any_back}
use Rattle.sg_maxmin.specs.Numbered.{bound_at, flow_in, weight_at}
use Rattle.sg_maxmin.proofs.Listed.{in_at, lt_cases, none_some, same_in, some_of}

pub in_is : (x : ℕ) (xs : List ℕ) → In x xs → is_in x xs ≡ true
in_is x xs i = list_any_in (λ m. eqb m x) xs x i (eq-eqb x x refl)

pub is_in_In : (x : ℕ) (xs : List ℕ) → is_in x xs ≡ true → In x xs
is_in_In x xs e = let b = list_any_back (λ m. eqb m x) xs e in subst (λ y. In y xs) (eqb-true b.0 x b.2) b.1

-- ---- what is held
pub uses_held : (slots : List (Option Flow)) (id : ℕ) (flow : Flow) → flow_at slots id ≡ Some flow → uses_at slots id ≡ flow.uses
uses_held slots id flow e = rw e refl

pub uses_none : (slots : List (Option Flow)) (id : ℕ) → flow_at slots id ≡ None → uses_at slots id ≡ []
uses_none slots id e = rw e refl

pub flow_in_is : (slots : List (Option Flow)) (id : ℕ) (flow : Flow) → flow_at slots id ≡ Some flow → flow_in slots id ≡ flow
flow_in_is slots id flow e = rw e refl

pub flow_below : (slots : List (Option Flow)) (id : ℕ) (flow : Flow) → flow_at slots id ≡ Some flow → id < length slots
flow_below slots id flow e = elim (lt_cases id (length slots)) [
  | inl h ↦ h
  | inr past ↦ absurd (none_some (sym (get_or_past slots id None past) ∙ e))
]

pub held_below : (slots : List (Option Flow)) (id : ℕ) → IsSome (flow_at slots id) → id < length slots
held_below slots id some = let f = some_of (flow_at slots id) some in flow_below slots id f.0 f.1

-- what has uses is held
pub in_uses : (slots : List (Option Flow)) (id c : ℕ) → is_in c (uses_at slots id) ≡ true → (flow : Flow) × (flow_at slots id ≡ Some flow) × (is_on c flow ≡ true)
in_uses slots id c i = from (flow_at slots id) refl
  where
    from : (o : Option Flow) → flow_at slots id ≡ o → (flow : Flow) × (flow_at slots id ≡ Some flow) × (is_on c flow ≡ true)
    from None q = absurd (true≢false (sym i ∙ ap (is_in c) (uses_none slots id q)))
    from (Some flow) q = (flow, q, sym (ap (is_in c) (uses_held slots id flow q)) ∙ i)

-- ---- of each number
module _ (s : Sharing) (sound : IsSound s) where
  pub rows_exist : (id : ℕ) → All (λ c. c < length s.capacities) (uses_at s.slots id)
  rows_exist id = from (flow_at s.slots id) refl
    where
      from : (o : Option Flow) → flow_at s.slots id ≡ o → All (λ c. c < length s.capacities) (uses_at s.slots id)
      from None q = subst (All (λ c. c < length s.capacities)) (sym (uses_none s.slots id q)) (All-from_get_or (λ c. c < length s.capacities) [] 0 (λ i h. absurd (omega arith)))
      from (Some flow) q = subst (All (λ c. c < length s.capacities)) (sym (uses_held s.slots id flow q)) (sound.flows id flow q).exist

  pub rows_once : (id : ℕ) → AllPairs (λ a b. a ≢ b) (uses_at s.slots id)
  rows_once id = from (flow_at s.slots id) refl
    where
      from : (o : Option Flow) → flow_at s.slots id ≡ o → AllPairs (λ a b. a ≢ b) (uses_at s.slots id)
      from None q = subst (AllPairs (λ a b. a ≢ b)) (sym (uses_none s.slots id q)) (λ i j d a b. absurd (omega (arith, b)))
      from (Some flow) q = subst (AllPairs (λ a b. a ≢ b)) (sym (uses_held s.slots id flow q)) (sound.flows id flow q).once

  pub weighs : (id : ℕ) → (0 < weight_at s.slots id) × (weight_at s.slots id < 2 ^ 32)
  weighs id = from (flow_at s.slots id) refl
    where
      from : (o : Option Flow) → flow_at s.slots id ≡ o → (0 < weight_at s.slots id) × (weight_at s.slots id < 2 ^ 32)
      from None q = rw q (omega arith, lit< tt)
      from (Some flow) q = let its = sound.flows id flow q in rw q (its.limit.weighs, its.light)

  -- the flows on a resource are held, and use it
  pub on_held : (c id : ℕ) → is_in id (users_on s.users c) ≡ true → (flow : Flow) × (flow_at s.slots id ≡ Some flow) × (is_on c flow ≡ true)
  on_held c id i = in_uses s.slots id c (same_in id c (users_on s.users c) (uses_at s.slots id) (sound.both id c) i)

  pub on_below : (c i : ℕ) → i < length (users_on s.users c) → get_or (users_on s.users c) i 0 < length s.slots
  on_below c i h =
      let id = get_or (users_on s.users c) i 0 in
      let f = on_held c id (in_at id (users_on s.users c) i h refl) in
      flow_below s.slots id f.0 f.1

-- ---- what a call returns of a flow's weight and bound
pub weight_is : (slots : List (Option Flow)) (id w : ℕ) → IsSome (flow_at slots id) → IfSome (flow_at slots id) (λ (f : Flow). w ≡ f.weight) → w ≡ weight_at slots id
weight_is slots id w some told =
    let f = some_of (flow_at slots id) some in
    let is : w ≡ f.0.weight = subst (λ o. IfSome o (λ (f : Flow). w ≡ f.weight)) f.1 told in
    is ∙ ap (λ (g : Flow). g.weight) (sym (flow_in_is slots id f.0 f.1))

pub bound_is : (slots : List (Option Flow)) (id : ℕ) (b : Option ℕ) → IsSome (flow_at slots id) → IfSome (flow_at slots id) (λ (f : Flow). b ≡ f.bound) → b ≡ bound_at slots id
bound_is slots id b some told =
    let f = some_of (flow_at slots id) some in
    let is : b ≡ f.0.bound = subst (λ o. IfSome o (λ (f : Flow). b ≡ f.bound)) f.1 told in
    is ∙ ap (λ (g : Flow). g.bound) (sym (flow_in_is slots id f.0 f.1))
