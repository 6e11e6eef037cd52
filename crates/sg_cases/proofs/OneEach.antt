-- One flow on each resource.
use Rattle.std.proofs.Common.{◌≡◌, ◌≢◌, ℕ, suc, ◌+◌, ◌<◌, ◌≤◌, inl, inr, Bool, true, false, cond, ◌||◌, ne_eqb, Option, None, Some, option_map, List, [], ◌∷◌, length, set, get_or-set_same, get_or-set_other, sum_by, refl, sym, ap, ◌∙◌, arith}
use Rattle.sg_maxmin.specs.Fill.{Flow, flow, is_on}
use Rattle.sg_maxmin.proofs.Sums.{sum_by_zero}
use Rattle.sg_lazy.specs.RunningFlow.{RunningFlow, running_at, flow_under, flows_in}
use Rattle.sg_lazy.specs.Lazily.{Lazily, IsRoomier, IsSettled, with_flow}
use Rattle.sg_cases.specs.OneEach.{IsIdle, IsOneEach, users_of}
use Rattle.sg_lazy.proofs.Slots.{In-flows_back, sum_written}
use Rattle.sg_maxmin.proofs.Listed.{eq_cases}

none_some : (r : RunningFlow) → None ≡ Some r → ⊥
none_some r h = cc h

-- nothing runs yet
pub one_none : (fresh s : Lazily) → IsIdle fresh → IsRoomier fresh s → 101 ≤ s.flow_room → 101 ≤ s.use_room → IsOneEach 0 s
one_none fresh s idles roomier flow_room use_room =
    let idle : (id : ℕ) → running_at s.slots id ≡ None = λ id. roomier.runs id ∙ ap (λ list. running_at list id) idles.slots in
    let nobody : (resource : ℕ) → users_of resource s.slots ≡ 0 = λ resource. sum_by_zero (λ f. cond (is_on resource f) 1 0) (flows_in s.slots) (λ f i. let k = In-flows_back s.slots f i in absurd (none_some k.1 (sym (idle k.0) ∙ k.2))) in
    record {
      resources = ap length roomier.capacities ∙ idles.resources;
      flow_room = omega (arith, flow_room);
      use_room = omega (arith, use_room);
      alone = λ id r e. absurd (none_some r (sym (idle id) ∙ e));
      few = λ resource. omega (arith, nobody resource);
      none = λ resource h. nobody resource;
      ended = roomier.ended ∙ idles.ended;
      steady = roomier.resources ∙ idles.steady;
    }

on_next : (count resource : ℕ) → count ≢ resource → is_on resource (flow (count ∷ []) 1 (Some 10)) ≡ false
on_next count resource ne = ap (λ b. b || false) (ne_eqb count resource ne)

-- one more flow, on the next resource
pub one_more : (s : Lazily) (count id : ℕ) → IsOneEach count s → count < 100 → running_at s.slots id ≡ None → id < length s.slots → IsOneEach (count + 1) (with_flow s id (flow (count ∷ []) 1 (Some 10)))
one_more s count id each more free below =
    let new = flow (count ∷ []) 1 (Some 10) in
    let began : RunningFlow = record { flow = new; rate = 0; began = true; marked = true } in
    let sums : (resource : ℕ) → users_of resource (set s.slots id (Some began)) ≡ users_of resource s.slots + cond (is_on resource new) 1 0 = λ resource. omega (arith, sum_written (λ f. cond (is_on resource f) 1 0) s.slots id (Some began) None below free) in
    let off : (resource : ℕ) → count ≢ resource → ◌≡◌ {A = ℕ} (cond (is_on resource new) 1 0) 0 = λ resource ne. ap {B = ℕ} (λ b. cond b 1 0) (on_next count resource ne) in
    record {
      resources = each.resources;
      flow_room = omega (arith, each.flow_room, more);
      use_room = omega (arith, each.use_room, more);
      alone = λ other r e. elim (eq_cases other id) [
        | inl q ↦ (count, ap (λ (x : RunningFlow). x.flow.uses) (same r began (sym e ∙ ap (running_at (set s.slots id (Some began))) q ∙ get_or-set_same s.slots id (Some began) None below)))
        | inr ne ↦ each.alone other r (sym (get_or-set_other s.slots id other (Some began) None ne) ∙ e)
      ];
      few = λ resource. elim (eq_cases count resource) [
        | inl q ↦ let none = each.none resource (omega (arith, q)) in omega (arith, sums resource, none, most (is_on resource new))
        | inr ne ↦ omega (arith, sums resource, off resource ne, each.few resource)
      ];
      none = λ resource h. let ne : count ≢ resource = (λ q. omega (arith, q, h)) in omega (arith, sums resource, off resource ne, each.none resource (omega (arith, h)));
      ended = each.ended;
      steady = each.steady;
    }
  where
    same : (a b : RunningFlow) → Some a ≡ Some b → a ≡ b
    same a b h = cc h

    most : (b : Bool) → cond b 1 0 ≤ 1
    most true = omega arith
    most false = omega arith

-- the flows are those of the slots
same_flows : (xs ys : List (Option RunningFlow)) → length xs ≡ length ys → ((id : ℕ) → flow_under xs id ≡ flow_under ys id) → flows_in xs ≡ flows_in ys
same_flows [] [] l e = refl
same_flows [] (y ∷ ys) l e = absurd (omega (arith, l))
same_flows (x ∷ xs) [] l e = absurd (omega (arith, l))
same_flows (None ∷ xs) (None ∷ ys) l e = same_flows xs ys (omega (arith, l)) (λ id. e (suc id))
same_flows (None ∷ xs) (Some y ∷ ys) l e = let h : None ≡ Some y.flow = e 0 in cc
same_flows (Some x ∷ xs) (None ∷ ys) l e = let h : Some x.flow ≡ None = e 0 in cc
same_flows (Some x ∷ xs) (Some y ∷ ys) l e = ap (λ f. f ∷ flows_in xs) (same_flow x.flow y.flow (e 0)) ∙ ap (λ fs. y.flow ∷ fs) (same_flows xs ys (omega (arith, l)) (λ id. e (suc id)))
  where
    same_flow : (a b : Flow) → Some a ≡ Some b → a ≡ b
    same_flow a b h = cc h

-- a rate update changes no flow
pub one_settled : (s t : Lazily) (count : ℕ) → IsSettled s t → IsOneEach count s → IsOneEach count t
one_settled s t count settled each =
    let flows = same_flows t.slots s.slots settled.numbers settled.flows in
    let sums : (resource : ℕ) → users_of resource t.slots ≡ users_of resource s.slots = λ resource. ap (sum_by (λ f. cond (is_on resource f) 1 0)) flows in
    let none_ended : length s.ended ≡ 0 = ap length each.ended in
    record {
      resources = ap length settled.capacities_kept ∙ each.resources;
      flow_room = omega (arith, each.flow_room, settled.flow_room_back);
      use_room = omega (arith, each.use_room, settled.use_room_back);
      alone = λ id r e. let k = back id r.flow (sym (settled.flows id) ∙ ap (option_map (λ (x : RunningFlow). x.flow)) e) in let a = each.alone id k.0 k.1 in (a.0, ap (λ (f : Flow). f.uses) (sym k.2) ∙ a.1);
      few = λ resource. omega (arith, sums resource, each.few resource);
      none = λ resource h. sums resource ∙ each.none resource h;
      ended = settled.none_ended;
      steady = settled.no_resources;
    }
  where
    same_flow : (a b : Flow) → Some a ≡ Some b → a ≡ b
    same_flow a b h = cc h

    at : (o : Option RunningFlow) (f : Flow) → option_map (λ (x : RunningFlow). x.flow) o ≡ Some f → (r : RunningFlow) × (o ≡ Some r) × (r.flow ≡ f)
    at None f h = let q : None ≡ Some f = h in cc
    at (Some r) f h = (r, refl, same_flow r.flow f h)

    back : (id : ℕ) (f : Flow) → flow_under s.slots id ≡ Some f → (r : RunningFlow) × (running_at s.slots id ≡ Some r) × (r.flow ≡ f)
    back id f h = at (running_at s.slots id) f h
