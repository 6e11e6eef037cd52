use Rattle.std.proofs.Common.{◌≡◌, ◌≢◌, ◌+◌, ◌<◌, ◌^◌, ℕ, List, [], Option, IsSome, All, AllPairs, length, get_or, sym, ap, subst, ◌∙◌, arith}
use Rattle.std.proofs.lemmas.List.Elements.{All-get_or, All-from_get_or}
use Rattle.sg_base.specs.MarkSet.{MarkSet}
use Rattle.sg_maxmin.specs.Fill.{flow}
use Rattle.sg_maxmin.specs.Sharing.{IsFlow}
use Rattle.sg_cases.proofs.settling.start_one.Goals as goal

-- resources below six are a flow's on six capacities
six : (capacities uses : List ℕ) (weight : ℕ) (bound : Option ℕ) → length capacities ≡ 6 → All (λ n. n < 6) uses → AllPairs (λ a b. a ≢ b) uses → weight < 2 ^ 32 → 0 < weight → (uses ≡ [] → IsSome bound) → IsFlow capacities (flow uses weight bound)
six capacities uses weight bound len below once light weighs some = record {
  exist = All-from_get_or (λ c. c < length capacities) uses 0 (λ i h. let k : get_or uses i 0 < 6 = All-get_or (λ n. n < 6) uses i 0 h below in omega (arith, k, len));
  once = once;
  light = light;
  limit = record { weighs = weighs; bounds = some };
}

pub start-requires-clause-lazy : goal.start-requires-clause-lazy
start-requires-clause-lazy c =
    let room : c.bound-bound.new.self.picked.room ≡ 6 = ap (λ (m : MarkSet). m.room) (c.bound-bound.ensures.picked ∙ c.below.ensures.picked) ∙ c.pick.ensures ∙ c.requires.room in
    six c.args.lazy.now.capacities c.members.result.now (1 + c.below.result) c.bound-bound.result c.requires.paired.lazy_resources (subst (λ (n : ℕ). All (λ m. m < n) c.members.result.now) room c.members.ensures.in_range) c.members.ensures.once
    (omega (arith, c.below.ensures.below)) (omega arith) (λ e. c.bound-bound.ensures.some (ap (λ (m : MarkSet). m.members) (sym c.bound-bound.ensures.picked) ∙ sym c.members.ensures.members ∙ e))

pub start-requires-clause-whole : goal.start-requires-clause-whole
start-requires-clause-whole c =
    let room : c.bound-bound.new.self.picked.room ≡ 6 = ap (λ (m : MarkSet). m.room) (c.bound-bound.ensures.picked ∙ c.below.ensures.picked) ∙ c.pick.ensures ∙ c.requires.room in
    six c.args.whole.now.capacities c.members.result.now (1 + c.below.result) c.bound-bound.result c.requires.paired.whole_resources (subst (λ (n : ℕ). All (λ m. m < n) c.members.result.now) room c.members.ensures.in_range) c.members.ensures.once
    (omega (arith, c.below.ensures.below)) (omega arith) (λ e. c.bound-bound.ensures.some (ap (λ (m : MarkSet). m.members) (sym c.bound-bound.ensures.picked) ∙ sym c.members.ensures.members ∙ e))
