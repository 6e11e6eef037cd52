use Rattle.std.proofs.Common.{◌≡◌, ◌==◌, ℕ, Bool, true, false, cond, get_or, is_some, length, length-set, refl, ap, ◌∙◌}
use Rattle.sg_maxmin.specs.Sharing.{Sharing, flow_at}
use Rattle.sg_lazy.specs.RunningFlow.{running_at}
use Rattle.sg_lazy.specs.Lazily.{Lazily, with_other_capacity}
use Rattle.sg_cases.proofs.Pairs.{pairs_stay}
use Rattle.sg_cases.proofs.settling.change_capacity.Goals as goal

-- whatever the capacity was, as many resources are there, and the same flows run
capacity_resources : (a : Lazily) (resource capacity : ℕ) (b : Bool) → length (cond b a (with_other_capacity a resource capacity)).capacities ≡ length a.capacities
capacity_resources a resource capacity true = refl
capacity_resources a resource capacity false = length-set a.capacities resource capacity

capacity_slots : (a : Lazily) (resource capacity : ℕ) (b : Bool) → (cond b a (with_other_capacity a resource capacity)).slots ≡ a.slots
capacity_slots a resource capacity true = refl
capacity_slots a resource capacity false = refl

pub returns-clause-paired : goal.returns-clause-paired
returns-clause-paired c = λ twins paired.
    let a = c.args.lazy.now in
    let s = c.args.whole.now in
    let id = c.below-resource.result in
    let lazy = c.set_capacity.ensures in
    let whole = c.set_capacity-2.ensures in
    let slots = ap (λ (x : Lazily). x.slots) lazy ∙ capacity_slots a id _ (get_or a.capacities id 0 == _) in
    pairs_stay a c.set_capacity.new.self s c.set_capacity-2.new.self twins twins paired (ap (λ (x : Lazily). length x.capacities) lazy ∙ capacity_resources a id _ (get_or a.capacities id 0 == _)) (ap (λ (x : Sharing). length x.capacities) whole ∙ length-set s.capacities _ _)
    (λ n h. ap (λ slots. is_some (running_at slots n)) slots ∙ h) (λ n h. ap (λ (x : Sharing). is_some (flow_at x.slots n)) whole ∙ h) (λ n. refl)
