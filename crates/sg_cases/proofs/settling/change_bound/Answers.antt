use Rattle.std.proofs.Common.{◌≡◌, ℕ, Bool, true, false, cond, Option, IsSome, is_some, option_map, length, refl, ap, ◌∙◌}
use Rattle.sg_maxmin.specs.Sharing.{Sharing, flow_at}
use Rattle.sg_lazy.specs.RunningFlow.{RunningFlow, bounded_by, has_bound, running_at}
use Rattle.sg_lazy.specs.Lazily.{Lazily, with_other_bound}
use Rattle.sg_cases.proofs.Pairs.{pairs_stay, still_there}
use Rattle.sg_lazy.proofs.Starting.{bound_told}
use Rattle.sg_maxmin.proofs.Listed.{some_of}
use Rattle.sg_cases.proofs.settling.change_bound.Goals as goal

bounded_runs : (bound : ℕ) (o : Option RunningFlow) → IsSome o → IsSome (option_map (bounded_by bound) o)
bounded_runs bound o some = let r = some_of o some in ap (λ (o : Option RunningFlow). is_some (option_map (bounded_by bound) o)) r.1

-- whatever the bound was, as many resources are there, and the same flows run
bound_resources : (a : Lazily) (id bound : ℕ) (b : Bool) → length (cond b a (with_other_bound a id bound)).capacities ≡ length a.capacities
bound_resources a id bound true = refl
bound_resources a id bound false = refl

bound_runs : (a : Lazily) (id bound : ℕ) (b : Bool) (k : ℕ) → IsSome (running_at a.slots k) → IsSome (running_at (with_other_bound a id bound).slots k) → IsSome (running_at (cond b a (with_other_bound a id bound)).slots k)
bound_runs a id bound true k h e = h
bound_runs a id bound false k h e = e

pub returns-clause-paired : goal.returns-clause-paired
returns-clause-paired c = λ twins paired.
    let a = c.args.lazy.now in
    let s = c.args.whole.now in
    let lazy = c.set_bound.ensures in
    let held = some_of (flow_at s.slots c.args.twin) c.requires.held in
    let whole = bound_told s c.set_bound-2.new.self c.args.twin _ held.0 held.1 c.set_bound-2.ensures in
    pairs_stay a c.set_bound.new.self s c.set_bound-2.new.self twins twins paired (ap (λ (x : Lazily). length x.capacities) lazy ∙ bound_resources a c.args.id _ (has_bound _ (running_at a.slots c.args.id))) (ap (λ (x : Sharing). length x.capacities) whole)
    (λ id h. ap (λ (x : Lazily). is_some (running_at x.slots id)) lazy ∙ bound_runs a c.args.id _ (has_bound _ (running_at a.slots c.args.id)) id h (still_there a.slots c.args.id (option_map (bounded_by _) (running_at a.slots c.args.id)) id (bounded_runs _ (running_at a.slots c.args.id) c.requires.runs) h))
    (λ id h. ap (λ (x : Sharing). is_some (flow_at x.slots id)) whole ∙ still_there s.slots c.args.twin _ id refl h)
    (λ id. refl)
