use Rattle.std.proofs.Common.{◌≡◌, Some, IsSome, cond, refl, sym, ap, subst, ◌∙◌}
use Rattle.std.specs.Option.{IfSome}
use Rattle.sg_maxmin.specs.Fill.{Flow}
use Rattle.sg_lazy.specs.RunningFlow.{has_bound, is_same_bound, running_at}
use Rattle.sg_lazy.specs.Lazily.{Lazily, with_other_bound}
use Rattle.sg_lazy.proofs.Starting.{is_here}
use Rattle.sg_maxmin.proofs.Listed.{some_of}
use Rattle.sg_lazy.proofs.lazy.Lazy.set_bound.Goals as goal

pub bound-requires : goal.bound-requires
bound-requires c =
    let i = c.self.inside in
    let r = some_of (running_at c.args.self.now.slots c.args.flow) c.requires in
    let here = is_here i.system.slots i.rated.rates.items i.pending.began.members i.pending.marked.members i.pending.ended.members c.args.flow r.0 (ap (λ (v : Lazily). running_at v.slots c.args.flow) c.self.view_is ∙ r.1) in
    subst IsSome (sym here.held) refl

pub returns-then-not-is_bound : goal.returns-then-not-is_bound
returns-then-not-is_bound c =
    let i = c.self.inside in
    let s = c.args.self.now in
    let r = some_of (running_at s.slots c.args.flow) c.requires in
    let here = is_here i.system.slots i.rated.rates.items i.pending.began.members i.pending.marked.members i.pending.ended.members c.args.flow r.0 (ap (λ (v : Lazily). running_at v.slots c.args.flow) c.self.view_is ∙ r.1) in
    let told : c.bound.result ≡ r.0.flow.bound = subst (λ o. IfSome o (λ (held : Flow). c.bound.result ≡ held.bound)) here.held c.bound.ensures in
    let other = ap (has_bound c.args.bound) r.1 ∙ ap (λ b. is_same_bound b (Some c.args.bound)) (sym told) ∙ sym c.if-not-is_bound.ensures in
    c.change_bound.ensures ∙ sym (ap (λ b. cond b s (with_other_bound s c.args.flow c.args.bound)) other)

pub returns-else-not-is_bound : goal.returns-else-not-is_bound
returns-else-not-is_bound c =
    let i = c.self.inside in
    let s = c.args.self.now in
    let r = some_of (running_at s.slots c.args.flow) c.requires in
    let here = is_here i.system.slots i.rated.rates.items i.pending.began.members i.pending.marked.members i.pending.ended.members c.args.flow r.0 (ap (λ (v : Lazily). running_at v.slots c.args.flow) c.self.view_is ∙ r.1) in
    let told : c.bound.result ≡ r.0.flow.bound = subst (λ o. IfSome o (λ (held : Flow). c.bound.result ≡ held.bound)) here.held c.bound.ensures in
    let same = ap (has_bound c.args.bound) r.1 ∙ ap (λ b. is_same_bound b (Some c.args.bound)) (sym told) ∙ sym c.if-not-is_bound.ensures in
    sym (ap (λ b. cond b s (with_other_bound s c.args.flow c.args.bound)) same)
