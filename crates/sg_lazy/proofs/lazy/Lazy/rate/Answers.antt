use Rattle.std.proofs.Common.{◌≡◌, IfSome, sym, ap, subst, ◌∙◌, arith}
use Rattle.std.proofs.lemmas.Grind.{get_or_default_zero}
use Rattle.sg_lazy.specs.RunningFlow.{RunningFlow, running_at}
use Rattle.sg_lazy.specs.Lazily.{Lazily}
use Rattle.sg_lazy.proofs.Starting.{is_here}
use Rattle.sg_maxmin.proofs.Listed.{some_of}
use Rattle.sg_lazy.proofs.lazy.Lazy.rate.Goals as goal

pub index-requires : goal.index-requires
index-requires c =
    let i = c.self.inside in
    let r = some_of (running_at c.args.self.now.slots c.args.flow) c.requires in
    let here = is_here i.system.slots i.rated.rates.items i.pending.began.members i.pending.marked.members i.pending.ended.members c.args.flow r.0 (ap (λ (v : Lazily). running_at v.slots c.args.flow) c.self.view_is ∙ r.1) in
    omega (arith, here.below, c.self.invariant.1.rates, i.rated.rates.ok.0)

pub returns : goal.returns
returns c =
    let i = c.self.inside in
    let r = some_of (running_at c.args.self.now.slots c.args.flow) c.requires in
    let here = is_here i.system.slots i.rated.rates.items i.pending.began.members i.pending.marked.members i.pending.ended.members c.args.flow r.0 (ap (λ (v : Lazily). running_at v.slots c.args.flow) c.self.view_is ∙ r.1) in
    subst (λ o. IfSome o (λ (running : RunningFlow). c.index.result.now ≡ running.rate)) (sym r.1) (c.index.ensures ∙ get_or_default_zero i.rated.rates.items c.args.flow c.index.result.now (omega (arith, here.below, c.self.invariant.1.rates)) ∙ sym here.rated)
