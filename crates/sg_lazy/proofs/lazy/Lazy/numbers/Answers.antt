use Rattle.std.proofs.Common.{length, sym, ap, ◌∙◌}
use Rattle.sg_lazy.specs.Lazily.{Lazily}
use Rattle.sg_lazy.specs.kept.Held.{running_of}
use Rattle.sg_lazy.proofs.Listed.{length_listed}
use Rattle.sg_lazy.proofs.lazy.Lazy.numbers.Goals as goal

pub returns : goal.returns
returns c =
    let i = c.self.inside in
    c.numbers.ensures ∙ sym (length_listed (length i.system.slots) (running_of i.system.slots i.rated.rates.items i.pending.began.members i.pending.marked.members i.pending.ended.members)) ∙ ap (λ (v : Lazily). length v.slots) c.self.view_is
