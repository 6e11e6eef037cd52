use Rattle.std.proofs.Common.{◌≡◌, ◌*◌, ◌^◌, ◌<◌, None, sym, ap, subst, ◌∙◌}
use Rattle.sg_maxmin.specs.Fill.{bounded, share_at}
use Rattle.sg_maxmin.specs.Numbered.{bound_at, flow_in, weight_at}
use Rattle.sg_lazy.specs.kept.Leveled.{rate_of}
use Rattle.sg_lazy.proofs.Leveled.{bound_is_told, weight_told}
use Rattle.sg_lazy.proofs.writing.share.Goals as goal

pub returns-in-Some : goal.returns-in-Some
unfolding share_at
returns-in-Some c =
    let s = c.args.system.now in
    let w = weight_told s.slots c.args.flow c.weight.result c.requires.held c.weight.ensures in
    let b = bound_is_told s.slots c.args.flow c.bound.result c.requires.held c.bound.ensures in
    let fits : c.bound.result ≡ None → c.weight.result * c.in-Some.level < 2 ^ 64 = λ none.
    let free : bound_at s.slots c.args.flow ≡ None = sym b ∙ none in
    let its : rate_of (flow_in s.slots c.args.flow) c.args.level ≡ c.weight.result * c.in-Some.level =
    ap (rate_of (flow_in s.slots c.args.flow)) c.in-Some.is ∙ ap (λ o. bounded o (weight_at s.slots c.args.flow * c.in-Some.level)) free ∙ ap (λ n. n * c.in-Some.level) (sym w) in
    subst (λ n. n < 2 ^ 64) its (c.requires.fits free) in
    c.share_at.ensures.whole fits ∙ ap (λ n. bounded c.bound.result (n * c.in-Some.level)) w ∙ ap (λ o. bounded o (weight_at s.slots c.args.flow * c.in-Some.level)) b ∙ sym (ap (rate_of (flow_in s.slots c.args.flow)) c.in-Some.is)
