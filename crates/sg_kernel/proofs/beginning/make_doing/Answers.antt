use Rattle.std.proofs.Common.{◌≡◌, ◌∙◌, map, sym, ap, ap₂, subst}
use Rattle.std.specs.Prelude.{All}
use Rattle.std.proofs.lemmas.List.Elements.{All-map}
use Rattle.sg_activity.specs.Hosts.{IsHost}
use Rattle.sg_activity.specs.Links.{IsLink}
use Rattle.sg_kernel_calls.specs.Setup.{host_cap, link_caps}
use Rattle.sg_kernel.proofs.Firsts.{links_fit, power_fits}
use Rattle.sg_kernel.proofs.beginning.make_doing.Goals as goal

pub new-requires-clause-hosts : goal.new-requires-clause-hosts
new-requires-clause-hosts c =
    let are : c.deref.result.now ≡ map host_cap c.args.platform.now.hosts = c.deref.ensures.value ∙ c.in_ok-hosts.ensures ∙ ap (map host_cap) c.hosts.ensures.rows in
    subst (All IsHost) (sym are) (All-map IsHost host_cap _ (λ k d within. let fit = c.hosts.ensures.kept.hosts k d within in record { speed = fit.speed; cores = fit.cores; power = power_fits _ fit.power }))

pub new-requires-clause-links : goal.new-requires-clause-links
new-requires-clause-links c =
    let platform = c.args.platform.now in
    let are : c.deref-2.result.now ≡ link_caps platform.network platform.links = c.deref-2.ensures.value ∙ c.in_ok-links.ensures ∙ ap₂ link_caps c.network.ensures.value c.links.ensures.rows in
    subst (All IsLink) (sym are) (links_fit platform.network platform.links c.hosts.ensures.kept.network c.hosts.ensures.kept.links)
