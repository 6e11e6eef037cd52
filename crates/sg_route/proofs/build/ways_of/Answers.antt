-- A platform has few links.
use Rattle.std.proofs.Common.{◌≡◌, length, arith, ap, ◌∙◌}
use Rattle.sg_platform_rows.specs.Ends.{link_ends}
use Rattle.sg_route.proofs.EndsLemmas.{link_ends_few}
use Rattle.sg_route.proofs.build.ways_of.Goals as goal

pub overflow_cast-loopback : goal.overflow_cast-loopback
overflow_cast-loopback c =
    let few = link_ends_few c.args.platform.now.links in
    let rows = c.rows_are_valid.ensures.few_links in
    let same : c.len.result ≡ length (link_ends c.args.platform.now.links) = c.len.ensures ∙ c.args.ends.ok.0 ∙ ap length c.requires.ends in
    omega (arith, few, rows, same)
