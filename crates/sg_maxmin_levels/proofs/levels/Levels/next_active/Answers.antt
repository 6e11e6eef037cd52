use Rattle.std.proofs.Common.{◌≡◌, ◌<◌, true, get_or, refl, rules, subst, ◌∙◌, arith}
use Rattle.std.proofs.lemmas.Grind.{get_or_default_zero}
use Rattle.std.proofs.lemmas.List.Elements.{All-get_or}
use Rattle.sg_base.specs.MarkSet.{is_in}
use Rattle.sg_maxmin.proofs.Listed.{in_at}
use Rattle.sg_maxmin_levels.proofs.levels.Levels.next_active.Goals as goal

pub loop-resource-preserved : goal.loop-resource-preserved
loop-resource-preserved c =
    let members = c.members-resource-items in
    let xs = members.result.now in
    let k = c.loop-resource.resource-index in
    let one = get_or xs k 0 in
    let counts = c.args.self.now.counts.items in
    let less = c.loop-resource-test.true in
    let room = c.args.self.now.active.room in
    let below : get_or xs k 0 < room = All-get_or (λ number. number < room) xs k 0 less members.ensures.in_range in
    let read : c.index.result.now ≡ get_or counts one 0 = c.index.ensures ∙ get_or_default_zero counts one c.index.result.now (omega (arith, below, c.requires.active, c.requires.counts)) in
    let here : is_in one c.args.self.now.active.members ≡ true = subst (λ ys. is_in one ys ≡ true) members.ensures.members (in_at one xs k less refl) in
    record {
      none = search rules;
      least = search rules;
      exist = search rules;
      active = search (rules, here);
      most = λ n bound. omega (arith, c.max-most_users.ensures, c.loop-resource.invariant.most n bound, read, bound one here);
    }
