use Rattle.std.proofs.Common.{None, get_or, ap, ◌∙◌, rules}
use Rattle.sg_maxmin.proofs.LinkLemmas.{nobody_on, none_first}
use Rattle.sg_maxmin.proofs.chains.Chains.new.Goals as goal

pub returns-clause-users : goal.returns-clause-users
returns-clause-users c =
    let items = c.in_ok-vec.ensures.items_if_clones_equal (search rules) in
    λ r. nobody_on c.new.result.slots c.in_ok-vec.field-0.items (λ k. ap (λ on. get_or on k None) items ∙ none_first c.args.resources k) r
