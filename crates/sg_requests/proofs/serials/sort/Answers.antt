use Rattle.std.proofs.Common.{eqb}
use Rattle.std.proofs.lemmas.List.Filters.{dedup_is}
use Rattle.sg_requests.proofs.Rising.{sorted_is}
use Rattle.sg_requests.proofs.serials.sort.Goals as goal

pub returns-clause-items : goal.returns-clause-items
returns-clause-items c =
    let sorted = c.sort_unstable.new.self.items in
    sorted_is c.args.serials.now.items sorted c.dedup.new.self.items c.sort_unstable.ensures.permutation c.sort_unstable.ensures.sorted (dedup_is eqb sorted c.dedup.new.self.items c.dedup.ensures.filtered)
