use Rattle.std.proofs.Common.{subst, option_map, arith}
use Rattle.std.proofs.lemmas.List.{length-map}
use Rattle.sg_maxmin.specs.Sharing.{IsSound}
use Rattle.sg_maxmin.specs.kept.Uses.{flow_of}
use Rattle.sg_maxmin.proofs.Rows.{flows_are}
use Rattle.sg_maxmin.proofs.system.System.is_sound.Goals as goal

pub returns : goal.returns
returns c =
    let rows = c.self.inside.flows in
    let uses = c.self.inside.chains.uses in
    subst (λ s. IsSound s) c.self.view_is (record {
      flows = flows_are c.self.inside.capacities.items rows uses c.self.invariant.are_rows;
      both = c.self.invariant.both;
      users_len = c.self.invariant.users_len;
      few = omega (arith, length-map rows (option_map (flow_of uses)), c.numbers-numbers.ensures.numbers, c.numbers-numbers.ensures.few);
    })
