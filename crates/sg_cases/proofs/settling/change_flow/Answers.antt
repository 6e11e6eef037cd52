use Rattle.std.proofs.Common.{◌≡◌, ◌<◌, Option, None, Some, IfSome, length, length-set, sym, ap, subst, ◌∙◌, arith}
use Rattle.sg_base.specs.MarkSet.{MarkSet}
use Rattle.sg_lazy.specs.RunningFlow.{RunningFlow, running_at}
use Rattle.sg_lazy.specs.Lazily.{Lazily, without_flow}
use Rattle.sg_cases.specs.Pairs.{twin_of}
use Rattle.sg_maxmin_solve.proofs.Rows.{any_default}
use Rattle.sg_cases.proofs.Pairs.{pairs_end}
use Rattle.sg_maxmin.proofs.Listed.{some_of}
use Rattle.sg_cases.proofs.settling.change_flow.Goals as goal

pub end-requires : goal.end-requires
end-requires c =
    let twins = c.args.twins.now.items in
    let below : c.below-id.result < length twins = omega (arith, c.below-id.ensures.below, c.len.ensures, c.args.twins.now.ok.0) in
    c.requires.paired.run c.below-id.result c.in-Some.twin (sym (any_default twins c.below-id.result c.index.result.now None below) ∙ sym c.index.ensures ∙ c.in-Some.is)

pub change_bound-requires-clause-runs : goal.change_bound-requires-clause-runs
change_bound-requires-clause-runs c =
    let twins = c.args.twins.now.items in
    let below : c.below-id.result < length twins = omega (arith, c.below-id.ensures.below, c.len.ensures, c.args.twins.now.ok.0) in
    c.requires.paired.run c.below-id.result c.in-Some.twin (sym (any_default twins c.below-id.result c.index.result.now None below) ∙ sym c.index.ensures ∙ c.in-Some.is)

pub returns-then-below-eq0 : goal.returns-then-below-eq0
returns-then-below-eq0 c = record {
  room = ap (λ (m : MarkSet). m.room) (c.change_bound.ensures.picked ∙ c.below.ensures.picked ∙ c.below-id.ensures.picked) ∙ c.requires.room;
  numbers = c.requires.numbers;
  paired = c.change_bound.ensures.paired c.args.twins.now.items c.requires.paired;
}

pub returns-else-below-eq0 : goal.returns-else-below-eq0
returns-else-below-eq0 c =
    let a = c.args.lazy.now in
    let id = c.below-id.result in
    let twin = c.in-Some.twin in
    let twins = c.args.twins.now.items in
    let below : id < length twins = omega (arith, c.below-id.ensures.below, c.len.ensures, c.args.twins.now.ok.0) in
    let at : twin_of twins id ≡ Some twin = sym (any_default twins id c.index.result.now None below) ∙ sym c.index.ensures ∙ c.in-Some.is in
    let running = some_of (running_at a.slots id) (c.requires.paired.run id twin at) in
    let ends = subst (λ (o : Option RunningFlow). IfSome o (λ r. c.end.new.self ≡ without_flow a id r.flow)) running.1 c.end.ensures in
    record {
      room = ap (λ (m : MarkSet). m.room) (c.below.ensures.picked ∙ c.below-id.ensures.picked) ∙ c.requires.room;
      numbers = omega (arith, length-set twins id None, c.requires.numbers);
      paired = pairs_end a c.end.new.self c.args.whole.now c.remove.new.self twins id twin c.requires.paired (ap (λ (x : Lazily). length x.capacities) ends) (ap length c.remove.ensures.capacities) at
          below (ap (λ (x : Lazily). x.slots) ends) c.remove.ensures.removed.others;
    }
