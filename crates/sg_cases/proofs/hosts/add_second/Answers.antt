use Rattle.std.proofs.Common.{ℕ, ◌≤◌, true, Some, List, [], ◌∷◌, set, refl, sym, subst, arith}
use Rattle.sg_maxmin.specs.Fill.{Flow, flow}
use Rattle.sg_lazy.specs.RunningFlow.{RunningFlow, running_flows}
use Rattle.sg_lazy.specs.Work.{work}
use Rattle.sg_lazy.specs.Lazily.{Lazily, looks_of}
use Rattle.sg_cases.proofs.Alone.{second_works}
use Rattle.sg_cases.proofs.hosts.add_second.Goals as goal

pub returns : goal.returns
returns g c =
    let s = c.args.lazy.now in
    let id = c.start-second.result in
    let its = flow (c.args.host ∷ []) 1 (Some 10) in
    let second : RunningFlow = record { flow = its; rate = 0; began = true; marked = true } in
    let starts = c.start-second.ensures in
    let few : work (running_flows (set s.slots id (Some second))) [] [] ≤ 48 = second_works s.slots id c.args.host second starts.in_range starts.free refl c.requires.each.alone c.requires.calm (c.requires.each.few c.args.host) in
    let those : work (running_flows (set s.slots id (Some second))) s.ended s.resources ≤ 48 =
    subst (λ (ended : List Flow). work (running_flows (set s.slots id (Some second))) ended s.resources ≤ 48) (sym c.requires.each.ended) (subst (λ (resources : List ℕ). work (running_flows (set s.slots id (Some second))) [] resources ≤ 48) (sym c.requires.each.steady) few) in
    let bound : looks_of c.start-second.new.self ≤ 48 = subst (λ (x : Lazily). looks_of x ≤ 48) (sym starts.starts) those in
    omega (arith, c.settle.ensures.looks, bound)
