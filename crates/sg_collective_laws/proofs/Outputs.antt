-- What runs write that are the same except for the number of a bad line.
use Rattle.std.proofs.Common.{◌≡◌, ◌∙◌, ◌-◌, ◌++◌, ap, sym, refl, ℕ, List, length, Option, None, Some, option_map, unwrap_or}
use Rattle.sg_edge.specs.Sources.{Source}
use Rattle.sg_engine.specs.Output.{end_of, last_lines, report_of, trace_of, written_of}
use Rattle.sg_engine.specs.Run.{Progress}
use Rattle.sg_engine.specs.declared.ended.Ended.{Ended}
use Rattle.sg_engine.specs.declared.ended.Ended.TheVariants as ended
use Rattle.sg_engine.specs.declared.show.Show.{Show}
use Rattle.sg_kernel_calls.specs.World.{Core}
use Rattle.sg_platform_rows.specs.Deployment.{Deployed}
use Rattle.sg_platform_rows.specs.Platform.{Platform}
use Rattle.sg_collective_laws.specs.Alike.{WriteAlike, unnumbered, unnumbered_end}

end_unnumbered : (how : Option Ended) → unnumbered_end (unwrap_or how ended.Budget) ≡ unwrap_or (option_map unnumbered_end how) ended.Budget
end_unnumbered None = refl
end_unnumbered (Some how) = refl

-- the last lines on Out of a run that ended so
abbrev lines : Show → Platform → Deployed → ℕ → Core → Ended → List ℕ
lines show platform deployed budget core how = last_lines platform deployed core (report_of show platform (length deployed.actors) budget core how)

-- the number of a bad line isn't in them
last_unnumbered : (show : Show) (platform : Platform) (deployed : Deployed) (budget : ℕ) (core : Core) (how : Ended) →
    lines show platform deployed budget core how ≡ lines show platform deployed budget core (unnumbered_end how)
last_unnumbered show platform deployed budget core ended.Completed = refl
last_unnumbered show platform deployed budget core ended.Deadlock = refl
last_unnumbered show platform deployed budget core ended.Starved = refl
last_unnumbered show platform deployed budget core ended.Budget = refl
last_unnumbered show platform deployed budget core (ended.NoRoute from to zone a b) = refl
last_unnumbered show platform deployed budget core (ended.TooLong from to) = refl
last_unnumbered show platform deployed budget core (ended.Script number kind) = refl
last_unnumbered show platform deployed budget core ended.ReadFault = refl
last_unnumbered show platform deployed budget core ended.WriteFault = refl
last_unnumbered show platform deployed budget core ended.Memory = refl

pub written_alike : (show : Show) (platform : Platform) (deployed : Deployed) (budget crew : ℕ) (source other : Source) (p q : Progress) → unnumbered p ≡ unnumbered q →
    WriteAlike (written_of show platform deployed budget crew source p) (written_of show platform deployed budget crew other q)
written_alike show platform deployed budget crew source other p q e =
    let ends : unnumbered_end (end_of p) ≡ unnumbered_end (end_of q) =
    end_unnumbered p.ended ∙ ap (λ (r : Progress). unwrap_or r.ended ended.Budget) e ∙ sym (end_unnumbered q.ended) in
    record {
      out = (λ i. trace_of show platform deployed (e i).made ++ lines show platform deployed budget p.world.core (end_of p))
          ∙ ap (λ (l : List ℕ). trace_of show platform deployed q.made ++ l) (last_unnumbered show platform deployed budget p.world.core (end_of p))
          ∙ (λ i. trace_of show platform deployed q.made ++ lines show platform deployed budget (e i).world.core (ends i))
          ∙ ap (λ (l : List ℕ). trace_of show platform deployed q.made ++ l) (sym (last_unnumbered show platform deployed budget q.world.core (end_of q)));
      ended = ends;
      contexts = ap (λ (r : Progress). crew - r.world.contexts) e;
      work = ap (λ (r : Progress). r.world.work) e;
    }
