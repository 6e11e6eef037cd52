use Rattle.std.proofs.Common.{◌≡◌, ℕ, true, false, None, Some, IsSome, length, length-set, set, sym, ap, subst, ◌∙◌, refl}
use Rattle.std.specs.Option.{IfSome}
use Rattle.sg_lazy.specs.Lazily.{Lazily, without_flow}
use Rattle.sg_lazy.specs.RunningFlow.{RunningFlow, running_at}
use Rattle.sg_activity_table.specs.Kinds.{takes_share}
use Rattle.sg_activity.specs.kept.State.{State, state_of, ways_of}
use Rattle.sg_activity.specs.kept.Sound.{run_of}
use Rattle.std.proofs.Common.{◌-◌}
use Rattle.sg_activity_table.specs.Kinds.{flows_ahead}
use Rattle.sg_activity_table.specs.Pool.{uses_ahead}
use Rattle.sg_activity.specs.kept.Ends.{Ends}
use Rattle.sg_activity.proofs.Roomy.{ahead_counted, uses_counted}
use Rattle.sg_activity.proofs.Ending.{Goes, ends_from}
use Rattle.sg_activity.proofs.Turning.{with_flow, without, ended_filled, ended_unfilled}
use Rattle.std.proofs.Common.{◌≤◌, ◌<◌, [], arith}
use Rattle.sg_activity.specs.declared.activity_state.Kept.{Kept}
use Rattle.sg_activity.specs.kept.Index.{IsIndexed}
use Rattle.sg_activity.specs.kept.Rows.{IsRow}
use Rattle.sg_activity.specs.kept.Hits.{AreHits}
use Rattle.sg_activity.proofs.Hitting.{hits_left}
use Rattle.sg_activity.proofs.Indexing.{used_gone}
use Rattle.sg_activity.proofs.Pairing.{there_within}
use Rattle.sg_activity.proofs.phases.leave.Goals as goal
use Rattle.sg_activity.proofs.phases.leave.Goals.{then-takes_share, else-takes_share}

pub end-requires : goal.end-requires
end-requires c =
    let full : takes_share c.args.live.kind ≡ true = sym c.takes_share.ensures ∙ c.if-takes_share.true in
    subst (λ o. IsSome o) (sym ((c.requires.there.sound.are.each c.args.key c.args.live c.requires.there.at).flow full).runs) refl

-- what is said of the flow that ended
gone : (old new : Lazily) (id : ℕ) (running : RunningFlow) → running_at old.slots id ≡ Some running → IfSome (running_at old.slots id) (λ r. new ≡ without_flow old id r.flow) → new ≡ without_flow old id running.flow
gone old new id running e is = subst (λ o. IfSome o (λ r. new ≡ without_flow old id r.flow)) e is

pub returns-clause-ends : goal.returns-clause-ends
returns-clause-ends c =
    let kept = c.args.kept.now in
    let s : State = state_of kept in
    let key = c.args.key in
    let live = c.args.live in
    let sound = c.requires.there.sound in
    let after : ℕ → ℕ → Type 0 = λ n u. Ends kept (record c.if-takes_share.kept { lives = c.remove.new.self; agenda = c.clear-2.new.self; index = c.leave.new.self; settled = false; flows = c.if-takes_share.kept.flows - n; uses = c.if-takes_share.kept.uses - u }) key live None in
    elim c.if-takes_share.branch [
      | then-takes_share w ↦
          let full : takes_share live.kind ≡ true = sym c.takes_share.ensures ∙ w.if-takes_share.true in
          let has = (sound.are.each key live c.requires.there.at).flow full in
          let is = gone kept.lazy w.end.new.self live.flow (run_of s key live has.marked) has.runs w.end.ensures in
          let goes : Goes kept w.end.new.self key live = record {
            went = with_flow full (ap (λ (l : Lazily). l.slots) is);
            ended = ap (λ (l : Lazily). l.ended) is ∙ ended_filled s key live full;
            capacities = ap (λ (l : Lazily). l.capacities) is;
            resources = ap (λ (l : Lazily). l.resources) is;
            flow_room = ap (λ (l : Lazily). l.flow_room) is;
            use_room = ap (λ (l : Lazily). l.use_room) is;
            long = ap (λ (l : Lazily). length l.slots) is ∙ length-set s.runs live.flow None;
          } in
          subst (λ n. after n c.uses_ahead.result) (sym c.flows_ahead.ensures) (subst (after (flows_ahead live.kind)) (sym c.uses_ahead.ensures) (ends_from kept c.if-takes_share.kept w.end.new.self c.remove.new.self c.clear-2.new.self c.leave.new.self key live sound c.requires.there.at goes w.kept-is c.remove.ensures.slots c.remove.ensures.room c.clear-2.ensures c.leave.ensures.row))
      | else-takes_share w ↦
          let empty : takes_share live.kind ≡ false = sym c.takes_share.ensures ∙ w.if-takes_share.false in
          let goes : Goes kept kept.lazy key live = record {
            went = without empty refl;
            ended = ended_unfilled s key live empty;
            capacities = refl;
            resources = refl;
            flow_room = refl;
            use_room = refl;
            long = refl;
          } in
          subst (λ n. after n c.uses_ahead.result) (sym c.flows_ahead.ensures) (subst (after (flows_ahead live.kind)) (sym c.uses_ahead.ensures) (ends_from kept c.if-takes_share.kept kept.lazy c.remove.new.self c.clear-2.new.self c.leave.new.self key live sound c.requires.there.at goes w.kept-is c.remove.ensures.slots c.remove.ensures.room c.clear-2.ensures c.leave.ensures.row))
    ]

pub leave-requires : goal.leave-requires
leave-requires c =
    let kept = c.args.kept.now in
    let within : c.args.key < length kept.index.rows = omega (arith, there_within kept.lives.slots c.args.key c.args.live c.requires.there.at, c.requires.there.used.long) in
    elim c.if-takes_share.branch [
      | then-takes_share w ↦ omega (arith, within, ap (λ (k : Kept). length k.index.rows) w.kept-is)
      | else-takes_share w ↦ omega (arith, within, ap (λ (k : Kept). length k.index.rows) w.kept-is)
    ]

pub returns-clause-known : goal.returns-clause-known
returns-clause-known c =
    let kept = c.args.kept.now in
    let key = c.args.key in
    let row = c.leave.ensures in
    let used : (mid : Kept) (lazy : Lazily) → mid ≡ record kept { lazy = lazy } → c.remove.new.self.slots ≡ set mid.lives.slots key None → IsRow mid.index.rows c.leave.new.self.rows key [] → length c.leave.new.self.users ≡ length mid.index.users → mid.index.room ≤ c.leave.new.self.room →
    IsIndexed (state_of mid).capacities c.remove.new.self.slots (ways_of (record mid { index = c.leave.new.self })) mid.room c.leave.new.self =
    λ mid lazy e slots here users room. used_gone kept mid lazy c.remove.new.self.slots c.leave.new.self key c.args.live c.requires.there.used c.requires.there.at e slots here users room in
    let hit : (mid : Kept) (lazy : Lazily) → mid ≡ record kept { lazy = lazy } → c.remove.new.self.slots ≡ set mid.lives.slots key None → IsRow mid.index.rows c.leave.new.self.rows key [] →
    AreHits (state_of mid).on c.remove.new.self.slots (ways_of (record mid { index = c.leave.new.self })) c.clear.new.self =
    λ mid lazy e slots here. subst (AreHits (state_of mid).on c.remove.new.self.slots (ways_of (record mid { index = c.leave.new.self }))) (sym c.clear.ensures) (hits_left kept mid lazy c.leave.new.self c.remove.new.self.slots c.args.hits.now key c.args.live c.requires.hit c.requires.there.at e slots here) in
    elim c.if-takes_share.branch [
      | then-takes_share w ↦ record {
        used = used c.if-takes_share.kept w.end.new.self w.kept-is c.remove.ensures.slots row.row row.users (omega (arith, row.room));
        hit = hit c.if-takes_share.kept w.end.new.self w.kept-is c.remove.ensures.slots row.row;
      }
      | else-takes_share w ↦ record {
        used = used c.if-takes_share.kept kept.lazy w.kept-is c.remove.ensures.slots row.row row.users (omega (arith, row.room));
        hit = hit c.if-takes_share.kept kept.lazy w.kept-is c.remove.ensures.slots row.row;
      }
    ]

pub overflow_sub-kept : goal.overflow_sub-kept
overflow_sub-kept c =
    let kept = c.args.kept.now in
    let counted : flows_ahead c.args.live.kind ≤ kept.flows = omega (arith, c.requires.there.sound.room.flows, ahead_counted kept.lives.slots c.args.key c.args.live (there_within kept.lives.slots c.args.key c.args.live c.requires.there.at) c.requires.there.at) in
    elim c.if-takes_share.branch [
      | then-takes_share w ↦ omega (arith, c.flows_ahead.ensures, counted, ap (λ (k : Kept). k.flows) w.kept-is)
      | else-takes_share w ↦ omega (arith, c.flows_ahead.ensures, counted, ap (λ (k : Kept). k.flows) w.kept-is)
    ]

pub overflow_sub-kept-2 : goal.overflow_sub-kept-2
overflow_sub-kept-2 c =
    let kept = c.args.kept.now in
    let counted : uses_ahead c.args.live.kind c.args.live.place ≤ kept.uses = omega (arith, c.requires.there.sound.room.uses, uses_counted kept.lives.slots c.args.key c.args.live (there_within kept.lives.slots c.args.key c.args.live c.requires.there.at) c.requires.there.at) in
    elim c.if-takes_share.branch [
      | then-takes_share w ↦ omega (arith, c.uses_ahead.ensures, counted, ap (λ (k : Kept). k.uses) w.kept-is)
      | else-takes_share w ↦ omega (arith, c.uses_ahead.ensures, counted, ap (λ (k : Kept). k.uses) w.kept-is)
    ]
