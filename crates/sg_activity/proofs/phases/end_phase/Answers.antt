use Rattle.sg_activity.proofs.phases.end_phase.Goals as goal

pub begin_flow-requires : goal.begin_flow-requires
begin_flow-requires c = record { kind = c.in-Latency.is; there = c.requires.there }
