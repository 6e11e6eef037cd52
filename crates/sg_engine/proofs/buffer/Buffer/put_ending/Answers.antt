use Rattle.std.proofs.Common.{[]}
use Rattle.sg_trace.specs.Ending.{ending_of}
use Rattle.sg_engine.proofs.PutLines.{first_breaks}
use Rattle.sg_engine.proofs.Uncut.{exit_is}
use Rattle.sg_engine.proofs.buffer.Buffer.put_ending.Goals as goal

pub returns-in_err-make_room : goal.returns-in_err-make_room
returns-in_err-make_room g c =
    rw (exit_is c.in_err-make_room.field-0.0 c.from_residual.result c.from_residual.ensures.1) (first_breaks [] c.args.self.now (ending_of c.args.last.now c.args.plan.now.platform.now c.args.plan.now.deployment.now) _ _ c.in_err-make_room.ensures.puts)
