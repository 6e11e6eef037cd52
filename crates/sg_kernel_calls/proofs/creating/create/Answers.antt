use Rattle.sg_kernel_calls.proofs.Alone.{can_name}
use Rattle.sg_kernel_calls.proofs.creating.create.Goals as goal

pub begin-requires-clause-actor : goal.begin-requires-clause-actor
begin-requires-clause-actor c = (can_name c.args.fields.now c.args.actor.0 c.args.target c.requires.makes.able c.requires.makes.call).target
