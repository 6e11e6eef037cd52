use Rattle.std.proofs.Common.{subst, sym}
use Rattle.std.specs.Prelude.{IfSome}
use Rattle.sg_base.specs.Mind.{IsMind}
use Rattle.sg_engine.proofs.Castings.{first_limited, seated_first}
use Rattle.sg_engine.proofs.seating.seat.Goals as goal

pub returns-clause-seated : goal.returns-clause-seated
returns-clause-seated g c = λ extent is.
    seated_first extent _ (subst (λ o. IfSome o (IsMind extent)) (sym c.in_ok-starter.ensures.mind) (first_limited extent c.args.me.0 c.args.row.now (c.roles_keep_limits.ensures extent _ is)))
