use Rattle.std.proofs.Common.{◌-◌, ℕ, ap}
use Rattle.sg_edge.specs.declared.files.Part.TheVariants.{Script as ScriptPart}
use Rattle.sg_script.specs.Known.{known_in}
use Rattle.sg_script.specs.Stands.{kept_of}
use Rattle.sg_script.proofs.Asking.{fetch_is, breaking}
use Rattle.sg_script.proofs.Spending.{frugal_of}
use Rattle.sg_script.proofs.script.Script.next_of.Goals as goal

pub returns-clause-fetched : goal.returns-clause-fetched
returns-clause-fetched g c = λ taken fetched stands. fetch_is (known_in c.args.deployment.now) taken fetched c.args.actor.0 c.answer.result (g.F.Files.shows c.args.files.now ScriptPart) (g.F.Files.shows c.answer.new.files ScriptPart) (kept_of c.args.self.now) (kept_of c.answer.new.self) stands c.answer.ensures.ends

pub returns-clause-part : goal.returns-clause-part
returns-clause-part g c = (breaking (known_in c.args.deployment.now) c.args.actor.0 c.answer.result ScriptPart (g.F.Files.shows c.args.files.now) (g.F.Files.shows c.answer.new.files) (kept_of c.args.self.now) (kept_of c.answer.new.self) c.answer.ensures.ends).0

pub returns-clause-actors : goal.returns-clause-actors
returns-clause-actors g c = ap (λ (n : ℕ). n - 1) ((breaking (known_in c.args.deployment.now) c.args.actor.0 c.answer.result ScriptPart (g.F.Files.shows c.args.files.now) (g.F.Files.shows c.answer.new.files) (kept_of c.args.self.now) (kept_of c.answer.new.self) c.answer.ensures.ends).1)

pub returns-clause-frugal : goal.returns-clause-frugal
returns-clause-frugal g c = frugal_of (known_in c.args.deployment.now) c.args.actor.0 c.answer.result (g.F.Files.shows c.args.files.now ScriptPart) (g.F.Files.shows c.answer.new.files ScriptPart) (kept_of c.args.self.now) (kept_of c.answer.new.self) c.answer.ensures.ends
