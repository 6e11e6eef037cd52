use Rattle.std.proofs.Common.{refl}
use Rattle.sg_engine.proofs.Uncut.{not_memory, not_write}
use Rattle.sg_engine.proofs.finish.finish.Goals as goal

pub returns-in-Ok-clause-ends : goal.returns-in-Ok-clause-ends
returns-in-Ok-clause-ends g c = rw c.requires.uncut (refl, c.in-Ok.ensures.all)

pub returns-in-Ok-clause-cause : goal.returns-in-Ok-clause-cause
returns-in-Ok-clause-cause g c = record {
  same = c.in-Ok.ensures.same;
  write = λ is. absurd (not_write c.args.how c.requires.uncut is);
  sound = λ isnt. c.in-Ok.ensures.sound;
  read = λ is. is;
}

pub returns-in-Ok-clause-memory : goal.returns-in-Ok-clause-memory
returns-in-Ok-clause-memory g c = not_memory c.args.how c.requires.uncut

pub returns-in-Err-clause-ends : goal.returns-in-Err-clause-ends
returns-in-Err-clause-ends g c = c.in-Err.ensures.fronts

pub returns-in-Err-clause-cause : goal.returns-in-Err-clause-cause
returns-in-Err-clause-cause g c = record {
  same = c.in-Err.ensures.same;
  write = λ is. c.in-Err.ensures.failed;
  sound = λ isnt. absurd (isnt refl);
  read = λ is. cc is;
}
