use Rattle.sg_lazy.proofs.Parts.{free_rate_lem, keeps_rate_lem, touched_rate_lem}
use Rattle.sg_lazy.proofs.Reached.{all_reached_lem}
use Rattle.sg_lazy.proofs.laws.touched_rates.Goals as goal

pub returns-clause-reached : goal.returns-clause-reached
returns-clause-reached c = all_reached_lem

pub returns-clause-kept : goal.returns-clause-kept
returns-clause-kept c = keeps_rate_lem

pub returns-clause-touched : goal.returns-clause-touched
returns-clause-touched c = touched_rate_lem

pub returns-clause-free : goal.returns-clause-free
returns-clause-free c = free_rate_lem
