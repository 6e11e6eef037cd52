use Rattle.sg_words.specs.CommandLine.{asked_of}
use Rattle.sg_words.proofs.Law.{accepted, job_of}
use Rattle.sg_words.proofs.laws.accepted_words_have_a_job.Goals as goal

pub returns : goal.returns
returns c = λ words none. job_of (asked_of words) (accepted words none)
