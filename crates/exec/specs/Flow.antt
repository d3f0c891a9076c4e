-- The answer of an instruction that was carried out.
use Rattle.arch.specs.declared.answers.Answer.{Answer}
use Rattle.arch.specs.declared.answers.Answer.TheVariants.{Ran as ran, Returned as returned}
use Rattle.exec.specs.declared.flow.Flow.{Flow}
use Rattle.exec.specs.declared.flow.Flow.TheVariants.{Ran, Returned}

abbrev pub answer_of : Flow → Answer
answer_of Ran = ran
answer_of Returned = returned
