-- What the calls hand back, as the definitions have it.
use Rattle.std.specs.Prelude.{Result}
use Rattle.std.specs.Result.{result_map_both}
use Rattle.bus.specs.declared.fault.Cause.{Cause}
use Rattle.bus.specs.declared.fault.Cause.TheVariants.{Undefined as undefined, Unpredictable as unpredictable}
use Rattle.bus.specs.declared.refusal.Refusal.{Refusal}
use Rattle.thumb.specs.declared.instructions.Refusal.{Refusal as Undecoded}
use Rattle.thumb.specs.declared.instructions.Refusal.TheVariants.{Undefined, Unpredictable}
use Rattle.arch.specs.declared.answers.Answer.{Answer}
use Rattle.arch.specs.Answers.{Response}
use Rattle.arch.specs.declared.answers.Completed.TheVariants.{Stepped, Accepted}

-- the cause of an encoding that is no instruction
abbrev pub cause_of : Undecoded → Cause
cause_of Undefined = undefined
cause_of Unpredictable = unpredictable

-- a step's
abbrev pub stepped : Result Answer Refusal → Response
stepped r = result_map_both Stepped (λ refusal. refusal) r

-- another call's
abbrev pub accepted : Result (Unit {0}) Refusal → Response
accepted r = result_map_both (λ _. Accepted) (λ refusal. refusal) r
