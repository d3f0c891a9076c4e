use Rattle.std.proofs.Common.{◌≡◌, Ok, sym, refl}
use Rattle.bus.specs.Program.{done}
use Rattle.arch.specs.Step.{settle}
use Rattle.arch.specs.declared.answers.Completed.TheVariants.{Stepped}
use Rattle.arch.specs.declared.registers.Registers.{Registers}
use Rattle.exec.specs.Flow.{answer_of}
use Rattle.exec.specs.Outcome.{ended}
use Rattle.exec.specs.declared.flow.Flow.{Flow}
use Rattle.exec.specs.declared.flow.Flow.TheVariants.{Ran, Returned}
use Rattle.exec.proofs.Sequence.{makes_nothing, makes_of, makes_bind}
use Rattle.cpu.proofs.step.run_instruction.Goals as goal

settled_flow : (s t : Registers) (flow : Flow) → settle s (Ok (ended flow t)) ≡ (Ok (Stepped (answer_of flow)), t)
settled_flow s t Ran = refl
settled_flow s t Returned = refl

pub returns-in-Ok : goal.returns-in-Ok
returns-in-Ok g c =
    let s = c.args.r.now in
    rw (c.from.ensures, sym (settled_flow s c.instruction.new.r c.in-Ok.flow)) (makes_bind (λ r. done (settle s r)) (makes_of c.in-Ok.ensures) makes_nothing)

pub returns-in-Err : goal.returns-in-Err
returns-in-Err g c =
    rw (c.settle_fault.ensures, c.in-Err.ensures.kept) (makes_bind (λ r. done (settle c.args.r.now r)) (makes_of c.in-Err.ensures) makes_nothing)
