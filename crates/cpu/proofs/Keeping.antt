-- What every core keeps, as the definitions have it and as the type has it.
use Rattle.std.proofs.Common.{◌≡◌, ◌%◌, Bool, true, false, not, ◌||◌, eqb, refl, ap, subst}
use Rattle.std.proofs.lemmas.Bool.{false≢true}
use Rattle.bus.specs.Program.{World, run}
use Rattle.word.specs.Fields.{bit_of}
use Rattle.arch.specs.Answers.{Response}
use Rattle.arch.specs.Laws.{Sound, Kept}
use Rattle.arch.specs.Step.{step, answer_to}
use Rattle.arch.specs.declared.answers.Call.TheVariants.{Step}
use Rattle.arch.specs.declared.registers.Registers.{Registers}
use Rattle.arch.proofs.Isolating.{soundness}
use Rattle.cpu.specs.declared.processor.Core.{Core}

-- either, as an implication
implied : (a b : Bool) → (a || b) ≡ true → not a ≡ true → b ≡ true
implied true b h none = absurd (false≢true none)
implied false b h none = h

either : (a b : Bool) → (not a ≡ true → b ≡ true) → (a || b) ≡ true
either true b h = refl
either false b h = h refl

pub sound_core : (core : Core) → Sound core.registers
sound_core core =
    let s = core.registers in
    record { even = core.even; main = core.main; process = core.process; mode = core.mode; current = implied (eqb s.current 0) (bit_of s.exceptions.active s.current) core.current }

-- the facts of the type, one by one
pub record Keeps (s : Registers) : Type 0 where
  pub even : s.pc % 2 ≡ 0
  pub main : s.msp % 4 ≡ 0
  pub process : s.psp % 4 ≡ 0
  pub mode : eqb s.current 0 ≡ eqb s.exceptions.active 0
  pub current : (eqb s.current 0 || bit_of s.exceptions.active s.current) ≡ true

pub keeps : (s : Registers) → Sound s → Keeps s
keeps s sound = record {
  even = sound.even;
  main = sound.main;
  process = sound.process;
  mode = sound.mode;
  current = either (eqb s.current 0) (bit_of s.exceptions.active s.current) sound.current;
}

module _ (s t : Registers) (w w' : World) (x : Response) (sound : Sound s) (e : run (step s) w ≡ ((x, t), w')) where
  -- a step leaves a sound core sound
  pub step_sound : Sound t
  unfolding answer_to
  step_sound = subst Sound (ap (λ (p : (Response × Registers) × World). p.0.1) e) (soundness Step (record { registers = s; world = w }) sound).sound

  -- and keeps what it must keep
  pub step_kept : Kept x s t
  unfolding answer_to
  step_kept = subst (λ (p : (Response × Registers) × World). Kept p.0.0 s p.0.1) e (soundness Step (record { registers = s; world = w }) sound).kept
