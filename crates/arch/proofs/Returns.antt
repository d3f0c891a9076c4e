-- What a return gives back.
use Rattle.std.proofs.Common.{◌≡◌, ℕ, ◌+◌, ◌-◌, ◌%◌, ◌^◌, Bool, true, false, cond, not, ◌&&◌, ◌||◌, eqb, Ok, Err, Result, sym, refl, ap, ◌∙◌, arith}
use lib.Count.{ones}
use Rattle.std.proofs.lemmas.Bool.{and_parts, eqb-true, eq-eqb, ne_eqb, not-true, both_ways, true≢false, false≢true}
use Rattle.std.proofs.lemmas.Nat.{zero_from_ones}
use Rattle.bus.specs.Program.{Always}
use Rattle.bus.specs.declared.fault.Cause.TheVariants.{BadReturn}
use Rattle.bus.specs.declared.fault.Fault.{Fault}
use Rattle.bus.proofs.Programs.{always_all, always_bind}
use Rattle.word.specs.Fields.{bit_of, field_of}
use Rattle.arch.specs.Accesses.{go_on}
use Rattle.arch.specs.Laws.{Sound}
use Rattle.arch.specs.Registers.{handler, right_if}
use Rattle.arch.specs.Return.{core_fault, to_thread, to_process, returnable, frame_pointer, forced_thread, number_in, still_active, consistent, restored, acceptable, judged, read_frame, unstack, exception_return}
use Rattle.arch.specs.declared.registers.Frame.{Frame}
use Rattle.arch.specs.declared.registers.Registers.{Registers}
use Rattle.arch.proofs.Counting.{ones_without, bit_zero}
use Rattle.arch.proofs.Running.{aligned_if, aligned_unless}

-- t is where s can have returned to
pub record Returning (s t : Registers) : Type 0 where
  pub from_handler : handler s ≡ true
  pub sound : Sound t
  pub fewer : ones t.exceptions.active + 1 ≡ ones s.exceptions.active

abbrev pub Gives : Registers → Result Registers Fault → Type 0
Gives s (Ok t) = Returning s t
Gives s (Err f) = Unit {0}

-- of the two ways to return, the one that is not to Handler mode asks for a single active exception
alone : (to_handler others single : Bool) → ((to_handler && not single) || (others && single)) ≡ true → not to_handler ≡ true → single ≡ true
alone true others single may thread = absurd (false≢true thread)
alone false others single may thread = (and_parts others single may).1

-- the number fits the mode, whichever that is
fitting : (thread : Bool) (n active : ℕ) → cond thread (eqb n 0) (not (eqb n 0) && bit_of active n) ≡ true → (thread ≡ true → active ≡ 0) → (eqb n 0 ≡ eqb active 0) × (not (eqb n 0) ≡ true → bit_of active n ≡ true)
fitting true n active fits none = (fits ∙ sym (eq-eqb active 0 (none refl)), λ some. absurd (both_ways (eqb n 0) (not-true (eqb n 0) some) fits))
fitting false n active fits none =
    let both = and_parts (not (eqb n 0)) (bit_of active n) fits in
    (not-true (eqb n 0) both.0 ∙ sym (ne_eqb active 0 (λ e. true≢false (sym both.1 ∙ ap (λ set. bit_of set n) e ∙ bit_zero n))), λ _. both.1)

module _ (s : Registers) (exc : ℕ) (sound : Sound s) (from : handler s ≡ true) where
  fewer : ones (still_active s) + 1 ≡ ones s.exceptions.active
  fewer = ones_without s.exceptions.active s.current (sound.current from)

  -- a return to Thread mode is from the only active exception
  thread_alone : returnable s exc ≡ true → to_thread exc ≡ true → still_active s ≡ 0
  thread_alone may thread =
      let ways = (and_parts (bit_of s.exceptions.active s.current) _ (and_parts (eqb (field_of exc 4 24) (2 ^ 24 - 1)) _ may).1).1 in
      let only = eqb-true _ _ (alone (eqb (field_of exc 0 4) 1) (eqb (field_of exc 0 4) 9 || eqb (field_of exc 0 4) 13) (eqb (ones s.exceptions.active) 1) ways thread) in
      zero_from_ones (still_active s) (omega (arith, fewer))

  returning : returnable s exc ≡ true → (f : Frame) → acceptable s exc f ≡ true → Returning s (restored s exc f)
  returning may f taken =
      let both = and_parts (eqb (f.return_address % 2) 0) (consistent s exc f.status) taken in
      let mode = fitting (to_thread exc) (number_in s exc f.status) (still_active s) both.1 (thread_alone may) in
      record {
        from_handler = from;
        sound = record {
          even = eqb-true _ _ both.0;
          main = aligned_unless (to_process exc) _ s.msp sound.main;
          process = aligned_if (to_process exc) _ s.psp sound.process;
          mode = mode.0;
          current = mode.1;
        };
        fewer = fewer;
      }

  judged_gives : returnable s exc ≡ true → (f : Frame) → Always (Gives s) (judged s exc f)
  judged_gives may f = go (acceptable s exc f) refl
    where
      go : (b : Bool) → acceptable s exc f ≡ b → Gives s (cond b (Ok (restored s exc f)) (Err (core_fault BadReturn s)))
      go true taken = returning may f taken
      go false taken = tt

  read_gives : returnable s exc ≡ true → (r : Result Frame Fault) → Always (Gives s) (go_on (judged s exc) r)
  read_gives may (Ok f) = judged_gives may f
  read_gives may (Err f) = tt

  unstack_gives : (b : Bool) → returnable s exc ≡ b → Always (Gives s) (unstack b s exc)
  unstack_gives true may =
      let frame = read_frame (right_if (not (forced_thread s exc))) (frame_pointer s exc) in
      always_bind (λ _. Unit {0}) (Gives s) frame (go_on (judged s exc)) (always_all (λ _. Unit {0}) frame (λ _. tt)) (λ r _. read_gives may r)
  unstack_gives false may = tt

  pub return_gives : Always (Gives s) (exception_return s exc)
  return_gives = unstack_gives (returnable s exc) refl
