-- What a call can come to: soundness, the balance of entries and returns, and unprivileged code that stays so.
use Rattle.std.proofs.Common.{◌≡◌, ℕ, ◌+◌, ◌%◌, ◌<◌, ◌≤◌, Bool, true, false, cond, not, ◌&&◌, ◌||◌, eqb, leb, ◌⊎◌, pos, Some, None, Ok, Err, Option, Result, sym, refl, ap, ◌∙◌, ap₂, inl, inr, add-zero, arith}
use lib.Count.{ones}
use lib.Signed.{lt_z}
use Rattle.std.proofs.lemmas.Bool.{ne_eqb, both_ways, or_left, true≢false}
use Rattle.bus.specs.Program.{Reply, done, bind, Always}
use Rattle.bus.specs.declared.fault.Fault.{Fault}
use Rattle.bus.specs.declared.refusal.Refusal.{Refusal}
use Rattle.bus.specs.declared.refusal.Refusal.TheVariants.{OutOfRange, CoreLocked}
use Rattle.bus.proofs.Programs.{always_all, always_bind}
use Rattle.word.specs.Fields.{bit_of}
use Rattle.word.specs.Sums.{one_if}
use Rattle.thumb.specs.Decoded.{decoded, wide_first}
use Rattle.thumb.specs.declared.instructions.Instruction.{Instruction}
use Rattle.thumb.specs.declared.instructions.Instruction.TheVariants.{Basic, Data, Special, Unary, Transfer, Multiple, Branch, System}
use Rattle.thumb.specs.declared.instructions.Refusal.{Refusal as Undecoded}
use Rattle.thumb.specs.declared.instructions.Refusal.TheVariants.{Undefined, Unpredictable}
use Rattle.arch.specs.Accesses.{fetch, try_words}
use Rattle.arch.specs.Answers.{Response}
use Rattle.arch.specs.Branches.{Done, ran, returned}
use Rattle.arch.specs.Data.{unary_value}
use Rattle.arch.specs.Entry.{frame_of, frame_words, entered, is_last, or_lock, or_hard_fault, take, take_up}
use Rattle.arch.specs.Laws.{Sound, Kept}
use Rattle.arch.specs.Machine.{entry, return}
use Rattle.arch.specs.Priorities.{execution_priority, chosen}
use Rattle.arch.specs.Registers.{plus, handler, privileged, right_of, on_process, reg, with_reg, pend, locked_core}
use Rattle.arch.specs.Step.{execute, perform_decoded, decode_and_perform, instruction_if, instruction, settle, begin, external, raisable, rankable, accept_if, answer_to}
use Rattle.arch.specs.Transfers.{address_of}
use Rattle.arch.specs.declared.answers.Answer.TheVariants.{Ran, Entered, Faulted, Locked}
use Rattle.arch.specs.declared.answers.Call.{Call}
use Rattle.arch.specs.declared.answers.Call.TheVariants.{Step, Raise, Arm, Rank}
use Rattle.arch.specs.declared.answers.Completed.TheVariants.{Stepped, Accepted}
use Rattle.arch.specs.declared.registers.Registers.{Registers}
use Rattle.arch.proofs.Choosing.{Takeable, chosen_takeable}
use Rattle.arch.proofs.Counting.{ones_with, bit_with, bit_zero}
use Rattle.arch.proofs.Executing.{Ends, ends_then, transfer_ends, multiple_ends, branch_ends, system_ends}
use Rattle.arch.proofs.Running.{Running, steady_self, steady_reg, basic_steady, operation_steady, special_runs, moves_on, even_half}

module _ (s : Registers) (sound : Sound s) where
  execute_ends : (i : Instruction) (k : ℕ) → k % 2 ≡ 0 → Always (Ends s) (execute i k s)
  execute_ends (Basic i) k e = moves_on s sound 2 _ refl (basic_steady s sound i)
  execute_ends (Data op dn m) k e = moves_on s sound 2 _ refl (operation_steady s sound op dn m)
  execute_ends (Special i) k e = special_runs s sound i
  execute_ends (Unary op d m) k e = moves_on s sound 2 (with_reg s d (unary_value op (reg s m))) refl (steady_reg s s d _ (steady_self s sound))
  execute_ends (Transfer op t address) k e = transfer_ends s sound op t (address_of address s)
  execute_ends (Multiple i) k e = multiple_ends s sound i
  execute_ends (Branch i) k e = branch_ends s sound i
  execute_ends (System i) k e = system_ends s sound i k e

  decoded_ends : (r : Result Instruction Undecoded) (k : ℕ) → k % 2 ≡ 0 → Always (Ends s) (perform_decoded r k s)
  decoded_ends (Ok i) k e = execute_ends i k e
  decoded_ends (Err Undefined) k e = tt
  decoded_ends (Err Unpredictable) k e = tt

  halfword_ends : (b : Bool) (first : ℕ) → Always (Ends s) (decode_and_perform b first s)
  halfword_ends true first = ends_then s (fetch (right_of s) (plus s.pc 2)) (λ second. perform_decoded (decoded first second) 4 s) (λ second. decoded_ends (decoded first second) 4 refl)
  halfword_ends false first = decoded_ends (decoded first 0) 2 refl

  thumb_ends : (b : Bool) → Always (Ends s) (instruction_if b s)
  thumb_ends true = ends_then s (fetch (right_of s) s.pc) (λ first. decode_and_perform (wide_first first) first s) (λ first. halfword_ends (wide_first first) first)
  thumb_ends false = tt

  pub instruction_ends : Always (Ends s) (instruction s)
  instruction_ends = thumb_ends s.thumb

-- what a call to s can come to
pub record Post (s : Registers) (x : Response × Registers) : Type 0 where
  pub sound : Sound x.1
  pub balanced : ones x.1.exceptions.active + one_if (return x.0) ≡ ones s.exceptions.active + one_if (entry x.0)
  pub kept : Kept x.0 s x.1
  pub unprivileged : privileged s ≡ false → (entry x.0 ≡ true) ⊎ (privileged x.1 ≡ false)

module _ (s : Registers) (sound : Sound s) where
  -- what keeps the mode, the active exceptions and the privilege keeps the core sound
  running_sound : (t : Registers) → Running s t → Sound t
  running_sound t h = record {
    even = h.even;
    main = h.main;
    process = h.process;
    mode = ap (λ n. eqb n 0) h.current ∙ sound.mode ∙ ap (λ n. eqb n 0) (sym h.active);
    current = λ from. ap₂ bit_of h.active h.current ∙ sound.current (ap (λ n. not (eqb n 0)) (sym h.current) ∙ from);
  }

  running_low : (t : Registers) → Running s t → privileged s ≡ false → privileged t ≡ false
  running_low t h low = ap₂ (λ n p. not (eqb n 0) || not p) h.current (h.npriv low) ∙ low

  -- no mode, no active exception and no privilege has changed
  unmoved : (r : Response) (t : Registers) → Running s t → return r ≡ false → entry r ≡ false → Kept r s t → Post s (r, t)
  unmoved r t h no_return no_entry kept = record {
    sound = running_sound t h;
    balanced = ap₂ (λ set b. ones set + one_if b) h.active (no_return ∙ sym no_entry);
    kept = kept;
    unprivileged = λ low. inr (running_low t h low);
  }

  here : Running s s
  here = record { even = sound.even; main = sound.main; process = sound.process; current = refl; active = refl; npriv = λ _. refl }

  waiting : (n : ℕ) → Running s (pend s n)
  waiting n = record { even = sound.even; main = sound.main; process = sound.process; current = refl; active = refl; npriv = λ _. refl }

  stopped : Running s (locked_core s)
  stopped = record { even = sound.even; main = sound.main; process = sound.process; current = refl; active = refl; npriv = λ _. refl }

  fault_post : (f : Fault) (low : Bool) → Post s (Ok (Stepped (cond low (Locked f) (Faulted f))), cond low (locked_core s) (pend s 3))
  fault_post f true = unmoved (Ok (Stepped (Locked f))) (locked_core s) stopped refl refl refl
  fault_post f false = unmoved (Ok (Stepped (Faulted f))) (pend s 3) (waiting 3) refl refl refl

  -- a handler is privileged
  handler_privileged : handler s ≡ true → privileged s ≡ false → ⊥
  handler_privileged from low = both_ways (privileged s) low (or_left (handler s) (not s.control.npriv) from)

  settled : (r : Result Done Fault) → Ends s r → Post s (settle s r)
  settled (Ok (ran t)) h = unmoved (Ok (Stepped Ran)) t h refl refl tt
  settled (Ok (returned t)) h = record {
    sound = h.sound;
    balanced = h.fewer ∙ sym (add-zero (ones s.exceptions.active));
    kept = tt;
    unprivileged = λ low. absurd (handler_privileged h.from_handler low);
  }
  settled (Err f) h = fault_post f (lt_z (execution_priority s) (pos 0))

  instruction_post : Always (Post s) (bind (instruction s) (λ r. done (settle s r)))
  instruction_post = always_bind (Ends s) (Post s) (instruction s) (λ r. done (settle s r)) (instruction_ends s sound) settled

  -- an exception that was not active is taken up
  entered_post : (n vector : ℕ) → 2 ≤ n → n < 48 → bit_of s.exceptions.active n ≡ false → Post s (Ok (Stepped (Entered n)), entered s n vector)
  entered_post n vector real within inactive = record {
    sound = record {
      even = even_half vector;
      main = unless_process (on_process s) sound.main;
      process = if_process (on_process s) sound.process;
      mode = ne_eqb n 0 (λ e. omega arith) ∙ sym (ne_eqb _ 0 (λ e. true≢false (sym (bit_with s.exceptions.active n (omega arith)) ∙ ap (λ set. bit_of set n) e ∙ bit_zero n)));
      current = λ _. bit_with s.exceptions.active n (omega arith);
    };
    balanced = add-zero _ ∙ ones_with s.exceptions.active n (omega arith) inactive;
    kept = tt;
    unprivileged = λ _. inl refl;
  }
    where
      frame_aligned : frame_of s % 4 ≡ 0
      frame_aligned = omega arith

      unless_process : (b : Bool) → s.msp % 4 ≡ 0 → cond b s.msp (frame_of s) % 4 ≡ 0
      unless_process true h = h
      unless_process false h = frame_aligned

      if_process : (b : Bool) → s.psp % 4 ≡ 0 → cond b (frame_of s) s.psp % 4 ≡ 0
      if_process true h = frame_aligned
      if_process false h = h

  last_post : (n : ℕ) → 2 ≤ n → n < 48 → bit_of s.exceptions.active n ≡ false → (r : Reply) → Always (Post s) (or_lock s n r)
  last_post n real within inactive (Ok vector) = entered_post n vector real within inactive
  last_post n real within inactive (Err f) = unmoved (Ok (Stepped (Locked f))) (locked_core s) stopped refl refl refl

  module _ (n : ℕ) (may : Takeable s n) where
    hard_fault_post : is_last n ≡ false → (r : Reply) → Always (Post s) (or_lock s 3 r)
    hard_fault_post other = last_post 3 (omega arith) (omega arith) (may.fallback other)

    other_post : is_last n ≡ false → (r : Reply) → Always (Post s) (or_hard_fault s n r)
    other_post other (Ok vector) = entered_post n vector may.real may.within may.inactive
    other_post other (Err f) = hard_fault_post other

    take_post : (b : Bool) → is_last n ≡ b → (refused : Option Fault) → Always (Post s) (take b s n refused)
    take_post true last refused = last_post n may.real may.within may.inactive
    take_post false other (Some f) = hard_fault_post other
    take_post false other None = other_post other

    take_up_post : Always (Post s) (take_up s n)
    take_up_post =
        let frame = try_words (right_of s) None (frame_words s) (frame_of s) in
        always_bind (λ _. Unit {0}) (Post s) frame (take (is_last n) s n) (always_all (λ _. Unit {0}) frame (λ _. tt)) (λ refused _. take_post (is_last n) refl refused)

  begin_post : (b : Bool) (o : Option ℕ) → chosen s ≡ o → Always (Post s) (begin b o s)
  begin_post true o e = unmoved (Err CoreLocked) s here refl refl refl
  begin_post false (Some n) e = take_up_post n (chosen_takeable s n e)
  begin_post false None e = instruction_post

  accepted : (b : Bool) (refusal : Refusal) (t : Registers) → Running s t → Post s (accept_if b (Err refusal) s t)
  accepted true refusal t h = unmoved (Ok Accepted) t h refl refl tt
  accepted false refusal t h = unmoved (Err refusal) s here refl refl refl

  pub call_post : (c : Call) → Always (Post s) (answer_to c s)
  unfolding answer_to
  call_post Step = begin_post s.locked (chosen s) refl
  call_post (Raise n) = accepted (raisable n) OutOfRange (pend s n) (waiting n)
  call_post (Arm n on) = accepted (external n) OutOfRange _ (record { even = sound.even; main = sound.main; process = sound.process; current = refl; active = refl; npriv = λ _. refl })
  call_post (Rank n k) = accepted (rankable n && leb k 3) _ _ (record { even = sound.even; main = sound.main; process = sound.process; current = refl; active = refl; npriv = λ _. refl })
