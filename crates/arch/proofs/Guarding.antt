-- An unprivileged core makes unprivileged accesses only, but for the vectors of what it takes up.
use Rattle.std.proofs.Common.{◌≡◌, ℕ, ◌+◌, ◌*◌, ◌%◌, ◌^◌, Bool, true, false, not, ◌&&◌, eqb, List, [], ◌∷◌, Some, None, Ok, Err, Option, Result, refl, ap, ◌∙◌, inr}
use Rattle.std.proofs.lemmas.Bool.{and_parts, or_parts, both_ways}
use Rattle.bus.specs.Isolation.{UnprivilegedOnly, Guarded}
use Rattle.bus.specs.Program.{done, Always}
use Rattle.bus.specs.declared.access.Right.{Right}
use Rattle.bus.specs.declared.access.Right.TheVariants.{Unprivileged}
use Rattle.bus.specs.declared.access.Width.{Width}
use Rattle.bus.specs.declared.access.Width.TheVariants.{Byte, Half, Word}
use Rattle.bus.specs.declared.fault.Fault.{Fault}
use Rattle.bus.proofs.Isolation.{unprivileged_bind, unprivileged_then, guarded_then}
use Rattle.word.specs.Extend.{sign_extend}
use Rattle.word.specs.Fields.{field_of}
use Rattle.word.specs.Sums.{one_if}
use Rattle.thumb.specs.Decoded.{decoded, wide_first}
use Rattle.thumb.specs.declared.instructions.Branch.{Branch}
use Rattle.thumb.specs.declared.instructions.Branch.TheVariants.{B, If, Bl, Bx, Blx}
use Rattle.thumb.specs.declared.instructions.Instruction.{Instruction}
use Rattle.thumb.specs.declared.instructions.Instruction.TheVariants as instr
use Rattle.thumb.specs.declared.instructions.Multiple.{Multiple}
use Rattle.thumb.specs.declared.instructions.Multiple.TheVariants.{Stm, Ldm, Push, Pop}
use Rattle.thumb.specs.declared.instructions.Refusal.{Refusal}
use Rattle.thumb.specs.declared.instructions.Refusal.TheVariants.{Undefined, Unpredictable}
use Rattle.thumb.specs.declared.instructions.SpecialRegister.TheVariants.{Apsr, Iapsr, Eapsr, Xpsr, Ipsr, Epsr, Iepsr, Msp, Psp, Primask, Control}
use Rattle.thumb.specs.declared.instructions.System.{System}
use Rattle.thumb.specs.declared.instructions.System.TheVariants.{Svc, Bkpt, Udf, UdfWide, Cps, Hint, Dsb, Dmb, Isb, Mrs, Msr}
use Rattle.thumb.specs.declared.instructions.Transfer.{Transfer}
use Rattle.thumb.specs.declared.instructions.Transfer.TheVariants.{Str, Strh, Strb, Ldrsb, Ldr, Ldrh, Ldrb, Ldrsh}
use Rattle.arch.specs.Accesses.{Attempt, then, go_on, fetch, read, write, noting, try_words}
use Rattle.arch.specs.Answers.{Response}
use Rattle.arch.specs.Branches.{Done, ran, returns_or_branches, bx_write_pc, branch}
use Rattle.arch.specs.Entry.{frame_of, frame_words, is_last, take_last, take, take_up}
use Rattle.arch.specs.Laws.{Sound, FramesUnprivileged, SpecialsHidden}
use Rattle.arch.specs.Priorities.{chosen}
use Rattle.arch.specs.Return.{forced_thread, frame_pointer, returnable, judged, read_four, frame_of_words, read_frame, unstack, exception_return}
use Rattle.arch.specs.Status.{flags_word}
use Rattle.arch.specs.Registers.{plus, minus, handler, privileged, right_if, right_of, sp, reg, with_reg, with_sp, moved_on}
use Rattle.arch.specs.Step.{execute, perform_decoded, decode_and_perform, instruction_if, instruction, settle, begin, answer_to}
use Rattle.arch.specs.System.{supervisor_call, system}
use Rattle.arch.specs.Transfers.{address_of, loading, storing, transfer, multiple, registers_of, store_registers, load_registers, span, push_lr, pop_pc}
use Rattle.arch.specs.declared.answers.Answer.TheVariants.{Entered}
use Rattle.arch.specs.declared.answers.Call.{Call}
use Rattle.arch.specs.declared.answers.Call.TheVariants.{Step, Raise, Arm, Rank}
use Rattle.arch.specs.declared.answers.Completed.TheVariants.{Stepped}
use Rattle.arch.specs.declared.registers.Control.{Control as Controls}
use Rattle.arch.specs.declared.registers.Registers.{Registers}
use Rattle.arch.proofs.Executing.{Loaded, loaded}
use Rattle.arch.proofs.Running.{Steady, steady_self}

-- both answers say that the same exception was taken up
abbrev pub BothEntered : Response × Registers → Response × Registers → Type 0
BothEntered a b = (n : ℕ) × (a.0 ≡ Ok (Stepped (Entered n))) × (b.0 ≡ Ok (Stepped (Entered n)))

only_then : {A B : Type 0} (p : Attempt A) (next : A → Attempt B) → UnprivilegedOnly p → ((a : A) → UnprivilegedOnly (next a)) → UnprivilegedOnly (then p next)
only_then p next first each = unprivileged_then p (go_on next) first go
  where
    go : (r : Result _ Fault) → UnprivilegedOnly (go_on next r)
    go (Ok a) = each a
    go (Err f) = tt

module _ (right : Right) (low : right ≡ Unprivileged) where
  only_read : (x : ℕ) → UnprivilegedOnly (read Word right x)
  only_read x = (low, λ _. tt)

  only_load_registers : (t : Registers) (is : List ℕ) (x : ℕ) → UnprivilegedOnly (load_registers right t is x)
  unfolding load_registers
  only_load_registers t [] x = tt
  only_load_registers t (i ∷ is) x = only_then (read Word right x) (λ v. load_registers right (with_reg t i v) is (plus x 4)) (only_read x) (λ v. only_load_registers (with_reg t i v) is (plus x 4))

  only_try_words : (first : Option Fault) (vs : List ℕ) (x : ℕ) → UnprivilegedOnly (try_words right first vs x)
  unfolding try_words
  only_try_words first [] x = tt
  only_try_words first (v ∷ vs) x = (low, λ r. only_try_words (noting first r) vs (plus x 4))

module _ (s : Registers) (sound : Sound s) (unprivileged : privileged s ≡ false) where
  low : right_of s ≡ Unprivileged
  low = ap right_if unprivileged

  in_thread : handler s ≡ false
  in_thread = (or_parts (handler s) (not s.control.npriv) unprivileged).0

  only_loading : (width : Width) (extend : ℕ → ℕ) (t x : ℕ) → UnprivilegedOnly (loading width extend s t x)
  only_loading width extend t x = only_then (read width (right_of s) x) (λ v. done (Ok (ran (moved_on 2 (with_reg s t (extend v)))))) (low, λ _. tt) (λ _. tt)

  only_storing : (width : Width) (t x : ℕ) → UnprivilegedOnly (storing width s t x)
  only_storing width t x = only_then (write width (right_of s) x (reg s t)) (λ _. done (Ok (ran (moved_on 2 s)))) (low, λ _. tt) (λ _. tt)

  only_transfer : (o : Transfer) (t x : ℕ) → UnprivilegedOnly (transfer o t x s)
  only_transfer Str t x = only_storing Word t x
  only_transfer Strh t x = only_storing Half t x
  only_transfer Strb t x = only_storing Byte t x
  only_transfer Ldrsb t x = only_loading Byte (λ v. sign_extend 8 32 (v % 2 ^ 8)) t x
  only_transfer Ldr t x = only_loading Word (λ v. v) t x
  only_transfer Ldrh t x = only_loading Half (λ v. v) t x
  only_transfer Ldrb t x = only_loading Byte (λ v. v) t x
  only_transfer Ldrsh t x = only_loading Half (λ v. sign_extend 16 32 (v % 2 ^ 16)) t x

  -- in Thread mode nothing returns
  only_bx : (t : Registers) (x : ℕ) → t.current ≡ s.current → UnprivilegedOnly (bx_write_pc t x)
  only_bx t x same = go (handler t && eqb (field_of x 28 4) 15) refl
    where
      go : (b : Bool) → (handler t && eqb (field_of x 28 4) 15) ≡ b → UnprivilegedOnly (returns_or_branches b t x)
      go true back = absurd (both_ways (handler t) (ap (λ n. not (eqb n 0)) same ∙ in_thread) (and_parts (handler t) (eqb (field_of x 28 4) 15) back).0)
      go false back = tt

  only_branch : (i : Branch) → UnprivilegedOnly (branch i s)
  only_branch (B offset) = tt
  only_branch (If condition offset) = tt
  only_branch (Bl offset) = tt
  only_branch (Bx m) = only_bx s (reg s m) refl
  only_branch (Blx m) = tt

  only_store_registers : (is : List ℕ) (x : ℕ) → UnprivilegedOnly (store_registers s is x)
  unfolding store_registers
  only_store_registers [] x = tt
  only_store_registers (i ∷ is) x = only_then (write Word (right_of s) x (reg s i)) (λ _. store_registers s is (plus x 4)) (low, λ _. tt) (λ _. only_store_registers is (plus x 4))

  only_push : (b : Bool) (x : ℕ) → UnprivilegedOnly (push_lr b s x)
  only_push true x = (low, λ _. tt)
  only_push false x = tt

  -- what is loaded is in the mode of s
  only_loaded : (p : Attempt Registers) (next : Registers → Attempt Done) → UnprivilegedOnly p → Always (Loaded s sound) p → ((t : Registers) → Steady s t → UnprivilegedOnly (next t)) → UnprivilegedOnly (then p next)
  only_loaded p next first loads each = unprivileged_bind (Loaded s sound) p (go_on next) first loads go
    where
      go : (r : Result Registers Fault) → Loaded s sound r → UnprivilegedOnly (go_on next r)
      go (Ok t) h = each t h
      go (Err f) h = tt

  only_pop : (b : Bool) (t : Registers) (x : ℕ) → t.current ≡ s.current → UnprivilegedOnly (pop_pc b s t x)
  only_pop true t x same = only_then (read Word (right_of s) x) (λ v. bx_write_pc (with_sp t (plus x 4)) v) (low, λ _. tt) (λ v. only_bx (with_sp t (plus x 4)) v same)
  only_pop false t x same = tt

  only_multiple : (i : Multiple) → UnprivilegedOnly (multiple i s)
  only_multiple (Stm n list) = only_then (store_registers s (registers_of list) (reg s n)) (λ _. done (Ok (ran (moved_on 2 (with_reg s n (plus (reg s n) (span list))))))) (only_store_registers (registers_of list) (reg s n)) (λ _. tt)
  only_multiple (Ldm n list) =
      let base : Registers = with_reg s n (plus (reg s n) (span list)) in
      only_then (load_registers (right_of s) base (registers_of list) (reg s n)) (λ t. done (Ok (ran (moved_on 2 t)))) (only_load_registers (right_of s) low base (registers_of list) (reg s n)) (λ _. tt)
  only_multiple (Push list lr) =
      let base : ℕ = minus (sp s) (span list + 4 * one_if lr) in
      only_then (store_registers s (registers_of list) base) (λ x. then (push_lr lr s x) (λ _. done (Ok (ran (moved_on 2 (with_sp s base)))))) (only_store_registers (registers_of list) base) (λ x. only_then (push_lr lr s x) (λ _. done (Ok (ran (moved_on 2 (with_sp s base))))) (only_push lr x) (λ _. tt))
  only_multiple (Pop list pc) =
      let registers = load_registers (right_of s) s (registers_of list) (sp s) in
      only_loaded registers (λ t. pop_pc pc s t (plus (sp s) (span list))) (only_load_registers (right_of s) low s (registers_of list) (sp s)) (loaded s sound (right_of s) s (registers_of list) (sp s) (steady_self s sound)) (λ t h. only_pop pc t (plus (sp s) (span list)) h.current)

  only_call : (b : Bool) (k : ℕ) → UnprivilegedOnly (supervisor_call b k s)
  only_call true k = tt
  only_call false k = tt

  only_system : (i : System) (k : ℕ) → UnprivilegedOnly (system i k s)
  only_system (Svc imm) k = only_call _ k
  only_system (Bkpt imm) k = tt
  only_system (Udf imm) k = tt
  only_system (UdfWide imm) k = tt
  only_system (Cps disable) k = tt
  only_system (Hint number) k = tt
  only_system (Dsb option) k = tt
  only_system (Dmb option) k = tt
  only_system (Isb option) k = tt
  only_system (Mrs d from) k = tt
  only_system (Msr to n) k = tt

  only_execute : (i : Instruction) (k : ℕ) → UnprivilegedOnly (execute i k s)
  only_execute (instr.Basic i) k = tt
  only_execute (instr.Data op dn m) k = tt
  only_execute (instr.Special i) k = tt
  only_execute (instr.Unary op d m) k = tt
  only_execute (instr.Transfer op t address) k = only_transfer op t (address_of address s)
  only_execute (instr.Multiple i) k = only_multiple i
  only_execute (instr.Branch i) k = only_branch i
  only_execute (instr.System i) k = only_system i k

  only_decoded : (r : Result Instruction Refusal) (k : ℕ) → UnprivilegedOnly (perform_decoded r k s)
  only_decoded (Ok i) k = only_execute i k
  only_decoded (Err Undefined) k = tt
  only_decoded (Err Unpredictable) k = tt

  only_halfword : (b : Bool) (first : ℕ) → UnprivilegedOnly (decode_and_perform b first s)
  only_halfword true first = only_then (fetch (right_of s) (plus s.pc 2)) (λ second. perform_decoded (decoded first second) 4 s) (low, λ _. tt) (λ second. only_decoded (decoded first second) 4)
  only_halfword false first = only_decoded (decoded first 0) 2

  only_thumb : (b : Bool) → UnprivilegedOnly (instruction_if b s)
  only_thumb true = only_then (fetch (right_of s) s.pc) (λ first. decode_and_perform (wide_first first) first s) (low, λ _. tt) (λ first. only_halfword (wide_first first) first)
  only_thumb false = tt

  only_instruction : UnprivilegedOnly (instruction s)
  only_instruction = only_thumb s.thumb

  -- a vector is read privileged, and what it says only the handler sees
  guarded_last : (n : ℕ) → Guarded BothEntered (take_last s n)
  guarded_last n = inr (refl, λ f. tt, λ v v'. (n, refl, refl))

  guarded_take : (b : Bool) (n : ℕ) (refused : Option Fault) → Guarded BothEntered (take b s n refused)
  guarded_take true n refused = guarded_last n
  guarded_take false n (Some f) = guarded_last 3
  guarded_take false n None = inr (refl, λ f. guarded_last 3, λ v v'. (n, refl, refl))

  guarded_take_up : (n : ℕ) → Guarded BothEntered (take_up s n)
  guarded_take_up n = guarded_then BothEntered (try_words (right_of s) None (frame_words s) (frame_of s)) (take (is_last n) s n) (only_try_words (right_of s) low None (frame_words s) (frame_of s)) (guarded_take (is_last n) n)

  guarded_begin : (b : Bool) (o : Option ℕ) → Guarded BothEntered (begin b o s)
  guarded_begin true o = tt
  guarded_begin false (Some n) = guarded_take_up n
  guarded_begin false None = guarded_then BothEntered (instruction s) (λ r. done (settle s r)) only_instruction (λ _. tt)

  pub guarded_call : (c : Call) → Guarded BothEntered (answer_to c s)
  unfolding answer_to
  guarded_call Step = guarded_begin s.locked (chosen s)
  guarded_call (Raise n) = tt
  guarded_call (Arm n on) = tt
  guarded_call (Rank n k) = tt

-- a return to unprivileged Thread mode
module _ (right : Right) (low : right ≡ Unprivileged) where
  only_four : (x : ℕ) → UnprivilegedOnly (read_four right x)
  only_four x =
      only_then (read Word right x) (λ a. then (read Word right (plus x 4)) (λ b. then (read Word right (plus x 8)) (λ c. then (read Word right (plus x 12)) (λ d. done (Ok (a ∷ b ∷ c ∷ d ∷ [])))))) (low, λ _. tt)
      (λ a. only_then (read Word right (plus x 4)) (λ b. then (read Word right (plus x 8)) (λ c. then (read Word right (plus x 12)) (λ d. done (Ok (a ∷ b ∷ c ∷ d ∷ []))))) (low, λ _. tt)
      (λ b. only_then (read Word right (plus x 8)) (λ c. then (read Word right (plus x 12)) (λ d. done (Ok (a ∷ b ∷ c ∷ d ∷ [])))) (low, λ _. tt)
      (λ c. only_then (read Word right (plus x 12)) (λ d. done (Ok (a ∷ b ∷ c ∷ d ∷ []))) (low, λ _. tt) (λ _. tt))))

  only_read_frame : (x : ℕ) → UnprivilegedOnly (read_frame right x)
  unfolding read_frame
  only_read_frame x =
      only_then (read_four right x) (λ l. then (read_four right (plus x 16)) (λ h. done (Ok (frame_of_words l h)))) (only_four x)
      (λ l. only_then (read_four right (plus x 16)) (λ h. done (Ok (frame_of_words l h))) (only_four (plus x 16)) (λ _. tt))

module _ (s : Registers) (exc : ℕ) (forced : forced_thread s exc ≡ true) where
  only_unstack : (b : Bool) → UnprivilegedOnly (unstack b s exc)
  only_unstack true =
      let right = right_if (not (forced_thread s exc)) in
      only_then (read_frame right (frame_pointer s exc)) (judged s exc) (only_read_frame right (ap (λ b. right_if (not b)) forced) (frame_pointer s exc)) (λ _. tt)
  only_unstack false = tt

  only_return : UnprivilegedOnly (exception_return s exc)
  only_return = only_unstack (returnable s exc)

pub frames_unprivileged : FramesUnprivileged
frames_unprivileged = only_return

pub specials_hidden : SpecialsHidden
specials_hidden Apsr s t low low' flags primask control = ap flags_word flags
specials_hidden Iapsr s t low low' flags primask control = rw (low, low', flags)
specials_hidden Eapsr s t low low' flags primask control = ap flags_word flags
specials_hidden Xpsr s t low low' flags primask control = rw (low, low', flags)
specials_hidden Ipsr s t low low' flags primask control = rw (low, low')
specials_hidden Epsr s t low low' flags primask control = refl
specials_hidden Iepsr s t low low' flags primask control = rw (low, low')
specials_hidden Msp s t low low' flags primask control = rw (low, low')
specials_hidden Psp s t low low' flags primask control = rw (low, low')
specials_hidden Primask s t low low' flags primask control = ap one_if primask
specials_hidden Control s t low low' flags primask control = ap (λ (c : Controls). one_if c.spsel * 2 + one_if c.npriv) control
