-- What an instruction can end in.
use Rattle.std.proofs.Common.{◌≡◌, ℕ, ◌+◌, ◌*◌, ◌%◌, ◌^◌, Bool, true, false, cond, not, ◌&&◌, eqb, List, [], ◌∷◌, Ok, Err, Result, sym, refl, ap, ◌∙◌, ap₂}
use lib.Count.{ones}
use Rattle.bus.specs.Program.{Reply, done, Always}
use Rattle.bus.specs.declared.access.Right.{Right}
use Rattle.bus.specs.declared.access.Width.{Width}
use Rattle.bus.specs.declared.access.Width.TheVariants.{Byte, Half, Word}
use Rattle.bus.specs.declared.fault.Fault.{Fault}
use Rattle.bus.proofs.Programs.{always_all, always_bind}
use Rattle.word.specs.Conditions.{passes}
use Rattle.word.specs.Fields.{bit_of, field_of}
use Rattle.word.specs.Sums.{one_if}
use Rattle.word.specs.Extend.{sign_extend}
use Rattle.thumb.specs.declared.instructions.Branch.{Branch}
use Rattle.thumb.specs.declared.instructions.Branch.TheVariants.{B, If, Bl, Bx, Blx}
use Rattle.thumb.specs.declared.instructions.Multiple.{Multiple}
use Rattle.thumb.specs.declared.instructions.Multiple.TheVariants.{Stm, Ldm, Push, Pop}
use Rattle.thumb.specs.declared.instructions.SpecialRegister.{SpecialRegister}
use Rattle.thumb.specs.declared.instructions.SpecialRegister.TheVariants.{Apsr, Iapsr, Eapsr, Xpsr, Ipsr, Epsr, Iepsr, Msp, Psp, Primask, Control}
use Rattle.thumb.specs.declared.instructions.System.{System}
use Rattle.thumb.specs.declared.instructions.System.TheVariants.{Svc, Bkpt, Udf, UdfWide, Cps, Hint, Dsb, Dmb, Isb, Mrs, Msr}
use Rattle.thumb.specs.declared.instructions.Transfer.{Transfer}
use Rattle.thumb.specs.declared.instructions.Transfer.TheVariants.{Str, Strh, Strb, Ldrsb, Ldr, Ldrh, Ldrb, Ldrsh}
use Rattle.arch.specs.Accesses.{Attempt, then, go_on, read, write}
use Rattle.arch.specs.Branches.{Done, ran, returned, returns_or_branches, bx_write_pc, branch}
use Rattle.arch.specs.Return.{exception_return}
use Rattle.arch.specs.Laws.{Sound}
use Rattle.arch.specs.Registers.{plus, minus, right_of, sp, reg, handler, privileged, with_lr, with_reg, with_sp, moved_on}
use Rattle.arch.specs.System.{special_write, supervisor_call, system}
use Rattle.std.proofs.lemmas.Bool.{and_left, and_parts}
use Rattle.arch.specs.Transfers.{loading, storing, transfer, multiple, registers_of, store_registers, load_registers, span, push_lr, pop_pc}
use Rattle.arch.specs.declared.registers.Registers.{Registers}
use Rattle.arch.proofs.Returns.{Returning, Gives, return_gives}
use Rattle.arch.proofs.Running.{Steady, steady_self, to_flags, steady_reg, steady_sp, Running, runs_to, moves_on, even_past, even_if, even_half, aligned_if}

-- what an instruction of s can end in
abbrev pub Ends : Registers → Result Done Fault → Type 0
Ends s (Ok (ran t)) = Running s t
Ends s (Ok (returned t)) = Returning s t
Ends s (Err f) = Unit {0}

-- a refusal on the way ends it
pub ends_then : {A : Type 0} (s : Registers) (p : Attempt A) (next : A → Attempt Done) → ((a : A) → Always (Ends s) (next a)) → Always (Ends s) (then p next)
ends_then s p next each = always_bind (λ _. Unit {0}) (Ends s) p _ (always_all (λ _. Unit {0}) p (λ _. tt)) (λ r _. go r)
  where
    go : (r : Result _ Fault) → Always (Ends s) (go_on next r)
    go (Ok a) = each a
    go (Err f) = tt

module _ (s : Registers) (sound : Sound s) where
  self : Steady s s
  self = steady_self s sound

  loads : (v t : ℕ) → Running s (moved_on 2 (with_reg s t v))
  loads v t = moves_on s sound 2 (with_reg s t v) refl (steady_reg s s t v self)

  stays : Running s (moved_on 2 s)
  stays = moves_on s sound 2 s refl self

  loading_ends : (width : Width) (extend : ℕ → ℕ) (t x : ℕ) → Always (Ends s) (loading width extend s t x)
  loading_ends width extend t x = ends_then s (read width (right_of s) x) (λ v. done (Ok (ran (moved_on 2 (with_reg s t (extend v)))))) (λ v. loads (extend v) t)

  storing_ends : (width : Width) (t x : ℕ) → Always (Ends s) (storing width s t x)
  storing_ends width t x = ends_then s (write width (right_of s) x (reg s t)) (λ _. done (Ok (ran (moved_on 2 s)))) (λ _. stays)

  pub transfer_ends : (o : Transfer) (t x : ℕ) → Always (Ends s) (transfer o t x s)
  transfer_ends Str t x = storing_ends Word t x
  transfer_ends Strh t x = storing_ends Half t x
  transfer_ends Strb t x = storing_ends Byte t x
  transfer_ends Ldrsb t x = loading_ends Byte (λ v. sign_extend 8 32 (v % 2 ^ 8)) t x
  transfer_ends Ldr t x = loading_ends Word (λ v. v) t x
  transfer_ends Ldrh t x = loading_ends Half (λ v. v) t x
  transfer_ends Ldrb t x = loading_ends Byte (λ v. v) t x
  transfer_ends Ldrsh t x = loading_ends Half (λ v. sign_extend 16 32 (v % 2 ^ 16)) t x

  privileged_kept : (b : Bool) (v old : Bool) → b ≡ false → cond b v old ≡ old
  privileged_kept b v old e = rw e

  special_keeps : (r : SpecialRegister) (v k : ℕ) → k % 2 ≡ 0 → Running s (moved_on k (special_write r s v))
  special_keeps Apsr v k e = moves_on s sound k _ e (to_flags s sound _)
  special_keeps Iapsr v k e = moves_on s sound k _ e (to_flags s sound _)
  special_keeps Eapsr v k e = moves_on s sound k _ e (to_flags s sound _)
  special_keeps Xpsr v k e = moves_on s sound k _ e (to_flags s sound _)
  special_keeps Ipsr v k e = moves_on s sound k s e self
  special_keeps Epsr v k e = moves_on s sound k s e self
  special_keeps Iepsr v k e = moves_on s sound k s e self
  special_keeps Msp v k e = record { even = even_past s.pc k sound.even e; main = aligned_if (privileged s) v s.msp sound.main; process = sound.process; current = refl; active = refl; npriv = λ _. refl }
  special_keeps Psp v k e = record { even = even_past s.pc k sound.even e; main = sound.main; process = aligned_if (privileged s) v s.psp sound.process; current = refl; active = refl; npriv = λ _. refl }
  special_keeps Primask v k e = record { even = even_past s.pc k sound.even e; main = sound.main; process = sound.process; current = refl; active = refl; npriv = λ _. refl }
  special_keeps Control v k e = record { even = even_past s.pc k sound.even e; main = sound.main; process = sound.process; current = refl; active = refl; npriv = λ low. privileged_kept (privileged s && not (handler s)) _ _ (and_left (privileged s) (not (handler s)) low) }

  call_ends : (b : Bool) (k : ℕ) → k % 2 ≡ 0 → Always (Ends s) (supervisor_call b k s)
  call_ends true k e = record { even = even_past s.pc k sound.even e; main = sound.main; process = sound.process; current = refl; active = refl; npriv = λ _. refl }
  call_ends false k e = tt

  pub system_ends : (i : System) (k : ℕ) → k % 2 ≡ 0 → Always (Ends s) (system i k s)
  system_ends (Svc imm) k e = call_ends _ k e
  system_ends (Bkpt imm) k e = tt
  system_ends (Udf imm) k e = tt
  system_ends (UdfWide imm) k e = tt
  system_ends (Cps disable) k e = record { even = even_past s.pc k sound.even e; main = sound.main; process = sound.process; current = refl; active = refl; npriv = λ _. refl }
  system_ends (Hint number) k e = moves_on s sound k s e self
  system_ends (Dsb option) k e = moves_on s sound k s e self
  system_ends (Dmb option) k e = moves_on s sound k s e self
  system_ends (Isb option) k e = moves_on s sound k s e self
  system_ends (Mrs d from) k e = moves_on s sound k _ e (steady_reg s s d _ self)
  system_ends (Msr to n) k e = special_keeps to _ k e

  -- t has the mode and exceptions of s, so a return from t is one from s
  module _ (t : Registers) (h : Steady s t) where
    sound_still : Sound t
    sound_still = record {
      even = ap (λ x. x % 2) h.pc ∙ sound.even;
      main = h.main;
      process = h.process;
      mode = ap (λ n. eqb n 0) h.current ∙ sound.mode ∙ ap (λ n. eqb n 0) (sym h.active);
      current = λ from. ap₂ bit_of h.active h.current ∙ sound.current (ap (λ n. not (eqb n 0)) (sym h.current) ∙ from);
    }

    given : (r : Result Registers Fault) → Gives t r → Always (Ends s) (go_on (λ after. done (Ok (returned after))) r)
    given (Ok u) g = record {
      from_handler = ap (λ n. not (eqb n 0)) (sym h.current) ∙ g.from_handler;
      sound = g.sound;
      fewer = g.fewer ∙ ap ones h.active;
    }
    given (Err f) g = tt

    bx_by : (b : Bool) (x : ℕ) → (handler t && eqb (field_of x 28 4) 15) ≡ b → Always (Ends s) (returns_or_branches b t x)
    bx_by true x back =
        let from = (and_parts (handler t) (eqb (field_of x 28 4) 15) back).0 in
        always_bind (Gives t) (Ends s) (exception_return t x) (go_on (λ after. done (Ok (returned after)))) (return_gives t x sound_still from) given
    bx_by false x back = record { even = even_half x; main = h.main; process = h.process; current = h.current; active = h.active; npriv = λ _. h.npriv }

    pub bx_ends : (x : ℕ) → Always (Ends s) (bx_write_pc t x)
    bx_ends x = bx_by (handler t && eqb (field_of x 28 4) 15) x refl

  linked : (v : ℕ) → Steady s (with_lr s v)
  linked v = record { main = sound.main; process = sound.process; pc = refl; current = refl; active = refl; npriv = refl }

  pub branch_ends : (i : Branch) → Always (Ends s) (branch i s)
  branch_ends (B offset) = runs_to s s _ self (even_half _)
  branch_ends (If condition offset) = runs_to s s _ self (even_if (passes condition s.flags) _ _ (even_past s.pc 2 sound.even refl))
  branch_ends (Bl offset) = runs_to s (with_lr s _) _ (linked _) (even_half _)
  branch_ends (Bx m) = bx_ends s self (reg s m)
  branch_ends (Blx m) = record { even = even_half _; main = sound.main; process = sound.process; current = refl; active = refl; npriv = λ _. refl }

  -- registers that are loaded change nothing else
  abbrev pub Loaded : Result Registers Fault → Type 0
  Loaded (Ok t) = Steady s t
  Loaded (Err f) = Unit {0}

  pub loaded : (right : Right) (t : Registers) (is : List ℕ) (x : ℕ) → Steady s t → Always Loaded (load_registers right t is x)
  unfolding load_registers
  loaded right t [] x h = h
  loaded right t (i ∷ is) x h = go (λ v. loaded right (with_reg t i v) is (plus x 4) (steady_reg s t i v h))
    where
      go : ((v : ℕ) → Always Loaded (load_registers right (with_reg t i v) is (plus x 4))) → (r : Reply) → Always Loaded (go_on (λ v. load_registers right (with_reg t i v) is (plus x 4)) r)
      go each (Ok v) = each v
      go each (Err f) = tt

  ends_loaded : (p : Attempt Registers) (next : Registers → Attempt Done) → Always Loaded p → ((t : Registers) → Steady s t → Always (Ends s) (next t)) → Always (Ends s) (then p next)
  ends_loaded p next first each = always_bind Loaded (Ends s) p (go_on next) first go
    where
      go : (r : Result Registers Fault) → Loaded r → Always (Ends s) (go_on next r)
      go (Ok t) h = each t h
      go (Err f) h = tt

  popped_ends : (b : Bool) (t : Registers) (x : ℕ) → Steady s t → Always (Ends s) (pop_pc b s t x)
  popped_ends true t x h = ends_then s (read Word (right_of s) x) (λ v. bx_write_pc (with_sp t (plus x 4)) v) (λ v. bx_ends (with_sp t (plus x 4)) (steady_sp s sound t (plus x 4) h) v)
  popped_ends false t x h = moves_on s sound 2 (with_sp t x) refl (steady_sp s sound t x h)

  pub multiple_ends : (i : Multiple) → Always (Ends s) (multiple i s)
  multiple_ends (Stm n list) =
      let after : Registers = with_reg s n (plus (reg s n) (span list)) in
      ends_then s (store_registers s (registers_of list) (reg s n)) (λ _. done (Ok (ran (moved_on 2 after)))) (λ _. moves_on s sound 2 after refl (steady_reg s s n _ self))
  multiple_ends (Ldm n list) =
      let base : Registers = with_reg s n (plus (reg s n) (span list)) in
      ends_loaded (load_registers (right_of s) base (registers_of list) (reg s n)) (λ t. done (Ok (ran (moved_on 2 t)))) (loaded (right_of s) base (registers_of list) (reg s n) (steady_reg s s n _ self)) (λ t h. moves_on s sound 2 t refl h)
  multiple_ends (Push list lr) =
      let base : ℕ = minus (sp s) (span list + 4 * one_if lr) in
      let ran_on : Running s (moved_on 2 (with_sp s base)) = moves_on s sound 2 (with_sp s base) refl (steady_sp s sound s base self) in
      ends_then s (store_registers s (registers_of list) base) (λ x. then (push_lr lr s x) (λ _. done (Ok (ran (moved_on 2 (with_sp s base)))))) (λ x. ends_then s (push_lr lr s x) (λ _. done (Ok (ran (moved_on 2 (with_sp s base))))) (λ _. ran_on))
  multiple_ends (Pop list pc) =
      ends_loaded (load_registers (right_of s) s (registers_of list) (sp s)) (λ t. pop_pc pc s t (plus (sp s) (span list))) (loaded (right_of s) s (registers_of list) (sp s) self) (λ t h. popped_ends pc t (plus (sp s) (span list)) h)
