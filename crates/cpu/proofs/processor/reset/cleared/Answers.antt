use Rattle.std.proofs.Common.{◌≡◌, ℕ, ◌<◌, Bool, false, List, replicate, sym, refl, ◌∙◌, subst}
use Rattle.std.specs.Array.{AllOfLen}
use Rattle.std.proofs.lemmas.Grind.{same_number_lists}
use Rattle.std.proofs.lemmas.List.{get_or-replicate, length-replicate}
use Rattle.arch.specs.Step.{blank}
use Rattle.arch.specs.declared.registers.Registers.{Registers}
use Rattle.cpu.proofs.processor.reset.cleared.Goals as goal

zeros : (xs : List ℕ) (n : ℕ) → AllOfLen (λ x. x ≡ 0) xs n → xs ≡ replicate n 0
zeros xs n h = same_number_lists xs (replicate n 0) (h.long ∙ sym (length-replicate n 0)) (λ k below. h.at k 0 (subst (λ m. k < m) h.long below) ∙ sym (get_or-replicate n k 0 0 (subst (λ m. k < m) h.long below)))

module _ (general ranks : List ℕ) (lr msp psp pc current pending active armed : ℕ) (n z c v thumb primask npriv spsel locked : Bool) where
  abbrev given : Registers
  given = record { general = general; lr = lr; msp = msp; psp = psp; pc = pc; flags = record { n = n; z = z; c = c; v = v }; thumb = thumb; primask = primask; control = record { npriv = npriv; spsel = spsel }; current = current; exceptions = record { pending = pending; active = active; armed = armed; ranks = ranks }; locked = locked }

  all_blank : general ≡ replicate 13 0 → ranks ≡ replicate 48 0 → lr ≡ 0 → msp ≡ 0 → psp ≡ 0 → pc ≡ 0 → current ≡ 0 → pending ≡ 0 → active ≡ 0 → armed ≡ 0 → n ≡ false → z ≡ false → c ≡ false → v ≡ false → thumb ≡ false → primask ≡ false → npriv ≡ false → spsel ≡ false → locked ≡ false → given ≡ blank false 0 0 0 false
  all_blank e1 e2 e3 e4 e5 e6 e7 e8 e9 e10 e11 e12 e13 e14 e15 e16 e17 e18 e19 = rw (e1, e2, e3, e4, e5, e6, e7, e8, e9, e10, e11, e12, e13, e14, e15, e16, e17, e18, e19) refl

pub returns : goal.returns
returns c =
    let s = c.default.result in
    let h = c.default.ensures in
    let rest = h.1.1.1.1.1 in
    let flags = rest.0 in
    let control = rest.1.1.1.0 in
    let last = rest.1.1.1.1 in
    let exceptions = last.1.0 in
    all_blank s.general s.exceptions.ranks s.lr s.msp s.psp s.pc s.current s.exceptions.pending s.exceptions.active s.exceptions.armed s.flags.n s.flags.z s.flags.c s.flags.v s.thumb s.primask s.control.npriv s.control.spsel s.locked (zeros _ 13 h.0) (zeros _ 48 exceptions.1.1.1) h.1.0 h.1.1.0 h.1.1.1.0 h.1.1.1.1.0 last.0 exceptions.0 exceptions.1.0 exceptions.1.1.0 flags.0 flags.1.0 flags.1.1.0 flags.1.1.1 rest.1.0 rest.1.1.0 control.0 control.1 last.1.1
