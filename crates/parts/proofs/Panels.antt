-- What an allowed access to a panel answers and leaves.
use Rattle.std.proofs.Common.{◌≡◌, ℕ, ◌+◌, ◌-◌, ◌/◌, ◌%◌, ◌^◌, ◌<◌, ◌≤◌, true, false, not, eqb, ltb, leb, ◌⊎◌, length, get_or, set, None, Ok, sym, ap, ◌∙◌, inl, inr, arith, get_or-set_other, get_or-set_same}
use Rattle.std.proofs.lemmas.Bool.{eqb-true, ne_eqb, not-false, both_ways, and_parts, leb-true, ltb-true, cases_eq}
use Rattle.std.proofs.lemmas.Bool.Decides.{nat_tests}
use Rattle.bus.specs.Access.{is_write, bytes_of, within}
use Rattle.bus.specs.Fault.{raised}
use Rattle.bus.specs.Meaning.{refused_if, answer, after, replied, written}
use Rattle.bus.specs.Memory.{load, store}
use Rattle.bus.specs.declared.access.Access.{Access}
use Rattle.bus.specs.declared.fault.Cause.TheVariants.{Unmapped, WrongWidth}
use Rattle.bus.proofs.Answer.{answer_allowed, answer_value, refused_if_none, read_answer, write_answer, write_leaves}
use Rattle.bus.proofs.Memory.{store_unique, load_bytes}
use Rattle.parts.specs.Panel.{on_panel, panel_bytes, panel_verdict}
use Rattle.parts.specs.declared.panel.Panel.{Panel}

module _ (p : Panel) (x : ℕ) (on : x / 64 ≡ p.base / 64) (aligned : x % 4 ≡ 0) where
  -- the four bytes from x on are those of one word
  word_bytes : (i : ℕ) → i < 4 → panel_bytes p (x + i) ≡ get_or p.words (x % 64 / 4) 0 / 256 ^ i % 256
  word_bytes i below =
      let block : eqb ((x + i) / 64) (p.base / 64) ≡ true = grind (arith, nat_tests) in
      let word : (x + i) % 64 / 4 ≡ x % 64 / 4 = omega arith in
      let byte : (x + i) % 4 ≡ i = omega arith in
      rw (block, word, byte)

  load_panel : get_or p.words (x % 64 / 4) 0 < 2 ^ 32 → load 4 (panel_bytes p) x ≡ get_or p.words (x % 64 / 4) 0
  load_panel fits = load_bytes 4 (panel_bytes p) x (get_or p.words (x % 64 / 4) 0) word_bytes ∙ omega arith

  abbrev with_word : ℕ → Panel
  with_word v = record { words = set p.words (x % 64 / 4) v; base = p.base }

  store_panel : (v : ℕ) → x % 64 / 4 < length p.words → panel_bytes (with_word v) ≡ store 4 (panel_bytes p) x v
  store_panel v short = store_unique 4 (panel_bytes p) (panel_bytes (with_word v)) x v covered outside
    where
      covered : (y : ℕ) → within x 4 y ≡ true → panel_bytes (with_word v) y ≡ v / 256 ^ (y - x) % 256
      covered y inside =
          let low : x ≤ y = leb-true x y (and_parts (leb x y) (ltb y (x + 4)) inside).0 in
          let high : y < x + 4 = ltb-true y (x + 4) (and_parts (leb x y) (ltb y (x + 4)) inside).1 in
          let block : eqb (y / 64) (p.base / 64) ≡ true = grind (arith, nat_tests) in
          let word : y % 64 / 4 ≡ x % 64 / 4 = omega arith in
          let byte : y % 4 ≡ y - x = omega arith in
          rw (block, word, byte, get_or-set_same)

      other : (y : ℕ) → within x 4 y ≡ false → (y / 64 ≡ p.base / 64) ⊎ (y / 64 ≡ p.base / 64 → ⊥) → (y % 64 / 4 ≡ x % 64 / 4) ⊎ (y % 64 / 4 ≡ x % 64 / 4 → ⊥) → panel_bytes (with_word v) y ≡ panel_bytes p y
      other y away (inr elsewhere) word = rw (ne_eqb (y / 64) (p.base / 64) elsewhere)
      other y away (inl block) (inr word) = rw get_or-set_other
      other y away (inl block) (inl word) =
          let low : x ≤ y = omega arith in
          let high : y < x + 4 = omega arith in
          absurd (both_ways (within x 4 y) away (grind (arith, nat_tests)))

      outside : (y : ℕ) → within x 4 y ≡ false → panel_bytes (with_word v) y ≡ panel_bytes p y
      outside y away = other y away (cases_eq (y / 64) (p.base / 64)) (cases_eq (y % 64 / 4) (x % 64 / 4))

module _ (p : Panel) (a : Access) (at : ℕ) (begins : Ok at ≡ answer (panel_verdict p a) (a.address % 64 / 4)) where
  allowed : panel_verdict p a ≡ None
  allowed = answer_allowed (panel_verdict p a) (a.address % 64 / 4) at begins

  place : at ≡ a.address % 64 / 4
  place = answer_value (panel_verdict p a) (a.address % 64 / 4) at begins

  past_alignment : refused_if (not (on_panel p a.address)) (raised Unmapped a 2) (refused_if (not (eqb (bytes_of a) 4)) (raised WrongWidth a 2) None) ≡ None
  past_alignment = (refused_if_none _ _ _ allowed).1

  on : a.address / 64 ≡ p.base / 64
  on = eqb-true _ _ (not-false _ (refused_if_none _ _ _ past_alignment).0)

  a_word : bytes_of a ≡ 4
  a_word = eqb-true _ _ (not-false _ (refused_if_none _ _ _ (refused_if_none _ _ _ past_alignment).1).0)

  aligned : a.address % 4 ≡ 0
  aligned = ap (λ n. a.address % n) (sym a_word) ∙ eqb-true _ _ (not-false _ (refused_if_none _ _ _ allowed).0)

  pub panel_read : (r : ℕ) → is_write a.usage ≡ false → r ≡ get_or p.words at 0 → r < 2 ^ 32 → Ok r ≡ answer (panel_verdict p a) (replied (panel_bytes p) a)
  panel_read r reads is fits =
      let here : r ≡ get_or p.words (a.address % 64 / 4) 0 = is ∙ ap (λ i. get_or p.words i 0) place in
      let loaded = load_panel p a.address on aligned (rw here at fits) in
      read_answer (panel_verdict p a) (panel_bytes p) a r allowed reads (rw a_word (here ∙ sym loaded))

  pub panel_wrote : is_write a.usage ≡ true → Ok 0 ≡ answer (panel_verdict p a) (replied (panel_bytes p) a)
  panel_wrote writes = write_answer (panel_verdict p a) (panel_bytes p) a allowed writes

  pub panel_write : (v : ℕ) → is_write a.usage ≡ true → at < length p.words → panel_bytes (record { words = set p.words at v; base = p.base }) ≡ after (panel_verdict p a) (written (panel_bytes p) a v) (panel_bytes p)
  panel_write v writes short =
      let stored = store_panel p a.address on aligned v (rw (← place) short) in
      write_leaves (panel_verdict p a) (panel_bytes p) _ a v allowed writes (rw (place, a_word) stored)
