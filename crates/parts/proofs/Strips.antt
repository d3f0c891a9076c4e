-- What an allowed access to a strip answers and leaves.
use Rattle.std.proofs.Common.{◌≡◌, ℕ, ◌-◌, ◌≤◌, true, false, List, None, Ok, sym, ap, ◌∙◌}
use Rattle.std.proofs.lemmas.Bool.{and_parts, leb-true, not-false}
use Rattle.bus.specs.Access.{size, width_of, is_write, bytes_of}
use Rattle.bus.specs.Meaning.{answer, after, replied, written}
use Rattle.bus.specs.Memory.{load, store}
use Rattle.bus.specs.declared.access.Access.{Access}
use Rattle.bus.specs.declared.access.Width.{Width}
use Rattle.bus.proofs.Answer.{answer_allowed, answer_value, refused_if_none, read_answer, write_answer, write_leaves}
use Rattle.parts.specs.Strip.{listed, placed, strip_bytes, strip_verdict}
use Rattle.parts.specs.declared.strip.Strip.{Strip}
use Rattle.parts.proofs.Placed.{load_placed, store_placed}

-- an allowed access begins at or above the base
above_base : (s : Strip) (a : Access) → strip_verdict s a ≡ None → s.base ≤ a.address
above_base s a allowed =
    let lies_inside = (refused_if_none _ _ _ (refused_if_none _ _ _ allowed).1).0 in
    leb-true _ _ (and_parts _ _ (not-false _ lies_inside)).0

module _ (s : Strip) (a : Access) (width : Width) (at : ℕ) (begins : Ok at ≡ answer (strip_verdict s a) (a.address - s.base)) (wide : width ≡ width_of a.usage) where
  allowed : strip_verdict s a ≡ None
  allowed = answer_allowed (strip_verdict s a) (a.address - s.base) at begins

  place : at ≡ a.address - s.base
  place = answer_value (strip_verdict s a) (a.address - s.base) at begins

  pub strip_read : (r : ℕ) → is_write a.usage ≡ false → r ≡ load (size width) (listed s.bytes.now) at → Ok r ≡ answer (strip_verdict s a) (replied (strip_bytes s) a)
  strip_read r reads loaded =
      let here : load (size width) (listed s.bytes.now) at ≡ load (bytes_of a) (listed s.bytes.now) (a.address - s.base) = rw (wide, place) in
      let lifted = load_placed (bytes_of a) s.base (listed s.bytes.now) a.address (above_base s a allowed) in
      read_answer (strip_verdict s a) (strip_bytes s) a r allowed reads (loaded ∙ here ∙ sym lifted)

  pub strip_wrote : is_write a.usage ≡ true → Ok 0 ≡ answer (strip_verdict s a) (replied (strip_bytes s) a)
  strip_wrote writes = write_answer (strip_verdict s a) (strip_bytes s) a allowed writes

  pub strip_write : (xs : List ℕ) (v : ℕ) → is_write a.usage ≡ true → listed xs ≡ store (size width) (listed s.bytes.now) at v → placed s.base (listed xs) ≡ after (strip_verdict s a) (written (strip_bytes s) a v) (strip_bytes s)
  strip_write xs v writes stored =
      let here : store (size width) (listed s.bytes.now) at v ≡ store (bytes_of a) (listed s.bytes.now) (a.address - s.base) v = rw (wide, place) in
      let lifted = store_placed (bytes_of a) s.base (listed s.bytes.now) a.address v (above_base s a allowed) in
      write_leaves (strip_verdict s a) (strip_bytes s) (placed s.base (listed xs)) a v allowed writes (ap (placed s.base) (stored ∙ here) ∙ sym lifted)
