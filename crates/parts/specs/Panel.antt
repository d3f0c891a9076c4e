-- A panel: sixteen words in a block of 64 bytes.
use Rattle.std.specs.Prelude.{ℕ, ◌/◌, ◌%◌, ◌^◌, Bool, cond, not, replicate, None, Ok, Err, Result, ◌==◌, slice_index}
use Rattle.bus.specs.Access.{bytes_of, misaligned}
use Rattle.bus.specs.Fault.{raised}
use Rattle.bus.specs.Laws.{Laws, byte_or_none, alignment_first, bears_raised}
use Rattle.bus.specs.Meaning.{Verdict, refused_if}
use Rattle.bus.specs.Memory.{Bytes}
use Rattle.bus.specs.declared.access.Access.{Access}
use Rattle.bus.specs.declared.fault.Cause.TheVariants.{Unmapped, WrongWidth, Misaligned}
use Rattle.bus.specs.declared.refusal.Refusal.{Refusal}
use Rattle.bus.specs.declared.refusal.Refusal.TheVariants.{BadSetting}
use Rattle.parts.specs.declared.panel.Panel.{Panel}

-- a new panel has sixteen zeros; its base is a multiple of 64
abbrev pub built_panel : ℕ → Result Panel Refusal
built_panel base = cond (base % 64 == 0) (Ok (record { words = replicate 16 0; base = base })) (Err BadSetting)

-- x lies in the panel's block of 64 bytes
abbrev pub on_panel : Panel → ℕ → Bool
on_panel p x = x / 64 == p.base / 64

-- the words one after the other, each little-endian
abbrev pub panel_bytes : Panel → Bytes
panel_bytes p x = cond (on_panel p x) (slice_index p.words (x % 64 / 4) / 256 ^ (x % 4) % 256) 0

abbrev pub panel_verdict : Panel → Access → Verdict
panel_verdict p a =
    refused_if (misaligned a) (raised Misaligned a 2)
    (refused_if (not (on_panel p a.address)) (raised Unmapped a 2)
    (refused_if (not (bytes_of a == 4)) (raised WrongWidth a 2) None))

pub panel_laws : Laws 2 panel_bytes panel_verdict
panel_laws = record {
  byte = λ p x. byte_or_none (on_panel p x) _;
  alignment = λ p a. alignment_first a _ _;
  fault = λ p a. bears_raised (misaligned a) _ a 2 _ (bears_raised (not (on_panel p a.address)) _ a 2 _ (bears_raised (not (bytes_of a == 4)) _ a 2 _ tt));
}
