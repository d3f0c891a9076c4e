-- Handing up an answer hands up its verdict.
use Rattle.std.proofs.Common.{◌≡◌, ℕ, Some, None, refl}
use Rattle.bus.specs.Meaning.{Verdict, answer, after, lifted}
use Rattle.bus.specs.Memory.{Bytes}
use Rattle.parts.specs.Hop.{handed_up_answer}

pub answer_lifted : (w : Verdict) (v : ℕ) → handed_up_answer (answer w v) ≡ answer (lifted w) v
answer_lifted (Some f) v = refl
answer_lifted None v = refl

pub after_lifted : (w : Verdict) (changed m : Bytes) → after w changed m ≡ after (lifted w) changed m
after_lifted (Some f) changed m = refl
after_lifted None changed m = refl
