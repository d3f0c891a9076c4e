use Rattle.std.proofs.Common.{◌≡◌, ℕ, ◌+◌, ◌*◌, ◌<◌, List, [], ◌∷◌, length, get_or, drop, sym, ap, ◌∙◌, ap₂, add-one, arith, drop-cons}
use Rattle.std.specs.Option.{option_or}
use lib.Seq.{drop-length}
use Rattle.bus.specs.Made.{world}
use Rattle.bus.specs.Program.{run}
use Rattle.arch.specs.Accesses.{try_words}
use Rattle.arch.specs.Registers.{plus}
use Rattle.exec.proofs.Sequence.{makes_nothing, continues_as, makes_whole}
use Rattle.cpu.proofs.Stacking.{try_step}
use Rattle.cpu.proofs.entry.stack_words.Goals as goal

pub loop-i-preserved : goal.loop-i-preserved
loop-i-preserved g c =
    let bus = g.B.Bus in
    let right = c.args.right in
    let words = c.args.words in
    let first = c.loop-i.first in
    let i = c.loop-i.i in
    let x = plus c.args.x (4 * c.loop-i.i) in
    let v = get_or words i 0 in
    let rest = drop (i + 1) words in
    let before = world bus c.loop-i.bus in
    let after = world bus c.write.new.self in
    let made = c.write.ensures in
    let within : i < length words = omega arith in
    let next : plus c.args.x (4 * (i + 1)) ≡ plus x 4 = omega arith in
    let cut : drop i words ≡ v ∷ rest = rw (add-one, drop-cons words i 0) in
    record {
      left =
          ap (λ a. run (try_words right c.or-first.result rest a) after) next
          ∙ ap (λ o. run (try_words right o rest (plus x 4)) after) (c.or-first.ensures ∙ ap (option_or first) c.err.ensures.value)
          ∙ sym (try_step right first v x rest before after c.write.result made.value (ap₂ (λ b d. record { bytes = b; verdict = d }) made.contents made.verdicts))
          ∙ ap (λ ws. run (try_words right first ws x) before) (sym cut)
          ∙ c.loop-i.invariant.left;
      settled = made.settled ∙ c.loop-i.invariant.settled;
    }

pub returns : goal.returns
unfolding try_words
returns g c =
    let words = c.args.words in
    let here = λ (ws : List ℕ). try_words c.args.right c.loop-i.first ws (plus c.args.x (4 * c.loop-i.i)) in
    let end : c.loop-i.i ≡ length words = omega arith in
    makes_whole (continues_as c.loop-i.invariant (here []) (ap (λ ws. run (here ws) (world g.B.Bus c.loop-i.bus)) (ap (λ i. drop i words) end ∙ drop-length words))) makes_nothing
