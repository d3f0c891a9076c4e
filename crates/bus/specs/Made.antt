-- What a call makes of the bus that it is lent.
use Rattle.std.specs.Prelude.{◌≡◌}
use Rattle.bus.specs.Program.{Program, World, world_of, run}
use Rattle.bus.specs.declared.interface.Bus.{Ghosts as Bus}

-- the world that a state of a bus is
abbrev pub world : {S : Type 0} → Bus S → S → World
world bus s = world_of bus.bytes bus.verdict s

-- from `old` to `new` it comes to what the program of accesses comes to: answer, contents and verdicts; and the settings stay
pub record Makes {S A : Type 0} (bus : Bus S) (old new : S) (program : Program A) (a : A) : Type 0 where
  pub runs : run program (world bus old) ≡ (a, world bus new)
  pub settled : bus.settings new ≡ bus.settings old

-- contents, verdicts and settings stay, as where only reads are made
pub record Leaves {S : Type 0} (bus : Bus S) (old new : S) : Type 0 where
  pub contents : bus.bytes new ≡ bus.bytes old
  pub verdicts : bus.verdict new ≡ bus.verdict old
  pub settled : bus.settings new ≡ bus.settings old
