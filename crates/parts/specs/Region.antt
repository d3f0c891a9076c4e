-- One region: the addresses it covers, and what it permits there.
use Rattle.std.specs.Prelude.{ℕ, ◌-◌, ◌/◌, ◌%◌, ◌^◌, Bool, true, false, cond, not, ◌&&◌, Ok, Err, Result, ◌==◌, nat_le}
use Rattle.bus.specs.declared.access.Access.{Access}
use Rattle.bus.specs.declared.access.Right.{Right}
use Rattle.bus.specs.declared.access.Right.TheVariants.{Privileged as privileged, Unprivileged as unprivileged}
use Rattle.bus.specs.declared.access.Use.{Use}
use Rattle.bus.specs.declared.access.Use.TheVariants.{Fetch, Read, Write}
use Rattle.bus.specs.declared.refusal.Refusal.{Refusal}
use Rattle.bus.specs.declared.refusal.Refusal.TheVariants.{BadSetting}
use Rattle.parts.specs.declared.region.Region.{Region}
use Rattle.parts.specs.declared.region.Slot.{Slot}
use Rattle.parts.specs.declared.region.Slot.TheVariants.{On, Off}
use Rattle.parts.specs.declared.region.Rights.{Rights}
use Rattle.parts.specs.declared.region.Rights.TheVariants.{Nothing, Privileged, PrivilegedWrites, Everything, PrivilegedReads, Reads}
use Rattle.parts.specs.declared.region.Setting.{Setting}

-- the code of a region's rights; 4 and what is above 7 mean nothing
abbrev pub rights_of : ℕ → Result Rights Refusal
rights_of code =
    cond (code == 0) (Ok Nothing)
    (cond (code == 1) (Ok Privileged)
    (cond (code == 2) (Ok PrivilegedWrites)
    (cond (code == 3) (Ok Everything)
    (cond (code == 5) (Ok PrivilegedReads)
    (cond (code == 6) (Ok Reads)
    (cond (code == 7) (Ok Reads) (Err BadSetting)))))))

abbrev pub is_privileged : Right → Bool
is_privileged privileged = true
is_privileged unprivileged = false

abbrev pub reads : Rights → Right → Bool
reads Nothing right = false
reads Privileged right = is_privileged right
reads PrivilegedWrites right = true
reads Everything right = true
reads PrivilegedReads right = is_privileged right
reads Reads right = true

abbrev pub writes : Rights → Right → Bool
writes Nothing right = false
writes Privileged right = is_privileged right
writes PrivilegedWrites right = is_privileged right
writes Everything right = true
writes PrivilegedReads right = false
writes Reads right = false

-- a region has 2 ^ e bytes, with e from 8 to 32
abbrev pub exponent_fits : ℕ → Bool
exponent_fits e = nat_le 8 e && nat_le e 32

-- which eighth of a region of 2 ^ e bytes x lies in, the lowest first
abbrev pub eighth : ℕ → ℕ → ℕ
eighth e x = x / 2 ^ (e - 3) % 8

-- x and the base agree in all bits from bit e up, and the sub mark of x's eighth is clear
abbrev pub region_covers : Region → ℕ → Bool
region_covers r x =
    exponent_fits r.exponent
    && x / 2 ^ r.exponent == r.base / 2 ^ r.exponent
    && r.sub_marks / 2 ^ eighth r.exponent x % 2 == 0

-- a fetch needs the right to read, and no mark against it
abbrev pub permits_use : Use → Region → Right → Bool
permits_use Fetch r right = reads r.rights right && not r.no_fetch
permits_use (Read width) r right = reads r.rights right
permits_use (Write width) r right = writes r.rights right

abbrev pub region_permits : Region → Access → Bool
region_permits r a = permits_use a.usage r a.right

-- what no setting was made of
abbrev pub off_region : Slot
off_region = Off (record { base = 0; exponent = 0; rights = Nothing; no_fetch = false; sub_marks = 0 })

-- a region that is off covers nothing
abbrev pub covers : Slot → ℕ → Bool
covers (On r) x = region_covers r x
covers (Off r) x = false

abbrev pub permits : Slot → Access → Bool
permits (On r) a = region_permits r a
permits (Off r) a = region_permits r a

abbrev pub in_slot : Bool → Region → Slot
in_slot true r = On r
in_slot false r = Off r

abbrev pub with_rights : Result Rights Refusal → Setting → Result Slot Refusal
with_rights (Err refusal) s = Err refusal
with_rights (Ok rights) s =
    cond (exponent_fits s.exponent && s.base % 2 ^ s.exponent == 0)
    (Ok (in_slot s.on (record { base = s.base; exponent = s.exponent; rights = rights; no_fetch = s.no_fetch; sub_marks = s.sub_marks })))
    (Err BadSetting)

-- a setting with a code that means something, an exponent that fits, and a base that is a multiple of the region's size
abbrev pub region_of : Setting → Result Slot Refusal
region_of s = with_rights (rights_of s.code) s
