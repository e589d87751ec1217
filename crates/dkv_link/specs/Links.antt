-- What a read of a link gives, and what it leaves of the numbers that a link keeps.
use Rattle.std.specs.Prelude.{◌≡◌, ℕ, ◌<◌, ◌≤◌, ⊤, Bool, true, false, List, [], take}
use Rattle.dkv_io.specs.Causes.{Rose, one_more}
use Rattle.dkv_link.specs.declared.link.LinkGot.{LinkGot}
use Rattle.dkv_link.specs.declared.link.LinkGot.TheVariants.{Bytes, End, Quiet, Failed}

-- a read of some bytes gives at least one, and at most as many as there is room for
abbrev pub LinkWithin : LinkGot → ℕ → Type 0
LinkWithin (Bytes n) room = (0 < n) × (n ≤ room)
LinkWithin End room = ⊤
LinkWithin Quiet room = ⊤
LinkWithin Failed room = ⊤

-- the bytes that a read gave: those at the front of the buffer
abbrev pub given : LinkGot → List ℕ → List ℕ
given (Bytes n) into = take n into
given End into = []
given Quiet into = []
given Failed into = []

-- the read said End
abbrev pub is_last : LinkGot → Bool
is_last (Bytes n) = false
is_last End = true
is_last Quiet = false
is_last Failed = false

-- how many reads in a row said Quiet, after one more read
abbrev pub quiet_after : ℕ → LinkGot → ℕ
quiet_after before (Bytes n) = 0
quiet_after before End = 0
quiet_after before Quiet = one_more before
quiet_after before Failed = 0

-- a count never falls, and Failed comes only where it rose
pub record LinkCause (before now : ℕ) (got : LinkGot) : Type 0 where
  pub later : before ≤ now
  pub failed : got ≡ Failed → Rose before now
