-- How the bytes of a link in memory come.
--     IsQuietRead pace, piece_of pace      the read that comes is quiet; how many bytes it gives at most
--     GivesPiece .., EndsFor P .., QuietFor P ..      what each answer of a read says of the pace and of what is left
use Rattle.std.specs.Prelude.{◌≡◌, ◌-◌, ◌^◌, ℕ, ⊤, Vec, min, max, slice_get, unwrap_or}
use Rattle.std.specs.List.{Contains}
use Rattle.std.specs.declared.alloc.Global.{Global}
use Rattle.dkv_io.specs.Causes.{one_more}
use Rattle.dkv_link.specs.declared.pace.Pace.{Pace}
use Rattle.dkv_link.specs.declared.link.LinkGot.{LinkGot}
use Rattle.dkv_link.specs.declared.link.LinkGot.TheVariants.{Bytes, End, Quiet, Failed}

-- there was no read yet
abbrev pub new_pace : Vec ℕ Global → Vec ℕ Global → Pace
new_pace quiets pieces = record { quiets = quiets; pieces = pieces; reads = 0 }

-- the read that comes is to be quiet
abbrev pub IsQuietRead : Pace → Type 0
IsQuietRead pace = Contains pace.quiets.items pace.reads

-- how many bytes the read that comes gives at most: 1 at least, and behind the last number no bound
abbrev pub piece_of : Pace → ℕ
piece_of pace = max 1 (unwrap_or (slice_get pace.pieces.items pace.reads) (2 ^ 64 - 1))

-- one more read was made
abbrev pub after_read : Pace → Pace
after_read pace = record pace { reads = one_more pace.reads }

-- a read of bytes gives as many as it may, as there is room for, and as are left
abbrev pub GivesPiece : ℕ → ℕ → ℕ → LinkGot → Type 0
GivesPiece most room left (Bytes n) = n ≡ min most (min room left)
GivesPiece most room left End = ⊤
GivesPiece most room left Quiet = ⊤
GivesPiece most room left Failed = ⊤

-- End comes only where P holds
abbrev pub EndsFor : Type 0 → LinkGot → Type 0
EndsFor P (Bytes n) = ⊤
EndsFor P End = P
EndsFor P Quiet = ⊤
EndsFor P Failed = ⊤

-- Quiet comes where P holds, and bytes and End only where it doesn't
abbrev pub QuietFor : Type 0 → LinkGot → Type 0
QuietFor P (Bytes n) = P → ⊥
QuietFor P End = P → ⊥
QuietFor P Quiet = P
QuietFor P Failed = ⊤
