-- What a connection answers of its requests.
--     IsRequest q r      the request that was taken is this one
--     IsFresh s      nothing has come since the last request
use Rattle.std.specs.Prelude.{ℕ, ◌≡◌, [], true, false, List, ◌⊎◌}
use Rattle.dkv_http.specs.declared.conn.Request.{Request}
use Rattle.dkv_http.specs.declared.phases.Phase.TheVariants as phase
use Rattle.dkv_http.specs.declared.state.State.{State}
use Rattle.dkv_heads.specs.Heads.{header_map}
use Rattle.dkv_heads.specs.Requests.{Received, IsReceived}
use Rattle.dkv_http.specs.Holds.{Holds, IsWhole, Waits}

-- what was taken is this request
pub record IsRequest (q : Received) (r : Request) : Type 0 where
  pub method : r.method ≡ q.method
  pub target : r.target ≡ q.target
  pub minor : r.version_minor ≡ q.minor
  pub headers : r.headers ≡ header_map q.fields
  pub body : r.body ≡ q.body
  pub close : r.close ≡ q.close

-- the request that these bytes begin with
abbrev pub Gives : State → Request → Type 0
Gives s r =
    (held : List ℕ) → Holds s held
    → (q : Received) × (rest : List ℕ) × IsReceived s.profile held q rest × IsRequest q r

-- a request is whole, and others may follow it
abbrev pub IsNext : State → Type 0
IsNext s = IsWhole s × (s.close ≡ false)

-- the last request of the session is whole
abbrev pub IsFinal : State → Type 0
IsFinal s = IsWhole s × (s.close ≡ true)

-- a request is whole, and bytes behind the last one may have been passed over
abbrev pub CanBeAsked : State → Type 0
CanBeAsked s = IsWhole s ⊎ (s.phase ≡ phase.Last)

-- the same, and bytes behind the last request were passed over
abbrev pub Passes : State → State → Type 0
Passes s t = t ≡ record s { phase = phase.Last }

-- nothing has come since the last request
abbrev pub IsFresh : State → Type 0
IsFresh s = Waits s.phase × Holds s []

-- after a request the next one starts, unless it was the last
abbrev pub Follows : State → State → Type 0
Follows s t = ((s.close ≡ true) × (t.phase ≡ phase.Over)) ⊎ ((s.close ≡ false) × IsFresh t)
