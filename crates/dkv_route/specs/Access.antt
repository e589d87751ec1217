-- Which requests are refused without the database, and what the others want.
--     early_cause site t path q      the first cause at moment t that shows before the body is read
--     Wanted      what a request wants that is not refused
--     access site q t      the first cause that applies at moment t, or what is wanted
use Rattle.std.specs.Prelude.{ℕ, Bool, true, false, not, ◌&&◌, ◌||◌, ◌==◌, if◌then◌else◌, List, [], ◌∷◌, Option, Some, None, option_and_then, Result, Ok, Err, codes, bytes_eq}
use Rattle.std.specs.Bool.{then_some}
use Rattle.std.specs.Option.{option_map_or}
use Rattle.uuid.specs.Text.{parsed}
use Rattle.dkv_base.specs.declared.codes.Limit.{Limit}
use Rattle.dkv_base.specs.declared.types.AtomicWrite.{AtomicWrite}
use Rattle.dkv_base.specs.declared.types.ReadRange.{ReadRange}
use Rattle.dkv_base.specs.Limits.{first_some, write_limit, read_limit, watch_limit}
use Rattle.dkv_heads.specs.Heads.{first_value}
use Rattle.dkv_heads.specs.Requests.{Received}
use Rattle.dkv_meta.specs.Asked.{exchange_version}
use Rattle.dkv_msgs.specs.Readings.{reads_ranges, reads_atomic_write, reads_keys}
use Rattle.dkv_token.specs.declared.site.Site.{Site}
use Rattle.dkv_token.specs.Token.{token_expiry, has_ended}
use Rattle.dkv_route.specs.declared.access.Cause.{Cause}
use Rattle.dkv_route.specs.declared.access.Cause.TheVariants as cause
use Rattle.dkv_route.specs.declared.targets.Path.{Path}
use Rattle.dkv_route.specs.declared.targets.Path.TheVariants as path
use Rattle.dkv_route.specs.Targets.{path_of, after_bearer}

-- ---- the causes that come before the body

-- the paths that only the access token opens
abbrev pub needs_access : Path → Bool
needs_access path.Root = true
needs_access path.Stop = true
needs_access path.Read = false
needs_access path.Write = false
needs_access path.Watch = false

-- the path of a watch
abbrev pub is_watch : Path → Bool
is_watch path.Watch = true
is_watch path.Root = false
is_watch path.Stop = false
is_watch path.Read = false
is_watch path.Write = false

-- a text that is no token of this site, or one that has ended
abbrev pub token_cause : Site → ℕ → List ℕ → Option Cause
token_cause site t token =
    option_map_or (λ e. then_some (has_ended t e) cause.TokenExpired) (token_expiry site token) (Some cause.Unauthorized)

-- where the access token is asked for another text, and elsewhere what is wrong with a token of this site
abbrev pub secret_cause : Site → ℕ → Path → List ℕ → Option Cause
secret_cause site t path token =
    if needs_access path then then_some (not (bytes_eq token site.access)) cause.Unauthorized
    else token_cause site t token

-- no authorization, or one that is no bearer's, or what is wrong with its token (RFC 9110, section 11.6.2)
abbrev pub authorization_cause : Site → ℕ → Path → Option (List ℕ) → Option Cause
authorization_cause site t path value =
    option_map_or (secret_cause site t path) (option_and_then after_bearer value) (Some cause.Unauthorized)

-- the text is the database's id, in one of the forms of RFC 9562, section 4, or in braces
abbrev pub is_id : Site → List ℕ → Bool
is_id site text = option_map_or (bytes_eq site.database_id) (parsed text) false

-- the text is a version of KV Connect that is spoken
abbrev pub is_version : List ℕ → Bool
is_version text = bytes_eq text (codes "2") || bytes_eq text (codes "3")

-- there is a value, and it passes the test
abbrev pub says : (List ℕ → Bool) → Option (List ℕ) → Bool
says test value = option_map_or test value false

-- the causes that only the paths of the database have, by the id, the version of KV Connect and that of HTTP
abbrev pub data_cause : Site → Path → Option (List ℕ) → Option (List ℕ) → ℕ → Option Cause
data_cause site path id version minor = first_some (
    then_some (not (says (is_id site) id)) cause.WrongDatabase
    ∷ then_some (not (says is_version version)) cause.WrongVersion
    ∷ then_some (is_watch path && (minor == 0)) cause.TooOld
    ∷ [])

-- the first cause that shows in a request's head, at a path that is served
abbrev pub early_cause : Site → ℕ → Path → Received → Option Cause
early_cause site t path q = first_some (
    then_some (not (bytes_eq q.method (codes "POST"))) cause.NotAllowed
    ∷ authorization_cause site t path (first_value (codes "authorization") q.fields)
    ∷ (if needs_access path then None
    else data_cause site path (first_value (codes "x-denokv-database-id") q.fields) (first_value (codes "x-denokv-version") q.fields) q.minor)
    ∷ [])

-- ---- what the body says

-- what a request wants that is not refused
pub data Wanted : Type 0 where
  -- the version of the reply
  exchange : ℕ → Wanted
  read : List ReadRange → Wanted
  write : AtomicWrite → Wanted
  watch : List (List ℕ) → Wanted
  stop : Wanted

-- what was read of a body, unless it is malformed or passes a limit
abbrev pub within : {X : Type 0} → (X → Option Limit) → (X → Wanted) → Result X ℕ → Result Wanted Cause
within limit wants (Err place) = Err (cause.Malformed place)
within limit wants (Ok x) = option_map_or (λ passed. Err (cause.Limited passed)) (limit x) (Ok (wants x))

-- what a body wants at a path
abbrev pub wanted_by : Path → List ℕ → Result Wanted Cause
wanted_by path.Root body =
    option_map_or (λ version. Ok (exchange version)) (exchange_version body) (Err cause.BadExchange)
wanted_by path.Read body = within read_limit read (reads_ranges body)
wanted_by path.Write body = within write_limit write (reads_atomic_write body)
wanted_by path.Watch body = within watch_limit watch (reads_keys body)
wanted_by path.Stop body = Ok stop

-- the first cause that applies at a path that is served, or what is wanted
abbrev pub access_at : Site → ℕ → Received → Path → Result Wanted Cause
access_at site t q path = option_map_or (λ cause. Err cause) (early_cause site t path q) (wanted_by path q.body)

-- the first cause that applies, or what is wanted
abbrev pub access : Site → Received → ℕ → Result Wanted Cause
access site q t = option_map_or (access_at site t q) (path_of q.target) (Err cause.NotFound)
