-- Laws of the definitions, as statements.
use Rattle.std.specs.Prelude.{ℕ, ◌≡◌, ◌⊎◌, List, ◌++◌, take, option_map, IsFalse}
use Rattle.httparse.specs.Grammar.{MayBecomeRequest}
use Rattle.http_header.specs.HeaderMap.{get}
use Rattle.http_header.specs.Token.{lowercase}
use Rattle.dkv_heads.specs.Chunks.{Rest, bad}
use Rattle.dkv_heads.specs.Heads.{head_limit, first_value, header_map, has_many_lines, MayBecomeHead, EndsInTarget}
use Rattle.dkv_base.specs.declared.types.Profile.{Profile}
use Rattle.dkv_heads.specs.Requests.{Received, IsReceived, IsRest, Begin, AreRequests}

-- bytes have just one list of requests
abbrev pub RequestsAreOne : Type 0
RequestsAreOne = (p : Profile) (bytes : List ℕ) (qs others : List Received) (r other : Rest)
    → AreRequests p bytes qs r → AreRequests p bytes others other → qs ≡ others

-- bytes begin with at most one request, and one rest follows it
abbrev pub ReceivedIsOne : Type 0
ReceivedIsOne = (p : Profile) (bytes rest other : List ℕ) (q k : Received)
    → IsReceived p bytes q rest → IsReceived p bytes k other → (q ≡ k) × (rest ≡ other)

-- what was read as requests stays so, whatever comes after it
abbrev pub RequestsStay : Type 0
RequestsStay = (p : Profile) (bytes more rest : List ℕ) (qs : List Received)
    → Begin p bytes qs rest → Begin p (bytes ++ more) qs (rest ++ more)

-- a rest stands in one way, unless it has many lines
abbrev pub RestIsOne : Type 0
RestIsOne = (p : Profile) (bytes : List ℕ) (r s : Rest)
    → IsFalse (has_many_lines (take head_limit bytes)) → IsRest p bytes r → IsRest p bytes s → r ≡ s

-- a bad rest stays bad, whatever comes after it, where it is not bad for its many lines alone
abbrev pub BadStays : Type 0
BadStays = (p : Profile) (bytes more : List ℕ) (status : ℕ)
    → IsFalse (has_many_lines (take head_limit bytes)) → IsRest p bytes (bad status) → IsRest p (bytes ++ more) (bad status)

-- the first field of a name is the first value that the map has under it
abbrev pub FirstIsFirst : Type 0
FirstIsFirst = (name : List ℕ) (fields : List (List ℕ × List ℕ))
    → first_value name fields ≡ option_map (λ v. v.bytes) (get (header_map fields) (lowercase name))

-- where httparse waits for more and there are not many lines, some continuation begins with a head, or the target is still open
abbrev pub WaitingIsOpen : Type 0
WaitingIsOpen = (bytes : List ℕ)
    → MayBecomeRequest bytes → IsFalse (has_many_lines bytes) → MayBecomeHead bytes ⊎ EndsInTarget bytes
