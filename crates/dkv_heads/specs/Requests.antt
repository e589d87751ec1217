-- The requests that bytes begin with, and how the rest stands (RFC 9112, sections 2, 6 and 9).
--     Received      a whole request
--     IsReceived profile bytes q rest      the bytes begin with this request
--     IsRest profile bytes r      they begin with none, and stand so
--     Begin profile bytes qs rest      they begin with these requests, and the rest follows them
--     IsRefused profile bytes status      they begin with none, and are refused with this status
--     AreRequests profile bytes qs r, AreRefused profile bytes qs status      the whole requests up to the first that is the last of its session, and how the rest stands; or that it is refused
use Rattle.std.specs.Prelude.{ℕ, ◌≡◌, ◌<◌, ◌≤◌, ◌⊎◌, Bool, false, nat_lt, if◌then◌else◌, IsTrue, IsFalse, List, [], ◌∷◌, ◌++◌, length, take, Option, Some, None}
use Rattle.dkv_heads.specs.declared.statuses.TheConstants.{BAD_REQUEST, CONTENT_TOO_LARGE, HEADER_FIELDS_TOO_LARGE}
use Rattle.httparse.specs.Grammar.{RequestHead}
use Rattle.dkv_base.specs.declared.types.Profile.{Profile}
use Rattle.dkv_base.specs.Profiles.{request_most}
use Rattle.dkv_heads.specs.Heads.{head_limit, HasHead, HasNoHead, MayBecomeHead, NeverHead, EndsInTarget, has_many_lines, fields_of, has_host, is_last, Framing, sized, chunked, unclear, framing}
use Rattle.dkv_heads.specs.Chunks.{Rest, empty, cut, bad, ChunkedBody, IsChunked, print_chunked, content, IsChunkedRest}

-- the bytes that a body may have
abbrev pub body_limit : Profile → ℕ
body_limit p = request_most p

-- a whole request: its parts, and whether the session ends with it
pub record Received : Type 0 where
  pub method : List ℕ
  pub target : List ℕ
  pub minor : ℕ
  pub fields : List (List ℕ × List ℕ)
  pub body : List ℕ
  -- the session ends with it
  pub close : Bool

-- what a head and a body make
abbrev pub received : RequestHead → List ℕ → Received
received h body = record {
  method = h.method;
  target = h.target;
  minor = h.minor;
  fields = fields_of h;
  body = body;
  close = is_last h.minor (fields_of h);
}

-- the bytes begin with a whole body of this framing, and the rest follows it
abbrev pub IsBody : ℕ → Framing → List ℕ → List ℕ → List ℕ → Type 0
IsBody limit (sized n) bytes body rest = (n ≤ limit) × (length body ≡ n) × (bytes ≡ body ++ rest)
IsBody limit chunked bytes body rest = (b : ChunkedBody) × IsChunked b × (body ≡ content b) × (length body ≤ limit) × (bytes ≡ print_chunked b ++ rest)
IsBody limit unclear bytes body rest = ⊥

-- the bytes begin with this whole request, and the rest follows it
pub record IsReceived (profile : Profile) (bytes : List ℕ) (q : Received) (rest : List ℕ) : Type 0 where
  pub h : RequestHead
  pub after : List ℕ
  pub head : HasHead bytes h after
  pub host : IsTrue (has_host h.minor (fields_of h))
  pub body : IsBody (body_limit profile) (framing (fields_of h)) after q.body rest
  pub is : q ≡ received h q.body

-- ---- how the rest stands

-- what is not refused so far: more bytes may come, unless as many came as a head may have
abbrev pub unended : List ℕ → Rest
unended bytes = if nat_lt (length bytes) head_limit then cut else bad HEADER_FIELDS_TOO_LARGE

-- where no head begins the bytes, by the first of them that may belong to one
abbrev pub IsHeadless : List ℕ → List ℕ → Rest → Type 0
IsHeadless first bytes r =
    ((MayBecomeHead first ⊎ EndsInTarget first ⊎ IsTrue (has_many_lines first)) × (r ≡ unended bytes))
    ⊎ (((NeverHead first × ¬ (EndsInTarget first)) ⊎ IsTrue (has_many_lines first)) × (r ≡ bad BAD_REQUEST))

-- a body of known length: too large, or not yet whole
abbrev pub sized_rest : ℕ → ℕ → List ℕ → Option Rest
sized_rest limit n bytes = if nat_lt limit n then Some (bad CONTENT_TOO_LARGE) else if nat_lt (length bytes) n then Some cut else None

-- a body of this framing that is not whole, or too large
abbrev pub IsBodyRest : ℕ → Framing → List ℕ → Rest → Type 0
IsBodyRest limit (sized n) bytes r = sized_rest limit n bytes ≡ Some r
IsBodyRest limit chunked bytes r = IsChunkedRest limit bytes r
IsBodyRest limit unclear bytes r = r ≡ bad BAD_REQUEST

-- after a whole head: the host rule goes first
abbrev pub IsRestAfterHead : ℕ → RequestHead → List ℕ → Rest → Type 0
IsRestAfterHead limit h after r =
    (IsFalse (has_host h.minor (fields_of h)) × (r ≡ bad BAD_REQUEST))
    ⊎ (IsTrue (has_host h.minor (fields_of h)) × IsBodyRest limit (framing (fields_of h)) after r)

-- the bytes begin with no whole request, and stand so
abbrev pub IsRest : Profile → List ℕ → Rest → Type 0
IsRest profile bytes r =
    ((bytes ≡ []) × (r ≡ empty))
    ⊎ ((0 < length bytes) × HasNoHead bytes × IsHeadless (take head_limit bytes) bytes r)
    ⊎ ((h : RequestHead) × (after : List ℕ) × HasHead bytes h after × IsRestAfterHead (body_limit profile) h after r)

-- the bytes begin with no whole request, and are refused so. Where they begin with no head, 400 says that no bytes
-- which follow make one
pub record IsRefused (profile : Profile) (bytes : List ℕ) (status : ℕ) : Type 0 where
  pub rest : IsRest profile bytes (bad status)
  pub never : status ≡ BAD_REQUEST → HasNoHead bytes → NeverHead bytes × ¬ (EndsInTarget bytes)

-- ---- all requests

-- the bytes begin with these whole requests, none but the last of which ends the session, and the rest follows them
abbrev pub Begin : Profile → List ℕ → List Received → List ℕ → Type 0
Begin profile bytes [] rest = bytes ≡ rest
Begin profile bytes (q ∷ qs) rest =
    (after : List ℕ) × IsReceived profile bytes q after × (IsFalse q.close ⊎ (qs ≡ [])) × Begin profile after qs rest

-- the last of the requests ends the session
abbrev pub end_session : List Received → Bool
end_session [] = false
end_session (q ∷ []) = q.close
end_session (q ∷ r ∷ qs) = end_session (r ∷ qs)

-- how the rest stands after these requests: it counts as empty where they end the session
abbrev pub Stands : Profile → List Received → List ℕ → Rest → Type 0
Stands profile qs rest r = (IsTrue (end_session qs) × (r ≡ empty)) ⊎ (IsFalse (end_session qs) × IsRest profile rest r)

-- all whole requests up to the first that is the last of its session, and how the rest stands
abbrev pub AreRequests : Profile → List ℕ → List Received → Rest → Type 0
AreRequests profile bytes qs r = (rest : List ℕ) × Begin profile bytes qs rest × Stands profile qs rest r

-- these whole requests, none of which ends the session, and what follows them is refused so
abbrev pub AreRefused : Profile → List ℕ → List Received → ℕ → Type 0
AreRefused profile bytes qs status =
    (rest : List ℕ) × Begin profile bytes qs rest × IsFalse (end_session qs) × IsRefused profile rest status
