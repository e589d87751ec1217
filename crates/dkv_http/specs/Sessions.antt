-- What a connection says of all bytes of its session.
--     Session s fed qs      all these bytes came, and these requests were taken
--     Answered p s fed qs piece a      a piece more was answered so, and the state is this one now
use Rattle.std.specs.Prelude.{ℕ, ◌≡◌, ◌≤◌, ◌⊎◌, IsTrue, IsFalse, List, [], ◌∷◌, ◌++◌, length, take}
use Rattle.dkv_base.specs.declared.types.Profile.{Profile}
use Rattle.dkv_http.specs.declared.phases.Feed.{Feed}
use Rattle.dkv_http.specs.declared.phases.Feed.TheVariants as feed
use Rattle.dkv_http.specs.declared.conn.Request.{Request}
use Rattle.dkv_http.specs.declared.phases.Phase.TheVariants as phase
use Rattle.dkv_http.specs.declared.state.State.{State}
use Rattle.dkv_heads.specs.Chunks.{empty, cut, bad}
use Rattle.dkv_heads.specs.Requests.{Received, Begin, end_session, AreRequests, AreRefused}
use Rattle.dkv_http.specs.Holds.{Holds}
use Rattle.dkv_http.specs.Conns.{IsRequest}

-- the bytes begin with the requests, and the state holds what follows them, unless the last of them ended the session
abbrev pub Session : State → List ℕ → List Received → Type 0
Session s fed qs =
    (held : List ℕ) × Begin s.profile fed qs held
    × ((IsFalse (end_session qs) × Holds s held) ⊎ (IsTrue (end_session qs) × (s.phase ≡ phase.Over)))

-- more: no further request is whole, or a whole one ends the session; else one more is whole, or what follows the requests is refused
abbrev pub Answered : Profile → State → List ℕ → List Received → List ℕ → Feed → Type 0
Answered p s fed qs piece feed.More =
    Session s (fed ++ piece) qs
    × (
    AreRequests p (fed ++ piece) qs empty
    ⊎ AreRequests p (fed ++ piece) qs cut
    ⊎ ((q : Received) × IsTrue q.close × AreRequests p (fed ++ piece) (qs ++ q ∷ []) empty))
Answered p s fed qs piece (feed.Request taken) =
    (taken ≤ length piece) × Session s (fed ++ take taken piece) qs
    × (q : Received) × Begin p (fed ++ take taken piece) (qs ++ q ∷ []) []
Answered p s fed qs piece (feed.Bad status taken) =
    (taken ≤ length piece) × Session s (fed ++ take taken piece) qs
    × AreRequests p (fed ++ take taken piece) qs (bad status)
    × AreRefused p (fed ++ take taken piece) qs status

-- the request is the next of the session
abbrev pub Serves : State → State → Request → Type 0
Serves s t r =
    (fed : List ℕ) (qs : List Received) → Session s fed qs
    → (q : Received) × IsRequest q r × Session t fed (qs ++ q ∷ [])
