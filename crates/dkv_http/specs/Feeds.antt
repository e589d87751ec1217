-- What the next piece of a connection's bytes makes of those that came since the last request.
--     Feeds profile held piece answer      more is wanted, a request is whole with so many bytes of the piece, or it is bad with so many
use Rattle.std.specs.Prelude.{ℕ, ◌≤◌, ◌⊎◌, List, [], ◌++◌, length, take}
use Rattle.dkv_http.specs.declared.phases.Feed.{Feed}
use Rattle.dkv_http.specs.declared.phases.Feed.TheVariants as feed
use Rattle.dkv_heads.specs.Chunks.{empty, cut}
use Rattle.dkv_base.specs.declared.types.Profile.{Profile}
use Rattle.dkv_heads.specs.Requests.{Received, IsReceived, IsRest, IsRefused}

-- by the definition of requests, for all bytes since the last request
abbrev pub Feeds : Profile → List ℕ → List ℕ → Feed → Type 0
Feeds profile held piece feed.More =
    IsRest profile (held ++ piece) empty ⊎ IsRest profile (held ++ piece) cut
Feeds profile held piece (feed.Request taken) =
    (taken ≤ length piece) × (q : Received) × IsReceived profile (held ++ take taken piece) q []
Feeds profile held piece (feed.Bad status taken) =
    (taken ≤ length piece) × IsRefused profile (held ++ take taken piece) status
