-- What a connection holds of the bytes that came since the last request was taken.
--     Holds s held      these bytes came, and the state stands for them
--     Fits s      what is kept has room for what may come
use Rattle.std.specs.Prelude.{ℕ, ◌≡◌, ◌+◌, ◌<◌, ◌≤◌, ◌⊎◌, ◌==◌, if◌then◌else◌, Bool, true, false, IsTrue, List, [], ◌∷◌, ◌++◌, length, take, flat_map, All, ⊤}
use Rattle.httparse.specs.Ascii.{carriage_return}
use Rattle.httparse.specs.Grammar.{RequestHead, ChunkLine, IsChunkLine, print_chunk_line, chunk_size}
use Rattle.httparse.specs.Spans.{IsRequestAt, IsRequestWithin}
use Rattle.httparse.specs.declared.spans.HeaderSpan.{HeaderSpan}
use Rattle.httparse.specs.declared.spans.RequestSpans.{RequestSpans}
use Rattle.dkv_base.specs.declared.types.Profile.{Profile}
use Rattle.dkv_http.specs.declared.phases.Feed.{Feed}
use Rattle.dkv_http.specs.declared.phases.Feed.TheVariants as feed
use Rattle.dkv_http.specs.declared.phases.HeadAt.{HeadAt}
use Rattle.dkv_http.specs.declared.phases.HeadAt.TheVariants as head_at
use Rattle.dkv_heads.specs.declared.lines.LineAt.{LineAt}
use Rattle.dkv_http.specs.declared.phases.Standing.{Standing}
use Rattle.dkv_http.specs.declared.phases.Standing.TheVariants as standing
use Rattle.dkv_http.specs.declared.phases.Phase.{Phase}
use Rattle.dkv_http.specs.declared.phases.Phase.TheVariants as phase
use Rattle.dkv_http.specs.declared.state.State.{State}
use Rattle.dkv_heads.specs.declared.sizes.SizeAt.{SizeAt}
use Rattle.dkv_heads.specs.Heads.{line_limit, head_limit, fields_of, has_host, is_last, sized, chunked, framing}
use Rattle.dkv_heads.specs.Chunks.{Chunk, print_chunk, IsChunk, chunk_line_limit, section_limit}
use Rattle.dkv_heads.specs.Requests.{body_limit, received, IsReceived, IsRefused}
use Rattle.dkv_heads.specs.Scans.{IsStart, IsFields, IsTrailers, IsOpen}
use Rattle.dkv_heads.specs.Sizes.{IsSize}

-- what stands of a head
abbrev pub IsHead : HeadAt → List ℕ → Type 0
IsHead (head_at.Start at) bytes = IsStart at bytes
IsHead (head_at.Line at fields) bytes = (fields ≤ line_limit) × IsFields fields at bytes
IsHead head_at.Tail bytes = IsOpen bytes

-- the kept head is this one, with a host
pub record Headed (head : List ℕ) (headers : List HeaderSpan) (spans : RequestSpans) (close : Bool) (h : RequestHead) : Type 0 where
  pub at : IsRequestAt head headers spans h
  pub whole : spans.len ≡ length head
  pub lines : length h.fields ≤ line_limit
  pub size : length head ≤ head_limit
  pub host : IsTrue (has_host h.minor (fields_of h))
  pub ends : close ≡ is_last h.minor (fields_of h)

-- whole chunks behind the head, with this content, and these bytes behind them
pub record AfterChunks (limit : ℕ) (head content held after : List ℕ) (h : RequestHead) : Type 0 where
  pub framed : framing (fields_of h) ≡ chunked
  pub chunks : List Chunk
  pub each : All IsChunk chunks
  pub says : content ≡ flat_map (λ c. c.bytes) chunks
  pub room : length content ≤ limit
  pub parts : held ≡ head ++ (flat_map print_chunk chunks ++ after)

-- a chunk line of this size, and so many bytes of the chunk
pub record InChunk (limit : ℕ) (head body held : List ℕ) (left : ℕ) (tail : List ℕ) (h : RequestHead) : Type 0 where
  pub content : List ℕ
  pub line : ChunkLine
  pub bytes : List ℕ
  pub before : AfterChunks limit head content held (print_chunk_line line ++ (bytes ++ tail)) h
  pub is : IsChunkLine line
  pub short : length (print_chunk_line line) ≤ chunk_line_limit
  pub size : chunk_size line ≡ length bytes + left
  pub some_bytes : 0 < chunk_size line
  pub room : length content + chunk_size line ≤ limit
  pub so_far : body ≡ content ++ bytes

-- what of the line end after a chunk came
abbrev pub end_so_far : Bool → List ℕ
end_so_far true = carriage_return ∷ []
end_so_far false = []

-- in each phase, which bytes the parts of the state stand for
abbrev pub HoldsIn : Phase → Profile → List ℕ → List ℕ → List ℕ → List HeaderSpan → RequestSpans → Bool → List ℕ → Type 0
HoldsIn (phase.Head at) p head body line headers spans close held = (held ≡ head) × IsHead at head
HoldsIn (phase.Sized need) p head body line headers spans close held =
    (h : RequestHead) × Headed head headers spans close h × (framing (fields_of h) ≡ sized (length body + need)) × (length body + need ≤ body_limit p) × (0 < need) × (held ≡ head ++ body)
HoldsIn (phase.Size at) p head body line headers spans close held =
    (h : RequestHead) × Headed head headers spans close h × AfterChunks (body_limit p) head body held line h × IsSize at line × (length line < chunk_line_limit)
HoldsIn (phase.Data left) p head body line headers spans close held =
    (h : RequestHead) × Headed head headers spans close h × InChunk (body_limit p) head body held left [] h × (0 < left)
HoldsIn (phase.End cr) p head body line headers spans close held =
    (h : RequestHead) × Headed head headers spans close h × InChunk (body_limit p) head body held 0 (end_so_far cr) h
HoldsIn (phase.Trailers at) p head body line headers spans close held =
    (h : RequestHead) × Headed head headers spans close h × (l : ChunkLine) × IsChunkLine l × (length (print_chunk_line l) ≤ chunk_line_limit) × (chunk_size l ≡ 0)
    × AfterChunks (body_limit p) head body held (print_chunk_line l ++ line) h × IsTrailers at line × (length line < section_limit)
HoldsIn phase.Whole p head body line headers spans close held =
    (h : RequestHead) × Headed head headers spans close h × IsReceived p held (received h body) []
HoldsIn phase.Last p head body line headers spans close held =
    (h : RequestHead) × Headed head headers spans close h × IsTrue close × ((rest : List ℕ) × IsReceived p held (received h body) rest)
HoldsIn (phase.Failed status) p head body line headers spans close held = IsRefused p held status
HoldsIn phase.Over p head body line headers spans close held = ⊥

-- the state stands for these bytes
abbrev pub Holds : State → List ℕ → Type 0
Holds s held = HoldsIn s.phase s.profile s.head.bytes s.body.bytes s.line.bytes s.headers.items s.spans s.close held

-- a whole chunk line stands behind the chunks
pub record InLine (s : State) (held : List ℕ) (l : ChunkLine) (h : RequestHead) : Type 0 where
  pub headed : Headed s.head.bytes s.headers.items s.spans s.close h
  pub before : AfterChunks (body_limit s.profile) s.head.bytes s.body.bytes held s.line.bytes h
  pub is : IsChunkLine l
  pub text : s.line.bytes ≡ print_chunk_line l
  pub short : length s.line.bytes ≤ chunk_line_limit

-- ---- room

-- in each phase, what is kept and what may come fit
abbrev pub FitsPhase : Phase → ℕ → List ℕ → List ℕ → List ℕ → List HeaderSpan → RequestSpans → Type 0
FitsPhase (phase.Head at) limit head body line headers spans = (length head < head_limit) × (body ≡ []) × (line ≡ [])
FitsPhase (phase.Sized need) limit head body line headers spans = (length body + need ≤ limit) × (0 < need) × IsRequestWithin head headers spans
FitsPhase (phase.Size at) limit head body line headers spans = (length line < chunk_line_limit) × (length body ≤ limit) × IsRequestWithin head headers spans
FitsPhase (phase.Data left) limit head body line headers spans = (length body + left ≤ limit) × (0 < left) × (line ≡ []) × IsRequestWithin head headers spans
FitsPhase (phase.End cr) limit head body line headers spans = (length body ≤ limit) × (line ≡ []) × IsRequestWithin head headers spans
FitsPhase (phase.Trailers at) limit head body line headers spans = (length line < section_limit) × IsRequestWithin head headers spans
FitsPhase phase.Whole limit head body line headers spans = IsRequestWithin head headers spans
FitsPhase phase.Last limit head body line headers spans = ⊥
FitsPhase (phase.Failed status) limit head body line headers spans = ⊤
FitsPhase phase.Over limit head body line headers spans = ⊥

-- what is kept and what may come fit
abbrev pub Fits : State → Type 0
Fits s = FitsPhase s.phase (body_limit s.profile) s.head.bytes s.body.bytes s.line.bytes s.headers.items s.spans

-- what holds of a state between two calls
abbrev pub Sound : State → Type 0
Sound s = (s.phase ≡ phase.Over) ⊎ ((s.phase ≡ phase.Last) × IsRequestWithin s.head.bytes s.headers.items s.spans) ⊎ Fits s

-- each buffer has the memory that it may need
pub record HasRoom (s : State) : Type 0 where
  pub head : s.head.most ≡ head_limit
  pub body : s.body.most ≡ body_limit s.profile
  pub line : s.line.most ≡ section_limit
  pub headers : length s.headers.items ≡ line_limit

-- what a head that stands so makes of the phase
abbrev pub waiting : HeadAt → List ℕ → Phase
waiting at head = if length head == head_limit then phase.Failed 431 else phase.Head at

-- the same of a chunk line
abbrev pub waiting_size : SizeAt → List ℕ → Phase
waiting_size at line = if length line == chunk_line_limit then phase.Failed 400 else phase.Size at

-- the same of trailers
abbrev pub waiting_trailers : LineAt → List ℕ → Phase
waiting_trailers at line = if length line == section_limit then phase.Failed 400 else phase.Trailers at

-- a request may still be going on
abbrev pub Waits : Phase → Type 0
Waits (phase.Head at) = ⊤
Waits (phase.Sized need) = ⊤
Waits (phase.Size at) = ⊤
Waits (phase.Data left) = ⊤
Waits (phase.End cr) = ⊤
Waits (phase.Trailers at) = ⊤
Waits phase.Whole = ⊥
Waits phase.Last = ⊥
Waits (phase.Failed status) = ⊥
Waits phase.Over = ⊥

-- what a piece makes of a state that waits
abbrev pub Takes : State → State → List ℕ → Feed → Type 0
Takes s t piece feed.More = Waits t.phase × ((held : List ℕ) → Holds s held → Holds t (held ++ piece))
Takes s t piece (feed.Request taken) = (taken ≤ length piece) × (t.phase ≡ phase.Whole) × ((held : List ℕ) → Holds s held → Holds t (held ++ take taken piece))
Takes s t piece (feed.Bad status taken) = (taken ≤ length piece) × (t.phase ≡ phase.Failed status) × ((held : List ℕ) → Holds s held → Holds t (held ++ take taken piece))

-- a request is whole
abbrev pub IsWhole : State → Type 0
IsWhole s = s.phase ≡ phase.Whole

-- refused with this status
abbrev pub IsFailed : State → ℕ → Type 0
IsFailed s status = s.phase ≡ phase.Failed status

-- the session is over
abbrev pub IsOver : Phase → Type 0
IsOver q = (q ≡ phase.Last) ⊎ (q ≡ phase.Over)

-- what a phase is to the caller
abbrev pub Stays : Phase → Standing → Type 0
Stays q standing.Waits = Waits q
Stays q standing.Whole = q ≡ phase.Whole
Stays q (standing.Failed status) = q ≡ phase.Failed status
Stays q standing.Over = IsOver q
