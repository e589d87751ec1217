-- Chunked bodies (RFC 9112, section 7.1).
--     IsChunked body, print_chunked body, content body      a whole one, its bytes, and what it says
--     IsChunkedRest limit bytes r      how bytes stand that begin with no whole one
use Rattle.std.specs.Prelude.{ℕ, ◌≡◌, ◌+◌, ◌-◌, ◌<◌, ◌≤◌, ◌⊎◌, ◌&&◌, ◌==◌, if◌then◌else◌, List, [], ◌∷◌, ◌++◌, length, take, drop, flat_map, sum_by, All, Option, Some, None}
use Rattle.dkv_heads.specs.declared.limits.TheConstants.{MAX_CHUNK_LINE_BYTES, MAX_TRAILER_BYTES, MAX_TRAILER_SECTION_BYTES}
use Rattle.dkv_heads.specs.declared.statuses.TheConstants.{BAD_REQUEST, CONTENT_TOO_LARGE}
use Rattle.httparse.specs.Ascii.{crlf_bytes, carriage_return, line_feed}
use Rattle.httparse.specs.Grammar.{LineEnd, Field, print_field, IsField, print_section, ReadsSection, NeverHasSection, MayBecomeSection, ChunkLine, print_chunk_line, IsChunkLine, ReadsChunkLine, NeverHasChunkLine, MayBecomeChunkLine, chunk_size}

-- how the bytes stand at a request's place, where no whole request begins them
pub data Rest : Type 0 where
  empty cut : Rest
  bad : ℕ → Rest

-- ---- a whole chunked body

-- the bytes that a chunk line may have
abbrev pub chunk_line_limit : ℕ
chunk_line_limit = MAX_CHUNK_LINE_BYTES

-- the bytes that all trailer lines may have
abbrev pub trailer_limit : ℕ
trailer_limit = MAX_TRAILER_BYTES

-- the bytes begin with this chunk line, which is not too long
pub record HasLine (bytes : List ℕ) (l : ChunkLine) (rest : List ℕ) : Type 0 where
  pub reads : ReadsChunkLine bytes l rest
  pub size : length (print_chunk_line l) ≤ chunk_line_limit

-- a chunk line and the bytes that it counts
pub record Chunk : Type 0 where
  pub line : ChunkLine
  pub bytes : List ℕ

-- the line, the bytes that it counts and a line end
abbrev pub print_chunk : Chunk → List ℕ
print_chunk c = print_chunk_line c.line ++ c.bytes ++ crlf_bytes

-- the line is short enough, and counts the bytes, which are some
pub record IsChunk (c : Chunk) : Type 0 where
  pub line : IsChunkLine c.line
  pub line_size : length (print_chunk_line c.line) ≤ chunk_line_limit
  pub counted : chunk_size c.line ≡ length c.bytes
  pub some_bytes : 0 < length c.bytes

-- the bytes begin with header lines and an empty line, and the header lines are not too long
pub record HasTrailers (bytes : List ℕ) (fields : List Field) (last : LineEnd) (rest : List ℕ) : Type 0 where
  pub reads : ReadsSection bytes fields last rest
  pub size : length (flat_map print_field fields) ≤ trailer_limit

-- chunks, the line of size 0 and the trailers
pub record ChunkedBody : Type 0 where
  pub chunks : List Chunk
  pub line : ChunkLine
  pub trailers : List Field
  pub last : LineEnd

-- the bytes of a chunked body
abbrev pub print_chunked : ChunkedBody → List ℕ
print_chunked b = flat_map print_chunk b.chunks ++ print_chunk_line b.line ++ print_section b.trailers b.last

-- what the body says: the trailers are dropped
abbrev pub content : ChunkedBody → List ℕ
content b = flat_map (λ c. c.bytes) b.chunks

-- the last line counts nothing, and the trailers are short enough
pub record IsChunked (b : ChunkedBody) : Type 0 where
  pub chunks : All IsChunk b.chunks
  pub line : IsChunkLine b.line
  pub line_size : length (print_chunk_line b.line) ≤ chunk_line_limit
  pub ends : chunk_size b.line ≡ 0
  pub trailers : All IsField b.trailers
  pub trailer_size : length (flat_map print_field b.trailers) ≤ trailer_limit

-- ---- how bytes stand that begin with no whole one

-- the bytes begin with no chunk line that is short enough
abbrev pub HasNoLine : List ℕ → Type 0
HasNoLine bytes = (l : ChunkLine) (rest : List ℕ) → ¬ (HasLine bytes l rest)

-- at the place of a chunk line: bad where no continuation makes one, or as many bytes came as one may have
abbrev pub IsLineRest : List ℕ → Rest → Type 0
IsLineRest bytes r = HasNoLine bytes × (
    ((NeverHasChunkLine (take chunk_line_limit bytes) ⊎ (chunk_line_limit ≤ length bytes)) × (r ≡ bad BAD_REQUEST))
    ⊎ (MayBecomeChunkLine bytes × (length bytes < chunk_line_limit) × (r ≡ cut)))

-- the header lines that trailers may have, and the longest empty line
abbrev pub section_limit : ℕ
section_limit = MAX_TRAILER_SECTION_BYTES

-- the bytes begin with no trailers that are short enough
abbrev pub HasNoTrailers : List ℕ → Type 0
HasNoTrailers bytes = (fields : List Field) (last : LineEnd) (rest : List ℕ) → ¬ (HasTrailers bytes fields last rest)

-- at the place of the trailers, likewise
abbrev pub IsTrailerRest : List ℕ → Rest → Type 0
IsTrailerRest bytes r = HasNoTrailers bytes × (
    ((NeverHasSection (take section_limit bytes) ⊎ (section_limit ≤ length bytes)) × (r ≡ bad BAD_REQUEST))
    ⊎ (MayBecomeSection bytes × (length bytes < section_limit) × (r ≡ cut)))

-- at the place of the line end after a chunk's bytes: nothing where it stands
abbrev pub end_rest : List ℕ → Option Rest
end_rest [] = Some cut
end_rest (a ∷ []) = if a == carriage_return then Some cut else Some (bad BAD_REQUEST)
end_rest (a ∷ b ∷ bytes) = if (a == carriage_return) && (b == line_feed) then None else Some (bad BAD_REQUEST)

-- after a whole chunk line of this size, where so many bytes more are allowed
abbrev pub IsRestAfterLine : ℕ → ℕ → List ℕ → Rest → Type 0
IsRestAfterLine room size bytes r =
    ((size ≡ 0) × IsTrailerRest bytes r)
    ⊎ ((0 < size) × (room < size) × (r ≡ bad CONTENT_TOO_LARGE))
    ⊎ ((0 < size) × (size ≤ room) × (end_rest (drop size bytes) ≡ Some r))

-- at the place of a chunk line, or after one
abbrev pub IsRestAtLine : ℕ → List ℕ → Rest → Type 0
IsRestAtLine room bytes r =
    IsLineRest bytes r
    ⊎ ((l : ChunkLine) × (rest : List ℕ) × HasLine bytes l rest × IsRestAfterLine room (chunk_size l) rest r)

-- how many bytes the chunks have
abbrev pub chunk_bytes : List Chunk → ℕ
chunk_bytes cs = sum_by (λ c. length c.bytes) cs

-- whole chunks, and what stands at the place after them
pub record IsChunkedRest (limit : ℕ) (bytes : List ℕ) (r : Rest) : Type 0 where
  pub chunks : List Chunk
  pub after : List ℕ
  pub each : All IsChunk chunks
  pub parts : bytes ≡ flat_map print_chunk chunks ++ after
  pub room : chunk_bytes chunks ≤ limit
  pub stands : IsRestAtLine (limit - chunk_bytes chunks) after r
