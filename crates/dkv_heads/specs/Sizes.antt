-- How far the bytes of a chunk line have come (RFC 9112, section 7.1).
--     IsSize at line      what stands in a chunk line so far
use Rattle.std.specs.Prelude.{ℕ, ◌≡◌, ◌≤◌, Bool, ◌&&◌, ◌==◌, if◌then◌else◌, List, [], ◌∷◌, ◌++◌, length, Option, Some, None}
use Rattle.std.specs.Char.{is_ascii_hexdigit}
use Rattle.httparse.specs.Ascii.{semicolon, line_feed, carriage_return}
use Rattle.httparse.specs.Grammar.{AllPass, is_ows, ChunkLine, IsChunkLine, print_extension, HasNoChunkLine, MayBecomeChunkLine}
use Rattle.dkv_heads.specs.declared.sizes.SizeAt.{SizeAt}
use Rattle.dkv_heads.specs.declared.sizes.SizeAt.TheVariants as at

-- one more byte; nothing where httparse has to be asked
abbrev pub next_size : SizeAt → Bool → Bool → ℕ → Option SizeAt
next_size at.Digits few some b =
    if few && is_ascii_hexdigit b then Some at.Digits
    else if some && is_ows b then Some at.Pad
    else if some && (b == semicolon) then Some at.Extension
    else if some && (b == carriage_return) then Some at.Cr
    else None
next_size at.Pad few some b =
    if is_ows b then Some at.Pad else if b == semicolon then Some at.Extension else if b == carriage_return then Some at.Cr else None
next_size at.Extension few some b =
    if b == carriage_return then Some at.Cr else if b == line_feed then None else Some at.Extension
next_size at.Cr few some b = None
next_size at.Judged few some b = None

-- a chunk line but for its line end
abbrev pub without_end : ChunkLine → List ℕ
without_end l = (l.digits ++ l.pad) ++ print_extension l.extension

-- digits; a whole size; an extension; a carriage return; what httparse has judged
abbrev pub IsSize : SizeAt → List ℕ → Type 0
IsSize at.Digits line = (length line ≤ 16) × AllPass is_ascii_hexdigit line
IsSize at.Pad line = (l : ChunkLine) × IsChunkLine l × (l.extension ≡ None) × (line ≡ without_end l)
IsSize at.Extension line =
    (l : ChunkLine) × (text : List ℕ) × IsChunkLine l × (l.extension ≡ Some text) × (line ≡ without_end l)
IsSize at.Cr line = (l : ChunkLine) × IsChunkLine l × (line ≡ without_end l ++ carriage_return ∷ [])
IsSize at.Judged line = MayBecomeChunkLine line × HasNoChunkLine line

-- what a step says of the line with its byte
abbrev pub SizeGoes : Option SizeAt → List ℕ → Type 0
SizeGoes None line = Unit {0}
SizeGoes (Some at) line = IsSize at line
