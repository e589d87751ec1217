-- The head of a request (RFC 9112, sections 2, 3 and 5), and what its fields say.
--     HasHead bytes h rest      the bytes begin with this head
--     MayBecomeHead bytes, NeverHead bytes      some continuation begins with a head, its length aside; none does
--     EndsInTarget bytes, has_many_lines bytes      the two cases in which a rest without a head is taken apart
--     values name fields, first_value name fields      the values of a name; the first of them
--     header_map fields      the map that a header map is seen as
--     framing fields, has_host minor fields, is_last minor fields      how long the body is; whether the host rule holds; whether the session ends with it
use Rattle.std.specs.Prelude.{ℕ, ◌≡◌, ◌≤◌, Bool, not, ◌&&◌, ◌||◌, nat_lt, ◌==◌, if◌then◌else◌, IsTrue, List, [], ◌∷◌, ◌++◌, length, map, filter, count_by, slice_get, Option, codes}
use Rattle.std.specs.List.{list_any, list_all, slice_split}
use Rattle.std.specs.Char.{is_ascii_digit}
use Rattle.std.specs.Str.{str_eq_ignore_ascii_case}
use Rattle.std.specs.Str.Parse.{digits_value}
use Rattle.httparse.specs.Ascii.{space, comma, line_feed, carriage_return}
use Rattle.httparse.specs.Grammar.{RequestHead, print_request, ReadsRequest, trim_ows}
use Rattle.httparse.specs.Spans.{name_and_value, RequestOverflows}
use Rattle.http_header.specs.FieldValue.{FieldValue, plain_value}
use Rattle.http_header.specs.HeaderMap.{Entries, append_all}
use Rattle.http_header.specs.Token.{lowercase}
use Rattle.dkv_heads.specs.declared.limits.TheConstants.{MAX_HEAD_BYTES, MAX_HEADER_LINES}

-- ---- a head

-- the bytes that a head may have
abbrev pub head_limit : ℕ
head_limit = MAX_HEAD_BYTES

-- the lines of fields that a head may have
abbrev pub line_limit : ℕ
line_limit = MAX_HEADER_LINES

-- the bytes begin with this head, which is not too long, and the rest follows it
pub record HasHead (bytes : List ℕ) (h : RequestHead) (rest : List ℕ) : Type 0 where
  pub reads : ReadsRequest bytes h rest
  pub lines : length h.fields ≤ line_limit
  pub size : length (print_request h) ≤ head_limit

-- the bytes begin with no head that is short enough
abbrev pub HasNoHead : List ℕ → Type 0
HasNoHead bytes = (h : RequestHead) (rest : List ℕ) → ¬ (HasHead bytes h rest)

-- some bytes can follow after which a head begins all of them, its length aside
abbrev pub MayBecomeHead : List ℕ → Type 0
MayBecomeHead bytes =
    (more : List ℕ) × (h : RequestHead) × (rest : List ℕ)
    × ReadsRequest (bytes ++ more) h rest × (length h.fields ≤ line_limit)

-- whatever follows, a head that begins all of them has too many lines
abbrev pub NeverHead : List ℕ → Type 0
NeverHead bytes = RequestOverflows line_limit bytes

-- a byte that ends no request target
abbrev pub is_open : ℕ → Bool
is_open b = not ((b == space) || (b == carriage_return) || (b == line_feed))

-- one space, after it neither a space nor a line end, and up to that space they may become a head
pub record EndsInTarget (bytes : List ℕ) : Type 0 where
  pub front : List ℕ
  pub target : List ℕ
  pub parts : bytes ≡ front ++ space ∷ target
  pub one_space : IsTrue (list_all (λ b. not (b == space)) front)
  pub open_end : IsTrue (list_all is_open target)
  pub may : MayBecomeHead (front ++ space ∷ [])

-- 65 line feeds or more
abbrev pub has_many_lines : List ℕ → Bool
has_many_lines bytes = nat_lt line_limit (count_by (λ b. b == line_feed) bytes)

-- ---- fields

-- the names with their values, without the blanks around a value (RFC 9112, section 5.1)
abbrev pub fields_of : RequestHead → List (List ℕ × List ℕ)
fields_of h = map name_and_value h.fields

-- names compare without case (RFC 9110, section 5.1)
abbrev pub is_named : List ℕ → List ℕ × List ℕ → Bool
is_named name f = str_eq_ignore_ascii_case f.0 name

-- the values of all fields of the name, in order
abbrev pub values : List ℕ → List (List ℕ × List ℕ) → List (List ℕ)
values name fields = map (λ f. f.1) (filter (is_named name) fields)

-- the first of them
abbrev pub first_value : List ℕ → List (List ℕ × List ℕ) → Option (List ℕ)
first_value name fields = slice_get (values name fields) 0

-- the same fields as a map, with names in lower case
abbrev pub header_map : List (List ℕ × List ℕ) → Entries FieldValue
header_map fields = append_all [] (map (λ f. (lowercase f.0, plain_value f.1)) fields)

-- just one host; version 1.0 may have none (RFC 9112, section 3.2)
abbrev pub has_host : ℕ → List (List ℕ × List ℕ) → Bool
has_host minor fields =
    let n = length (values (codes "host") fields) in (n == 1) || ((n == 0) && (minor == 0))

-- the part is close, blanks around it aside
abbrev pub is_close : List ℕ → Bool
is_close part = str_eq_ignore_ascii_case (trim_ows part) (codes "close")

-- a part between commas is close
abbrev pub says_close : List ℕ → Bool
says_close value = list_any is_close (slice_split (λ b. b == comma) value)

-- version 1.0, or a connection line that says close (RFC 9112, sections 9.3 and 9.6)
abbrev pub is_last : ℕ → List (List ℕ × List ℕ) → Bool
is_last minor fields = (minor == 0) || list_any says_close (values (codes "connection") fields)

-- ---- how long the body is

-- by a length, by chunks, or in no clear way (RFC 9112, section 6.3)
pub data Framing : Type 0 where
  sized : ℕ → Framing
  chunked unclear : Framing

-- one digit or more, and nothing else (RFC 9110, section 8.6)
abbrev pub is_number : List ℕ → Bool
is_number value = nat_lt 0 (length value) && list_all is_ascii_digit value

-- all are numbers, and equal to the first
abbrev pub agree : List ℕ → List (List ℕ) → Bool
agree value others =
    is_number value
    && list_all (λ other. is_number other && (digits_value 10 other == digits_value 10 value)) others

-- from the transfer codings and the lengths (RFC 9112, section 6.3): never both, and never two that differ
abbrev pub framing_by : List (List ℕ) → List (List ℕ) → Framing
framing_by [] [] = sized 0
framing_by [] (value ∷ others) = if agree value others then sized (digits_value 10 value) else unclear
framing_by (coding ∷ []) [] = if str_eq_ignore_ascii_case coding (codes "chunked") then chunked else unclear
framing_by _ _ = unclear

-- from the fields
abbrev pub framing : List (List ℕ × List ℕ) → Framing
framing fields =
    framing_by (values (codes "transfer-encoding") fields) (values (codes "content-length") fields)
