-- The bytes of responses (RFC 9112, sections 4 and 7.1).
--     head_bytes h      the lines of a head and the empty line after them
--     chunk b, last_chunk      one chunk of a body, and what ends it
--     respond status kind close body, text_response status text close      a whole response
--     bad_response status, no_memory_response      the answers to bad requests and to want of memory
use Rattle.std.specs.Prelude.{ℕ, Bool, true, false, ◌==◌, if◌then◌else◌, List, [], ◌∷◌, ◌++◌, length, Option, Some, None, codes, decimal}
use Rattle.std.specs.Fmt.{digits}
use Rattle.httparse.specs.Ascii.{crlf_bytes, line_feed, space}
use Rattle.dkv_heads.specs.declared.statuses.TheConstants.{OK, BAD_REQUEST, UNAUTHORIZED, NOT_FOUND, METHOD_NOT_ALLOWED, CONTENT_TOO_LARGE, HEADER_FIELDS_TOO_LARGE, SERVICE_UNAVAILABLE}
use Rattle.dkv_http.specs.declared.responses.Head.{Head}
use Rattle.dkv_http.specs.declared.responses.Kind.{Kind}
use Rattle.dkv_http.specs.declared.responses.Kind.TheVariants as kind

-- the phrase of a status (RFC 9110, section 15)
abbrev pub phrase : ℕ → List ℕ
phrase status =
    if status == OK then codes "OK"
    else if status == BAD_REQUEST then codes "Bad Request"
    else if status == UNAUTHORIZED then codes "Unauthorized"
    else if status == NOT_FOUND then codes "Not Found"
    else if status == METHOD_NOT_ALLOWED then codes "Method Not Allowed"
    else if status == CONTENT_TOO_LARGE then codes "Content Too Large"
    else if status == HEADER_FIELDS_TOO_LARGE then codes "Request Header Fields Too Large"
    else codes "Service Unavailable"

-- the name of a media type
abbrev pub type_name : Kind → List ℕ
type_name kind.Protobuf = codes "application/x-protobuf"
type_name kind.Octets = codes "application/octet-stream"
type_name kind.Json = codes "application/json"
type_name kind.Text = codes "text/plain"

-- a line ends by CR LF
abbrev pub line : List ℕ → List ℕ
line text = text ++ crlf_bytes

-- the length, or chunks where there is none
abbrev pub length_line : Option ℕ → List ℕ
length_line (Some n) = line (codes "content-length: " ++ decimal n)
length_line None = line (codes "transfer-encoding: chunked")

-- the status line
abbrev pub status_line : ℕ → List ℕ
status_line status = line (codes "HTTP/1.1 " ++ decimal status ++ space ∷ phrase status)

-- what the body is
abbrev pub type_line : Kind → List ℕ
type_line kind = line (codes "content-type: " ++ type_name kind)

-- which method is allowed, where the status asks for it (RFC 9110, section 15.5.6)
abbrev pub allow_line : ℕ → List ℕ
allow_line status = if status == METHOD_NOT_ALLOWED then line (codes "allow: POST") else []

-- the session ends with this response
abbrev pub close_line : Bool → List ℕ
close_line close = if close then line (codes "connection: close") else []

-- all lines of a head and the empty line after them
abbrev pub head_bytes : Head → List ℕ
head_bytes h =
    status_line h.status ++ type_line h.kind ++ length_line h.length ++ allow_line h.status ++ close_line h.close
    ++ line []

-- the head of a response with these bytes
abbrev pub head_of : ℕ → Kind → Bool → List ℕ → List ℕ
head_of status k close body =
    head_bytes (record { status = status; kind = k; length = Some (length body); close = close })

-- the head and the body
abbrev pub respond : ℕ → Kind → Bool → List ℕ → List ℕ
respond status k close body = head_of status k close body ++ body

-- each text has a line end
abbrev pub text_body : List ℕ → List ℕ
text_body text = text ++ line_feed ∷ []

-- a response whose body is a text and its line end
abbrev pub text_response : ℕ → List ℕ → Bool → List ℕ
text_response status text close = respond status kind.Text close (text_body text)

-- a length in hexadecimal digits, the bytes, and line ends
abbrev pub chunk : List ℕ → List ℕ
chunk bytes = line (digits 16 false (length bytes)) ++ line bytes

-- what ends a body of chunks
abbrev pub last_chunk : List ℕ
last_chunk = line (codes "0") ++ line []

-- the head before the chunks of a watch
abbrev pub watch_head : List ℕ
watch_head = head_bytes (record { status = OK; kind = kind.Octets; length = None; close = true })

-- what a refused connection is told
abbrev pub bad_text : ℕ → List ℕ
bad_text status =
    if status == CONTENT_TOO_LARGE then codes "body too large"
    else if status == HEADER_FIELDS_TOO_LARGE then codes "head too large"
    else codes "bad request"

-- the response to it, which ends the session
abbrev pub bad_response : ℕ → List ℕ
bad_response status = text_response status (bad_text status) true

-- the response where memory is wanting, which ends the session
abbrev pub no_memory_response : List ℕ
no_memory_response = text_response SERVICE_UNAVAILABLE (codes "no memory") true
