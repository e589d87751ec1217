-- How far the bytes of a head have come (RFC 9112, sections 2.2, 3 and 5).
--     IsLine at line      what stands in a field line so far
--     IsStart at bytes      what stands before the second space of a request line
--     IsFields n at bytes      a request line, n field lines, and what stands in the next one
--     IsOpen bytes, IsNever bytes      no head so far, and more may make one; none ever
use Rattle.std.specs.Prelude.{ℕ, ◌≡◌, ◌⊎◌, ◌||◌, ◌==◌, if◌then◌else◌, IsTrue, List, [], ◌∷◌, ◌++◌, length, All, Option, Some, None}
use Rattle.std.specs.List.{list_all, flat_map}
use Rattle.httparse.specs.Ascii.{space, colon, line_feed, carriage_return}
use Rattle.httparse.specs.Grammar.{is_token_byte, is_value_byte, AllPass, IsToken, LineEnd, print_end, print_blank, Field, IsField, print_field, RequestHead, IsRequestHead, print_version}
use Rattle.dkv_heads.specs.declared.lines.LineAt.{LineAt}
use Rattle.dkv_heads.specs.declared.lines.LineAt.TheVariants as at
use Rattle.dkv_heads.specs.declared.lines.LineStep.{LineStep}
use Rattle.dkv_heads.specs.declared.lines.LineStep.TheVariants as step
use Rattle.dkv_heads.specs.declared.starts.StartAt.{StartAt}
use Rattle.dkv_heads.specs.declared.starts.StartAt.TheVariants as start
use Rattle.dkv_heads.specs.Heads.{HasNoHead, MayBecomeHead, NeverHead, EndsInTarget, has_many_lines, is_open}

-- ---- field lines

-- one more byte of a field line, or of the empty line after the last
abbrev pub next_line : LineAt → ℕ → LineStep
next_line at.Start b =
    if b == carriage_return then step.On at.EndCr else if b == line_feed then step.End else if is_token_byte b then step.On at.Name else step.Other
next_line at.Name b = if b == colon then step.On at.Value else if is_token_byte b then step.On at.Name else step.Other
next_line at.Value b = if b == carriage_return then step.On at.ValueCr else if b == line_feed then step.Field else if is_value_byte b then step.On at.Value else step.Other
next_line at.ValueCr b = if b == line_feed then step.Field else step.Other
next_line at.EndCr b = if b == line_feed then step.End else step.Other

-- a name, a colon and what stands there
pub record Row (line : List ℕ) : Type 0 where
  pub name : List ℕ
  pub raw : List ℕ
  pub token : IsToken name
  pub value : AllPass is_value_byte raw
  pub is : line ≡ name ++ colon ∷ raw

-- what stands in a line so far
abbrev pub IsLine : LineAt → List ℕ → Type 0
IsLine at.Start line = line ≡ []
IsLine at.Name line = IsToken line
IsLine at.Value line = Row line
IsLine at.ValueCr line = (row : List ℕ) × Row row × (line ≡ row ++ carriage_return ∷ [])
IsLine at.EndCr line = line ≡ carriage_return ∷ []

-- what a step says of the line with its byte
abbrev pub LineGoes : LineStep → List ℕ → Type 0
LineGoes (step.On at) line = IsLine at line
LineGoes step.Field line = (f : Field) × IsField f × (line ≡ print_field f)
LineGoes step.End line = (e : LineEnd) × (line ≡ print_end e)
LineGoes step.Other line = Unit {0}

-- ---- the start

-- one more byte of what stands before the request line's second space
abbrev pub next_start : StartAt → ℕ → Option StartAt
next_start start.Blank b =
    if b == carriage_return then Some start.BlankCr else if b == line_feed then Some start.Blank else if is_token_byte b then Some start.Method else None
next_start start.BlankCr b = if b == line_feed then Some start.Blank else None
next_start start.Method b = if b == space then Some start.Target else if is_token_byte b then Some start.Method else None
next_start start.Target b = if (b == space) || (b == carriage_return) || (b == line_feed) then None else Some start.Target

-- empty lines, a method, a space and what of a target there is
abbrev pub IsStart : StartAt → List ℕ → Type 0
IsStart start.Blank bytes = (ends : List LineEnd) × (bytes ≡ print_blank ends)
IsStart start.BlankCr bytes =
    (ends : List LineEnd) × (bytes ≡ print_blank ends ++ carriage_return ∷ [])
IsStart start.Method bytes =
    (ends : List LineEnd) × (method : List ℕ) × IsToken method × (bytes ≡ print_blank ends ++ method)
IsStart start.Target bytes =
    (ends : List LineEnd) × (method : List ℕ) × (target : List ℕ) × IsToken method
    × IsTrue (list_all is_open target) × (bytes ≡ (print_blank ends ++ method) ++ space ∷ target)

-- what a step says of the bytes with the next one
abbrev pub StartGoes : Option StartAt → List ℕ → Type 0
StartGoes None bytes = Unit {0}
StartGoes (Some at) bytes = IsStart at bytes

-- ---- fields

-- the empty lines before a head and its first line
abbrev pub first_line : RequestHead → List ℕ
first_line h = print_blank h.blank ++ h.method ++ space ∷ h.target ++ space ∷ print_version h.minor ++ print_end h.line_end

-- a head but for its last line
pub record Front (n : ℕ) (front : List ℕ) : Type 0 where
  pub h : RequestHead
  pub is : IsRequestHead h
  pub count : length h.fields ≡ n
  pub text : front ≡ first_line h ++ flat_map print_field h.fields

-- a request line, n field lines, and what stands in the next one
abbrev pub IsFields : ℕ → LineAt → List ℕ → Type 0
IsFields n at bytes =
    (front : List ℕ) × (line : List ℕ) × Front n front × IsLine at line × (bytes ≡ front ++ line)

-- what stands of trailers
abbrev pub IsTrailers : LineAt → List ℕ → Type 0
IsTrailers at bytes =
    (fields : List Field) × (line : List ℕ) × All IsField fields × IsLine at line × (bytes ≡ flat_map print_field fields ++ line)

-- ---- no head so far

-- no head so far, and more may make one, or its target or its number of lines leaves that open
abbrev pub IsOpen : List ℕ → Type 0
IsOpen bytes = HasNoHead bytes × (MayBecomeHead bytes ⊎ EndsInTarget bytes ⊎ IsTrue (has_many_lines bytes))

-- no head so far, and no bytes that follow make one
abbrev pub IsNever : List ℕ → Type 0
IsNever bytes = HasNoHead bytes × NeverHead bytes × ¬ (EndsInTarget bytes)
