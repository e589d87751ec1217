-- What httparse's answer says of the bytes of a head.
use Rattle.std.specs.Prelude.{ℕ, ◌≡◌, ◌+◌, ◌<◌, ◌≤◌, ◌==◌, not, IsTrue, List, [], ◌∷◌, ◌++◌, length, take, drop}
use Rattle.std.specs.List.{list_all}
use Rattle.httparse.specs.Ascii.{space, line_feed}
use Rattle.httparse.specs.Grammar.{RequestHead}
use Rattle.httparse.specs.Spans.{IsRequestAt, IsRequestWithin}
use Rattle.httparse.specs.declared.spans.HeaderSpan.{HeaderSpan}
use Rattle.dkv_heads.specs.declared.verdicts.Verdict.{Verdict}
use Rattle.dkv_heads.specs.declared.verdicts.Verdict.TheVariants as verdict
use Rattle.dkv_heads.specs.Heads.{line_limit, is_open}
use Rattle.dkv_heads.specs.Scans.{IsOpen, IsNever, Front}

-- no byte of them is a space
abbrev pub spaceless : List ℕ → Type 0
spaceless front = IsTrue (list_all (λ b. not (b == space)) front)

-- at a place stands the first space, and what follows it ends no target
abbrev pub IsOpenAt : List ℕ → ℕ → Type 0
IsOpenAt bytes i =
    (i < length bytes) × spaceless (take i bytes) × (bytes ≡ take i bytes ++ space ∷ drop (i + 1) bytes)
    × IsTrue (list_all is_open (drop (i + 1) bytes))

-- there is no such place
abbrev pub NoSpace : List ℕ → Type 0
NoSpace bytes =
    (front target : List ℕ) → bytes ≡ front ++ space ∷ target → spaceless front → IsTrue (list_all is_open target) → ⊥

-- a whole head, with the spans of its parts; none yet; none ever
abbrev pub Judged : List ℕ → List HeaderSpan → Verdict → Type 0
Judged bytes headers (verdict.Whole spans) =
    IsRequestWithin bytes headers spans
    × ((h : RequestHead) × IsRequestAt bytes headers spans h × (length h.fields ≤ line_limit))
Judged bytes headers verdict.Open = IsOpen bytes
Judged bytes headers verdict.Never = IsNever bytes

-- the bytes are a head's first line and a line feed
abbrev pub EndsLine : List ℕ → Type 0
EndsLine bytes =
    (front : List ℕ) → bytes ≡ front ++ line_feed ∷ [] → (before : List ℕ) → front ≡ before ++ line_feed ∷ [] → Front 0 front
