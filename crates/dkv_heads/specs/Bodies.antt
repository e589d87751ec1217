-- What the fields of a head say of the body (RFC 9112, section 6.3).
use Rattle.std.specs.Prelude.{ℕ, ◌≡◌, ◌<◌, ◌≤◌, ◌⊎◌, ◌==◌, ◌&&◌, Bool, IsTrue, IsFalse, List}
use Rattle.std.specs.Str.Parse.{digits_value}
use Rattle.dkv_heads.specs.declared.fields.Body.{Body}
use Rattle.dkv_heads.specs.declared.fields.Body.TheVariants as body
use Rattle.dkv_heads.specs.Heads.{has_host, Framing, framing, sized, chunked, unclear, is_number}

-- what a head is answered as, by the host rule and the framing
abbrev pub BodyOf : ℕ → ℕ → List (List ℕ × List ℕ) → Body → Type 0
BodyOf limit minor fields body.Unclear =
    IsFalse (has_host minor fields) ⊎ (IsTrue (has_host minor fields) × (framing fields ≡ unclear))
BodyOf limit minor fields body.TooLarge =
    IsTrue (has_host minor fields) × ((n : ℕ) × (framing fields ≡ sized n) × (limit < n))
BodyOf limit minor fields (body.Sized n) =
    IsTrue (has_host minor fields) × (framing fields ≡ sized n) × (n ≤ limit)
BodyOf limit minor fields body.Chunked =
    IsTrue (has_host minor fields) × (framing fields ≡ chunked)

-- a number, and equal to this one
abbrev pub agrees : List ℕ → List ℕ → Bool
agrees value other = is_number other && (digits_value 10 other == digits_value 10 value)

-- what a framing is answered as
abbrev pub FramedAs : ℕ → Framing → Body → Type 0
FramedAs limit f body.Unclear = f ≡ unclear
FramedAs limit f body.TooLarge = (n : ℕ) × (f ≡ sized n) × (limit < n)
FramedAs limit f (body.Sized n) = (f ≡ sized n) × (n ≤ limit)
FramedAs limit f body.Chunked = f ≡ chunked
