-- Tokens, and what a text that should be one says.
--     sign site e      the token that ends at moment e
--     IsToken site text e      the text is that token
--     token_expiry site text      the moment at which the text ends, where it is a token of this site
--     answer_at t o      what a check at moment t answers
use Rattle.std.specs.Prelude.{ℕ, ◌≡◌, ◌^◌, ◌<◌, Bool, nat_le, if◌then◌else◌, List, [], ◌∷◌, ◌++◌, slice_range, Option, Some, None, Result, Ok, Err, codes, bytes_eq, ◌↔◌}
use Rattle.std.specs.Int.{w64, to_be_bytes, from_be_bytes}
use Rattle.std.specs.Result.{result_unwrap_or}
use Rattle.hex.specs.Hex.{encode_lower, decode_of}
use Rattle.dkv_base.specs.Moments.{capped_moment}
use Rattle.dkv_token.specs.declared.site.Site.{Site}
use Rattle.dkv_token.specs.declared.token.TheConstants.{DOT, EXPIRY_START, EXPIRY_END}
use Rattle.dkv_token.specs.declared.token.TokenError.{TokenError}
use Rattle.dkv_token.specs.declared.token.TokenError.TheVariants.{BadToken, Expired}
use Rattle.dkv_token.specs.Mac.{hmac}

-- what is signed: the id and the expiry in 8 bytes, greatest first
abbrev pub signed_message : Site → ℕ → List ℕ
signed_message site e = site.database_id ++ to_be_bytes w64 e

-- what each token begins with
abbrev pub prefix : List ℕ
prefix = codes "dkv1."

-- the prefix, 16 digits of the expiry, a dot and 64 digits of the signature
abbrev pub token_text : ℕ → List ℕ → List ℕ
token_text e signature = prefix ++ encode_lower (to_be_bytes w64 e) ++ DOT ∷ encode_lower signature

-- the token of the site that ends at e
abbrev pub sign : Site → ℕ → List ℕ
sign site e = token_text e (hmac site.secret (signed_message site e))

-- the text is the token of the site that ends at e
abbrev pub IsToken : Site → List ℕ → ℕ → Type 0
IsToken site text e = (e < 2 ^ 64) × (text ≡ sign site e)

-- the number whose 8 bytes sixteen digits write
abbrev pub number_of_digits : List ℕ → ℕ
number_of_digits digits = from_be_bytes w64 (result_unwrap_or (decode_of digits) [])

-- the number that the sixteen digits of a token write
abbrev pub written_expiry : List ℕ → ℕ
written_expiry text = number_of_digits (slice_range text EXPIRY_START EXPIRY_END)

-- the text is the token that ends where its own digits say, or it is none
abbrev pub token_expiry : Site → List ℕ → Option ℕ
token_expiry site text = if bytes_eq text (sign site (written_expiry text)) then Some (written_expiry text) else None

-- at this moment a token that ends at e has ended
abbrev pub has_ended : ℕ → ℕ → Bool
has_ended t e = nat_le e (capped_moment t)

-- at moment t: a text that is no token, a token that has ended, or one that is good
abbrev pub answer_at : ℕ → Option ℕ → Result Unit TokenError
answer_at t None = Err BadToken
answer_at t (Some e) = if has_ended t e then Err (Expired e) else Ok tt

-- law: a text ends at e exactly where it is the token that ends at e
abbrev pub TokensAreExact : Type 0
TokensAreExact = (site : Site) (text : List ℕ) (e : ℕ) → e < 2 ^ 64 → (token_expiry site text ≡ Some e) ↔ (text ≡ sign site e)
