-- A text ends at e exactly where it is the token that ends at e; so a token names one expiry.
use Rattle.std.proofs.Common.{ℕ, ◌≡◌, ◌<◌, refl, sym, ap, ◌∙◌, true, List, [], ◌∷◌, append_assoc, take, drop, arith, inl, inr, Some, None, Result, Ok, Err}
use Rattle.std.specs.Prelude.{bytes_eq, slice_range, ◌^◌}
use Rattle.std.specs.Int.{w64, to_be_bytes, from_be_bytes}
use Rattle.std.specs.Result.{result_unwrap_or}
use Rattle.std.proofs.lemmas.List.{take-append-le, take_all}
use Rattle.std.proofs.lemmas.Bool.{cases_Bool}
use Rattle.std.proofs.lemmas.Nat.{from_be_bytes-to_be_bytes_8}
use Rattle.std.proofs.lemmas.Slice.Eq.{bytes_eq-Decides}
use Rattle.hex.specs.Hex.{encode_lower, decode_of, lower_digits, IsBytes}
use Rattle.hex.specs.declared.error.FromHexError.{FromHexError}
use Rattle.hex.proofs.HexLemmas.{decode_of-encode_lower, decode_of-ok, length-encode_with}
use Rattle.dkv_base.proofs.ByteLists.{below_written}
use Rattle.dkv_token.specs.declared.site.Site.{Site}
use Rattle.dkv_token.specs.declared.token.TheConstants.{DOT, EXPIRY_START, EXPIRY_END}
use Rattle.dkv_token.specs.Mac.{hmac}
use Rattle.dkv_token.specs.Token.{prefix, sign, signed_message, IsToken, number_of_digits, written_expiry, token_expiry, TokensAreExact}

-- bytes 5 to 20 of a token are the digits of its expiry
digits_there : (site : Site) (e : ℕ) → slice_range (sign site e) EXPIRY_START EXPIRY_END ≡ encode_lower (to_be_bytes w64 e)
digits_there site e =
    let long = length-encode_with lower_digits (to_be_bytes w64 e) in
    let digits = encode_lower (to_be_bytes w64 e) in
    let sig = DOT ∷ encode_lower (hmac site.secret (signed_message site e)) in
    ap (λ t. take 16 (drop 5 t)) (append_assoc (prefix) digits sig)
    ∙ take-append-le 16 digits sig (omega (arith, long))
    ∙ take_all 16 digits (omega (arith, long))

-- the digits of a token write its expiry
pub expiry_there : (site : Site) (e : ℕ) → e < 2 ^ 64 → written_expiry (sign site e) ≡ e
expiry_there site e fits =
    ap number_of_digits (digits_there site e)
    ∙ ap (λ r. from_be_bytes w64 (result_unwrap_or r [])) (decode_of-encode_lower (to_be_bytes w64 e) (below_written 8 e))
    ∙ from_be_bytes-to_be_bytes_8 e fits

-- bytes write a number of 64 bits
bytes_fit : (xs : List ℕ) → IsBytes xs → from_be_bytes w64 xs < 2 ^ 64
bytes_fit xs h = omega (arith, h 0, h 1, h 2, h 3, h 4, h 5, h 6, h 7)

decoded_fits : (digits : List ℕ) (r : Result (List ℕ) FromHexError) → decode_of digits ≡ r → from_be_bytes w64 (result_unwrap_or r []) < 2 ^ 64
decoded_fits digits (Ok bytes) h = bytes_fit bytes (decode_of-ok digits bytes h).3
decoded_fits digits (Err e) h = bytes_fit [] (λ i. omega arith)

-- digits write a number of 64 bits
pub digits_fit : (digits : List ℕ) → number_of_digits digits < 2 ^ 64
digits_fit digits = decoded_fits digits (decode_of digits) refl

-- what is found is the token of that expiry
pub found_is_token : (site : Site) (text : List ℕ) (e : ℕ) → token_expiry site text ≡ Some e → IsToken site text e
found_is_token site text e h = elim (cases_Bool (bytes_eq text (sign site (written_expiry text)))) [
  | inl t ↦
      let same = (bytes_eq-Decides text (sign site (written_expiry text))).0 t in
      let found : token_expiry site text ≡ Some (written_expiry text) = rw t refl in
      let both : Some (written_expiry text) ≡ Some e = sym found ∙ h in
      let at : written_expiry text ≡ e = cc in
      (rw (← at) (digits_fit (slice_range text EXPIRY_START EXPIRY_END)), same ∙ ap (sign site) at)
  | inr f ↦ absurd (let none : token_expiry site text ≡ None = rw f refl in let both : None ≡ Some e = sym none ∙ h in cc)
]

-- a token is found
pub token_is_found : (site : Site) (text : List ℕ) (e : ℕ) → IsToken site text e → token_expiry site text ≡ Some e
token_is_found site text e token =
    let at : written_expiry text ≡ e = ap written_expiry token.1 ∙ expiry_there site e token.0 in
    let equal : bytes_eq text (sign site (written_expiry text)) ≡ true = (bytes_eq-Decides text (sign site (written_expiry text))).1 (token.1 ∙ ap (sign site) (sym at)) in
    let found : token_expiry site text ≡ Some (written_expiry text) = rw equal refl in
    found ∙ ap (λ n. Some n) at

pub exact : TokensAreExact
exact site text e fits = (λ h. (found_is_token site text e h).1, λ same. token_is_found site text e (fits, same))

-- a token names one expiry
pub one_expiry : (site : Site) (text : List ℕ) (e : ℕ) → IsToken site text e → e ≡ written_expiry text
one_expiry site text e token = sym (ap written_expiry token.1 ∙ expiry_there site e token.0)

-- two expiries have two texts
pub two_texts : (site other : Site) (e f : ℕ) → e < 2 ^ 64 → f < 2 ^ 64 → sign site e ≡ sign other f → e ≡ f
two_texts site other e f e_fits f_fits same = sym (expiry_there site e e_fits) ∙ ap written_expiry same ∙ expiry_there other f f_fits

-- another text than the site's token of its own digits is no token
pub other_is_none : (site : Site) (text : List ℕ) → (text ≡ sign site (written_expiry text) → ⊥) → None ≡ token_expiry site text
other_is_none site text other = elim (cases_Bool (bytes_eq text (sign site (written_expiry text)))) [
  | inl t ↦ absurd (other ((bytes_eq-Decides text (sign site (written_expiry text))).0 t))
  | inr f ↦ rw f refl
]
