-- Tokens and their signatures on cases from outside: RFC 4231, and a token that OpenSSL signed.
use Rattle.std.proofs.Common.{◌≡◌, ◌-◌, refl, [], ◌∷◌, ◌++◌, Some, None, codes, true, false}
use Rattle.std.specs.Prelude.{replicate, slice_set}
use Rattle.sha2.specs.Sha256.{compress, digest_bytes, first_words, hash_after, rounds, schedule, sha256}
use Rattle.hex.specs.Hex.{encode_lower, encode_with, decode_pairs}
use Rattle.dkv_token.specs.declared.site.Site.{Site}
use Rattle.dkv_token.specs.declared.token.TheConstants.{TOKEN_LIFE_MS}
use Rattle.dkv_token.specs.Mac.{hmac}
use Rattle.dkv_token.specs.Token.{sign, token_expiry, has_ended}

-- the first two cases of RFC 4231
case_1 : encode_lower (hmac (replicate 20 0x0b) (codes "Hi There")) ≡ codes "b0344c61d8db38535ca8afceaf0bf12b881dc200c9833da726e9376c2e32cff7"
unfolding first_words schedule rounds compress hash_after digest_bytes sha256 encode_with
case_1 = refl

case_2 : encode_lower (hmac (codes "Jefe") (codes "what do ya want for nothing?")) ≡ codes "5bdcc146bf60754e6a042426089575c75a003f089d2739839dec58b964ec3843"
unfolding first_words schedule rounds compress hash_after digest_bytes sha256 encode_with
case_2 = refl

-- id 00000000-0000-4000-8000-000000000000, a secret of zeros
abbrev site : Site
site = record { database_id = replicate 6 0 ++ 0x40 ∷ 0 ∷ 0x80 ∷ replicate 7 0; secret = replicate 32 0; access = []; url = [] }

token_of_an_hour : sign site TOKEN_LIFE_MS ≡ codes "dkv1.000000000036ee80.8c31b0f3c47d2a4f42055c8c4774a556c6eb30d1784aada1db49a531dec9139f"
unfolding first_words schedule rounds compress hash_after digest_bytes sha256 encode_with
token_of_an_hour = refl

found : token_expiry site (sign site TOKEN_LIFE_MS) ≡ Some TOKEN_LIFE_MS
unfolding first_words schedule rounds compress hash_after digest_bytes sha256 encode_with decode_pairs
found = refl

changed_at_a_digit : token_expiry site (slice_set (sign site TOKEN_LIFE_MS) 20 49) ≡ None
unfolding first_words schedule rounds compress hash_after digest_bytes sha256 encode_with decode_pairs
changed_at_a_digit = refl

ends_at_its_expiry : has_ended (TOKEN_LIFE_MS - 1) TOKEN_LIFE_MS ∷ has_ended TOKEN_LIFE_MS TOKEN_LIFE_MS ∷ [] ≡ false ∷ true ∷ []
ends_at_its_expiry = refl
