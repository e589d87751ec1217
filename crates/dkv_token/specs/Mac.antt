-- A signature under a key: HMAC (RFC 2104, section 2) over SHA-256 (FIPS 180-4).
--     hmac key m      the signature of m
use Rattle.std.specs.Prelude.{ℕ, ◌-◌, List, ◌++◌, length, map, replicate, bit_xor}
use Rattle.sha2.specs.Sha256.{sha256}
use Rattle.dkv_token.specs.declared.mac.TheConstants.{BLOCK_BYTES, INNER_PAD, OUTER_PAD}

-- the key filled with zeros to a block, and each byte exclusive-or the number (RFC 2104, section 2, steps 1, 2 and 5)
abbrev pub padded_key : ℕ → List ℕ → List ℕ
padded_key with key = map (λ b. bit_xor b with) (key ++ replicate (BLOCK_BYTES - length key) 0)

-- the hash of the outer pad and of the hash of the inner pad and the message (RFC 2104, section 2); the key has no more
-- bytes than a block
abbrev pub hmac : List ℕ → List ℕ → List ℕ
hmac key m = sha256 (padded_key OUTER_PAD key ++ sha256 (padded_key INNER_PAD key ++ m))
