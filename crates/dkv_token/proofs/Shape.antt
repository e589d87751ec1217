-- The shape of a token: 86 bytes, of which each part stands in its place.
use Rattle.std.proofs.Common.{◌≡◌, ℕ, ◌+◌, List, [], ◌∷◌, ◌++◌, length, take, drop, sym, ap, ◌∙◌, arith, ◌<◌, ◌-◌, get_or, map, length-drop, length-append, append_assoc, append-nil}
use Rattle.std.specs.Prelude.{replicate, bit_xor}
use Rattle.std.specs.Int.{w64, to_be_bytes}
use Rattle.std.proofs.lemmas.List.{take_at, drop_all, ext_get_or, get_or-map, length-map}
use borrow.Rule.Slice.PartMut.{put_mid}
use Rattle.hex.specs.Hex.{encode_lower, lower_digits}
use Rattle.hex.proofs.HexLemmas.{length-encode_with}
use Rattle.sha2.specs.Sha256.{sha256}
use Rattle.sha2.proofs.Facts256.{length-sha256}
use Rattle.dkv_token.specs.declared.site.Site.{Site}
use Rattle.dkv_token.specs.declared.mac.TheConstants.{INNER_PAD, OUTER_PAD}
use Rattle.dkv_token.specs.declared.token.TheConstants.{DOT}
use Rattle.dkv_token.specs.Mac.{hmac, padded_key}
use Rattle.dkv_token.specs.Token.{prefix, sign, signed_message}

-- what is left of a list after its first n elements, where it has no more
rest_is_none : (xs : List ℕ) (a k : ℕ) → length xs ≡ a + k → drop k (drop a xs) ≡ []
rest_is_none xs a k long = drop_all k (drop a xs) (omega (arith, length-drop a xs))

-- an id and a moment, written one after the other
pub message_is : (id moment : List ℕ) → length id ≡ 16 → put_mid 16 8 (id ++ replicate 8 0) moment ≡ id ++ moment
message_is id moment wide =
    let front : take 16 (id ++ replicate 8 0) ≡ id = take_at id (replicate 8 0) 16 (omega arith) in
    let rest : drop 8 (drop 16 (id ++ replicate 8 0)) ≡ [] = rest_is_none (id ++ replicate 8 0) 16 8 (omega (arith, length-append id (replicate 8 0))) in
    ap (λ t. t ++ (moment ++ drop 8 (drop 16 (id ++ replicate 8 0)))) front ∙ ap (λ r. id ++ (moment ++ r)) rest ∙ ap (λ m. id ++ m) (append-nil moment)

-- the front, digits and a signature, written between dots
pub text_is : (front digits signature : List ℕ) → front ≡ prefix → length digits ≡ 16
    → put_mid 22 64 (put_mid 5 16 (front ++ replicate 81 DOT) digits) signature ≡ prefix ++ digits ++ DOT ∷ signature
text_is front digits signature is few =
    let dots : List ℕ = replicate 65 DOT in
    let text : List ℕ = put_mid 5 16 (prefix ++ replicate 81 DOT) digits in
    let long : length text ≡ 86 = omega (arith, length-append digits dots) in
    let rest : drop 64 (drop 22 text) ≡ [] = rest_is_none text 22 64 long in
    let between : take 17 (digits ++ dots) ≡ digits ++ DOT ∷ [] =
    ap (take 17) (sym (append_assoc digits (DOT ∷ []) (replicate 64 DOT))) ∙ take_at (digits ++ DOT ∷ []) (replicate 64 DOT) 17 (omega (arith, length-append digits (DOT ∷ []))) in
    ap (λ f. put_mid 22 64 (put_mid 5 16 (f ++ replicate 81 DOT) digits) signature) is
    ∙ ap (λ r. take 22 text ++ (signature ++ r)) rest
    ∙ ap (λ s. take 22 text ++ s) (append-nil signature)
    ∙ ap (λ b. prefix ++ b ++ signature) between
    ∙ ap (λ t. prefix ++ t) (append_assoc digits (DOT ∷ []) signature)

-- a key with each byte of its block exclusive-or the number
pub padded_is : (with : ℕ) (key filled block : List ℕ) → length key ≡ 32 → filled ≡ key → length block ≡ 64
    → ((k : ℕ) → k < 64 → get_or block k 0 ≡ bit_xor (get_or (filled ++ replicate 32 0) k 0) with) → block ≡ padded_key with key
padded_is with key filled block short same long each =
    let f : ℕ → ℕ = λ b. bit_xor b with in
    let zeros : List ℕ = replicate 32 0 in
    let whole : length (filled ++ zeros) ≡ 64 = omega (arith, length-append filled zeros, ap length same) in
    let left : 64 - length key ≡ 32 = omega arith in
    let all : block ≡ map f (filled ++ zeros) =
    ext_get_or 0 block (map f (filled ++ zeros)) (omega (arith, length-map (filled ++ zeros) f))
    (λ k below. each k (omega arith) ∙ sym (get_or-map f (filled ++ zeros) k 0 0 (omega arith))) in
    all ∙ ap (λ x. map f (x ++ zeros)) same ∙ ap (λ n. map f (key ++ replicate n 0)) (sym left)

-- a signature has 32 bytes
length-hmac : (key m : List ℕ) → length (hmac key m) ≡ 32
length-hmac key m = length-sha256 (padded_key OUTER_PAD key ++ sha256 (padded_key INNER_PAD key ++ m))

-- a token has 86 bytes
pub length-sign : (site : Site) (e : ℕ) → length (sign site e) ≡ 86
length-sign site e =
    let digits = length-encode_with lower_digits (to_be_bytes w64 e) in
    let signature = length-encode_with lower_digits (hmac site.secret (signed_message site e)) in
    let bytes = length-hmac site.secret (signed_message site e) in
    omega (arith, digits, signature, bytes, length-append (encode_lower (to_be_bytes w64 e)) (DOT ∷ encode_lower (hmac site.secret (signed_message site e))))
