-- Stamps and the suffixes of keys.
use Rattle.std.proofs.Common.{◌≡◌, refl, [], ◌∷◌, ◌++◌, ℕ, Option, Some, None, map}
use Rattle.std.specs.Prelude.{pos, replicate}
use Rattle.dkv_base.specs.declared.types.Ask.TheVariants as ask
use Rattle.dkv_base.specs.declared.codes.Limit.TheVariants as limit
use Rattle.dkv_base.specs.Stamps.{stamp, suffix}
use Rattle.dkv_base.specs.Limits.{write_limit}
use Rattle.dkv_base.specs.Protobuf.{varint, groups}
use Rattle.worked.proofs.Words.{value, mutation, mutates, by_1, left}

-- the stamp of the first commit
first_stamp : stamp 1 ≡ 0 ∷ 0 ∷ 0 ∷ 0 ∷ 0 ∷ 0 ∷ 0 ∷ 1 ∷ 0 ∷ 0 ∷ []
first_stamp = refl

-- 171 is ab in hexadecimal
suffix_of_171 : suffix 171 ≡ 2 ∷ replicate 14 48 ++ 97 ∷ 98 ∷ 48 ∷ 48 ∷ 48 ∷ 48 ∷ 0 ∷ []
unfolding suffix
suffix_of_171 = refl

-- the limit that a SET under a key of n bytes passes
abbrev limit_of_key : ℕ → ℕ → Option limit.the_data
limit_of_key kind n = write_limit (mutates (mutation kind (replicate n 1) (value 3 []) (pos 0) ∷ []))

-- a key of 1 to 2,048 bytes
key_lengths : map (limit_of_key 1) (2048 ∷ 2049 ∷ 0 ∷ []) ≡ None ∷ Some limit.MutationKey ∷ Some limit.MutationKey ∷ []
key_lengths = refl

-- 22 fewer under a suffix, and none is enough
key_lengths_under_a_suffix : map (limit_of_key 9) (2026 ∷ 2027 ∷ 0 ∷ []) ≡ None ∷ Some limit.MutationKey ∷ None ∷ []
key_lengths_under_a_suffix = refl

-- which is then the key
suffix_alone_is_a_key : map (λ e. e.key) (left (by_1 5 (ask.Write (mutates (mutation 9 [] (value 3 []) (pos 0) ∷ []))) ∷ [])).state.entries ≡ suffix 1 ∷ []
unfolding varint groups
suffix_alone_is_a_key = refl
