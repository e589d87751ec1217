-- What a workload asks is spelled in few bytes.
use Rattle.std.proofs.Common.{ℕ, ◌+◌, ◌≤◌, ℤ, pos, false, List, [], ◌∷◌, ◌++◌, length, length-append, arith}
use Rattle.std.specs.Int.{w64, to_le_bytes}
use Rattle.dkv_base.specs.declared.types.Ask.TheVariants as ask
use Rattle.dkv_base.specs.Protobuf.{delimited, bytes_field, number_field, unsigned, flag}
use Rattle.dkv_wire.proofs.Sizes.{delimited_size, number_size}
use Rattle.dkv_generate.specs.Frames.{IsShort}
use Rattle.dkv_generate.specs.Keys.{item_key, sum_key}
use Rattle.dkv_generate.specs.Numbers.{numbers_after}
use Rattle.dkv_generate.specs.Steps.{mutation, message, entry, handled, item_step, sum_step, message_step}
use Rattle.dkv_generate.proofs.KeySizes.{item_key_size, sum_key_size}
use Rattle.dkv_generate.proofs.Following.{numbers_size}

-- one behind the other
both : (xs ys : List ℕ) (m n : ℕ) → length xs ≤ m → length ys ≤ n → length (xs ++ ys) ≤ m + n
both xs ys m n x y = omega (arith, length-append xs ys)

-- bytes take at most twenty more in a field
bytes_size : (k : ℕ) (bytes : List ℕ) (n : ℕ) → length bytes ≤ n → length (bytes_field k bytes) ≤ 20 + n
bytes_size k [] n most = omega arith
bytes_size k (b ∷ bytes) n most = omega (arith, most, delimited_size k (b ∷ bytes))

-- and so does what has them
within : (k : ℕ) (bytes : List ℕ) (n : ℕ) → length bytes ≤ n → length (delimited k bytes) ≤ 20 + n
within k bytes n most = omega (arith, most, delimited_size k bytes)

-- a number takes at most twenty
number_within : (k n : ℕ) → length (number_field k n) ≤ 20
number_within k n = number_size k n

-- one that stands alone
alone : (xs : List ℕ) (n : ℕ) → length xs ≤ n → length (xs ++ []) ≤ n
alone xs n most = omega (arith, most, length-append xs [])

-- a write of one mutation of short bytes
pub mutation_short : (kind encoding : ℤ) (key bytes : List ℕ) → length key ≤ 100 → length bytes ≤ 100 → IsShort (mutation kind key bytes encoding)
mutation_short kind encoding key bytes short_key short_bytes =
    let value = bytes_field 1 bytes ++ number_field 2 (unsigned encoding) in
    let front = bytes_field 1 key ++ delimited 2 value in
    let spelled = (front ++ number_field 3 (unsigned kind)) ++ number_field 4 0 in
    let value_size : length value ≤ 120 + 20 = both (bytes_field 1 bytes) (number_field 2 (unsigned encoding)) 120 20 (bytes_size 1 bytes 100 short_bytes) (number_within 2 (unsigned encoding)) in
    let front_size : length front ≤ 120 + 160 = both (bytes_field 1 key) (delimited 2 value) 120 160 (bytes_size 1 key 100 short_key) (within 2 value 140 value_size) in
    let kind_size : length (front ++ number_field 3 (unsigned kind)) ≤ 280 + 20 = both front (number_field 3 (unsigned kind)) 280 20 front_size (number_within 3 (unsigned kind)) in
    let size : length spelled ≤ 300 + 20 = both (front ++ number_field 3 (unsigned kind)) (number_field 4 0) 300 20 kind_size (number_within 4 0) in
    let one : length (delimited 2 spelled ++ []) ≤ 340 = alone (delimited 2 spelled) 340 (within 2 spelled 320 size) in
    let all : length ((delimited 2 spelled ++ []) ++ []) ≤ 340 = alone (delimited 2 spelled ++ []) 340 one in
    record { most = omega (arith, all) }

-- a write of one message of a short payload
pub message_short : (payload : List ℕ) (due : ℕ) → length payload ≤ 100 → IsShort (message payload due)
message_short payload due short =
    let front = bytes_field 1 payload ++ number_field 2 due in
    let spelled = (front ++ []) ++ [] in
    let front_size : length front ≤ 120 + 20 = both (bytes_field 1 payload) (number_field 2 due) 120 20 (bytes_size 1 payload 100 short) (number_within 2 due) in
    let size : length spelled ≤ 140 = alone (front ++ []) 140 (alone front 140 front_size) in
    let one : length (delimited 3 spelled ++ []) ≤ 160 = alone (delimited 3 spelled) 160 (within 3 spelled 140 size) in
    record { most = omega (arith, one) }

-- a read of one short key
pub entry_short : (key : List ℕ) → length key ≤ 100 → IsShort (entry key)
entry_short key short =
    let end = key ++ 0 ∷ [] in
    let end_size : length end ≤ 100 + 1 = both key (0 ∷ []) 100 1 short (omega arith) in
    let keys = bytes_field 1 key ++ bytes_field 2 end in
    let keys_size : length keys ≤ 120 + 121 = both (bytes_field 1 key) (bytes_field 2 end) 120 121 (bytes_size 1 key 100 short) (bytes_size 2 end 101 end_size) in
    let limited : length (keys ++ number_field 3 1) ≤ 241 + 20 = both keys (number_field 3 1) 241 20 keys_size (number_within 3 1) in
    let spelled = (keys ++ number_field 3 1) ++ number_field 4 (flag false) in
    let size : length spelled ≤ 261 + 20 = both (keys ++ number_field 3 1) (number_field 4 (flag false)) 261 20 limited (number_within 4 (flag false)) in
    let one : length (delimited 1 spelled ++ []) ≤ 301 = alone (delimited 1 spelled) 301 (within 1 spelled 281 size) in
    record { most = omega (arith, one) }

-- ---- the six of a group

pub item_short : (g x : ℕ) → IsShort (item_step g x).ask
item_short g x = mutation_short (pos 1) (pos 3) (item_key g) (numbers_after 8 x) (omega (arith, item_key_size g)) (omega (arith, numbers_size 8 x))

pub sum_short : (g : ℕ) → IsShort (sum_step g).ask
sum_short g = mutation_short (pos 3) (pos 2) (sum_key g) (to_le_bytes w64 1) (omega (arith, sum_key_size g)) (omega arith)

pub read_short : (g : ℕ) → IsShort (entry (item_key g))
read_short g = entry_short (item_key g) (omega (arith, item_key_size g))

pub enqueued_short : (g x : ℕ) → IsShort (message_step g x).ask
enqueued_short g x = message_short (numbers_after 1 x) (1000 + g) (omega (arith, numbers_size 1 x))

pub take_short : IsShort ask.Take
take_short = record { most = omega arith }

pub settle_short : (commit : ℕ) → IsShort (handled commit)
settle_short commit = record { most = omega arith }
