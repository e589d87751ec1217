-- The steps of a workload, group by group.
--     group_steps g x      the six steps of group g, whose value and message are made of the numbers behind x
--     steps_of k number      the steps of the first k groups of the workload of a number
use Rattle.std.specs.Prelude.{ℕ, ℤ, zero, suc, pos, ◌+◌, ◌*◌, ◌%◌, true, false, List, [], ◌∷◌, ◌++◌, Some}
use Rattle.std.specs.Int.{w64, to_le_bytes}
use Rattle.dkv_base.specs.declared.encodings.TheConstants.{LE64, BYTES}
use Rattle.dkv_base.specs.declared.kinds.TheConstants.{SET, SUM}
use Rattle.dkv_base.specs.declared.types.Ask.{Ask}
use Rattle.dkv_base.specs.declared.types.Ask.TheVariants as ask
use Rattle.dkv_base.specs.declared.types.Step.{Step}
use Rattle.dkv_generate.specs.declared.sizes.TheConstants.{CALLERS, FIRST_MOMENT, VALUE_NUMBERS, MESSAGE_NUMBERS, GROUP_NUMBERS, GROUP_COMMITS}
use Rattle.dkv_generate.specs.Keys.{item_key, sum_key}
use Rattle.dkv_generate.specs.Numbers.{number_after, numbers_after}

-- ---- what is asked

-- a write of one mutation without an expiry, of this kind
abbrev pub mutation : ℤ → List ℕ → List ℕ → ℤ → Ask
mutation kind key bytes encoding = ask.Write (record {
  checks = [];
  mutations = record { key = key; value = Some (record { bytes = bytes; encoding = encoding }); kind = kind; expire_at_ms = pos 0 } ∷ [];
  enqueues = [];
})

-- a write of one message, which is due at this moment and is lost where its delivery fails for good
abbrev pub message : List ℕ → ℕ → Ask
message payload due = ask.Write (record {
  checks = [];
  mutations = [];
  enqueues = record { payload = payload; deadline_ms = pos due; undelivered = []; backoff = [] } ∷ [];
})

-- a read of the entry of one key
abbrev pub entry : List ℕ → Ask
entry key = ask.Read (record { start = key; end = key ++ 0 ∷ []; limit = pos 1; reverse = false } ∷ [])

-- that the first message of a commit was handled
abbrev pub handled : ℕ → Ask
handled commit = ask.Settle (record { commit = commit; index = 0 }) true

-- ---- a group

-- by a caller from 1 to 7, each group a millisecond later than the one before
abbrev pub step : ℕ → Ask → Step
step g a = record { who = 1 + g % CALLERS; at = FIRST_MOMENT + g; ask = a }

-- an item is set to the next eight numbers
abbrev pub item_step : ℕ → ℕ → Step
item_step g x = step g (mutation SET (item_key g) (numbers_after VALUE_NUMBERS x) BYTES)

-- 1 is added to a sum
abbrev pub sum_step : ℕ → Step
sum_step g = step g (mutation SUM (sum_key g) (to_le_bytes w64 1) LE64)

-- a message of the next number is due at once
abbrev pub message_step : ℕ → ℕ → Step
message_step g x = step g (message (numbers_after MESSAGE_NUMBERS x) (FIRST_MOMENT + g))

-- it is taken and acknowledged: a group makes four commits, and the message is of its third
abbrev pub settle_step : ℕ → Step
settle_step g = step g (handled (GROUP_COMMITS * g + 3))

-- the item that was set is read before the message is enqueued
abbrev pub group_steps : ℕ → ℕ → List Step
group_steps g x =
    item_step g x
    ∷ sum_step g
    ∷ step g (entry (item_key g))
    ∷ message_step g (number_after VALUE_NUMBERS x)
    ∷ step g ask.Take
    ∷ settle_step g
    ∷ []

-- ---- the workload

-- each group goes on behind the numbers of those before it
unfoldable pub steps_of : ℕ → ℕ → List Step
steps_of zero number = []
steps_of (suc g) number = steps_of g number ++ group_steps g (number_after (GROUP_NUMBERS * g) number)
