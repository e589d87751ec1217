-- Words of the examples: keys, writes and asks, and what a new database answers to them.
use Rattle.std.proofs.Common.{ℕ, List, [], ◌∷◌, ◌++◌, Some, None, Bool, false}
use Rattle.std.specs.Prelude.{ℤ, pos, replicate}
use Rattle.dkv_base.specs.declared.types.Ask.{Ask}
use Rattle.dkv_base.specs.declared.types.AtomicWrite.{AtomicWrite}
use Rattle.dkv_base.specs.declared.types.Enqueue.{Enqueue}
use Rattle.dkv_base.specs.declared.types.Entry.{Entry}
use Rattle.dkv_base.specs.declared.types.MsgId.{MsgId}
use Rattle.dkv_base.specs.declared.types.Mutation.{Mutation}
use Rattle.dkv_base.specs.declared.types.ReadRange.{ReadRange}
use Rattle.dkv_base.specs.declared.types.Step.{Step}
use Rattle.dkv_base.specs.declared.types.Value.{Value}
use Rattle.dkv_base.specs.State.{empty_state}
use Rattle.dkv_base.specs.Replies.{Reply}
use Rattle.dkv_base.specs.Steps.{Situation, opened, replies, situation_after}

-- three keys, in their order
abbrev pub key_a : List ℕ
key_a = 2 ∷ 97 ∷ 0 ∷ []

abbrev pub key_b : List ℕ
key_b = 2 ∷ 98 ∷ 0 ∷ []

abbrev pub key_c : List ℕ
key_c = 2 ∷ 99 ∷ 0 ∷ []

-- a value in this encoding
abbrev pub value : ℕ → List ℕ → Value
value encoding bytes = record { bytes = bytes; encoding = pos encoding }

-- a mutation with a value
abbrev pub mutation : ℕ → List ℕ → Value → ℤ → Mutation
mutation kind key v expire = record { key = key; value = Some v; kind = pos kind; expire_at_ms = expire }

-- SET to bytes
abbrev pub sets : List ℕ → List ℕ → Mutation
sets key bytes = mutation 1 key (value 3 bytes) (pos 0)

-- a DELETE
abbrev pub deletes : List ℕ → Mutation
deletes key = record { key = key; value = None; kind = pos 2; expire_at_ms = pos 0 }

-- a write of mutations alone
abbrev pub mutates : List Mutation → AtomicWrite
mutates ms = record { checks = []; mutations = ms; enqueues = [] }

-- a message of one byte
abbrev pub enqueue : ℕ → List ℕ → ℕ → List (List ℕ) → Enqueue
enqueue payload backoff deadline undelivered = record {
  payload = payload ∷ [];
  deadline_ms = pos deadline;
  undelivered = undelivered;
  backoff = backoff;
}

-- a write of messages alone
abbrev pub enqueues : List Enqueue → AtomicWrite
enqueues qs = record { checks = []; mutations = []; enqueues = qs }

-- what caller 1 asks
abbrev pub by_1 : ℕ → Ask → Step
by_1 at a = record { who = 1; at = at; ask = a }

-- the id of a message
abbrev pub id : ℕ → ℕ → MsgId
id n i = record { commit = n; index = i }

-- a limit on trails that none of the examples passes
abbrev pub limit : ℕ
limit = 268435456

-- the replies on a new database, all to caller 1
abbrev pub told : List Step → List Reply
told steps = replies (opened empty_state limit) steps []

-- what the same steps lead to
abbrev pub left : List Step → Situation
left steps = situation_after (opened empty_state limit) steps []

-- an entry, in this encoding, of commit n
abbrev pub entry : List ℕ → List ℕ → ℕ → ℕ → ℕ → Entry
entry key bytes encoding n expire = record { key = key; bytes = bytes; encoding = pos encoding; commit = n; expire = expire }

-- a range of keys
abbrev pub range : List ℕ → List ℕ → ℕ → Bool → ReadRange
range start end limit down = record { start = start; end = end; limit = pos limit; reverse = down }

-- a text under the key a
abbrev pub set_a : AtomicWrite
set_a = mutates (sets key_a (0x78 ∷ []) ∷ [])

-- a read of that key alone
abbrev pub read_a : List ReadRange
read_a = range key_a (key_a ++ 0 ∷ []) 1 false ∷ []

-- the number 1
abbrev pub one : List ℕ
one = 1 ∷ 0 ∷ 0 ∷ 0 ∷ 0 ∷ 0 ∷ 0 ∷ 0 ∷ []

-- one more
abbrev pub sums : List ℕ → Mutation
sums key = mutation 3 key (value 2 one) (pos 0)

-- the entry of the first commit under each key
abbrev pub a_1 : Entry
a_1 = entry key_a (1 ∷ []) 3 1 0

abbrev pub b_1 : Entry
b_1 = entry key_b (2 ∷ []) 3 1 0

abbrev pub c_1 : Entry
c_1 = entry key_c (3 ∷ []) 3 1 0

-- the last number
abbrev pub ones : List ℕ
ones = replicate 8 0xFF
