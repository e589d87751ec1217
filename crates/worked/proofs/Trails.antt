-- Trails and commits that may be, and some that may not.
use Rattle.std.proofs.Common.{ℕ, ◌≡◌, refl, List, [], ◌∷◌, true, false}
use Rattle.std.specs.Prelude.{pos, map}
use Rattle.dkv_base.specs.declared.types.Commit.TheVariants as commit
use Rattle.dkv_base.specs.declared.types.Enqueue.{Enqueue}
use Rattle.dkv_base.specs.declared.types.Item.{Item}
use Rattle.dkv_base.specs.declared.types.Item.TheVariants as item
use Rattle.dkv_base.specs.State.{empty_state}
use Rattle.dkv_base.specs.After.{is_legal}
use Rattle.dkv_base.specs.Protobuf.{varint, groups}
use Rattle.dkv_base.specs.Trails.{is_legal_trail, out, weight, mine}
use Rattle.worked.proofs.Words.{id, limit}

abbrev message : ℕ → Enqueue
message deadline = record { payload = []; deadline_ms = pos deadline; undelivered = []; backoff = [] }

-- two messages, the first due at 20 and the second at 10
abbrev wrote : ℕ → Item
wrote at = item.Made (commit.Wrote 1 at (record { checks = []; mutations = []; enqueues = message 20 ∷ message 10 ∷ [] }))

abbrev took : ℕ → ℕ → Item
took at i = item.Took 2 at (id 1 i)

abbrev acked : ℕ → ℕ → Item
acked at i = item.Made (commit.Acked 2 at (id 1 i))

abbrev failed : ℕ → ℕ → Item
failed at i = item.Made (commit.Failed 2 at (id 1 i))

abbrev stop : ℕ → Item
stop at = item.Stop 1 at false

may : List (List Item)
may = (wrote 5 ∷ took 10 1 ∷ acked 10 1 ∷ []) ∷ (wrote 5 ∷ took 10 1 ∷ took 20 0 ∷ failed 30 0 ∷ took 130 0 ∷ []) ∷ (wrote 5 ∷ took 10 1 ∷ stop 10 ∷ acked 12 1 ∷ item.Doubt 1 13 ∷ stop 13 ∷ []) ∷ []

-- the second message is due first; nothing is due at 9; it is out already; it isn't out; moments fall; a stop stands before; a settled message is gone
may_not : List (List Item)
may_not =
    (wrote 5 ∷ took 20 0 ∷ []) ∷ (wrote 5 ∷ took 9 1 ∷ []) ∷ (wrote 5 ∷ took 10 1 ∷ took 10 1 ∷ []) ∷ (wrote 5 ∷ acked 10 1 ∷ [])
    ∷ (wrote 5 ∷ took 10 1 ∷ acked 9 1 ∷ []) ∷ (wrote 5 ∷ stop 5 ∷ wrote 5 ∷ []) ∷ (wrote 5 ∷ stop 5 ∷ took 10 1 ∷ []) ∷ (wrote 5 ∷ took 10 1 ∷ acked 10 1 ∷ failed 10 1 ∷ []) ∷ []

legal_trails : map (is_legal_trail empty_state limit) may ≡ true ∷ true ∷ true ∷ []
unfolding may varint groups
legal_trails = refl

illegal_trails : map (is_legal_trail empty_state limit) may_not ≡ false ∷ false ∷ false ∷ false ∷ false ∷ false ∷ false ∷ false ∷ []
unfolding may_not varint groups
illegal_trails = refl

-- 64 and 13 and 8 for the write, 64 for the take; a settlement isn't refused for its weight
write_beyond_the_limit : map (λ most. is_legal_trail empty_state most (wrote 5 ∷ took 10 1 ∷ acked 10 1 ∷ [])) (148 ∷ 149 ∷ []) ≡ false ∷ true ∷ []
unfolding varint groups
write_beyond_the_limit = refl

weight_of_three_items : weight (wrote 5 ∷ took 10 1 ∷ acked 10 1 ∷ []) ≡ 213
unfolding varint groups
weight_of_three_items = refl

what_is_out : out (wrote 5 ∷ took 10 1 ∷ took 20 0 ∷ failed 30 0 ∷ []) ≡ id 1 1 ∷ []
what_is_out = refl

items_of_one_caller : mine 2 (wrote 5 ∷ took 10 1 ∷ stop 11 ∷ acked 12 1 ∷ []) ≡ took 10 1 ∷ acked 12 1 ∷ []
items_of_one_caller = refl

-- a commit whose moment falls, or is above the last one, isn't legal; nor is an acknowledgement of nothing
illegal_commits : map (is_legal empty_state) (
    (commit.Wrote 1 5 (record { checks = []; mutations = []; enqueues = [] }) ∷ commit.Wrote 1 4 (record { checks = []; mutations = []; enqueues = [] }) ∷ [])
    ∷ (commit.Wrote 1 253370764800001 (record { checks = []; mutations = []; enqueues = [] }) ∷ [])
    ∷ (commit.Acked 1 5 (id 1 0) ∷ [])
    ∷ (commit.Wrote 1 253370764800000 (record { checks = []; mutations = []; enqueues = [] }) ∷ [])
    ∷ []) ≡ false ∷ false ∷ false ∷ true ∷ []
illegal_commits = refl
