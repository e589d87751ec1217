-- What checks, mutations and expiries do.
use Rattle.std.proofs.Common.{◌≡◌, refl, ℕ, List, [], ◌∷◌}
use Rattle.std.specs.Prelude.{ℤ, pos, negsuc, replicate, ◌^◌}
use Rattle.dkv_base.specs.declared.types.Answer.TheVariants as answer
use Rattle.dkv_base.specs.declared.types.Ask.TheVariants as ask
use Rattle.dkv_base.specs.declared.types.AtomicWrite.{AtomicWrite}
use Rattle.dkv_base.specs.declared.types.Commit.TheVariants as commit
use Rattle.dkv_base.specs.declared.types.Step.{Step}
use Rattle.dkv_base.specs.Stamps.{stamp}
use Rattle.dkv_base.specs.State.{empty_state}
use Rattle.dkv_base.specs.After.{after}
use Rattle.dkv_base.specs.Protobuf.{varint, groups}
use Rattle.dkv_base.specs.Replies.{said}
use Rattle.worked.proofs.Words.{key_a, key_b, key_c, value, mutation, sets, deletes, mutates, by_1, told, left, entry, set_a, read_a, one, ones, sums, a_1}

-- what a SET leaves
set_is_stored : after empty_state (commit.Wrote 1 5 set_a ∷ []) ≡
    record { number = 1; moment = 5; entries = entry key_a (0x78 ∷ []) 3 1 0 ∷ []; messages = [] }
set_is_stored = refl

-- a check of the right stamp, and of a wrong one
abbrev set_checked : List ℕ → AtomicWrite
set_checked s = record {
  checks = (record { key = key_a; versionstamp = s }) ∷ (record { key = key_b; versionstamp = [] }) ∷ [];
  mutations = sets key_b [] ∷ [];
  enqueues = [];
}

-- a check asks for the stamp of the entry, and an empty one for no entry
checks_by_stamp : told (by_1 5 (ask.Write set_a) ∷ by_1 5 (ask.Write (set_checked (stamp 2))) ∷ by_1 5 (ask.Write (set_checked (stamp 1))) ∷ by_1 5 (ask.Write (set_checked (stamp 9))) ∷ []) ≡
    said (answer.Written 1) ∷ said (answer.Fails (0 ∷ [])) ∷ said (answer.Written 2) ∷ said (answer.Fails (0 ∷ 1 ∷ [])) ∷ []
unfolding varint groups
checks_by_stamp = refl

-- the last number and one more, and a sum on a text, alone and behind a SET
abbrev steps_summing : List Step
steps_summing =
    by_1 5 (ask.Write (mutates (mutation 1 key_a (value 2 ones) (pos 0) ∷ [])))
    ∷ by_1 5 (ask.Write (mutates (sums key_a ∷ [])))
    ∷ by_1 5 (ask.Write (mutates (sets key_b (0x78 ∷ []) ∷ [])))
    ∷ by_1 5 (ask.Write (mutates (sets key_c (0x78 ∷ []) ∷ sums key_b ∷ [])))
    ∷ []

-- a sum on a text refuses the whole write, by its place
sum_on_a_text_is_refused : told steps_summing ≡ said (answer.Written 1) ∷ said (answer.Written 2) ∷ said (answer.Written 3) ∷ said (answer.NotU64 1) ∷ []
unfolding varint groups
sum_on_a_text_is_refused = refl

-- and the sum before it wrapped to zero
sum_wraps_to_zero : (left steps_summing).state ≡
    record { number = 3; moment = 5; entries = entry key_a (replicate 8 0) 2 2 0 ∷ entry key_b (0x78 ∷ []) 3 3 0 ∷ []; messages = [] }
unfolding varint groups
sum_wraps_to_zero = refl

-- MAX and MIN, and a sum on an absent key
max_min_and_sum : (left (
    by_1 5 (ask.Write (mutates (mutation 4 key_a (value 2 one) (pos 0) ∷ mutation 5 key_b (value 2 ones) (pos 0) ∷ sums key_c ∷ [])))
    ∷ by_1 5 (ask.Write (mutates (mutation 4 key_a (value 2 ones) (pos 0) ∷ mutation 5 key_b (value 2 one) (pos 0) ∷ sums key_c ∷ sums key_c ∷ [])))
    ∷ [])).state.entries ≡
    entry key_a ones 2 2 0 ∷ entry key_b one 2 2 0 ∷ entry key_c (3 ∷ 0 ∷ 0 ∷ 0 ∷ 0 ∷ 0 ∷ 0 ∷ 0 ∷ []) 2 2 0 ∷ []
unfolding varint groups
max_min_and_sum = refl

-- each mutation acts on what those before it left
delete_then_set : (left (by_1 5 (ask.Write set_a) ∷ by_1 5 (ask.Write (mutates (deletes key_a ∷ sets key_a (0x78 ∷ []) ∷ []))) ∷ [])).state.entries ≡
    entry key_a (0x78 ∷ []) 3 2 0 ∷ []
unfolding varint groups
delete_then_set = refl

-- a SET that ends
abbrev set_until : ℤ → Step
set_until expire = by_1 5 (ask.Write (mutates (mutation 1 key_a (value 3 (1 ∷ [])) expire ∷ [])))

-- a read of it
abbrev read_at : ℕ → Step
read_at at = by_1 at (ask.Read read_a)

-- at its last moment it can be seen, at its end it can not, and no moment falls back
ended_entry_is_unseen : told (set_until (pos 100) ∷ read_at 99 ∷ read_at 100 ∷ read_at 50 ∷ []) ≡
    said (answer.Written 1)
    ∷ said (answer.Entries ((entry key_a (1 ∷ []) 3 1 100 ∷ []) ∷ []))
    ∷ said (answer.Entries ([] ∷ []))
    ∷ said (answer.Entries ([] ∷ []))
    ∷ []
unfolding varint groups
ended_entry_is_unseen = refl

-- a negative expiry is none
no_expiry_never_ends : told (set_until (negsuc 0) ∷ read_at (2 ^ 63) ∷ []) ≡
    said (answer.Written 1) ∷ said (answer.Entries ((a_1 ∷ []) ∷ [])) ∷ []
unfolding varint groups
no_expiry_never_ends = refl

-- a SET that has ended takes the key away
ended_set_takes_away : (left (set_until (pos 100) ∷ set_until (pos 5) ∷ [])).state ≡ record { number = 2; moment = 5; entries = []; messages = [] }
unfolding varint groups
ended_set_takes_away = refl
