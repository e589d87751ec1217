-- Terms that are full, and a disk that refuses.
use Rattle.std.proofs.Common.{◌≡◌, refl, [], ◌∷◌, ◌++◌, true, false}
use Rattle.std.specs.Prelude.{replicate, map}
use Rattle.dkv_base.specs.declared.types.Answer.TheVariants as answer
use Rattle.dkv_base.specs.declared.types.Ask.TheVariants as ask
use Rattle.dkv_base.specs.State.{empty_state}
use Rattle.dkv_base.specs.Protobuf.{varint, groups}
use Rattle.dkv_base.specs.Replies.{said, full, disk_fault}
use Rattle.dkv_base.specs.Steps.{opened, replies}
use Rattle.worked.proofs.Words.{by_1, set_a}

-- 93 a SET: eleven weigh 1,023
full_after_eleven_sets : replies (opened empty_state 1023) (replicate 12 (by_1 5 (ask.Write set_a))) [] ≡
    map (λ n. said (answer.Written n)) (1 ∷ 2 ∷ 3 ∷ 4 ∷ 5 ∷ 6 ∷ 7 ∷ 8 ∷ 9 ∷ 10 ∷ 11 ∷ []) ++ full 1023 1023 ∷ []
unfolding varint groups
full_after_eleven_sets = refl

-- a write that the disk refuses takes no number
marked_write_is_no_commit : replies (opened empty_state 1023) (by_1 5 (ask.Write set_a) ∷ by_1 5 (ask.Write set_a) ∷ by_1 5 (ask.Write set_a) ∷ []) (false ∷ true ∷ []) ≡
    said (answer.Written 1) ∷ disk_fault ∷ said (answer.Written 2) ∷ []
unfolding varint groups
marked_write_is_no_commit = refl
