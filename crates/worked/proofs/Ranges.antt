-- Reads of ranges.
use Rattle.std.proofs.Common.{◌≡◌, refl, ℕ, List, [], ◌∷◌, true, false}
use Rattle.dkv_base.specs.declared.types.Answer.TheVariants as answer
use Rattle.dkv_base.specs.declared.types.Ask.TheVariants as ask
use Rattle.dkv_base.specs.declared.codes.Limit.TheVariants as limit
use Rattle.dkv_base.specs.declared.types.Step.{Step}
use Rattle.dkv_base.specs.Protobuf.{varint, groups}
use Rattle.dkv_base.specs.Replies.{said}
use Rattle.worked.proofs.Words.{key_a, key_b, key_c, sets, mutates, by_1, told, range, a_1, b_1, c_1}

-- three keys, out of order
abbrev set_three : Step
set_three = by_1 5 (ask.Write (mutates (sets key_c (3 ∷ []) ∷ sets key_a (1 ∷ []) ∷ sets key_b (2 ∷ []) ∷ [])))

-- below the three keys, and above them
abbrev low : List ℕ
low = 2 ∷ []

abbrev high : List ℕ
high = 3 ∷ []

-- up and down, turned ends, a limit of none, and limits of a thousand and one
ranges_up_and_down : told (set_three
    ∷ by_1 5 (ask.Read (range low high 2 true ∷ range low high 2 false ∷ range high low 5 false ∷ range key_a key_c 5 true ∷ []))
    ∷ by_1 5 (ask.Read (range low high 0 true ∷ []))
    ∷ by_1 5 (ask.Read (range low high 500 true ∷ range low high 500 false ∷ []))
    ∷ by_1 5 (ask.Read (range low high 500 true ∷ range low high 501 false ∷ []))
    ∷ []) ≡
    said (answer.Written 1)
    ∷ said (answer.Entries ((c_1 ∷ b_1 ∷ []) ∷ (a_1 ∷ b_1 ∷ []) ∷ [] ∷ (b_1 ∷ a_1 ∷ []) ∷ []))
    ∷ said (answer.Limit limit.RangeLimit)
    ∷ said (answer.Entries ((c_1 ∷ b_1 ∷ a_1 ∷ []) ∷ (a_1 ∷ b_1 ∷ c_1 ∷ []) ∷ []))
    ∷ said (answer.Limit limit.TooManyEntries)
    ∷ []
unfolding varint groups
ranges_up_and_down = refl
