-- The keys of a workload: each is a text and a number, as FoundationDB's tuple layer spells them.
use Rattle.std.specs.Prelude.{ℕ, ◌/◌, ◌%◌, ◌==◌, nat_lt, if◌then◌else◌, false, List, [], ◌∷◌, codes}
use Rattle.dkv_key.specs.declared.part.Part.TheVariants as part
use Rattle.dkv_key.specs.Parts.{key}
use Rattle.dkv_generate.specs.declared.sizes.TheConstants.{ITEMS, SUMS}

-- a number below 65,536 in as few bytes as hold it, greatest first
abbrev pub magnitude : ℕ → List ℕ
magnitude n = if n == 0 then [] else if nat_lt n 256 then n ∷ [] else n / 256 ∷ n % 256 ∷ []

-- the key of a text and such a number
abbrev pub numbered_key : List ℕ → ℕ → List ℕ
numbered_key text n = key (part.Text text ∷ part.Int false (magnitude n) ∷ [])

-- group g sets one of a thousand items
abbrev pub item_key : ℕ → List ℕ
item_key g = numbered_key (codes "item") (g % ITEMS)

-- and adds to one of ten sums
abbrev pub sum_key : ℕ → List ℕ
sum_key g = numbered_key (codes "sum") (g % SUMS)
