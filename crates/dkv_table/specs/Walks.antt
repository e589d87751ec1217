-- What a walk over the entries gives.
--     walked start end reverse es      the entries of the range, up or down
use Rattle.std.specs.Prelude.{ℕ, Bool, List, filter}
use Rattle.dkv_base.specs.declared.types.Entry.{Entry}
use Rattle.dkv_base.specs.State.{is_between}
use Rattle.dkv_base.specs.Replies.{turned}

-- the entries of a range, up or down
abbrev pub walked : List ℕ → List ℕ → Bool → List Entry → List Entry
walked start end reverse es = turned reverse (filter (λ e. is_between start end e.key) es)
