-- What a walk found, without a copy.
--     entries_of found      the entries
use Rattle.std.specs.Prelude.{List, map}
use Rattle.std.specs.Borrow.{Bor}
use Rattle.dkv_base.specs.declared.types.Entry.{Entry}

-- the entries that were found
abbrev pub entries_of : List (Bor Entry) → List Entry
entries_of found = map (λ e. e.now) found
