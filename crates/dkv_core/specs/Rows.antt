-- What a core sees of its queue.
--     is_above ms m      whether the message's id is above those of all these
--     settled_rows t at rows      the rows after what settles a message, if something does
use Rattle.std.specs.Prelude.{ℕ, Bool, List, Option, if◌then◌else◌}
use Rattle.std.specs.List.{list_all}
use Rattle.std.specs.Option.{option_map_or}
use Rattle.std.specs.Ordering.{is_lt}
use Rattle.dkv_base.specs.declared.types.Message.{Message}
use Rattle.dkv_base.specs.State.{id_cmp}
use Rattle.dkv_queue.specs.declared.row.Row.{Row}
use Rattle.dkv_queue.specs.Rows.{rows_without, failed}
use Rattle.dkv_core.specs.declared.prepared.Settled.{Settled}

-- the message's id is above those of all these messages
abbrev pub is_above : List Message → Message → Bool
is_above ms m = list_all (λ k. is_lt (id_cmp k.id m.id)) ms

-- the rows after what settles one of the messages
abbrev pub settle_row : Settled → ℕ → List Row → List Row
settle_row t at rows = if t.done then rows_without t.id rows else failed t.id at rows

-- if something does
abbrev pub settled_rows : Option Settled → ℕ → List Row → List Row
settled_rows t at rows = option_map_or (λ s. settle_row s at rows) t rows
