-- What a walk over the messages of a queue still has to give.
--     is_later last m      the message's id is above the last one
--     later last ms      the messages with such ids
use Rattle.std.specs.Prelude.{Bool, true, List, filter, Option}
use Rattle.std.specs.Option.{option_map_or}
use Rattle.std.specs.Ordering.{is_lt}
use Rattle.dkv_base.specs.declared.types.Message.{Message}
use Rattle.dkv_base.specs.declared.types.MsgId.{MsgId}
use Rattle.dkv_base.specs.State.{id_cmp}

-- its id is above the last one, if there was one
abbrev pub is_later : Option MsgId → Message → Bool
is_later last m = option_map_or (λ i. is_lt (id_cmp i m.id)) last true

-- the messages with such ids
abbrev pub later : Option MsgId → List Message → List Message
later last ms = filter (is_later last) ms
