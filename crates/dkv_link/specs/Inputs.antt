-- The bytes that a link in memory gives.
use Rattle.std.specs.Prelude.{ℕ, List, take, drop}
use Rattle.dkv_link.specs.declared.input.Input.{Input}

-- those that were given
abbrev pub passed : Input → List ℕ
passed input = take input.place input.bytes.items

-- those that are to come
abbrev pub to_come : Input → List ℕ
to_come input = drop input.place input.bytes.items
