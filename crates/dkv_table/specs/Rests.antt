-- What a cursor still has to give, in key order.
use Rattle.std.specs.Prelude.{List, ◌++◌}
use Rattle.dkv_base.specs.declared.types.Entry.{Entry}
use Rattle.dkv_table.specs.declared.rest.Rest.{Rest}
use Rattle.dkv_table.specs.Blocks.{joined}

-- the entries, in key order
abbrev pub rest_of : Rest → List Entry
rest_of r = r.front.now ++ joined r.middle.now ++ r.back.now
