use Rattle.std.proofs.Common.{◌≡◌, ◌++◌, take}
use Rattle.std.specs.Prelude.{All}
use Rattle.dkv_msgs.specs.Spellings.{all_delimited}
use Rattle.dkv_msgs.proofs.write_fields.add_messages.Given as goal

abbrev pub invariant-loop-message : goal.invariant-loop-message
invariant-loop-message g l = record {
  bytes : l.out.bytes ≡ l.initial.out.bytes ++ all_delimited l.field g.M.Spelled.spelling (take l.message-index l.messages);
  fits : All g.M.Spelled.fits (take l.message-index l.messages);
}
