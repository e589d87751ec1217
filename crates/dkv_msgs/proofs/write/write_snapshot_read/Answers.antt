use Rattle.std.proofs.Common.{◌≡◌, rules}
use Rattle.dkv_msgs.specs.Spellings.{spell_ranges}
use Rattle.dkv_msgs.specs.Fits.{ReadFits}
use Rattle.dkv_msgs.specs.Readings.{reads_snapshot_read}
use Rattle.dkv_msgs.proofs.BackMessages.{written_back, read_again}
use Rattle.dkv_msgs.proofs.write.write_snapshot_read.Goals as goal

pub returns-clause-back : goal.returns-clause-back
returns-clause-back c =
    let is : c.finish.result ≡ spell_ranges c.args.message.now.ranges = search rules in
    let fits : ReadFits c.args.message.now = search rules in
    written_back reads_snapshot_read (spell_ranges c.args.message.now.ranges) c.finish.result c.args.message.now is c.finish.ensures.held (read_again c.args.message.now fits)
