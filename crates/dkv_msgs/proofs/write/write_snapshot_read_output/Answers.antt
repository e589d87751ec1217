use Rattle.std.proofs.Common.{◌≡◌, rules}
use Rattle.dkv_msgs.specs.Spellings.{spell_snapshot_read_output}
use Rattle.dkv_msgs.specs.Fits.{ReadOutputFits}
use Rattle.dkv_msgs.specs.Readings.{reads_snapshot_read_output}
use Rattle.dkv_msgs.proofs.BackMessages.{written_back, read_output_again}
use Rattle.dkv_msgs.proofs.write.write_snapshot_read_output.Goals as goal

pub returns-clause-back : goal.returns-clause-back
returns-clause-back c =
    let is : c.finish.result ≡ spell_snapshot_read_output c.args.message.now = search rules in
    let fits : ReadOutputFits c.args.message.now = search rules in
    written_back reads_snapshot_read_output (spell_snapshot_read_output c.args.message.now) c.finish.result c.args.message.now is c.finish.ensures.held (read_output_again c.args.message.now fits)
