use Rattle.std.proofs.Common.{◌≡◌, rules}
use Rattle.dkv_msgs.specs.Spellings.{spell_atomic_write_output}
use Rattle.dkv_msgs.specs.Fits.{WriteOutputFits}
use Rattle.dkv_msgs.specs.Readings.{reads_atomic_write_output}
use Rattle.dkv_msgs.proofs.BackMessages.{written_back, write_output_again}
use Rattle.dkv_msgs.proofs.write.write_atomic_write_output.Goals as goal

pub returns-clause-back : goal.returns-clause-back
returns-clause-back c =
    let is : c.finish.result ≡ spell_atomic_write_output c.args.message.now = search rules in
    let fits : WriteOutputFits c.args.message.now = search rules in
    written_back reads_atomic_write_output (spell_atomic_write_output c.args.message.now) c.finish.result c.args.message.now is c.finish.ensures.held (write_output_again c.args.message.now fits)
