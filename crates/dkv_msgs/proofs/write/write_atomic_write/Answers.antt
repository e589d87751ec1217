use Rattle.std.proofs.Common.{◌≡◌, rules}
use Rattle.dkv_base.specs.Spelling.{spell_write}
use Rattle.dkv_msgs.specs.Fits.{WriteFits}
use Rattle.dkv_msgs.specs.Readings.{reads_atomic_write}
use Rattle.dkv_msgs.proofs.BackMessages.{written_back, write_again}
use Rattle.dkv_msgs.proofs.write.write_atomic_write.Goals as goal

pub returns-clause-back : goal.returns-clause-back
returns-clause-back c =
    let is : c.finish.result ≡ spell_write c.args.message.now = search rules in
    let fits : WriteFits c.args.message.now = search rules in
    written_back reads_atomic_write (spell_write c.args.message.now) c.finish.result c.args.message.now is c.finish.ensures.held (write_again c.args.message.now fits)
