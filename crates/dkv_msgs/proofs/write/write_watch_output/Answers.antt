use Rattle.std.proofs.Common.{◌≡◌, rules}
use Rattle.dkv_msgs.specs.Spellings.{spell_watch_output}
use Rattle.dkv_msgs.specs.Fits.{WatchOutputFits}
use Rattle.dkv_msgs.specs.Readings.{reads_watch_output}
use Rattle.dkv_msgs.proofs.BackMessages.{written_back, watch_output_again}
use Rattle.dkv_msgs.proofs.write.write_watch_output.Goals as goal

pub returns-clause-back : goal.returns-clause-back
returns-clause-back c =
    let is : c.finish.result ≡ spell_watch_output c.args.message.now = search rules in
    let fits : WatchOutputFits c.args.message.now = search rules in
    written_back reads_watch_output (spell_watch_output c.args.message.now) c.finish.result c.args.message.now is c.finish.ensures.held (watch_output_again c.args.message.now fits)
