use Rattle.std.proofs.Common.{◌≡◌, rules}
use Rattle.dkv_msgs.specs.Spellings.{spell_keys}
use Rattle.dkv_msgs.specs.Readings.{reads_watch}
use Rattle.dkv_msgs.proofs.BackMessages.{written_back, watch_again}
use Rattle.dkv_msgs.proofs.write.write_watch.Goals as goal

pub returns-clause-back : goal.returns-clause-back
returns-clause-back c =
    let is : c.finish.result ≡ spell_keys c.args.message.now.keys = search rules in
    written_back reads_watch (spell_keys c.args.message.now.keys) c.finish.result c.args.message.now is c.finish.ensures.held (watch_again c.args.message.now)
