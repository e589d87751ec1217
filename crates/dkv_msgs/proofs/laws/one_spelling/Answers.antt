use Rattle.dkv_msgs.specs.Spellings.{spell_ranges, spell_keys, spell_snapshot_read_output, spell_atomic_write_output, spell_watch_output}
use Rattle.dkv_base.specs.Spelling.{spell_write}
use Rattle.dkv_msgs.specs.Readings.{reads_snapshot_read, reads_snapshot_read_output, reads_atomic_write, reads_atomic_write_output, reads_watch, reads_watch_output}
use Rattle.dkv_msgs.proofs.BackMessages.{one_message, read_again, read_output_again, write_again, write_output_again, watch_again, watch_output_again}
use Rattle.dkv_msgs.proofs.laws.one_spelling.Goals as goal

pub returns-clause-read : goal.returns-clause-read
returns-clause-read c = λ m n fits fits' held same. one_message reads_snapshot_read (spell_ranges m.ranges) (spell_ranges n.ranges) m n held same (read_again m fits) (read_again n fits')

pub returns-clause-read_output : goal.returns-clause-read_output
returns-clause-read_output c = λ m n fits fits' held same. one_message reads_snapshot_read_output (spell_snapshot_read_output m) (spell_snapshot_read_output n) m n held same (read_output_again m fits) (read_output_again n fits')

pub returns-clause-write : goal.returns-clause-write
returns-clause-write c = λ m n fits fits' held same. one_message reads_atomic_write (spell_write m) (spell_write n) m n held same (write_again m fits) (write_again n fits')

pub returns-clause-write_output : goal.returns-clause-write_output
returns-clause-write_output c = λ m n fits fits' held same. one_message reads_atomic_write_output (spell_atomic_write_output m) (spell_atomic_write_output n) m n held same (write_output_again m fits) (write_output_again n fits')

pub returns-clause-watch : goal.returns-clause-watch
returns-clause-watch c = λ m n fits fits' held same. one_message reads_watch (spell_keys m.keys) (spell_keys n.keys) m n held same (watch_again m) (watch_again n)

pub returns-clause-watch_output : goal.returns-clause-watch_output
returns-clause-watch_output c = λ m n fits fits' held same. one_message reads_watch_output (spell_watch_output m) (spell_watch_output n) m n held same (watch_output_again m fits) (watch_output_again n fits')
