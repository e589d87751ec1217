use Rattle.std.proofs.Common.{arith}
use Rattle.dkv_msgs.proofs.BackMessages.{read_again, read_output_again, write_again, write_output_again, watch_again, watch_output_again, numbers_fit}
use Rattle.dkv_msgs.proofs.laws.reads_back.Goals as goal

pub returns-clause-read : goal.returns-clause-read
returns-clause-read c = λ m fits held. read_again m fits (omega (arith, held))

pub returns-clause-read_output : goal.returns-clause-read_output
returns-clause-read_output c = λ m fits held. read_output_again m fits (omega (arith, held))

pub returns-clause-write : goal.returns-clause-write
returns-clause-write c = λ m fits held. write_again m fits (omega (arith, held))

pub returns-clause-write_output : goal.returns-clause-write_output
returns-clause-write_output c = λ m fits held. write_output_again m fits (omega (arith, held))

pub returns-clause-watch : goal.returns-clause-watch
returns-clause-watch c = λ m fits held. watch_again m (omega (arith, held))

pub returns-clause-watch_output : goal.returns-clause-watch_output
returns-clause-watch_output c = λ m fits held. watch_output_again m fits (omega (arith, held))

pub returns-clause-database : goal.returns-clause-database
returns-clause-database c = λ w fits held. write_again w (numbers_fit w fits) (omega (arith, held))
