use Rattle.dkv_app.proofs.CommandWords.{bad_words, has_trail}
use Rattle.dkv_app.proofs.Commanded.{runs_command, runs_none, runs_unheard}
use Rattle.dkv_app.proofs.top.run_words.Goals as goal

pub run_command-requires-clause-folder : goal.run_command-requires-clause-folder
run_command-requires-clause-folder g c = λ folder. c.requires (c.in-Ok.command, c.in-Ok.ensures, folder)

pub run_command-requires-clause-trail : goal.run_command-requires-clause-trail
run_command-requires-clause-trail g c = has_trail c.in-Ok.command _ c.in-Ok.ensures

pub returns-in-Ok : goal.returns-in-Ok
returns-in-Ok g c = runs_command _ _ _ _ _ _ _ _ _ _ _ _ _ c.in-Ok.command _ _ _ _ _ _ _ _ _ c.in-Ok.ensures c.run_command.ensures

pub returns-in-Err-BadWords : goal.returns-in-Err-BadWords
returns-in-Err-BadWords g c = runs_none _ _ _ _ _ _ _ _ _ _ _ _ _ _ _ _ _ (bad_words _ c.in-Err-BadWords.field-0 c.in-Err-BadWords.field-0-is c.in-Err-BadWords.ensures)

pub returns-in-Err-NoMemory : goal.returns-in-Err-NoMemory
returns-in-Err-NoMemory g c = runs_unheard _ _ _ _ _ _ _ _ _ _ _ _ _ _ _ _ _ c.requires
