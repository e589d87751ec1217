use Rattle.dkv_app.proofs.CommandWords.{bad_words, named_folder, there_for}
use Rattle.dkv_app.proofs.here.files_of.Goals as goal

pub returns-in-Ok : goal.returns-in-Ok
returns-in-Ok c = there_for c.files_for.result _ _ (λ names. named_folder _ c.in-Ok.command c.in-Ok.ensures names) c.files_for.ensures

pub returns-in-Err-BadWords : goal.returns-in-Err-BadWords
returns-in-Err-BadWords c = λ names. absurd (bad_words _ c.in-Err-BadWords.field-0 c.in-Err-BadWords.field-0-is c.in-Err-BadWords.ensures names.0 names.1)
