-- The forms of words, and what reading them answers.
--     IsCommand command words      the words of a command
--     InNoForm words, NamesFolder words      words that name no command; words that name one with a folder
--     ReadsAs answer P      what was read has P, or the words are bad and nothing has P
use Rattle.std.specs.Prelude.{◌≡◌, ◌≤◌, ℕ, ⊤, Bool, List, [], ◌∷◌, codes, Ok, Err, Some, None, unwrap_or}
use Rattle.std.specs.declared.option.Option.{Option}
use Rattle.std.specs.declared.result.Result.{Result}
use Rattle.dkv_app.specs.declared.command.Command.{Command}
use Rattle.dkv_app.specs.declared.command.Command.TheVariants as command
use Rattle.dkv_app.specs.declared.command.CommandError.{CommandError}
use Rattle.dkv_app.specs.declared.command.CommandError.TheVariants.{BadWords, NoMemory}
use Rattle.dkv_app.specs.declared.options.TheConstants.{MAX_TRAIL}
use Rattle.dkv_app.specs.declared.options.Options.{Options}
use Rattle.dkv_app.specs.Options.{AreOptions, IsNumber}

-- `pipe` and options: where no trail's weight is given, it is the greatest
abbrev pub IsPipeOf : List (List ℕ) → Option (List ℕ) → ℕ → Bool → Type 0
IsPipeOf options folder trail summary =
    (given : Options) × AreOptions options given × (folder ≡ given.folder)
    × (trail ≡ unwrap_or given.trail MAX_TRAIL) × (summary ≡ given.summary)

-- `generate` and a number
abbrev pub IsGenerateOf : ℕ → List (List ℕ) → Type 0
IsGenerateOf number words = (text : List ℕ) × (words ≡ codes "generate" ∷ text ∷ []) × IsNumber text number

-- the words of a command
abbrev pub IsCommand : Command → List (List ℕ) → Type 0
IsCommand (command.Create folder) words = words ≡ codes "create" ∷ folder ∷ []
IsCommand (command.Check folder) words = words ≡ codes "check" ∷ folder ∷ []
IsCommand (command.Pipe folder trail summary) words =
    (options : List (List ℕ)) × (words ≡ codes "pipe" ∷ options) × IsPipeOf options folder trail summary
IsCommand (command.Generate number) words = IsGenerateOf number words

-- no command's words
abbrev pub InNoForm : List (List ℕ) → Type 0
InNoForm words = (command : Command) → ¬ (IsCommand command words)

-- a folder is named
abbrev pub HasFolder : Command → Type 0
HasFolder (command.Create folder) = ⊤
HasFolder (command.Check folder) = ⊤
HasFolder (command.Pipe (Some folder) trail summary) = ⊤
HasFolder (command.Pipe None trail summary) = ⊥
HasFolder (command.Generate number) = ⊥

-- the weight of a trail is one that may be asked for
abbrev pub HasTrail : Command → Type 0
HasTrail (command.Create folder) = ⊤
HasTrail (command.Check folder) = ⊤
HasTrail (command.Pipe folder trail summary) = trail ≤ MAX_TRAIL
HasTrail (command.Generate number) = ⊤

-- the words of a command that names a folder
abbrev pub NamesFolder : List (List ℕ) → Type 0
NamesFolder words = (command : Command) × IsCommand command words × HasFolder command

-- P holds of what was read, or the words are bad and P holds of nothing, or memory was wanted
abbrev pub ReadsAs : {T : Type 0} → Result T CommandError → (T → Type 0) → Type 0
ReadsAs (Ok value) P = P value
ReadsAs {T = T} (Err BadWords) P = (value : T) → ¬ (P value)
ReadsAs (Err NoMemory) P = ⊤

-- P holds of what was found, or of nothing
abbrev pub FindsAs : {T : Type 0} → Option T → (T → Type 0) → Type 0
FindsAs (Some value) P = P value
FindsAs {T = T} None P = (value : T) → ¬ (P value)
