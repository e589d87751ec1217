-- What a status says: of which end, by which number, in which line.
--     told end, unheard why      the status of a run over frames, and of words that can't be had
--     why_of kind      why words can't be had whose reading ended with an error of this kind
--     Prints status held old new text      a command that ended so printed this text
--     Exits exit old new rose P      the exit status and the error line are those of a status of which P holds
use Rattle.std.specs.Prelude.{◌≡◌, ℕ, ◌⊎◌, List, [], ◌∷◌, ◌++◌, codes, decimal}
use Rattle.std.specs.declared.option.Option.{Option}
use Rattle.std.specs.Io.KnownBytes.{Appends}
use Rattle.std.specs.declared.io.ErrorKind.{ErrorKind}
use Rattle.std.specs.declared.io.ErrorKind.TheVariants.{OutOfMemory}
use Rattle.dkv_io.specs.Streams.{AppendsFront}
use Rattle.dkv_pipe.specs.declared.pipe.PipeEnd.{PipeEnd}
use Rattle.dkv_pipe.specs.declared.pipe.PipeEnd.TheVariants as end
use Rattle.dkv_app.specs.declared.program.NoWords.{NoWords}
use Rattle.dkv_app.specs.declared.program.NoWords.TheVariants as why
use Rattle.dkv_app.specs.declared.status.Status.{Status}
use Rattle.dkv_app.specs.declared.status.Status.TheVariants as status

-- the status of a run over frames
abbrev pub told : PipeEnd → Status
told end.Ok = status.Ok
told end.ReadFault = status.ReadFault
told end.WriteFault = status.WriteFault
told (end.BadFrame at) = status.BadFrame at
told (end.NotBuilt at) = status.NotBuilt at
told end.NoMemory = status.NoMemory

-- the text is printed at Ok, a front of it at WriteFault, and nothing else at any other
abbrev pub Prints : {K : Type 0} → Status → (K → Option (List ℕ)) → K → K → List ℕ → Type 0
Prints status.Ok held old new text = Appends (held old) (held new) text
Prints status.WriteFault held old new text = AppendsFront (held old) (held new) text
Prints _ held old new text = new ≡ old

-- words for which the system has no memory; else one of them isn't text
abbrev pub why_of : ErrorKind → NoWords
why_of OutOfMemory = why.NoMemory
why_of _ = why.NotText

-- the status of words that can't be had: one that isn't text is in no form
abbrev pub unheard : NoWords → Status
unheard why.NotText = status.BadWords
unheard why.NoMemory = status.NoMemory

-- the exit status
abbrev pub number : Status → ℕ
number status.Ok = 0
number status.BadWords = 2
number status.ReadFault = 3
number status.WriteFault = 4
number status.DiskFault = 5
number status.NoDatabase = 6
number (status.Damaged file at) = 7
number (status.BadFrame at) = 8
number status.Exists = 9
number (status.Worn n) = 10
number status.RandomFault = 11
number status.NoMemory = 14
number (status.NotBuilt at) = 15

-- the line on the error output
abbrev pub line : Status → List ℕ
line status.Ok = []
line status.BadWords = codes "bad words" ++ 10 ∷ []
line status.ReadFault = codes "read fault" ++ 10 ∷ []
line status.WriteFault = codes "write fault" ++ 10 ∷ []
line status.DiskFault = codes "disk fault" ++ 10 ∷ []
line status.NoDatabase = codes "no database" ++ 10 ∷ []
line (status.Damaged file at) =
    codes "damaged: file " ++ decimal file ++ codes " at " ++ decimal at ++ 10 ∷ []
line (status.BadFrame at) = codes "bad frame at " ++ decimal at ++ 10 ∷ []
line status.Exists = codes "database exists" ++ 10 ∷ []
line (status.Worn n) = codes "worn at " ++ decimal n ++ 10 ∷ []
line status.RandomFault = codes "random fault" ++ 10 ∷ []
line status.NoMemory = codes "no memory" ++ 10 ∷ []
line (status.NotBuilt at) = codes "not built at " ++ decimal at ++ 10 ∷ []

-- the line is written, or a front of it where the count rose
abbrev pub Lines : Status → Option (List ℕ) → Option (List ℕ) → Type 0 → Type 0
Lines s old new rose = Appends old new (line s) ⊎ (rose × AppendsFront old new (line s))

-- the program ended with a status of which this holds: it exits by its number, and writes its line
pub record Exits (exit : ℕ) (old new : Option (List ℕ)) (rose : Type 0)
    (P : Status → Type 0) : Type 0 where
  pub ended : Status
  pub exits : exit ≡ number ended
  pub writes : Lines ended old new rose
  pub holds : P ended
