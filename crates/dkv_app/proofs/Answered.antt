-- What reading words answers.
use Rattle.std.proofs.Common.{◌≡◌, ℕ, List, codes, Ok, Err, get_or, ap, arith, inl, inr}
use Rattle.std.specs.declared.result.Result.{Result}
use Rattle.dkv_app.specs.declared.command.CommandError.{CommandError}
use Rattle.dkv_app.specs.declared.command.CommandError.TheVariants.{BadWords, NoMemory}
use Rattle.dkv_app.specs.declared.options.Options.{Options}
use Rattle.dkv_app.specs.Commands.{ReadsAs}
use Rattle.dkv_app.specs.Options.{AddsFolder, AddsTrail, AddsOption}

-- what has P and what has Q are the same
pub reads_same : {T : Type 0} (answer : Result T CommandError) (P Q : T → Type 0) → ((v : T) → P v → Q v) → ((v : T) → Q v → P v) → ReadsAs answer P → ReadsAs answer Q
reads_same (Ok value) P Q there back reads = there value reads
reads_same (Err BadWords) P Q there back reads = λ value holds. reads value (back value holds)
reads_same (Err NoMemory) P Q there back reads = tt

-- the two names differ
pub names_differ : {X : Type 0} (name : List ℕ) → name ≡ codes "--folder" → name ≡ codes "--trail" → X
names_differ name folder trail =
    let one = ap (λ (l : List ℕ). get_or l 2 0) folder in
    let other = ap (λ (l : List ℕ). get_or l 2 0) trail in
    absurd (omega (arith, one, other))

-- a summary is named otherwise than both
pub unlike : {X : Type 0} (name value : List ℕ) (others all : Options) → name ≡ codes "--summary" → AddsOption name value others all → X
unlike name value others all summary (inl folder) =
    let one = ap (λ (l : List ℕ). get_or l 2 0) summary in
    let other = ap (λ (l : List ℕ). get_or l 2 0) folder.0 in
    absurd (omega (arith, one, other))
unlike name value others all summary (inr trail) =
    let one = ap (λ (l : List ℕ). get_or l 2 0) summary in
    let other = ap (λ (l : List ℕ). get_or l 2 0) trail.0 in
    absurd (omega (arith, one, other))

-- an option of this name adds a folder
pub adds_folder : (name value : List ℕ) (others all : Options) → name ≡ codes "--folder" → AddsOption name value others all → AddsFolder value others all
adds_folder name value others all named (inl folder) = folder.1
adds_folder name value others all named (inr trail) = names_differ name named trail.0

-- an option of this name adds a trail's weight
pub adds_trail : (name value : List ℕ) (others all : Options) → name ≡ codes "--trail" → AddsOption name value others all → AddsTrail value others all
adds_trail name value others all named (inl folder) = names_differ name folder.0 named
adds_trail name value others all named (inr trail) = trail.1
