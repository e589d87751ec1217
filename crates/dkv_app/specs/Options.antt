-- The options of a command: in any order, each at most once, its value the next word. A summary has no value.
--     IsNumber text n, IsTrail text n      a word that is a number; the greatest weight of a trail
--     AddsOption name value others all, AddsFlag name others all      an option before others, with a value and without one
--     AreOptions words all      words that are options
use Rattle.std.specs.Prelude.{◌≡◌, ◌⊎◌, ℕ, ◌≤◌, ◌<◌, ◌^◌, true, false, List, [], ◌∷◌, length, codes, Some, None}
use Rattle.std.specs.Str.Parse.{IsNumeral, digits_value}
use Rattle.dkv_app.specs.declared.options.TheConstants.{MIN_TRAIL, MAX_TRAIL, MAX_DIGITS}
use Rattle.dkv_app.specs.declared.options.Options.{Options}

-- one to twenty decimal digits without a sign, and the number that they write, which 64 bits hold
pub record IsNumber (text : List ℕ) (n : ℕ) : Type 0 where
  pub digits : IsNumeral 10 text
  pub most : length text ≤ MAX_DIGITS
  pub value : n ≡ digits_value 10 text
  pub fits : n < 2 ^ 64

-- the greatest weight of a trail, in bytes
pub record IsTrail (text : List ℕ) (n : ℕ) : Type 0 where
  pub number : IsNumber text n
  pub least : MIN_TRAIL ≤ n
  pub most : n ≤ MAX_TRAIL

-- no option
abbrev pub no_options : Options
no_options = record { folder = None; trail = None; summary = false }

-- a folder before options that name none
abbrev pub AddsFolder : List ℕ → Options → Options → Type 0
AddsFolder value others all = (others.folder ≡ None) × (all ≡ record others { folder = Some value })

-- a trail's weight before options that name none
abbrev pub AddsTrail : List ℕ → Options → Options → Type 0
AddsTrail value others all =
    (others.trail ≡ None) × (n : ℕ) × IsTrail value n × (all ≡ record others { trail = Some n })

-- a summary before options that want none
abbrev pub AddsSummary : Options → Options → Type 0
AddsSummary others all = (others.summary ≡ false) × (all ≡ record others { summary = true })

-- an option with a value, by its name
abbrev pub AddsOption : List ℕ → List ℕ → Options → Options → Type 0
AddsOption name value others all =
    ((name ≡ codes "--folder") × AddsFolder value others all)
    ⊎ ((name ≡ codes "--trail") × AddsTrail value others all)

-- one without a value
abbrev pub AddsFlag : List ℕ → Options → Options → Type 0
AddsFlag name others all = (name ≡ codes "--summary") × AddsSummary others all

-- words that are options
abbrev pub AreOptions : List (List ℕ) → Options → Type 0
AreOptions [] all = all ≡ no_options
AreOptions (name ∷ []) all = AddsFlag name no_options all
AreOptions (name ∷ value ∷ rest) all =
    ((others : Options) × AreOptions (value ∷ rest) others × AddsFlag name others all)
    ⊎ ((others : Options) × AreOptions rest others × AddsOption name value others all)
