-- Words that are options: of one list alone, with one more before them, and how many there may be.
use Rattle.std.proofs.Common.{◌≡◌, ◌∙◌, ℕ, ◌+◌, ◌<◌, ◌≤◌, List, [], ◌∷◌, length, map, codes, Ok, Err, Some, None, true, false, ap, sym, subst, arith, inl, inr, refl}
use Rattle.std.specs.Prelude.{Bool}
use Rattle.std.specs.declared.option.Option.{Option}
use Rattle.std.specs.declared.result.Result.{Result}
use Rattle.dkv_app.specs.declared.command.CommandError.{CommandError}
use Rattle.dkv_app.specs.declared.command.CommandError.TheVariants.{BadWords, NoMemory}
use Rattle.dkv_app.specs.declared.options.Options.{Options}
use Rattle.dkv_app.specs.Commands.{ReadsAs}
use Rattle.dkv_app.specs.Options.{AddsSummary, AddsOption, AreOptions, no_options}
use Rattle.dkv_app.proofs.Answered.{names_differ, unlike}

-- ---- a summary

-- the options behind it, and what it adds to them
abbrev pub AreBehind : List (List ℕ) → Options → Type 0
AreBehind rest all = (others : Options) × AreOptions rest others × AddsSummary others all

-- they are the words of both
pub summary_before : (name : List ℕ) (rest : List (List ℕ)) (all : Options) → name ≡ codes "--summary" → AreBehind rest all → AreOptions (name ∷ rest) all
summary_before name [] all named are = (named, subst (λ (o : Options). AddsSummary o all) are.1 are.2)
summary_before name (value ∷ rest) all named are = inl (are.0, are.1, (named, are.2))

pub behind_summary : (name : List ℕ) (rest : List (List ℕ)) (all : Options) → name ≡ codes "--summary" → AreOptions (name ∷ rest) all → AreBehind rest all
behind_summary name [] all named are = (no_options, refl, are.1)
behind_summary name (value ∷ rest) all named (inl flag) = (flag.0, flag.1, flag.2.1)
behind_summary name (value ∷ rest) all named (inr option) = unlike name value option.0 all named option.2

-- ---- one way alone

-- a summary adds to the same options the same
summary_one : (others a b : Options) → AddsSummary others a → AddsSummary others b → a ≡ b
summary_one others a b one other = one.1 ∙ sym other.1

-- and so does an option with a value
adds_one : (name value : List ℕ) (others a b : Options) → AddsOption name value others a → AddsOption name value others b → a ≡ b
adds_one name value others a b (inl f) (inl g) = f.1.1 ∙ sym g.1.1
adds_one name value others a b (inl f) (inr t) = names_differ name f.0 t.0
adds_one name value others a b (inr t) (inl f) = names_differ name f.0 t.0
adds_one name value others a b (inr t) (inr u) =
    let same : t.1.1 ≡ u.1.1 = t.1.2.number.value ∙ sym u.1.2.number.value in
    t.1.3 ∙ ap (λ (n : ℕ). record others { trail = Some n }) same ∙ sym u.1.3

-- words are options in one way alone
pub are_one : (words : List (List ℕ)) (a b : Options) → AreOptions words a → AreOptions words b → a ≡ b
are_one [] a b is at = is ∙ sym at
are_one (name ∷ []) a b is at = summary_one no_options a b is.1 at.1
are_one (name ∷ value ∷ rest) a b (inl is) (inl at) =
    let same : is.0 ≡ at.0 = are_one (value ∷ rest) is.0 at.0 is.1 at.1 in
    summary_one at.0 a b (subst (λ (o : Options). AddsSummary o a) same is.2.1) at.2.1
are_one (name ∷ value ∷ rest) a b (inl is) (inr at) = unlike name value at.0 b is.2.0 at.2
are_one (name ∷ value ∷ rest) a b (inr is) (inl at) = unlike name value is.0 a at.2.0 is.2
are_one (name ∷ value ∷ rest) a b (inr is) (inr at) =
    let same : is.0 ≡ at.0 = are_one rest is.0 at.0 is.1 at.1 in
    adds_one name value at.0 a b (subst (λ (o : Options). AddsOption name value o a) same is.2) at.2

-- ---- one option more

-- a summary before options
pub one_more_summary : (name : List ℕ) (rest : List (List ℕ)) (others : Options) (answer : Result Options CommandError) → name ≡ codes "--summary" → AreOptions rest others
    → ReadsAs answer (AddsSummary others) → ReadsAs answer (AreOptions (name ∷ rest))
one_more_summary name rest others (Ok all) named are adds = summary_before name rest all named (others, are, adds)
one_more_summary name rest others (Err BadWords) named are adds =
    λ all whole.
    let b = behind_summary name rest all named whole in
    adds all (subst (λ (o : Options). AddsSummary o all) (are_one rest b.0 others b.1 are) b.2)
one_more_summary name rest others (Err NoMemory) named are adds = tt

-- what is no option stays none with a summary before it
pub still_bad_summary : (name : List ℕ) (rest : List (List ℕ)) (why : CommandError) → name ≡ codes "--summary"
    → ReadsAs {T = Options} (Err why) (AreOptions rest) → ReadsAs {T = Options} (Err why) (AreOptions (name ∷ rest))
still_bad_summary name rest BadWords named none = λ all whole. let b = behind_summary name rest all named whole in none b.0 b.1
still_bad_summary name rest NoMemory named none = tt

-- one option with a value before options
pub one_more_option : (name value : List ℕ) (rest : List (List ℕ)) (others : Options) (answer : Result Options CommandError) → (name ≡ codes "--summary" → ⊥) → AreOptions rest others
    → ReadsAs answer (AddsOption name value others) → ReadsAs answer (AreOptions (name ∷ value ∷ rest))
one_more_option name value rest others (Ok all) unnamed are adds = inr (others, are, adds)
one_more_option name value rest others (Err BadWords) unnamed are adds = λ all whole. no_more all whole
  where
    no_more : (all : Options) → AreOptions (name ∷ value ∷ rest) all → ⊥
    no_more all (inl flag) = unnamed flag.2.0
    no_more all (inr option) = adds all (subst (λ (o : Options). AddsOption name value o all) (are_one rest option.0 others option.1 are) option.2)
one_more_option name value rest others (Err NoMemory) unnamed are adds = tt

-- what is no option stays none with one more before it
pub still_bad : (name value : List ℕ) (rest : List (List ℕ)) (why : CommandError) → (name ≡ codes "--summary" → ⊥)
    → ReadsAs {T = Options} (Err why) (AreOptions rest) → ReadsAs {T = Options} (Err why) (AreOptions (name ∷ value ∷ rest))
still_bad name value rest BadWords unnamed none = λ all whole. no_more all whole
  where
    no_more : (all : Options) → AreOptions (name ∷ value ∷ rest) all → ⊥
    no_more all (inl flag) = unnamed flag.2.0
    no_more all (inr option) = none option.0 option.1
still_bad name value rest NoMemory unnamed none = tt

-- the name of an option with a value is none by itself
pub value_missing : (name : List ℕ) → (name ≡ codes "--summary" → ⊥) → (all : Options) → AreOptions (name ∷ []) all → ⊥
value_missing name unnamed all are = unnamed are.0

-- ---- words of a list

-- the first two of them, and those behind
pub two_words : {X : Type 0} (f : X → List ℕ) (words behind rest : List X) (name value : X) → words ≡ name ∷ behind → behind ≡ value ∷ rest
    → map f words ≡ f name ∷ f value ∷ map f rest
two_words f words behind rest name value is also = ap (map f) is ∙ ap (λ (l : List _). f name ∷ map f l) also

-- ---- how many

-- the words of an option with a value
abbrev pub two_if : {X : Type 0} → Option X → ℕ
two_if (Some x) = 2
two_if None = 0

-- the word of a summary
abbrev pub one_if : Bool → ℕ
one_if true = 1
one_if false = 0

-- and those of options
abbrev pub words_of : Options → ℕ
words_of o = two_if o.folder + two_if o.trail + one_if o.summary

summary_adds : (others all : Options) → AddsSummary others all → words_of all ≡ words_of others + 1
summary_adds others all adds =
    let all_are : words_of all ≡ two_if others.folder + two_if others.trail + 1 = ap words_of adds.1 in
    let none : one_if others.summary ≡ 0 = ap one_if adds.0 in
    omega (arith, all_are, none)

option_adds : (name value : List ℕ) (others all : Options) → AddsOption name value others all → words_of all ≡ words_of others + 2
option_adds name value others all (inl folder) =
    let all_are : words_of all ≡ 2 + two_if others.trail + one_if others.summary = ap words_of folder.1.1 in
    let none : two_if others.folder ≡ 0 = ap (λ (f : Option (List ℕ)). two_if f) folder.1.0 in
    omega (arith, all_are, none)
option_adds name value others all (inr trail) =
    let all_are : words_of all ≡ two_if others.folder + 2 + one_if others.summary = ap words_of trail.1.3 in
    let none : two_if others.trail ≡ 0 = ap (λ (t : Option ℕ). two_if t) trail.1.0 in
    omega (arith, all_are, none)

are_many : (words : List (List ℕ)) (all : Options) → AreOptions words all → length words ≡ words_of all
are_many [] all are = sym (ap words_of are)
are_many (name ∷ []) all are = omega (arith, summary_adds no_options all are.1)
are_many (name ∷ value ∷ rest) all (inl flag) = omega (arith, are_many (value ∷ rest) flag.0 flag.1, summary_adds flag.0 all flag.2.1)
are_many (name ∷ value ∷ rest) all (inr option) = omega (arith, are_many rest option.0 option.1, option_adds name value option.0 all option.2)

at_most_two : {X : Type 0} (o : Option X) → two_if o ≤ 2
at_most_two (Some x) = omega arith
at_most_two None = omega arith

at_most_one : (b : Bool) → one_if b ≤ 1
at_most_one true = omega arith
at_most_one false = omega arith

-- options are at most five words
pub few_words : (words : List (List ℕ)) (all : Options) → AreOptions words all → length words ≤ 5
few_words words all are = omega (arith, are_many words all are, at_most_two all.folder, at_most_two all.trail, at_most_one all.summary)
