-- Words that are commands.
use Rattle.std.proofs.Common.{◌≡◌, ◌∙◌, ◌≤◌, ℕ, List, [], ◌∷◌, Some, Ok, Err, codes, get_or, drop, ap, sym, subst, arith, inl, inr}
use Rattle.std.specs.Prelude.{Bool, unwrap_or, IfOk, IsSome}
use Rattle.std.specs.declared.option.Option.{Option}
use Rattle.std.specs.declared.result.Result.{Result}
use Rattle.dkv_app.specs.declared.command.Command.{Command}
use Rattle.dkv_app.specs.declared.command.Command.TheVariants as command
use Rattle.dkv_app.specs.declared.command.CommandError.{CommandError}
use Rattle.dkv_app.specs.declared.command.CommandError.TheVariants.{BadWords, NoMemory}
use Rattle.dkv_app.specs.declared.options.Options.{Options}
use Rattle.dkv_app.specs.declared.options.TheConstants.{MAX_TRAIL}
use Rattle.dkv_app.specs.Commands.{ReadsAs, IsCommand, IsPipeOf, HasFolder, HasTrail, InNoForm, NamesFolder}
use Rattle.dkv_app.specs.Options.{AddsOption, AddsSummary, AreOptions, IsNumber, no_options}
use Rattle.dkv_app.proofs.OptionWords.{are_one}

-- words that are no options name no command behind `pipe`
no_pipe : (options : List (List ℕ)) → ((all : Options) → AreOptions options all → ⊥) → (c : Command) → IsCommand c (codes "pipe" ∷ options) → ⊥
no_pipe options none (command.Create folder) is =
    let other = ap (λ (l : List (List ℕ)). get_or (get_or l 0 []) 0 0) is in absurd (omega (arith, other))
no_pipe options none (command.Check folder) is =
    let other = ap (λ (l : List (List ℕ)). get_or (get_or l 0 []) 0 0) is in absurd (omega (arith, other))
no_pipe options none (command.Pipe folder trail summary) is =
    none is.2.0 (subst (λ (l : List (List ℕ)). AreOptions l is.2.0) (sym (ap (λ (l : List (List ℕ)). drop 1 l) is.1)) is.2.1)
no_pipe options none (command.Generate number) is =
    let other = ap (λ (l : List (List ℕ)). get_or (get_or l 0 []) 0 0) is.1 in absurd (omega (arith, other))

-- a word that is no number names no command behind `generate`
no_generate : (texts : List (List ℕ)) → ((text : List ℕ) (n : ℕ) → texts ≡ text ∷ [] → IsNumber text n → ⊥) → (c : Command) → IsCommand c (codes "generate" ∷ texts) → ⊥
no_generate texts none (command.Create folder) is =
    let other = ap (λ (l : List (List ℕ)). get_or (get_or l 0 []) 0 0) is in absurd (omega (arith, other))
no_generate texts none (command.Check folder) is =
    let other = ap (λ (l : List (List ℕ)). get_or (get_or l 0 []) 0 0) is in absurd (omega (arith, other))
no_generate texts none (command.Pipe folder trail summary) is =
    let other = ap (λ (l : List (List ℕ)). get_or (get_or l 0 []) 0 0) is.1 in absurd (omega (arith, other))
no_generate texts none (command.Generate number) is = none is.0 number (ap (λ (l : List (List ℕ)). drop 1 l) is.1) is.2

-- a word that is a number does
pub number_command : (texts : List (List ℕ)) (text : List ℕ) (n : ℕ) → texts ≡ text ∷ [] → IsNumber text n → IsCommand (command.Generate n) (codes "generate" ∷ texts)
number_command texts text n is number = (text, ap (λ (l : List (List ℕ)). codes "generate" ∷ l) is, number)

-- one that is none doesn't
pub no_number_command : (texts : List (List ℕ)) (text : List ℕ) → texts ≡ text ∷ [] → ((n : ℕ) → IsNumber text n → ⊥) → (c : Command) → IsCommand c (codes "generate" ∷ texts) → ⊥
no_number_command texts text is none = no_generate texts (λ other n same number. none n (subst (λ (l : List ℕ). IsNumber l n) (ap (λ (l : List (List ℕ)). get_or l 0 []) (sym same ∙ is)) number))

-- nor do no words, or several
pub no_text_command : (texts : List (List ℕ)) → ((text : List ℕ) → texts ≡ text ∷ [] → ⊥) → (c : Command) → IsCommand c (codes "generate" ∷ texts) → ⊥
no_text_command texts none = no_generate texts (λ text n same number. none text same)

pub pipe_refused : (options : List (List ℕ)) (why : CommandError) → ReadsAs {T = Options} (Err why) (AreOptions options) → ReadsAs {T = Command} (Err why) (λ c. IsCommand c (codes "pipe" ∷ options))
pipe_refused options BadWords none = λ c is. no_pipe options none c is
pipe_refused options NoMemory none = tt

-- a command begins with its name
pub unknown : (name : List ℕ) (rest : List (List ℕ)) → (name ≡ codes "create" → ⊥) → (name ≡ codes "check" → ⊥) → (name ≡ codes "pipe" → ⊥)
    → (name ≡ codes "generate" → ⊥) → (c : Command) → IsCommand c (name ∷ rest) → ⊥
unknown name rest create check pipe generate (command.Create folder) is = create (ap (λ (l : List (List ℕ)). get_or l 0 []) is)
unknown name rest create check pipe generate (command.Check folder) is = check (ap (λ (l : List (List ℕ)). get_or l 0 []) is)
unknown name rest create check pipe generate (command.Pipe folder trail summary) is = pipe (ap (λ (l : List (List ℕ)). get_or l 0 []) is.1)
unknown name rest create check pipe generate (command.Generate number) is = generate (ap (λ (l : List (List ℕ)). get_or l 0 []) is.1)

-- no words are no command
pub nothing : (c : Command) → IsCommand c [] → ⊥
nothing (command.Create folder) is = cc
nothing (command.Check folder) is = cc
nothing (command.Pipe folder trail summary) is = let none = is.1 in cc
nothing (command.Generate number) is = let none = is.1 in cc

-- the same options give the same folder, trail and summary
same_pipe : (options others : List (List ℕ)) (f g : Option (List ℕ)) (t u : ℕ) (p q : Bool) → options ≡ others → IsPipeOf options f t p → IsPipeOf others g u q
    → command.Pipe f t p ≡ command.Pipe g u q
same_pipe options others f g t u p q same one other =
    let again : AreOptions others one.0 = subst (λ (l : List (List ℕ)). AreOptions l one.0) same one.1 in
    let given : one.0 ≡ other.0 = are_one others one.0 other.0 again other.1 in
    let folder : f ≡ g = one.2 ∙ ap (λ (o : Options). o.folder) given ∙ sym other.2 in
    let trail : t ≡ u = one.3 ∙ ap (λ (o : Options). unwrap_or o.trail MAX_TRAIL) given ∙ sym other.3 in
    let summary : p ≡ q = one.4 ∙ ap (λ (o : Options). o.summary) given ∙ sym other.4 in
    cc

-- the same text is one number
same_number : (text other : List ℕ) (n m : ℕ) → text ≡ other → IsNumber text n → IsNumber other m → command.Generate n ≡ command.Generate m
same_number text other n m same one two =
    let again : IsNumber other n = subst (λ (l : List ℕ). IsNumber l n) same one in
    ap (λ (k : ℕ). command.Generate k) (again.value ∙ sym two.value)

-- the second letter of the first word
abbrev second_letter : List (List ℕ) → ℕ
second_letter words = get_or (get_or words 0 []) 1 0

-- words name one command
pub one_command : (c d : Command) (words : List (List ℕ)) → IsCommand c words → IsCommand d words → c ≡ d
one_command (command.Create f) (command.Create g) words c d = ap (λ (l : List (List ℕ)). command.Create (get_or l 1 [])) (sym c ∙ d)
one_command (command.Create f) (command.Check g) words c d =
    let other = ap second_letter (sym c ∙ d) in absurd (omega (arith, other))
one_command (command.Create f) (command.Pipe g u q) words c d =
    let other = ap second_letter (sym c ∙ d.1) in absurd (omega (arith, other))
one_command (command.Check f) (command.Create g) words c d =
    let other = ap second_letter (sym c ∙ d) in absurd (omega (arith, other))
one_command (command.Check f) (command.Check g) words c d = ap (λ (l : List (List ℕ)). command.Check (get_or l 1 [])) (sym c ∙ d)
one_command (command.Check f) (command.Pipe g u q) words c d =
    let other = ap second_letter (sym c ∙ d.1) in absurd (omega (arith, other))
one_command (command.Pipe f t p) (command.Create g) words c d =
    let other = ap second_letter (sym c.1 ∙ d) in absurd (omega (arith, other))
one_command (command.Pipe f t p) (command.Check g) words c d =
    let other = ap second_letter (sym c.1 ∙ d) in absurd (omega (arith, other))
one_command (command.Pipe f t p) (command.Pipe g u q) words c d =
    same_pipe c.0 d.0 f g t u p q (ap (λ (l : List (List ℕ)). drop 1 l) (sym c.1 ∙ d.1)) c.2 d.2
one_command (command.Create f) (command.Generate m) words c d =
    let other = ap second_letter (sym c ∙ d.1) in absurd (omega (arith, other))
one_command (command.Check f) (command.Generate m) words c d =
    let other = ap second_letter (sym c ∙ d.1) in absurd (omega (arith, other))
one_command (command.Pipe f t p) (command.Generate m) words c d =
    let other = ap second_letter (sym c.1 ∙ d.1) in absurd (omega (arith, other))
one_command (command.Generate n) (command.Create g) words c d =
    let other = ap second_letter (sym c.1 ∙ d) in absurd (omega (arith, other))
one_command (command.Generate n) (command.Check g) words c d =
    let other = ap second_letter (sym c.1 ∙ d) in absurd (omega (arith, other))
one_command (command.Generate n) (command.Pipe g u q) words c d =
    let other = ap second_letter (sym c.1 ∙ d.1) in absurd (omega (arith, other))
one_command (command.Generate n) (command.Generate m) words c d =
    same_number c.0 d.0 n m (ap (λ (l : List (List ℕ)). get_or l 1 []) (sym c.1 ∙ d.1)) c.2 d.2

-- one option more leaves it so
within_more : (name value : List ℕ) (others all : Options) → AddsOption name value others all → unwrap_or others.trail MAX_TRAIL ≤ MAX_TRAIL → unwrap_or all.trail MAX_TRAIL ≤ MAX_TRAIL
within_more name value others all (inl folder) within =
    let same : all.trail ≡ others.trail = ap (λ (o : Options). o.trail) folder.1.1 in
    subst (λ (o : Option ℕ). unwrap_or o MAX_TRAIL ≤ MAX_TRAIL) (sym same) within
within_more name value others all (inr trail) within =
    let is : all.trail ≡ Some trail.1.1 = ap (λ (o : Options). o.trail) trail.1.3 in
    subst (λ (o : Option ℕ). unwrap_or o MAX_TRAIL ≤ MAX_TRAIL) (sym is) trail.1.2.most

-- and so does a summary
still_within : (others all : Options) → AddsSummary others all → unwrap_or others.trail MAX_TRAIL ≤ MAX_TRAIL → unwrap_or all.trail MAX_TRAIL ≤ MAX_TRAIL
still_within others all adds within =
    let same : all.trail ≡ others.trail = ap (λ (o : Options). o.trail) adds.1 in
    subst (λ (o : Option ℕ). unwrap_or o MAX_TRAIL ≤ MAX_TRAIL) (sym same) within

-- the weight of a trail among options is one that may be asked for
trail_within : (options : List (List ℕ)) (all : Options) → AreOptions options all → unwrap_or all.trail MAX_TRAIL ≤ MAX_TRAIL
trail_within [] all is = subst (λ (o : Options). unwrap_or o.trail MAX_TRAIL ≤ MAX_TRAIL) (sym is) (omega arith)
trail_within (name ∷ []) all is = still_within no_options all is.1 (omega arith)
trail_within (name ∷ value ∷ rest) all (inl flag) = still_within flag.0 all flag.2.1 (trail_within (value ∷ rest) flag.0 flag.1)
trail_within (name ∷ value ∷ rest) all (inr option) = within_more name value option.0 all option.2 (trail_within rest option.0 option.1)

-- a command's trail is one that may be asked for
pub has_trail : (c : Command) (words : List (List ℕ)) → IsCommand c words → HasTrail c
has_trail (command.Create f) words is = tt
has_trail (command.Check f) words is = tt
has_trail (command.Generate n) words is = tt
has_trail (command.Pipe f t p) words is =
    subst (λ (n : ℕ). n ≤ MAX_TRAIL) (sym is.2.3) (trail_within is.0 is.2.0 is.2.1)

-- the command of words that name a folder has one
pub named_folder : (words : List (List ℕ)) (c : Command) → IsCommand c words → NamesFolder words → HasFolder c
named_folder words c is names = subst (λ (d : Command). HasFolder d) (one_command names.0 c words names.1 is) names.2

-- bad words are in no form
pub bad_words : (words : List (List ℕ)) (why : CommandError) → why ≡ BadWords → ReadsAs {T = Command} (Err why) (λ c. IsCommand c words) → InNoForm words
bad_words words why is reads = subst (λ (e : CommandError). ReadsAs {T = Command} (Err e) (λ c. IsCommand c words)) is reads

-- files that are there for the one are there for the other
pub there_for : {T E : Type 0} (r : Result (Option T) E) (P Q : Type 0) → (Q → P) → IfOk r (λ files. P → IsSome files) → IfOk r (λ files. Q → IsSome files)
there_for (Ok files) P Q so there = λ q. there (so q)
there_for (Err e) P Q so there = tt
