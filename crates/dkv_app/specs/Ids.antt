-- Ids of databases, and the lines that tell them.
--     id_of random      the id that random bytes give
--     created_line id, database_lines id commits entries messages      what `create` and `check` print
use Rattle.std.specs.Prelude.{ℕ, List, [], ◌∷◌, ◌++◌, codes, decimal}
use Rattle.uuid.specs.Parts.{with_version, with_variant}
use Rattle.uuid.specs.Text.{hyphenated_text, lower}
use Rattle.uuid.specs.declared.Variant.TheVariants.{RFC4122}
use Rattle.uuid.specs.declared.Version.TheVariants.{Random}

-- a random UUID, of version 4 (RFC 9562, section 5.4)
abbrev pub id_of : List ℕ → List ℕ
id_of random = with_version (with_variant random RFC4122) Random

-- the text of an id: 8-4-4-4-12 lowercase digits (RFC 9562, section 4)
abbrev pub id_text : List ℕ → List ℕ
id_text id = hyphenated_text lower id

-- what `create` prints
abbrev pub created_line : List ℕ → List ℕ
created_line id = codes "created " ++ id_text id ++ 10 ∷ []

-- the three lines that `check` prints
abbrev pub database_line : List ℕ → List ℕ
database_line id = codes "database " ++ id_text id ++ 10 ∷ []

abbrev pub commits_line : ℕ → List ℕ
commits_line commits = codes "commits " ++ decimal commits ++ 10 ∷ []

abbrev pub contents_line : ℕ → ℕ → List ℕ
contents_line entries messages =
    codes "entries " ++ decimal entries ++ codes " messages " ++ decimal messages ++ 10 ∷ []

abbrev pub database_lines : List ℕ → ℕ → ℕ → ℕ → List ℕ
database_lines id commits entries messages =
    database_line id ++ commits_line commits ++ contents_line entries messages
