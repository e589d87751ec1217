-- Pieces of bytes, one behind the other.
use Rattle.std.proofs.Common.{◌≡◌, ℕ, List, [], ◌∷◌, ◌++◌, codes, append_assoc}

-- the pieces of the line of damage
pub damaged_line : (file at : List ℕ) → codes "damaged: file " ++ (file ++ (codes " at " ++ (at ++ (10 ∷ [] ++ [])))) ≡ codes "damaged: file " ++ file ++ codes " at " ++ at ++ 10 ∷ []
damaged_line file at = simp append_assoc

-- three lines in their pieces, where an end of a line and what follows it are one piece
in_lines : (a id c commits e entries m messages end : List ℕ) → a ++ (id ++ ((end ++ c) ++ (commits ++ ((end ++ e) ++ (entries ++ (m ++ (messages ++ end)))))))
    ≡ (a ++ id ++ end) ++ (c ++ commits ++ end) ++ (e ++ entries ++ m ++ messages ++ end)
in_lines a id c commits e entries m messages end = simp append_assoc

-- the pieces of what is printed of a database
pub lines_of_database : (id commits entries messages : List ℕ)
    → codes "database " ++ (id ++ ((10 ∷ codes "commits ") ++ (commits ++ ((10 ∷ codes "entries ") ++ (entries ++ (codes " messages " ++ (messages ++ (10 ∷ [] ++ []))))))))
    ≡ (codes "database " ++ id ++ 10 ∷ []) ++ (codes "commits " ++ commits ++ 10 ∷ []) ++ (codes "entries " ++ entries ++ codes " messages " ++ messages ++ 10 ∷ [])
lines_of_database id commits entries messages = in_lines (codes "database ") id (codes "commits ") commits (codes "entries ") entries (codes " messages ") messages (10 ∷ [])
