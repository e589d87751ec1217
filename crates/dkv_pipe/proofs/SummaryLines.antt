-- The pieces of a summary are its three lines.
use Rattle.std.proofs.Common.{◌≡◌, ℕ, List, [], ◌∷◌, ◌++◌, codes, append_assoc}
use Rattle.std.specs.Prelude.{decimal}
use Rattle.dkv_pipe.specs.Pipe.{counted_lines}

-- an end of a line and what follows it are one piece
in_lines : (f frames end c commits e entries m messages : List ℕ) → f ++ (frames ++ ((end ++ c) ++ (commits ++ ((end ++ e) ++ (entries ++ (m ++ (messages ++ end)))))))
    ≡ f ++ frames ++ end ++ c ++ commits ++ end ++ e ++ entries ++ m ++ messages ++ end
in_lines f frames end c commits e entries m messages = simp append_assoc

pub lines_of_summary : (frames commits entries messages : ℕ)
    → codes "frames " ++ (decimal frames ++ ((10 ∷ codes "commits ") ++ (decimal commits ++ ((10 ∷ codes "entries ") ++ (decimal entries ++ (codes " messages " ++ (decimal messages ++ (10 ∷ [] ++ []))))))))
    ≡ counted_lines frames commits entries messages
lines_of_summary frames commits entries messages =
    in_lines (codes "frames ") (decimal frames) (10 ∷ []) (codes "commits ") (decimal commits) (codes "entries ") (decimal entries) (codes " messages ") (decimal messages)
