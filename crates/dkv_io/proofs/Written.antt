-- Bytes that were written, one piece behind the other.
use Rattle.std.proofs.Common.{ℕ, ◌+◌, ◌≤◌, List, [], ◌++◌, length, take, Option, sym, subst, ◌∙◌, arith}
use Rattle.std.specs.Prelude.{min}
use Rattle.std.specs.Io.KnownBytes.{Appends}
use Rattle.std.proofs.KnownBytes.{Appends-nil, Appends-trans}
use Rattle.std.proofs.lemmas.List.{take-append-le, take_min}
use Rattle.std.proofs.Math.Seq.{take-append-add}
use Rattle.dkv_io.specs.Streams.{AppendsFront}

-- what stays grew by nothing
pub appends_nothing : (held : Option (List ℕ)) → Appends held held []
appends_nothing held = Appends-nil held

-- one piece and then another is both
pub appends_then : (a b c : Option (List ℕ)) (xs ys : List ℕ) → Appends a b xs → Appends b c ys → Appends a c (xs ++ ys)
appends_then a b c xs ys first second = Appends-trans a b c xs ys first second

-- a whole piece and then a front of another is a front of both
pub appends_front_then : (a b c : Option (List ℕ)) (xs ys : List ℕ) → Appends a b xs → AppendsFront b c ys → AppendsFront a c (xs ++ ys)
appends_front_then a b c xs ys first second =
    (length xs + second.0, subst (Appends a c) (sym (take-append-add xs ys second.0)) (appends_then a b c xs (take second.0 ys) first second.1))

-- a front of the first piece is a front of both
pub appends_front_more : (a b : Option (List ℕ)) (xs ys : List ℕ) → AppendsFront a b xs → AppendsFront a b (xs ++ ys)
appends_front_more a b xs ys front =
    let n = min front.0 (length xs) in
    let within : n ≤ length xs = omega arith in
    (n, subst (Appends a b) (sym (take-append-le n xs ys within ∙ take_min front.0 xs)) front.1)
