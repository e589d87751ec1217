-- A reply that is written in two pieces.
use Rattle.std.proofs.Common.{◌≡◌, ℕ, List, ◌++◌, Option, Result, Ok, Err, subst}
use Rattle.std.specs.Prelude.{OnErr}
use Rattle.std.specs.Io.KnownBytes.{Appends}
use Rattle.dkv_io.specs.Streams.{AppendsFront}
use Rattle.dkv_io.proofs.Written.{appends_front_more, appends_front_then}

-- a front of the first piece is a front of both
pub part_of_first : (a b : Option (List ℕ)) (xs ys all : List ℕ) → xs ++ ys ≡ all → AppendsFront a b xs → AppendsFront a b all
part_of_first a b xs ys all is front = subst (λ (l : List ℕ). AppendsFront a b l) is (appends_front_more a b xs ys front)

-- the whole first piece, and a front of the second, where its write fails
pub part_of_second : {T E : Type 0} (a b c : Option (List ℕ)) (xs ys all : List ℕ) (result : Result T E) → xs ++ ys ≡ all → Appends a b xs → OnErr result (AppendsFront b c ys) → OnErr result (AppendsFront a c all)
part_of_second a b c xs ys all (Ok done) is first second = tt
part_of_second a b c xs ys all (Err failed) is first second = subst (λ (l : List ℕ). AppendsFront a c l) is (appends_front_then a b c xs ys first second)
