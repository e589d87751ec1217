-- Commands that did nothing.
use Rattle.std.proofs.Common.{◌≡◌, ℕ, List, Option, length, replicate, refl, inl}
use Rattle.dkv_io.specs.Disks.{stays}
use Rattle.dkv_files.specs.Crashes.{WritesNothing}
use Rattle.dkv_app.specs.declared.status.Status.TheVariants as status
use Rattle.dkv_app.specs.Creating.{Creates}
use Rattle.dkv_app.specs.Statuses.{Prints}

module _ {D : Type 0} (seen : D → Option (List ℕ)) (images : D → List ℕ → Type 0) (moment : D → ℕ) (since : D → ℕ → List ℕ → Type 0) where
  -- nothing is written
  pub nothing_written : (a b : D) → WritesNothing images moment since a b a b
  nothing_written a b = stays a b (λ x y has_x has_y. (has_x, has_y))

  -- no random bytes were had
  pub undrawn_creates : {K : Type 0} (held : K → Option (List ℕ)) (sink : K) (stream stream_end : Option (List ℕ)) (a b : D)
      → Creates seen images moment since status.RandomFault stream stream_end (Prints status.RandomFault held sink sink) a b a b
  undrawn_creates held sink stream stream_end a b = record {
    seed = replicate 16 0;
    secret = replicate 32 0;
    seed_is = refl;
    secret_is = refl;
    drawn = tt;
    line = refl;
    files = record {
      answers = λ fa fb told_a told_b. tt;
      moves = λ fa fb told_a told_b. stays a b (λ x y has_x has_y. inl (has_x, has_y));
      made = λ fa fb told_a told_b. tt;
      unmade = nothing_written a b;
    };
  }

  -- the words wanted memory
  pub unheard_creates : {K : Type 0} (held : K → Option (List ℕ)) (sink : K) (stream stream_end : Option (List ℕ)) (a b : D)
      → Creates seen images moment since status.NoMemory stream stream_end (Prints status.NoMemory held sink sink) a b a b
  unheard_creates held sink stream stream_end a b = record {
    seed = replicate 16 0;
    secret = replicate 32 0;
    seed_is = refl;
    secret_is = refl;
    drawn = tt;
    line = refl;
    files = record {
      answers = λ fa fb told_a told_b. tt;
      moves = λ fa fb told_a told_b. stays a b (λ x y has_x has_y. inl (has_x, has_y));
      made = λ fa fb told_a told_b. tt;
      unmade = nothing_written a b;
    };
  }
