-- Bytes written in pieces stand one behind another.
use Rattle.std.proofs.Common.{◌≡◌, sym, ◌∙◌, ap, ℕ, ◌+◌, ◌≤◌, List, ◌++◌, length, take, drop, arith, append_assoc, length-append, length-take, length-drop}
use Rattle.std.proofs.lemmas.List.{take_at, drop_at, drop-drop}
use Rattle.dkv_io.specs.Disks.{Holds}

-- what stands before a place of a file, and bytes behind it
module _ (start : ℕ) (file written now : List ℕ) (stands : Holds start written file now) (within : start + length written ≤ length now) where
  abbrev front : List ℕ
  front = take start file ++ written

  pub start_within : start ≤ length file
  start_within = omega (arith, within, ap length stands, length-append (take start file ++ written) (drop (start + length written) file), length-append (take start file) written, length-take start file, length-drop (start + length written) file)

  front_long : length front ≡ start + length written
  front_long = omega (arith, start_within, length-append (take start file) written, length-take start file)

  pub front_is : take (start + length written) now ≡ front
  front_is = ap (take (start + length written)) stands ∙ take_at front (drop (start + length written) file) (start + length written) front_long

  back_is : drop (start + length written) now ≡ drop (start + length written) file
  back_is = ap (drop (start + length written)) stands ∙ drop_at front (drop (start + length written) file) (start + length written) front_long

  pub further : (k : ℕ) → drop (start + length written + k) now ≡ drop (start + length written + k) file
  further k =
      sym (drop-drop k (start + length written) now) ∙ ap (drop k) back_is ∙ drop-drop k (start + length written) file

  -- and more of them behind these
  pub holds_on : (more after : List ℕ) → Holds (start + length written) more now after → Holds start (written ++ more) file after
  holds_on more after is =
      let p = start + length written in
      let long : start + length (written ++ more) ≡ p + length more = omega (arith, length-append written more) in
      is
      ∙ ap (λ (l : List ℕ). l ++ more ++ drop (p + length more) now) front_is
      ∙ ap (λ (l : List ℕ). front ++ more ++ l) (further (length more))
      ∙ ap (λ (l : List ℕ). l ++ drop (p + length more) file) (append_assoc (take start file) written more)
      ∙ ap (λ (n : ℕ). take start file ++ (written ++ more) ++ drop n file) (sym long)
