-- Whether a table and a queue have nothing.
use Rattle.std.proofs.Common.{◌≡◌, refl, sym, ◌∙◌, ap, ℕ, Bool, true, false, ◌&&◌, ◌==◌, List, [], ◌∷◌, ◌++◌, length, map, arith}
use Rattle.std.proofs.lemmas.Bool.{eqb-true, and_parts}
use Rattle.dkv_base.specs.declared.types.Entry.{Entry}
use Rattle.dkv_queue.specs.declared.row.Row.{Row}
use Rattle.dkv_queue.specs.Rows.{messages_of}
use Rattle.dkv_image.specs.Image.{image}

nil_of : {X : Type 0} (xs : List X) → length xs ≡ 0 → xs ≡ []
nil_of [] none = refl
nil_of (x ∷ xs) none = absurd (omega (arith, none))

module _ (es : List Entry) (rows : List Row) where
  -- the image is then the empty one
  pub empty_image : (length es == 0 && length rows == 0) ≡ true → image [] [] ≡ image es (messages_of rows)
  empty_image is =
      let parts = and_parts (length es == 0) (length rows == 0) is in
      let no_entry = sym (nil_of es (eqb-true (length es) 0 parts.0)) in
      let no_row = sym (nil_of rows (eqb-true (length rows) 0 parts.1)) in
      (λ i. image (no_entry i) (messages_of (no_row i)))

  no_rows : (rs : List Row) → messages_of rs ≡ [] → rs ≡ []
  no_rows [] none = refl
  no_rows (r ∷ rs) none = absurd (cc none)

  pub not_empty : (length es == 0 && length rows == 0) ≡ false → es ≡ [] → messages_of rows ≡ [] → ⊥
  not_empty not no_entry no_message =
      let both : true ≡ false = sym (λ i. length (no_entry i) == 0 && length (no_rows rows no_message i) == 0) ∙ not in
      absurd (cc both)
