-- The values of a name are those that the header map has under it.
use Rattle.std.proofs.Common.{ℕ, ◌≡◌, refl, sym, ap, ◌∙◌, Bool, true, false, List, [], ◌∷◌, ◌++◌, map, append_assoc, inl, inr}
use Rattle.std.specs.Prelude.{slice_get, option_map, if◌then◌else◌}
use Rattle.std.proofs.lemmas.List.{append-nil}
use Rattle.std.proofs.lemmas.Bool.{cases_Bool, false≢true}
use Rattle.std.proofs.lemmas.Slice.Eq.{bytes_eq-Decides}
use Rattle.http_header.specs.FieldValue.{FieldValue, plain_value}
use Rattle.http_header.specs.HeaderMap.{Entries, get_all, append, append_all}
use Rattle.http_header.specs.Token.{lowercase}
use Rattle.http_header.proofs.HeaderMapLemmas.{get_all-append_same, get_all-append_other}
use Rattle.dkv_heads.specs.Heads.{values, is_named}
use Rattle.dkv_heads.specs.Laws.{FirstIsFirst}

abbrev item : List ℕ × List ℕ → List ℕ × FieldValue
item f = (lowercase f.0, plain_value f.1)

-- one more field
added : (name : List ℕ) (f : List ℕ × List ℕ) (m : Entries FieldValue)
    → get_all (append m (lowercase f.0) (plain_value f.1)) (lowercase name) ≡ get_all m (lowercase name) ++ (if is_named name f then plain_value f.1 ∷ [] else [])
added name f m = elim (cases_Bool (is_named name f)) [
  | inl t ↦ let same = (bytes_eq-Decides (lowercase f.0) (lowercase name)).0 t in
      rw t (rw (sym same) (get_all-append_same m (lowercase f.0) (plain_value f.1)))
  | inr n ↦
      let apart : ¬ (lowercase f.0 ≡ lowercase name) = λ same. false≢true (sym n ∙ (bytes_eq-Decides (lowercase f.0) (lowercase name)).1 same) in
      rw n (get_all-append_other m (lowercase f.0) (lowercase name) (plain_value f.1) apart ∙ sym (append-nil (get_all m (lowercase name))))
]

kept : (b : Bool) (f : List ℕ × List ℕ) (rest : List (List ℕ × List ℕ)) (name : List ℕ) → is_named name f ≡ b
    → (if b then plain_value f.1 ∷ [] else []) ++ map plain_value (values name rest) ≡ map plain_value (values name (f ∷ rest))
kept true f rest name e = rw e refl
kept false f rest name e = rw e refl

all : (name : List ℕ) (fields : List (List ℕ × List ℕ)) (m : Entries FieldValue)
    → get_all (append_all m (map item fields)) (lowercase name) ≡ get_all m (lowercase name) ++ map plain_value (values name fields)
all name [] m = sym (append-nil (get_all m (lowercase name)))
all name (f ∷ fields) m =
    all name fields (append m (lowercase f.0) (plain_value f.1))
    ∙ ap (λ l. l ++ map plain_value (values name fields)) (added name f m)
    ∙ append_assoc (get_all m (lowercase name)) (if is_named name f then plain_value f.1 ∷ [] else []) (map plain_value (values name fields))
    ∙ ap (λ l. get_all m (lowercase name) ++ l) (kept (is_named name f) f fields name refl)

head_of : (vs : List (List ℕ)) → slice_get vs 0 ≡ option_map (λ v. v.bytes) (slice_get (map plain_value vs) 0)
head_of [] = refl
head_of (v ∷ vs) = refl

pub first : FirstIsFirst
first name fields = head_of (values name fields) ∙ ap (λ l. option_map (λ v. v.bytes) (slice_get l 0)) (sym (all name fields []))
