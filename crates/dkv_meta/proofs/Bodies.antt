-- A list of values and a body, and what they ask.
use Rattle.std.proofs.Common.{◌≡◌, ℕ, List, [], ◌∷◌, true, false, Some, None, refl, ap}
use Rattle.std.specs.Prelude.{◌||◌, IsUtf8}
use Rattle.std.specs.List.{list_any}
use Rattle.std.specs.Str.{is_utf8}
use Rattle.std.proofs.lemmas.Str.{IsUtf8-from_is_utf8, is_utf8-from_IsUtf8}
use Rattle.serde_json.specs.Data.{Data}
use Rattle.serde_json.specs.Read.{read}
use Rattle.serde_json.specs.View.{view, items_view}
use Rattle.serde_json.specs.declared.value.Value.{Value}
use Rattle.dkv_meta.specs.Asked.{json_of, is_whole, has_whole}

-- some value is a whole number exactly where some element that it stands for is
pub some_is_whole : (n : ℕ) (values : List Value) → list_any (λ v. is_whole n (view v)) values ≡ has_whole n (items_view values)
some_is_whole n [] = refl
some_is_whole n (v ∷ values) = ap (λ b. is_whole n (view v) || b) (some_is_whole n values)

-- a text that reads as a value has that value
pub read_is : (body : List ℕ) (d : Data) → IsUtf8 body → read body ≡ Some d → json_of body ≡ Some d
read_is body d utf8 is = rw (is_utf8-from_IsUtf8 body utf8) is

-- a body that is no text, or reads as no value, has none
pub none_is : (body : List ℕ) → (IsUtf8 body → read body ≡ None) → json_of body ≡ None
none_is body is =
    elim (is_utf8 body) as (λ b. is_utf8 body ≡ b → json_of body ≡ None) [
      | true ↦ λ e. rw e (is (IsUtf8-from_is_utf8 body e))
      | false ↦ λ e. rw e refl
    ] refl
