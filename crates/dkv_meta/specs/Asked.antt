-- What the body of an exchange asks.
--     exchange_version body      the version that is answered, or none where the body is no exchange
use Rattle.std.specs.Prelude.{ℕ, Bool, false, ◌||◌, ◌==◌, if◌then◌else◌, List, Option, Some, None, option_and_then, codes}
use Rattle.std.specs.Option.{option_map_or}
use Rattle.std.specs.Str.{is_utf8}
use Rattle.serde_json.specs.Data.{Data, Items, no_items, item}
use Rattle.serde_json.specs.Read.{read}
use Rattle.serde_json.specs.Find.{get, as_array, as_number, as_u64}
use Rattle.dkv_meta.specs.declared.asked.TheConstants.{PREFERRED_VERSION, OLDER_VERSION}

-- the value of a JSON text (RFC 8259), which is UTF-8 (section 8.1); of a name that stands twice the last value counts
abbrev pub json_of : List ℕ → Option Data
json_of body = if is_utf8 body then read body else None

-- the element is this whole number, spelled without a fraction and an exponent (RFC 8259, section 6)
abbrev pub is_whole : ℕ → Data → Bool
is_whole n d = option_map_or (λ k. k == n) (option_and_then as_u64 (as_number d)) false

-- some element is this whole number
abbrev pub has_whole : ℕ → Items → Bool
has_whole n no_items = false
has_whole n (item d ds) = is_whole n d || has_whole n ds

-- the version that comes first among those that a client supports
abbrev pub best_version : Items → Option ℕ
best_version ds =
    if has_whole PREFERRED_VERSION ds then Some PREFERRED_VERSION
    else if has_whole OLDER_VERSION ds then Some OLDER_VERSION
    else None

-- the elements of the list that an object has under supportedVersions
abbrev pub supported_versions : Data → Option Items
supported_versions d = option_and_then as_array (get (codes "supportedVersions") d)

-- the version that is answered, where the body is the text of an object with such a list that has one
abbrev pub exchange_version : List ℕ → Option ℕ
exchange_version body = option_and_then best_version (option_and_then supported_versions (json_of body))
