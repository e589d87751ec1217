-- What a request names, and the token that it has.
--     path_of target      the path that counts, if it is one that is served
--     after_bearer value      the token in the value of an authorization field
use Rattle.std.specs.Prelude.{ℕ, ◌||◌, nat_eq, ◌==◌, if◌then◌else◌, List, [], ◌∷◌, take, drop, Option, Some, None, codes, bytes_eq}
use Rattle.std.specs.List.{starts_with}
use Rattle.std.specs.Str.{str_eq_ignore_ascii_case}
use Rattle.dkv_route.specs.declared.targets.Path.{Path}
use Rattle.dkv_route.specs.declared.targets.Path.TheVariants as path

-- from the first slash or question mark on, and a slash where there is neither
abbrev pub from_path : List ℕ → List ℕ
from_path [] = codes "/"
from_path (b ∷ bytes) = if (b == 47) || (b == 63) then b ∷ bytes else from_path bytes

-- what counts of a target: of the absolute form the path and the query (RFC 9112, section 3.2.2)
abbrev pub named : List ℕ → List ℕ
named target =
    if str_eq_ignore_ascii_case (take 7 target) (codes "http://") then from_path (drop 7 target) else target

-- the path of a name
abbrev pub path_named : List ℕ → Option Path
path_named name =
    if bytes_eq name (codes "/") then Some path.Root
    else if bytes_eq name (codes "/kv/snapshot_read") then Some path.Read
    else if bytes_eq name (codes "/kv/atomic_write") then Some path.Write
    else if bytes_eq name (codes "/kv/watch") then Some path.Watch
    else if bytes_eq name (codes "/own/stop") then Some path.Stop
    else None

-- the path that a target names, if it is one that is served
abbrev pub path_of : List ℕ → Option Path
path_of target = path_named (named target)

-- what stands after Bearer, in this case, and one space (RFC 6750, section 2.1)
abbrev pub after_bearer : List ℕ → Option (List ℕ)
after_bearer value = if starts_with nat_eq value (codes "Bearer ") then Some (drop 7 value) else None
