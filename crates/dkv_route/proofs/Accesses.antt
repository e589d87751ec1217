-- The causes that show in the head of a request, step by step.
use Rattle.std.proofs.Common.{◌≡◌, refl, sym, ap, ◌∙◌, ℕ, Bool, List, Option, Some, None}
use Rattle.std.specs.Prelude.{option_map, true, false, not, codes, bytes_eq, if◌then◌else◌, [], ◌∷◌}
use Rattle.std.specs.Bool.{then_some}
use Rattle.http_header.specs.FieldValue.{FieldValue}
use Rattle.http_header.specs.HeaderMap.{Entries, get}
use Rattle.http_header.specs.Token.{lowercase}
use Rattle.dkv_base.specs.Limits.{first_some}
use Rattle.dkv_heads.specs.Heads.{first_value, header_map}
use Rattle.dkv_heads.specs.Requests.{Received}
use Rattle.dkv_heads.proofs.FirstValues as values
use Rattle.dkv_token.specs.declared.site.Site.{Site}
use Rattle.dkv_route.specs.declared.access.Cause.{Cause}
use Rattle.dkv_route.specs.declared.access.Cause.TheVariants as cause
use Rattle.dkv_route.specs.declared.targets.Path.{Path}
use Rattle.dkv_route.specs.Access.{needs_access, authorization_cause, data_cause, early_cause}

-- what stands first under a name in the map is the first value of the fields
pub field_is : (name : List ℕ) (fields : List (List ℕ × List ℕ)) (headers : Entries FieldValue) (found : Option (List ℕ)) → headers ≡ header_map fields
    → found ≡ option_map (λ v. v.bytes) (get headers (lowercase name)) → found ≡ first_value name fields
field_is name fields headers found same is =
    is ∙ ap (λ (m : Entries FieldValue). option_map (λ v. v.bytes) (get m (lowercase name))) same ∙ sym (values.first name fields)

-- the three causes in the head, in order
abbrev early : Bool → Option Cause → Option Cause → Option Cause
early posts first late = first_some (then_some (not posts) cause.NotAllowed ∷ first ∷ late ∷ [])

at_last : (late : Option Cause) → early true None late ≡ late
at_last None = refl
at_last (Some why) = refl

-- what comes behind the authorization
abbrev late_cause : Site → Path → Received → Option Cause
late_cause site path q =
    if needs_access path then None
    else data_cause site path (first_value (codes "x-denokv-database-id") q.fields) (first_value (codes "x-denokv-version") q.fields) q.minor

-- a request by POST whose authorization was looked at
authorized : (site : Site) (t : ℕ) (path : Path) (q : Received) (method : List ℕ) (value : Option (List ℕ)) (first : Option Cause)
    → method ≡ q.method → bytes_eq method (codes "POST") ≡ true → value ≡ first_value (codes "authorization") q.fields → authorization_cause site t path value ≡ first
    → early_cause site t path q ≡ early true first (late_cause site path q)
authorized site t path q method value first same posts found is =
    ap (λ (m : List ℕ). early (bytes_eq m (codes "POST")) (authorization_cause site t path (first_value (codes "authorization") q.fields)) (late_cause site path q)) (sym same)
    ∙ ap (λ (b : Bool). early b (authorization_cause site t path (first_value (codes "authorization") q.fields)) (late_cause site path q)) posts
    ∙ ap (λ (v : Option (List ℕ)). early true (authorization_cause site t path v) (late_cause site path q)) (sym found)
    ∙ ap (λ (o : Option Cause). early true o (late_cause site path q)) is

-- the authorization shows a cause
pub unauthorized : (site : Site) (t : ℕ) (path : Path) (q : Received) (method : List ℕ) (value : Option (List ℕ)) (why : Cause)
    → method ≡ q.method → bytes_eq method (codes "POST") ≡ true → value ≡ first_value (codes "authorization") q.fields → authorization_cause site t path value ≡ Some why
    → Some why ≡ early_cause site t path q
unauthorized site t path q method value why same posts found is = sym (authorized site t path q method value (Some why) same posts found is)

-- no more is asked where the access token opens the path
pub opened : (site : Site) (t : ℕ) (path : Path) (q : Received) (method : List ℕ) (value : Option (List ℕ))
    → method ≡ q.method → bytes_eq method (codes "POST") ≡ true → value ≡ first_value (codes "authorization") q.fields → authorization_cause site t path value ≡ None → needs_access path ≡ true
    → None ≡ early_cause site t path q
opened site t path q method value same posts found is needs =
    sym (authorized site t path q method value None same posts found is
    ∙ at_last (late_cause site path q)
    ∙ ap (λ (b : Bool). if b then None else data_cause site path (first_value (codes "x-denokv-database-id") q.fields) (first_value (codes "x-denokv-version") q.fields) q.minor) needs)

-- else the three causes that the paths of the database have
pub of_data : (site : Site) (t : ℕ) (path : Path) (q : Received) (method : List ℕ) (value id version : Option (List ℕ)) (minor : ℕ) (r : Option Cause)
    → method ≡ q.method → bytes_eq method (codes "POST") ≡ true → value ≡ first_value (codes "authorization") q.fields → authorization_cause site t path value ≡ None → needs_access path ≡ false
    → id ≡ first_value (codes "x-denokv-database-id") q.fields → version ≡ first_value (codes "x-denokv-version") q.fields → minor ≡ q.minor → r ≡ data_cause site path id version minor
    → r ≡ early_cause site t path q
of_data site t path q method value id version minor r same posts found is needs id_is version_is minor_is told =
    told
    ∙ ap (λ (i : Option (List ℕ)). data_cause site path i version minor) id_is
    ∙ ap (λ (v : Option (List ℕ)). data_cause site path (first_value (codes "x-denokv-database-id") q.fields) v minor) version_is
    ∙ ap (λ (n : ℕ). data_cause site path (first_value (codes "x-denokv-database-id") q.fields) (first_value (codes "x-denokv-version") q.fields) n) minor_is
    ∙ sym (authorized site t path q method value None same posts found is
    ∙ at_last (late_cause site path q)
    ∙ ap (λ (b : Bool). if b then None else data_cause site path (first_value (codes "x-denokv-database-id") q.fields) (first_value (codes "x-denokv-version") q.fields) q.minor) needs)
