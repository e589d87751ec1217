-- The text of the reply to an exchange.
--     expiry t      the moment at which a token ends that is given at moment t
--     IsExchange site t version text      the text of the reply
use Rattle.std.specs.Prelude.{ℕ, pos, ◌≡◌, ◌+◌, ◌*◌, ◌/◌, ◌%◌, List, [], ◌∷◌, ◌++◌, codes, decimal, unsigned_abs}
use Rattle.uuid.specs.Text.{hyphenated_text, lower}
use Rattle.jiff_core.specs.DateTime.{civil_nanos}
use Rattle.jiff_core.specs.declared.civil.datetime.DateTime.{DateTime}
use Rattle.dkv_base.specs.Moments.{capped_moment}
use Rattle.dkv_token.specs.declared.site.Site.{Site}
use Rattle.dkv_token.specs.declared.token.TheConstants.{TOKEN_LIFE_MS}
use Rattle.dkv_token.specs.Token.{sign}

-- the moment at which a token ends that is given at moment t
abbrev pub expiry : ℕ → ℕ
expiry t = capped_moment (t + TOKEN_LIFE_MS)

-- the date and time that a clock in UTC shows at the moment
abbrev pub IsShown : ℕ → DateTime → Type 0
IsShown e when = civil_nanos when ≡ pos (e * 1_000_000)

-- a number below 100
abbrev pub two_digits : ℕ → List ℕ
two_digits n = (48 + n / 10) ∷ (48 + n % 10) ∷ []

-- a number below 10,000
abbrev pub four_digits : ℕ → List ℕ
four_digits n = two_digits (n / 100) ++ two_digits (n % 100)

-- full-date; no moment lies before the year 1970
abbrev pub full_date : DateTime → List ℕ
full_date when = four_digits (unsigned_abs when.date.year) ++ codes "-" ++ two_digits when.date.month ++ codes "-" ++ two_digits when.date.day

-- partial-time without a fraction
abbrev pub partial_time : DateTime → List ℕ
partial_time when = two_digits when.time.hour ++ codes ":" ++ two_digits when.time.minute ++ codes ":" ++ two_digits when.time.second

-- date-time in UTC, without the fraction of the second (RFC 3339, section 5.6)
abbrev pub date_time : DateTime → List ℕ
date_time when = full_date when ++ codes "T" ++ partial_time when ++ codes "Z"

-- a text between quotation marks, as it stands
abbrev pub quoted : List ℕ → List ℕ
quoted text = codes "\"" ++ text ++ codes "\""

-- a member of an object (RFC 8259, section 4)
abbrev pub member : List ℕ → List ℕ → List ℕ
member name value = quoted name ++ codes ":" ++ value

-- one endpoint, strongly consistent, at the site's url followed by /kv
abbrev pub endpoint : Site → List ℕ
endpoint site =
    codes "{" ++ member (codes "consistency") (quoted (codes "strong"))
    ++ codes "," ++ member (codes "url") (quoted (site.url ++ codes "/kv")) ++ codes "}"

-- the reply with the id's text (RFC 9562, section 4), the text of the expiry, a token and a version
unfoldable pub reply_text : Site → List ℕ → List ℕ → ℕ → List ℕ
reply_text site ends token version =
    codes "{" ++ member (codes "databaseId") (quoted (hyphenated_text lower site.database_id))
    ++ codes "," ++ member (codes "endpoints") (codes "[" ++ endpoint site ++ codes "]")
    ++ codes "," ++ member (codes "expiresAt") (quoted ends)
    ++ codes "," ++ member (codes "token") (quoted token)
    ++ codes "," ++ member (codes "version") (decimal version) ++ codes "}"

-- the reply whose token ends at moment e
abbrev pub IsReply : Site → ℕ → ℕ → List ℕ → Type 0
IsReply site e version text = (when : DateTime) × IsShown e when × (text ≡ reply_text site (date_time when) (sign site e) version)

-- the reply at moment t
abbrev pub IsExchange : Site → ℕ → ℕ → List ℕ → Type 0
IsExchange site t version text = IsReply site (expiry t) version text

-- law: an exchange has one reply
abbrev pub OneReply : Type 0
OneReply = (site : Site) (t version : ℕ) (text other : List ℕ) → IsExchange site t version text → IsExchange site t version other → text ≡ other
