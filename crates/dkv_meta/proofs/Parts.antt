-- The parts of a reply, one behind the other.
use Rattle.std.proofs.Common.{◌≡◌, ℕ, List, [], ◌++◌, codes, append_assoc, ap, sym, ◌∙◌}
use Rattle.std.specs.Prelude.{decimal}
use Rattle.uuid.specs.Text.{hyphenated_text, lower}
use Rattle.dkv_token.specs.declared.site.Site.{Site}
use Rattle.dkv_meta.specs.Reply.{reply_text, quoted, member, endpoint}

-- the id, and what follows it in pieces
behind_id : (id q m b d e f close : List ℕ) → id ++ q ++ m ++ b ++ m ++ d ++ m ++ e ++ m ++ f ++ close ≡ id ++ (q ++ (m ++ (b ++ (m ++ (d ++ (m ++ (e ++ (m ++ (f ++ close)))))))))
behind_id id q m b d e f close = simp append_assoc

-- the url, and what follows it in pieces
behind_url : (url path q close end rest : List ℕ) → url ++ path ++ q ++ close ++ end ++ rest ≡ url ++ (path ++ (q ++ (close ++ (end ++ rest))))
behind_url url path q close end rest = simp append_assoc

-- the parts as they are written are the text of the reply
pub parts_are : (site : Site) (id url ends token digits : List ℕ) (version : ℕ) → id ≡ hyphenated_text lower site.database_id → url ≡ site.url → digits ≡ decimal version
    → codes "{\"databaseId\":\"" ++ (id ++ (codes "\",\"endpoints\":[{\"consistency\":\"strong\",\"url\":\"" ++ (url ++ (codes "/kv\"}],\"expiresAt\":\"" ++ (ends ++ (codes "\",\"token\":\"" ++ (token ++ (codes "\",\"version\":" ++ (digits ++ (codes "}" ++ [])))))))))) ≡ reply_text site ends token version
unfolding reply_text
parts_are site id url ends token digits version named at written =
    let versioned : List ℕ = member (codes "version") (decimal version) in
    let tokened : List ℕ = member (codes "token") (quoted token) in
    let ended : List ℕ = member (codes "expiresAt") (quoted ends) in
    let placed : List ℕ = member (codes "endpoints") (codes "[" ++ endpoint site ++ codes "]") in
    let after_token : List ℕ = codes "," ++ (versioned ++ codes "}") in
    let after_ends : List ℕ = codes "," ++ (tokened ++ after_token) in
    let after_url : List ℕ = codes "," ++ (ended ++ after_ends) in
    let from_token = ap (λ t. codes "\"token\":\"" ++ t) (append_assoc token (codes "\"") after_token) in
    let from_ends = ap (λ t. codes "\"expiresAt\":\"" ++ t) (append_assoc ends (codes "\"") after_ends ∙ ap (λ t. ends ++ (codes "\"," ++ t)) from_token) in
    let from_url = ap (λ t. codes "\"endpoints\":[{\"consistency\":\"strong\",\"url\":\"" ++ t) (behind_url site.url (codes "/kv") (codes "\"") (codes "}") (codes "]") after_url ∙ ap (λ t. site.url ++ (codes "/kv\"}]," ++ t)) from_ends) in
    let own : List ℕ = hyphenated_text lower site.database_id in
    rw (named, at, written) (sym (ap (λ t. codes "{\"databaseId\":\"" ++ t) (behind_id own (codes "\"") (codes ",") placed ended tokened versioned (codes "}") ∙ ap (λ t. own ++ (codes "\"," ++ t)) from_url)))
