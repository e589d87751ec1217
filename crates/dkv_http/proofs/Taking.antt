-- A request that is taken is that of the bytes that came.
use Rattle.std.proofs.Common.{ℕ, ◌≡◌, ◌+◌, ◌<◌, ◌≤◌, sym, ap, ◌∙◌, subst, List, [], ◌∷◌, ◌++◌, length, take, map, get_or, inl, inr}
use Rattle.std.specs.Prelude.{◌⊎◌}
use Rattle.std.proofs.lemmas.List.{map_more, map-append, take_all}
use Rattle.std.proofs.lemmas.List.Sums.{fold_push}
use Rattle.httparse.specs.Spans.{header_bytes, span_bytes}
use Rattle.httparse.specs.declared.spans.HeaderSpan.{HeaderSpan}
use Rattle.http_header.specs.FieldValue.{FieldValue, plain_value}
use Rattle.http_header.specs.HeaderMap.{Entries, append, append_all}
use Rattle.http_header.specs.Token.{lowercase}
use Rattle.dkv_http.specs.declared.conn.Request.{Request}
use Rattle.dkv_http.specs.declared.phases.Phase.TheVariants as phase
use Rattle.dkv_http.specs.declared.state.State.{State}
use Rattle.dkv_heads.specs.Heads.{header_map}
use Rattle.dkv_heads.specs.Requests.{received}
use Rattle.dkv_http.specs.Holds.{Headed}
use Rattle.dkv_http.specs.Conns.{IsRequest, Gives}
use Rattle.dkv_http.proofs.Stepping.{as_phase}

pub header_push : (fs : List (List ℕ × List ℕ)) (f : List ℕ × List ℕ) → header_map (fs ++ f ∷ []) ≡ append (header_map fs) (lowercase f.0) (plain_value f.1)
header_push fs f =
    ap (append_all []) (map-append (λ g. (lowercase g.0, plain_value g.1)) fs (f ∷ []))
    ∙ fold_push (λ n item. append n item.0 item.1) [] (map (λ g. (lowercase g.0, plain_value g.1)) fs) (lowercase f.0, plain_value f.1)

pub one_entry : (head : List ℕ) (items : List HeaderSpan) (i : ℕ) (d : HeaderSpan) (m n : Entries FieldValue) (name : List ℕ) (value : FieldValue) → i < length items
    → m ≡ header_map (map (header_bytes head) (take i items)) → name ≡ lowercase (span_bytes head (get_or items i d).name) → value ≡ plain_value (span_bytes head (get_or items i d).value)
    → n ≡ append m name value → n ≡ header_map (map (header_bytes head) (take (i + 1) items))
one_entry head items i d m n name value less e f g h =
    h ∙ ap (λ k. append k name value) e ∙ ap (λ k. append (header_map (map (header_bytes head) (take i items))) k value) f
    ∙ ap (λ k. append (header_map (map (header_bytes head) (take i items))) (lowercase (span_bytes head (get_or items i d).name)) k) g
    ∙ sym (ap header_map (map_more (header_bytes head) items i d less) ∙ header_push (map (header_bytes head) (take i items)) (header_bytes head (get_or items i d)))

-- what is copied from a state
pub record Copies (s : State) (r : Request) : Type 0 where
  pub method : r.method ≡ span_bytes s.head.bytes s.spans.method
  pub target : r.target ≡ span_bytes s.head.bytes s.spans.path
  pub minor : r.version_minor ≡ s.spans.version
  pub headers : r.headers ≡ header_map (map (header_bytes s.head.bytes) (take s.spans.headers s.headers.items))
  pub body : r.body ≡ s.body.bytes
  pub close : r.close ≡ s.close

pub copied_request : (s : State) (r : Request) → Copies s r → (h : _) → Headed s.head.bytes s.headers.items s.spans s.close h → IsRequest (received h s.body.bytes) r
copied_request s r c h hd = record {
  method = c.method ∙ hd.at.method;
  target = c.target ∙ hd.at.path;
  minor = c.minor ∙ hd.at.version;
  headers = c.headers ∙ ap header_map hd.at.fields;
  body = c.body;
  close = c.close ∙ hd.ends;
}

pub copies_give : (s : State) (r : Request) → (s.phase ≡ phase.Whole) ⊎ (s.phase ≡ phase.Last) → Copies s r → Gives s r
copies_give s r (inl e) c held x = let y = as_phase phase.Whole s held e x in (received y.0 s.body.bytes, [], y.2, copied_request s r c y.0 y.1)
copies_give s r (inr e) c held x = let y = as_phase phase.Last s held e x in (received y.0 s.body.bytes, y.3.0, y.3.1, copied_request s r c y.0 y.1)

pub copies_of : (i s : State) → i ≡ s → (r : Request) (head : List ℕ) (items : List HeaderSpan) (n : ℕ) → head ≡ i.head.bytes → items ≡ i.headers.items
    → r.method ≡ span_bytes head i.spans.method → r.target ≡ span_bytes head i.spans.path → r.version_minor ≡ i.spans.version
    → r.headers ≡ header_map (map (header_bytes head) (take n (take i.spans.headers items))) → length (take i.spans.headers items) ≤ n
    → r.body ≡ i.body.bytes → r.close ≡ i.close → Copies s r
copies_of i s view r head items n eh ei method target minor headers all body close = subst (λ t. Copies t r) view (record {
  method = method ∙ ap (λ l. span_bytes l i.spans.method) eh;
  target = target ∙ ap (λ l. span_bytes l i.spans.path) eh;
  minor = minor;
  headers = headers ∙ ap (λ l. header_map (map (header_bytes head) l)) (take_all n (take i.spans.headers items) all) ∙ ap (λ l. header_map (map (header_bytes l) (take i.spans.headers items))) eh
      ∙ ap (λ l. header_map (map (header_bytes i.head.bytes) (take i.spans.headers l))) ei;
  body = body;
  close = close;
})
