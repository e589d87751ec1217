-- A bad rest stays bad, whatever comes after it.
use Rattle.std.proofs.Common.{ℕ, zero, suc, ◌≡◌, ◌-◌, ◌<◌, ◌≤◌, refl, sym, ap, ◌∙◌, subst, List, [], ◌∷◌, ◌++◌, length, length-append, append_assoc, take, drop, arith, inl, inr, Some, None, rules}
use Rattle.std.specs.Prelude.{IsFalse, nat_lt, ◌==◌, ◌⊎◌, flat_map}
use Rattle.std.specs.List.{list_all}
use Rattle.std.proofs.lemmas.List.{append_cancel_left, append-nil, take-append-drop, nil_from_length, take-append-le, drop-append-le, drop_all}
use Rattle.std.proofs.lemmas.List.Folds.{list_all-append}
use Rattle.std.proofs.lemmas.Bool.{false≢true, and_parts, cases_Bool}
use Rattle.std.proofs.lemmas.Bool.Decides.{nat_tests}
use Rattle.httparse.specs.Ascii.{space}
use Rattle.httparse.specs.Grammar.{RequestHead, print_request, ReadsRequest, print_chunk_line, ReadsChunkLine, NeverHasChunkLine, chunk_size, LineEnd, print_field, print_section, ReadsSection, NeverHasSection, print_end, crlf, lf}
use Rattle.httparse.proofs.ChunkLemmas.{ReadsChunkLine-append}
use Rattle.dkv_heads.specs.Heads.{head_limit, HasNoHead, MayBecomeHead, NeverHead, EndsInTarget, has_many_lines, is_open, Framing, sized, chunked, unclear, framing, fields_of}
use Rattle.dkv_heads.specs.Chunks.{cut, bad, HasNoLine, IsLineRest, HasNoTrailers, IsTrailerRest, section_limit, IsRestAtLine, IsRestAfterLine, end_rest, print_chunk, chunk_bytes}
use Rattle.dkv_heads.specs.Requests.{body_limit, IsBodyRest, sized_rest, IsRestAfterHead, unended, IsHeadless}
use Rattle.dkv_heads.specs.Laws.{BadStays}
use Rattle.dkv_heads.proofs.OneRequest.{append-more, head-more}
use Rattle.dkv_heads.proofs.Waiting.{fronts}
use Rattle.dkv_heads.proofs.Apart.{lt_false}

-- ---- fronts of lists

-- more bytes only make the first n more
take_grows : (n : ℕ) (xs more : List ℕ) → (m : List ℕ) × (take n (xs ++ more) ≡ take n xs ++ m)
take_grows zero xs more = ([], refl)
take_grows (suc n) [] more = (take (suc n) more, refl)
take_grows (suc n) (x ∷ xs) more = let p = take_grows n xs more in (p.0, λ i. x ∷ p.1 i)

first_of : (n : ℕ) (xs more : List ℕ) → xs ++ more ≡ take n xs ++ (drop n xs ++ more)
first_of n xs more = ap (λ l. l ++ more) (sym (take-append-drop n xs)) ∙ append_assoc (take n xs) (drop n xs) more

-- a printed piece that is no longer than xs, and begins xs with more, begins xs
begins : (printed xs more rest : List ℕ) → length printed ≤ length xs → xs ++ more ≡ printed ++ rest → (k : List ℕ) × (xs ≡ printed ++ k)
begins printed xs more rest short e = elim (fronts printed xs rest more (sym e)) [
  | inl p ↦ p
  | inr p ↦
      let none : p.0 ≡ [] = nil_from_length p.0 (omega (arith, short, ap length p.1, length-append xs p.0)) in
      ([], sym (append-nil xs) ∙ sym (ap (λ l. xs ++ l) none) ∙ sym p.1 ∙ sym (append-nil printed))
]

-- ---- heads

pub never-more : (b m : List ℕ) → NeverHead b → NeverHead (b ++ m)
never-more b m never more h rest reads = never (m ++ more) h rest (subst (λ t. ReadsRequest t h rest) (append_assoc b m more) reads)

pub not_both : (b k : List ℕ) → NeverHead b → ¬ (MayBecomeHead (b ++ k))
not_both b k never may =
    let many = never (k ++ may.0) may.1 may.2 (subst (λ t. ReadsRequest t may.1 may.2) (append_assoc b k may.0) may.3) in
    let few = may.4 in
    omega (arith, many, few)

target-more : (b m : List ℕ) → NeverHead b → ¬ (EndsInTarget b) → ¬ (EndsInTarget (b ++ m))
target-more b m never not_inside x =
    let split : b ++ m ≡ (x.front ++ space ∷ []) ++ x.target = x.parts ∙ sym (append_assoc x.front (space ∷ []) x.target) in
    elim (fronts b (x.front ++ space ∷ []) m x.target split) [
      | inl p ↦ not_both b p.0 never (subst MayBecomeHead p.1 x.may)
      | inr p ↦
          let rest : x.target ≡ p.0 ++ m = sym (append_cancel_left (x.front ++ space ∷ []) (p.0 ++ m) x.target (sym (append_assoc (x.front ++ space ∷ []) p.0 m) ∙ ap (λ l. l ++ m) (sym p.1) ∙ split)) in
          let open_front = (and_parts _ _ (sym (list_all-append is_open p.0 m) ∙ ap (list_all is_open) (sym rest) ∙ x.open_end)).0 in
          not_inside (record { front = x.front; target = p.0; parts = p.1 ∙ append_assoc x.front (space ∷ []) p.0; one_space = x.one_space; open_end = open_front; may = x.may })
    ]

no_head-never : (n : ℕ) (bytes more : List ℕ) → NeverHead (take n bytes) → HasNoHead (bytes ++ more)
no_head-never n bytes more never h rest has =
    let many = never (drop n bytes ++ more) h rest (subst (λ t. ReadsRequest t h rest) (first_of n bytes more) has.reads) in
    let few = has.lines in
    omega (arith, many, few)

no_head-long : (bytes more : List ℕ) → head_limit ≤ length bytes → HasNoHead bytes → HasNoHead (bytes ++ more)
no_head-long bytes more long none h rest has =
    let short = has.size in
    let p = begins (print_request h) bytes more rest (omega (arith, short, long)) has.reads.1 in
    none h p.0 (record { reads = (has.reads.0, p.1); lines = has.lines; size = has.size })

is_long : (bytes : List ℕ) (status : ℕ) → bad status ≡ unended bytes → head_limit ≤ length bytes
is_long bytes status e = elim (cases_Bool (nat_lt (length bytes) head_limit)) [
  | inl short ↦ let waits : unended bytes ≡ cut = rw short refl in absurd (let no : bad status ≡ cut = e ∙ waits in cc)
  | inr long ↦ grind (arith, nat_tests, long)
]

unended-more : (bytes more : List ℕ) → head_limit ≤ length bytes → unended (bytes ++ more) ≡ unended bytes
unended-more bytes more long =
    let one = lt_false (length bytes) head_limit long in
    let two = lt_false (length (bytes ++ more)) head_limit (omega (arith, long, length-append bytes more)) in
    rw one (rw two refl)

headless : (bytes more : List ℕ) (status : ℕ) → IsFalse (has_many_lines (take head_limit bytes)) → 0 < length bytes → HasNoHead bytes
    → IsHeadless (take head_limit bytes) bytes (bad status)
    → (0 < length (bytes ++ more)) × HasNoHead (bytes ++ more) × IsHeadless (take head_limit (bytes ++ more)) (bytes ++ more) (bad status)
headless bytes more status few some none (inl x) =
    let long = is_long bytes status x.1 in
    let same : take head_limit (bytes ++ more) ≡ take head_limit bytes = take-append-le head_limit bytes more long in (
      omega (arith, some, length-append bytes more),
      no_head-long bytes more long none,
      subst (λ first. IsHeadless first (bytes ++ more) (bad status)) (sym same) (inl (x.0, x.1 ∙ sym (unended-more bytes more long))),
    )
headless bytes more status few some none (inr x) = elim x.0 [
  | inl never ↦
      let grown = take_grows head_limit bytes more in (
        omega (arith, some, length-append bytes more),
        no_head-never head_limit bytes more never.0,
        subst (λ first. IsHeadless first (bytes ++ more) (bad status)) (sym grown.1)
            (inr (inl (never-more (take head_limit bytes) grown.0 never.0, target-more (take head_limit bytes) grown.0 never.0 never.1), x.1)),
      )
  | inr many ↦ absurd (false≢true (sym few ∙ many))
]

-- ---- chunks

is_no_cut : (status : ℕ) → ¬ (bad status ≡ cut)
is_no_cut status e = cc

no_line-never : (n : ℕ) (bytes more : List ℕ) → NeverHasChunkLine (take n bytes) → HasNoLine (bytes ++ more)
no_line-never n bytes more never l rest has = never (drop n bytes ++ more) l rest (subst (λ t. ReadsChunkLine t l rest) (first_of n bytes more) has.reads)

no_line-long : (bytes more : List ℕ) → 4096 ≤ length bytes → HasNoLine bytes → HasNoLine (bytes ++ more)
no_line-long bytes more long none l rest has =
    let short = has.size in
    let p = begins (print_chunk_line l) bytes more rest (omega (arith, short, long)) has.reads.1 in
    none l p.0 (record { reads = (has.reads.0, p.1); size = has.size })

never_line-more : (b m : List ℕ) → NeverHasChunkLine b → NeverHasChunkLine (b ++ m)
never_line-more b m never more l rest reads = never (m ++ more) l rest (subst (λ t. ReadsChunkLine t l rest) (append_assoc b m more) reads)

line_stays : (bytes more : List ℕ) (status : ℕ) → IsLineRest bytes (bad status) → IsLineRest (bytes ++ more) (bad status)
line_stays bytes more status x = elim x.1 [
  | inl y ↦ elim y.0 [
    | inl never ↦
        let grown = take_grows 4096 bytes more in
        (no_line-never 4096 bytes more never, inl (inl (subst NeverHasChunkLine (sym grown.1) (never_line-more (take 4096 bytes) grown.0 never)), y.1))
    | inr long ↦ (no_line-long bytes more long x.0, inl (inr (omega (arith, long, length-append bytes more)), y.1))
  ]
  | inr y ↦ absurd (is_no_cut status y.2)
]

no_trailers-never : (n : ℕ) (bytes more : List ℕ) → NeverHasSection (take n bytes) → HasNoTrailers (bytes ++ more)
no_trailers-never n bytes more never fields last rest has = never (drop n bytes ++ more) fields last rest (subst (λ t. ReadsSection t fields last rest) (first_of n bytes more) has.reads)

end_length : (e : LineEnd) → length (print_end e) ≤ 2
end_length crlf = search rules
end_length lf = search rules

no_trailers-long : (bytes more : List ℕ) → section_limit ≤ length bytes → HasNoTrailers bytes → HasNoTrailers (bytes ++ more)
no_trailers-long bytes more long none fields last rest has =
    let short = has.size in
    let p = begins (print_section fields last) bytes more rest (omega (arith, short, long, end_length last, length-append (flat_map print_field fields) (print_end last))) has.reads.1 in
    none fields last p.0 (record { reads = (has.reads.0, p.1); size = has.size })

never_section-more : (b m : List ℕ) → NeverHasSection b → NeverHasSection (b ++ m)
never_section-more b m never more fields last rest reads = never (m ++ more) fields last rest (subst (λ t. ReadsSection t fields last rest) (append_assoc b m more) reads)

trailer_stays : (bytes more : List ℕ) (status : ℕ) → IsTrailerRest bytes (bad status) → IsTrailerRest (bytes ++ more) (bad status)
trailer_stays bytes more status x = elim x.1 [
  | inl y ↦ elim y.0 [
    | inl never ↦
        let grown = take_grows section_limit bytes more in
        (no_trailers-never section_limit bytes more never, inl (inl (subst NeverHasSection (sym grown.1) (never_section-more (take section_limit bytes) grown.0 never)), y.1))
    | inr long ↦ (no_trailers-long bytes more long x.0, inl (inr (omega (arith, long, length-append bytes more)), y.1))
  ]
  | inr y ↦ absurd (is_no_cut status y.2)
]

-- ---- the line end after a chunk's bytes

one_byte : (b : ℕ) (more : List ℕ) (status : ℕ) → end_rest (b ∷ []) ≡ Some (bad status) → end_rest (b ∷ more) ≡ Some (bad status)
one_byte b [] status e = e
one_byte b (c ∷ more) status e = elim (cases_Bool (b == 13)) [
  | inl t ↦ absurd (let waits : end_rest (b ∷ []) ≡ Some cut = rw t refl in let no : Some (bad status) ≡ Some cut = sym e ∙ waits in cc)
  | inr n ↦
      let at : end_rest (b ∷ []) ≡ Some (bad 400) = rw n refl in
      let then_so : end_rest (b ∷ c ∷ more) ≡ Some (bad 400) = rw n refl in
      then_so ∙ sym at ∙ e
]

end_stays : (bytes more : List ℕ) (status : ℕ) → end_rest bytes ≡ Some (bad status) → end_rest (bytes ++ more) ≡ Some (bad status)
end_stays [] more status e = absurd (cc)
end_stays (b ∷ []) more status e = one_byte b more status e
end_stays (b ∷ c ∷ bytes) more status e = e

-- ---- a chunked body

drop_more : (n : ℕ) (bytes more : List ℕ) → n ≤ length bytes → drop n (bytes ++ more) ≡ drop n bytes ++ more
drop_more n bytes more inside = drop-append-le n bytes more inside

short_or_long : (n : ℕ) (bytes : List ℕ) → (length bytes ≤ n) ⊎ (n ≤ length bytes)
short_or_long n bytes = elim (cases_Bool (nat_lt (length bytes) n)) [ inl t ↦ inl (grind (arith, nat_tests, t)) | inr f ↦ inr (grind (arith, nat_tests, f)) ]

chunk_end_stays : (n : ℕ) (bytes more : List ℕ) (status : ℕ) → end_rest (drop n bytes) ≡ Some (bad status) → end_rest (drop n (bytes ++ more)) ≡ Some (bad status)
chunk_end_stays n bytes more status e = elim (short_or_long n bytes) [
  | inl short ↦ absurd (let waits : Some cut ≡ Some (bad status) = ap end_rest (sym (drop_all n bytes short)) ∙ e in cc)
  | inr long ↦ subst (λ t. end_rest t ≡ Some (bad status)) (sym (drop_more n bytes more long)) (end_stays (drop n bytes) more status e)
]

after_line_stays : (room size : ℕ) (bytes more : List ℕ) (status : ℕ) → IsRestAfterLine room size bytes (bad status) → IsRestAfterLine room size (bytes ++ more) (bad status)
after_line_stays room size bytes more status (inl x) = inl (x.0, trailer_stays bytes more status x.1)
after_line_stays room size bytes more status (inr (inl x)) = inr (inl x)
after_line_stays room size bytes more status (inr (inr x)) = inr (inr (x.0, x.1, chunk_end_stays size bytes more status x.2))

at_line_stays : (room : ℕ) (bytes more : List ℕ) (status : ℕ) → IsRestAtLine room bytes (bad status) → IsRestAtLine room (bytes ++ more) (bad status)
at_line_stays room bytes more status (inl x) = inl (line_stays bytes more status x)
at_line_stays room bytes more status (inr x) = inr (
  x.0,
  x.1 ++ more,
  record { reads = ReadsChunkLine-append bytes x.0 x.1 more x.2.reads; size = x.2.size },
  after_line_stays room (chunk_size x.0) x.1 more status x.3,
)

-- ---- a body, and a rest

sized_stays : (limit n : ℕ) (bytes more : List ℕ) (status : ℕ) → sized_rest limit n bytes ≡ Some (bad status) → sized_rest limit n (bytes ++ more) ≡ Some (bad status)
sized_stays limit n bytes more status e = elim (cases_Bool (nat_lt limit n)) [
  | inl large ↦
      let one : sized_rest limit n bytes ≡ Some (bad 413) = rw large refl in
      let two : sized_rest limit n (bytes ++ more) ≡ Some (bad 413) = rw large refl in
      two ∙ sym one ∙ e
  | inr fits ↦ elim (cases_Bool (nat_lt (length bytes) n)) [
    | inl short ↦ absurd (let waits : sized_rest limit n bytes ≡ Some cut = rw fits (rw short refl) in let no : Some (bad status) ≡ Some cut = sym e ∙ waits in cc)
    | inr whole ↦ absurd (let none : sized_rest limit n bytes ≡ None = rw fits (rw whole refl) in let no : Some (bad status) ≡ None = sym e ∙ none in cc)
  ]
]

body_stays : (limit : ℕ) (f : Framing) (bytes more : List ℕ) (status : ℕ) → IsBodyRest limit f bytes (bad status) → IsBodyRest limit f (bytes ++ more) (bad status)
body_stays limit (sized n) bytes more status x = sized_stays limit n bytes more status x
body_stays limit chunked bytes more status x = record {
  chunks = x.chunks;
  after = x.after ++ more;
  each = x.each;
  parts = append-more bytes (flat_map print_chunk x.chunks) x.after more x.parts;
  room = x.room;
  stands = at_line_stays (limit - chunk_bytes x.chunks) x.after more status x.stands;
}
body_stays limit unclear bytes more status x = x

after_head_stays : (limit : ℕ) (h : RequestHead) (after more : List ℕ) (status : ℕ) → IsRestAfterHead limit h after (bad status) → IsRestAfterHead limit h (after ++ more) (bad status)
after_head_stays limit h after more status (inl x) = inl x
after_head_stays limit h after more status (inr x) = inr (x.0, body_stays limit (framing (fields_of h)) after more status x.1)

pub stays : BadStays
stays p bytes more status few (inl x) = absurd (let no = x.1 in cc)
stays p bytes more status few (inr (inl x)) = inr (inl (headless bytes more status few x.0 x.1 x.2))
stays p bytes more status few (inr (inr x)) = inr (inr (x.0, x.1 ++ more, head-more bytes x.1 more x.0 x.2, after_head_stays (body_limit p) x.0 x.1 more status x.3))
