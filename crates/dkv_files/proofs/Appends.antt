-- An append leaves, at each moment, a file with the commits before it or with it too.
use Rattle.std.proofs.Common.{◌≡◌, refl, sym, ◌∙◌, ap, subst, ℕ, zero, suc, ◌+◌, ◌-◌, ◌<◌, ◌≤◌, Bool, true, false, not, ◌==◌, List, [], ◌∷◌, ◌++◌, length, take, drop, Option, Some, None, Ok, Err, Result, arith, IsTrue, length-drop, append_assoc, take-append-drop}
use Rattle.std.specs.Prelude.{slice_range, if◌then◌else◌}
use Rattle.std.specs.Option.{option_map_or, option_and_then}
use Rattle.std.proofs.lemmas.Bool.{and_parts}
use Rattle.std.proofs.lemmas.List.{drop-drop, append-nil}
use Rattle.dkv_base.specs.declared.types.Commit.{Commit}
use Rattle.dkv_base.specs.declared.types.Entry.{Entry}
use Rattle.dkv_base.specs.declared.types.Message.{Message}
use Rattle.dkv_base.specs.Spelling.{record_body, record_length}
use Rattle.dkv_base.specs.State.{State}
use Rattle.dkv_base.specs.After.{after, is_legal_at, is_legal_from_at, is_legal_in_at}
use Rattle.dkv_base.specs.Profiles.{Known, body_most}
use Rattle.dkv_base.specs.declared.types.Layout.{Layout}
use Rattle.dkv_base.specs.declared.types.Profile.{Profile}
use Rattle.dkv_journal.specs.Records.{Scan, End, at_closed, at_damaged, ends, with_body, is_record, body_behind, scanned_by, is_closed_at, records, record_size, laid, scanned, scanned_at}
use Rattle.dkv_journal.specs.declared.gates.TheConstants.{OPEN_GATE, CLOSED_GATE}
use Rattle.dkv_journal.specs.Crashes.{HasRecord, StaysShut}
use Rattle.dkv_image.specs.Image.{image_of}
use Rattle.dkv_files.specs.Files.{generation_of, id_of, secret_of, layout_of, bounds_of, image_end, first_gate}
use Rattle.dkv_files.specs.Recovered.{Stands, Found, Recovery, found, no_database, damaged, replayed, settled, commits_in, next_commit, if_legal, base_of, from_records, from_image, has_its_digest, from_file, last_gate, Rests}
use Rattle.dkv_record.specs.Records.{WriteOf, commit_of}
use Rattle.dkv_journal.specs.Laws.{scans_on}
use Rattle.dkv_journal.proofs.Prefix.{goes, scan_goes_on}
use Rattle.dkv_journal.proofs.Scans.{scans, size}
use Rattle.dkv_files.proofs.Fronts.{part_same, same_generation, same_id, same_secret, same_layout, same_bounds, same_gate, same_base, head_near, same_image, same_its_digest, still_stands}

-- ---- what a found file was read from

abbrev get : Found → Recovery → Found
get d (found f) = f
get d no_database = d
get d (damaged which place) = d

found_is : (a b : Found) → found a ≡ found b → a ≡ b
found_is a b is = ap (λ r. get a r) is

digest_was : (v : Bool) (which end : ℕ) (x : Recovery) (r : Found) → (if not v then damaged which end else x) ≡ found r → (v ≡ true) × (x ≡ found r)
digest_was true which end x r is = (refl, is)
digest_was false which end x r is = absurd (cc is)

image_was : (write_of : WriteOf) (which : ℕ) (file : List ℕ) (img : Result (List Entry × List Message) ℕ) (r : Found) → from_image write_of which file img ≡ found r
    → (x : List Entry × List Message) × (img ≡ Ok x) × (from_records which file (base_of file x.0 x.1) (commits_in write_of (layout_of file) (base_of file x.0 x.1) (first_gate file) file) ≡ found r)
image_was write_of which file (Ok x) r is = (x, refl, is)
image_was write_of which file (Err at) r is = absurd (cc is)

records_were : (which : ℕ) (file : List ℕ) (base : State) (c : Result (List Commit) ℕ) (r : Found) → from_records which file base c ≡ found r
    → (cs : List Commit) × (c ≡ Ok cs) × ((let f : Found = record { base = base; commits = cs; id = id_of file; secret = secret_of file; layout = layout_of file } in f) ≡ r)
records_were which file base (Ok cs) r is = (cs, refl, found_is _ r is)
records_were which file base (Err place) r is = absurd (cc is)

settled_was : (how : End) (p : ℕ) (c : Result (List Commit) ℕ) (cs : List Commit) → settled how p c ≡ Ok cs → (how ≡ at_closed) × (c ≡ Ok cs)
settled_was how p (Err place) cs is = absurd (cc is)
settled_was at_closed p (Ok x) cs is = (refl, is)
settled_was at_damaged p (Ok x) cs is = absurd (cc is)

-- ---- replaying one more

replay_on : (write_of : WriteOf) (l : Layout) (base : State) (bodies : List (List ℕ)) (before : List Commit) (p : ℕ) (body : List ℕ) (cs : List Commit) (c : Commit)
    → replayed write_of l base before p bodies ≡ Ok cs → next_commit write_of l.profile base cs body ≡ Some c → replayed write_of l base before p (bodies ++ body ∷ []) ≡ Ok (cs ++ c ∷ [])
replay_on write_of l base [] before p body cs c is next =
    let same : before ≡ cs = ok_is before cs is in
    (λ i. option_map_or (λ x. replayed write_of l base (same i ++ x ∷ []) (p + record_size l body) []) (next_commit write_of l.profile base (same i) body) (Err p))
    ∙ ap (λ (o : Option Commit). option_map_or (λ x. replayed write_of l base (cs ++ x ∷ []) (p + record_size l body) []) o (Err p)) next
  where
    ok_is : (x y : List Commit) → (let r : Result (List Commit) ℕ = Ok x in r) ≡ Ok y → x ≡ y
    ok_is x y is = ap (λ (r : Result (List Commit) ℕ). list_in x r) is
      where
        list_in : List Commit → Result (List Commit) ℕ → List Commit
        list_in d (Ok z) = z
        list_in d (Err e) = d
replay_on write_of l base (first ∷ bodies) before p body cs c is next =
    elim (next_commit write_of l.profile base before first) as (λ (o : Option Commit).
    option_map_or (λ x. replayed write_of l base (before ++ x ∷ []) (p + record_size l first) bodies) o (Err p) ≡ Ok cs
    → option_map_or (λ x. replayed write_of l base (before ++ x ∷ []) (p + record_size l first) (bodies ++ body ∷ [])) o (Err p) ≡ Ok (cs ++ c ∷ [])) [
      | None ↦ λ none. absurd (cc none)
      | Some x ↦ λ rest. replay_on write_of l base bodies (before ++ x ∷ []) (p + record_size l first) body cs c rest next
    ] is

last_legal : (p : Profile) (base : State) (before cs : List Commit) (c : Commit) → is_legal_from_at p base before (cs ++ c ∷ []) ≡ true → is_legal_in_at p (after base (before ++ cs)) c ≡ true
last_legal p base before [] c is =
    ap (λ (l : List Commit). is_legal_in_at p (after base l) c) (append-nil before) ∙ (and_parts (is_legal_in_at p (after base before) c) true is).0
last_legal p base before (d ∷ cs) c is =
    ap (λ (l : List Commit). is_legal_in_at p (after base l) c) (sym (append_assoc before (d ∷ []) cs))
    ∙ last_legal p base (before ++ d ∷ []) cs c (and_parts (is_legal_in_at p (after base before) d) (is_legal_from_at p base (before ++ d ∷ []) (cs ++ c ∷ [])) is).1

-- ---- the file after an append

module _ (k : Known) (write_of : WriteOf) (which : ℕ) (file left : List ℕ) where
  abbrev l : Layout
  l = layout_of file

  abbrev p : ℕ
  p = first_gate file

  abbrev s : Scan
  s = scanned l p (drop p file)

  abbrev q : ℕ
  q = s.place

  abbrev answer_of : State → List Commit → Found
  answer_of base cs = record { base = base; commits = cs; id = id_of file; secret = secret_of file; layout = l }

  abbrev answer : State → List Commit → Recovery
  answer base cs = found (record { base = base; commits = cs; id = id_of file; secret = secret_of file; layout = l })

  module _ (es : List Entry) (ms : List Message) (cs : List Commit)
      (its : has_its_digest file ≡ true) (image : image_of (bounds_of file) (slice_range file 96 (image_end file)) ≡ Ok (es, ms))
      (ended : s.end ≡ at_closed) (done : replayed write_of l (base_of file es ms) [] p s.bodies ≡ Ok cs)
      (agree : take q left ≡ take q file) where
    abbrev base : State
    base = base_of file es ms

    abbrev tail : List ℕ
    tail = drop q left

    near : p ≤ q
    near = (goes (length (drop p file) + 1) l p (drop p file) [] 0 ended).above

    -- what stands from the first gate on
    from_gate : drop p left ≡ take (q - p) (drop p file) ++ tail
    from_gate =
        let back : drop (q - p) (drop p left) ≡ tail = drop-drop (q - p) p left ∙ (let sum : p + (q - p) ≡ q = omega (arith, near) in ap (λ (n : ℕ). drop n left) sum) in
        sym (take-append-drop (q - p) (drop p left))
        ∙ (λ i. part_same p (q - p) q left file agree (omega (arith, near)) i ++ back i)

    scan_left : scanned l p (drop p left) ≡ scans_on s.bodies (scanned l q tail)
    scan_left = ap (λ (b : List ℕ). scanned l p b) from_gate ∙ scan_goes_on l p (drop p file) tail ended

    read_left : (x : List Commit) → commits_in write_of l base p left ≡ Ok x → from_file write_of which left ≡ answer base x
    read_left x is =
        let near_gate : first_gate file ≤ q = near in
        let digest = same_its_digest q left file agree near_gate ∙ its in
        let same_i = (λ i. image_of (same_bounds q left file agree (head_near q left file agree near_gate) i) (same_image q left file agree near_gate i)) ∙ image in
        let b = same_base q left file agree (head_near q left file agree near_gate) es ms in
        let lay = same_layout q left file agree (head_near q left file agree near_gate) in
        let gate = same_gate q left file agree (head_near q left file agree near_gate) in
        let ids = same_id q left file agree (head_near q left file agree near_gate) in
        let secrets = same_secret q left file agree (head_near q left file agree near_gate) in
        ap (λ (v : Bool). if not v then damaged which (image_end left) else from_image write_of which left (image_of (bounds_of left) (slice_range left 96 (image_end left)))) digest
        ∙ ap (λ (r : Result (List Entry × List Message) ℕ). from_image write_of which left r) same_i
        ∙ (λ i. from_records which left (b i) (commits_in write_of (lay i) (b i) (gate i) left))
        ∙ ap (λ (r : Result (List Commit) ℕ). from_records which left base r) is
        ∙ (λ i. (let r : Recovery = found (record { base = base; commits = x; id = ids i; secret = secrets i; layout = lay i }) in r))

    abbrev commits_of : Scan → Result (List Commit) ℕ
    commits_of t = settled t.end t.place (replayed write_of l base [] p t.bodies)

    -- one step of a scan, by whether the gate is closed
    abbrev stepped : ℕ → List ℕ → Bool → Scan
    stepped g rest v =
        if v then ends q at_closed
        else if not (is_record l q rest) then ends q at_damaged
        else with_body (body_behind l rest) (scanned_by (suc (length rest)) l (q + record_size l (body_behind l rest)) (drop (record_size l (body_behind l rest)) (g ∷ rest)))

    abbrev replay : List (List ℕ) → Result (List Commit) ℕ
    replay bodies = replayed write_of l base [] p bodies

    -- where the records end then
    place_left : (t : Scan) → scanned l q tail ≡ t → last_gate left ≡ t.place
    place_left t is =
        let gate = same_gate q left file agree (head_near q left file agree near) in
        let lay = same_layout q left file agree (head_near q left file agree near) in
        (λ i. (scanned (lay i) (gate i) (drop (gate i) left)).place) ∙ ap (λ (x : Scan). x.place) (scan_left ∙ ap (λ (x : Scan). scans_on s.bodies x) is)

    -- the gate is closed
    here_shut : (g : ℕ) (rest : List ℕ) → tail ≡ g ∷ rest → not (g == OPEN_GATE) ≡ true → scanned l q tail ≡ ends q at_closed
    here_shut g rest is closed =
        let fuel : length (g ∷ rest) + 1 ≡ suc (suc (length rest)) = omega arith in
        ap (λ (b : List ℕ). scanned l q b) is ∙ ap (λ (n : ℕ). scanned_by n l q (g ∷ rest)) fuel ∙ ap (λ (v : Bool). stepped g rest v) closed

    shut : (g : ℕ) (rest : List ℕ) → tail ≡ g ∷ rest → not (g == OPEN_GATE) ≡ true → commits_in write_of l base p left ≡ Ok cs
    shut g rest is closed =
        ap commits_of (scan_left ∙ ap (λ (t : Scan). scans_on s.bodies t) (here_shut g rest is closed))
        ∙ ap (λ (bodies : List (List ℕ)). settled at_closed q (replay bodies)) (append-nil s.bodies)
        ∙ ap (λ (r : Result (List Commit) ℕ). settled at_closed q r) done

    -- the record is whole
    here_opened : (c : Commit) (rest : List ℕ) → record_length c ≤ body_most l.profile → tail ≡ records l q (record_body c ∷ []) ++ rest
        → scanned l q tail ≡ record { bodies = record_body c ∷ []; place = q + (length (records l q (record_body c ∷ [])) - 1); end = at_closed }
    here_opened c rest short is = ap (λ (b : List ℕ). scanned l q b) is ∙ scans l q (record_body c ∷ []) rest (short, tt)

    opened : (c : Commit) (rest : List ℕ) → commit_of write_of (record_body c) ≡ Some c → is_legal_at l.profile base (cs ++ c ∷ []) ≡ true → record_length c ≤ body_most l.profile
        → tail ≡ records l q (record_body c ∷ []) ++ rest → commits_in write_of l base p left ≡ Ok (cs ++ c ∷ [])
    opened c rest back legal short is =
        let body = record_body c in
        let end = q + (length (records l q (body ∷ [])) - 1) in
        let next : next_commit write_of l.profile base cs body ≡ Some c =
        ap (λ (o : Option Commit). option_and_then (if_legal l.profile (after base cs)) o) back
        ∙ ap (λ (v : Bool). if v then Some c else None) (last_legal l.profile base [] cs c legal) in
        ap commits_of (scan_left ∙ ap (λ (t : Scan). scans_on s.bodies t) (here_opened c rest short is))
        ∙ ap (λ (r : Result (List Commit) ℕ). settled at_closed end r) (replay_on write_of l base s.bodies [] p body cs c done next)

    -- there is a byte at the gate
    byte_at : (n : ℕ) (xs : List ℕ) → is_closed_at n xs ≡ true → (g : ℕ) × (rest : List ℕ) × (drop n xs ≡ g ∷ rest) × (not (g == OPEN_GATE) ≡ true)
    byte_at n [] is = absurd (cc is)
    byte_at zero (x ∷ xs) is = (x, xs, refl, is)
    byte_at (suc n) (x ∷ xs) is = byte_at n xs is

    taken : (n : ℕ) (xs ys : List ℕ) → take n xs ≡ ys → xs ≡ ys ++ drop n xs
    taken n xs ys is = sym (take-append-drop n xs) ∙ ap (λ (y : List ℕ). y ++ drop n xs) is

    whole_is : (c : Commit) → HasRecord l q (record_body c) left → tail ≡ (OPEN_GATE ∷ laid l q (record_body c)) ++ drop (1 + length (laid l q (record_body c))) tail
    whole_is c whole = taken (1 + length (laid l q (record_body c))) tail (OPEN_GATE ∷ laid l q (record_body c)) whole

    -- it rests as before
    shut_parts : Stands k file → is_closed_at q left ≡ true → Rests k write_of which (answer_of base cs) q left × (generation_of left ≡ generation_of file)
    shut_parts stands closed =
        let b = byte_at q left closed in
        let within : q < length left = omega (arith, length-drop q left, ap length b.2) in (
          record { stands = still_stands q left file agree near k within stands; read = read_left cs (shut b.0 b.1 b.2 b.3); gate = place_left _ (here_shut b.0 b.1 b.2 b.3) },
          same_generation q left file agree (head_near q left file agree near),
        )

    -- it rests with the commit too
    record_parts : (c : Commit) → Stands k file → commit_of write_of (record_body c) ≡ Some c → is_legal_at l.profile base (cs ++ c ∷ []) ≡ true → record_length c ≤ body_most l.profile
        → HasRecord l q (record_body c) left → Rests k write_of which (answer_of base (cs ++ c ∷ [])) (q + record_size l (record_body c)) left × (generation_of left ≡ generation_of file)
    record_parts c stands back legal short whole =
        let is = whole_is c whole in
        let within : q < length left = omega (arith, length-drop q left, ap length is) in
        let far : length (records l q (record_body c ∷ [])) - 1 ≡ record_size l (record_body c) = omega (arith, size l q (record_body c) (CLOSED_GATE ∷ []) short) in (
          record {
            stands = still_stands q left file agree near k within stands;
            read = read_left (cs ++ c ∷ []) (opened c (drop (1 + length (laid l q (record_body c))) tail) back legal short is);
            gate = place_left _ (here_opened c (drop (1 + length (laid l q (record_body c))) tail) short is) ∙ ap (λ (n : ℕ). q + n) far;
          },
          same_generation q left file agree (head_near q left file agree near),
        )

-- the answer of a file that is found
module _ (k : Known) (write_of : WriteOf) (which : ℕ) (file left : List ℕ) where
  shut_here : (r : Found) → Stands k file → from_file write_of which file ≡ found r → StaysShut (last_gate file) file left
      → Rests k write_of which r (last_gate file) left × (generation_of left ≡ generation_of file)
  shut_here r stands is made =
      let digest = digest_was (has_its_digest file) which (image_end file) (from_image write_of which file (image_of (bounds_of file) (slice_range file 96 (image_end file)))) r is in
      let image = image_was write_of which file (image_of (bounds_of file) (slice_range file 96 (image_end file))) r digest.1 in
      let x = image.0 in
      let base = base_of file x.0 x.1 in
      let found_records = records_were which file base (commits_in write_of (layout_of file) base (first_gate file) file) r image.2 in
      let cs = found_records.0 in
      let s = scanned_at (layout_of file) (first_gate file) file in
      let ended = settled_was s.end s.place (replayed write_of (layout_of file) base [] (first_gate file) s.bodies) cs found_records.1 in
      subst (λ (f : Found). Rests k write_of which f (last_gate file) left × (generation_of left ≡ generation_of file))
      found_records.2
      (shut_parts k write_of which file left x.0 x.1 cs digest.0 image.1 ended.0 ended.1 made.before stands made.gate)

  record_here : (r : Found) (c : Commit) → Stands k file → from_file write_of which file ≡ found r
      → commit_of write_of (record_body c) ≡ Some c → IsTrue (is_legal_at r.layout.profile r.base (r.commits ++ c ∷ [])) → record_length c ≤ body_most r.layout.profile
      → take (last_gate file) left ≡ take (last_gate file) file → HasRecord r.layout (last_gate file) (record_body c) left
      → Rests k write_of which (record r { commits = r.commits ++ c ∷ [] }) (last_gate file + record_size r.layout (record_body c)) left × (generation_of left ≡ generation_of file)
  record_here r c stands is =
      let digest = digest_was (has_its_digest file) which (image_end file) (from_image write_of which file (image_of (bounds_of file) (slice_range file 96 (image_end file)))) r is in
      let image = image_was write_of which file (image_of (bounds_of file) (slice_range file 96 (image_end file))) r digest.1 in
      let x = image.0 in
      let base = base_of file x.0 x.1 in
      let found_records = records_were which file base (commits_in write_of (layout_of file) base (first_gate file) file) r image.2 in
      let cs = found_records.0 in
      let s = scanned_at (layout_of file) (first_gate file) file in
      let ended = settled_was s.end s.place (replayed write_of (layout_of file) base [] (first_gate file) s.bodies) cs found_records.1 in
      subst (λ (f : Found). commit_of write_of (record_body c) ≡ Some c → IsTrue (is_legal_at f.layout.profile f.base (f.commits ++ c ∷ [])) → record_length c ≤ body_most f.layout.profile
      → take (last_gate file) left ≡ take (last_gate file) file → HasRecord f.layout (last_gate file) (record_body c) left
      → Rests k write_of which (record f { commits = f.commits ++ c ∷ [] }) (last_gate file + record_size f.layout (record_body c)) left × (generation_of left ≡ generation_of file))
      found_records.2
      (λ back legal short before whole. record_parts k write_of which file left x.0 x.1 cs digest.0 image.1 ended.0 ended.1 before c stands back legal short whole)

  -- a file that stays shut rests as it did
  pub shut_rests : (r : Found) (p : ℕ) → Rests k write_of which r p file → StaysShut p file left → Rests k write_of which r p left × (generation_of left ≡ generation_of file)
  shut_rests r p rests made =
      subst (λ (q : ℕ). StaysShut q file left → Rests k write_of which r q left × (generation_of left ≡ generation_of file)) rests.gate (shut_here r rests.stands rests.read) made

  -- a file that has one more record rests with its commit
  pub record_rests : (r : Found) (p : ℕ) (c : Commit) → Rests k write_of which r p file
      → commit_of write_of (record_body c) ≡ Some c → IsTrue (is_legal_at r.layout.profile r.base (r.commits ++ c ∷ [])) → record_length c ≤ body_most r.layout.profile
      → take p left ≡ take p file → HasRecord r.layout p (record_body c) left
      → Rests k write_of which (record r { commits = r.commits ++ c ∷ [] }) (p + record_size r.layout (record_body c)) left × (generation_of left ≡ generation_of file)
  record_rests r p c rests back legal short =
      subst (λ (q : ℕ). take q left ≡ take q file → HasRecord r.layout q (record_body c) left
      → Rests k write_of which (record r { commits = r.commits ++ c ∷ [] }) (q + record_size r.layout (record_body c)) left × (generation_of left ≡ generation_of file))
      rests.gate (record_here r c rests.stands rests.read back legal short)
