-- A written file stands, and is read as what it was written of.
use Rattle.std.proofs.Common.{◌≡◌, refl, sym, ◌∙◌, ap, ℕ, ◌+◌, ◌-◌, ◌^◌, ◌<◌, ◌≤◌, Bool, true, false, not, ◌&&◌, ◌||◌, ◌==◌, nat_le, nat_lt, List, [], ◌∷◌, ◌++◌, length, take, drop, map, Option, Some, None, Ok, Err, Result, arith, length-append, append_assoc}
use Rattle.std.specs.Prelude.{bytes_eq, slice_range, if◌then◌else◌}
use Rattle.std.specs.List.{AllByRecursion}
use Rattle.std.specs.Option.{option_map_or, option_and_then, option_or}
use Rattle.std.specs.Int.{w32, w64, from_le_bytes, to_le_bytes}
use Rattle.std.proofs.lemmas.Bool.{le-leb, lt-ltb, eqb-true, and_parts}
use Rattle.std.proofs.lemmas.List.{take_at, drop_at, append-nil}
use Rattle.std.proofs.lemmas.Nat.{from_le_bytes-to_le_bytes_4, from_le_bytes-to_le_bytes_8}
use Rattle.std.proofs.lemmas.Slice.Eq.{bytes_eq-Decides}
use Rattle.sha2.specs.Sha256.{sha256}
use Rattle.sha2.proofs.Facts256.{length-sha256}
use Rattle.dkv_base.specs.declared.types.Commit.{Commit}
use Rattle.dkv_base.specs.declared.types.Entry.{Entry}
use Rattle.dkv_base.specs.declared.types.Message.{Message}
use Rattle.dkv_base.specs.Limits.{first_some}
use Rattle.dkv_base.specs.Spelling.{record_body, record_length}
use Rattle.dkv_base.specs.State.{State}
use Rattle.dkv_base.specs.declared.moments.TheConstants.{MAX_MOMENT}
use Rattle.dkv_base.specs.After.{after, is_legal_from_at, is_legal_in_at}
use Rattle.dkv_base.specs.Profiles.{Known, profile_at, profile_number, body_most, is_known_format, is_known_profile}
use Rattle.dkv_base.specs.declared.types.Layout.{Layout}
use Rattle.dkv_base.specs.declared.types.Profile.{Profile}
use Rattle.dkv_base.specs.declared.types.Profile.TheVariants.{Narrow, Wide}
use Rattle.dkv_base.specs.Fits.{FitsCommit}
use Rattle.dkv_journal.specs.Records.{Scan, at_closed, has_digests, records, record_size, scanned, scanned_at}
use Rattle.dkv_journal.specs.declared.gates.TheConstants.{OPEN_GATE}
use Rattle.dkv_image.specs.Image.{bounds, Bounds, image, image_of}
use Rattle.dkv_files.specs.Files.{mark, head_bytes, front, front_digest, before_records, file_of, format_of, profile_of, generation_of, id_of, secret_of, image_length, number_of, moment_in, layout_of, bounds_of, image_end, first_gate, is_open, unless, number_fault, head_fault}
use Rattle.dkv_files.specs.declared.head.FileHead.{FileHead}
use Rattle.dkv_files.specs.Recovered.{Stands, Recovery, found, damaged, replayed, settled, commits_in, next_commit, if_legal, base_of, from_records, from_image, has_its_digest, from_file}
use Rattle.dkv_record.specs.Records.{WriteOf}
use Rattle.dkv_record.specs.Laws.{ReadsWrites}
use Rattle.dkv_files.specs.Laws.{IsFile, FileIsRead, state_of, found_of}
use Rattle.dkv_journal.specs.Laws.{IsBody}
use Rattle.dkv_journal.proofs.Scans.{scans, most}
use Rattle.dkv_record.proofs.Commits.{spelled_is_commit}
use Rattle.dkv_image.proofs.Images.{spelled_is_image}

-- ---- parts of joined lists

part_at : (a b c : List ℕ) (i j : ℕ) → length a ≡ i → length b ≡ j → take j (drop i (a ++ (b ++ c))) ≡ b
part_at a b c i j long_a long_b = ap (λ (x : List ℕ). take j x) (drop_at a (b ++ c) i long_a) ∙ take_at b c j long_b

digest_long : (h : Bool) (m : List ℕ) → length (if h then sha256 m else []) ≡ (if h then 32 else 0)
digest_long true m = length-sha256 m
digest_long false m = refl

profile_back : (p : Profile) → profile_at (profile_number p) ≡ p
profile_back Narrow = refl
profile_back Wide = refl

profile_small : (p : Profile) → profile_number p < 2 ^ 32
profile_small Narrow = omega arith
profile_small Wide = omega arith

format_small : (k : Known) (f : ℕ) → is_known_format k f ≡ true → f < 2 ^ 32
format_small k f known =
    elim (f == 1) as (λ v. f == 1 ≡ v → (v || (k.digests && (f == 2))) ≡ true → f < 2 ^ 32) [
      | true ↦ λ is _. omega (arith, eqb-true f 1 is)
      | false ↦ λ _ second. omega (arith, eqb-true f 2 (and_parts k.digests (f == 2) second).1)
    ] refl known

-- ---- replaying

bodies_short : (p : Profile) (cs : List Commit) → AllByRecursion (λ c. record_length c ≤ body_most p) cs → AllByRecursion (IsBody p) (map record_body cs)
bodies_short p [] all = tt
bodies_short p (c ∷ cs) all = (all.0, bodies_short p cs all.1)

replay_all : (write_of : WriteOf) → ReadsWrites write_of → (l : Layout) (base : State) (cs before : List Commit) (p : ℕ)
    → AllByRecursion FitsCommit cs → AllByRecursion (λ c. record_length c ≤ body_most l.profile) cs → is_legal_from_at l.profile base before cs ≡ true → replayed write_of l base before p (map record_body cs) ≡ Ok (before ++ cs)
replay_all write_of reads l base [] before p fits short legal = ap (λ (x : List Commit). (let r : Result (List Commit) ℕ = Ok x in r)) (sym (append-nil before))
replay_all write_of reads l base (c ∷ cs) before p fits short legal =
    let parts = and_parts (is_legal_in_at l.profile (after base before) c) (is_legal_from_at l.profile base (before ++ c ∷ []) cs) legal in
    let body = record_body c in
    let next : next_commit write_of l.profile base before body ≡ Some c =
    ap (λ (o : Option Commit). option_and_then (if_legal l.profile (after base before)) o) (spelled_is_commit write_of reads c fits.0 (let bound = most l.profile in omega (arith, short.0, bound)))
    ∙ ap (λ (v : Bool). if v then Some c else None) parts.0 in
    ap (λ (o : Option Commit). option_map_or (λ x. replayed write_of l base (before ++ x ∷ []) (p + record_size l body) (map record_body cs)) o (Err p)) next
    ∙ replay_all write_of reads l base cs (before ++ c ∷ []) (p + record_size l body) fits.1 short.1 parts.1
    ∙ ap (λ (x : List Commit). (let r : Result (List Commit) ℕ = Ok x in r)) (append_assoc before (c ∷ []) cs)

-- ---- the header

module _ (k : Known) (l : Layout) (head : FileHead) (es : List Entry) (ms : List Message) (cs : List Commit) (rest : List ℕ) (is : IsFile k l head es ms cs) where
  abbrev m : ℕ
  m = length (image es ms)

  abbrev img : List ℕ
  img = image es ms

  abbrev digest : List ℕ
  digest = front_digest l (front l head es ms)

  abbrev before : List ℕ
  before = before_records l OPEN_GATE head es ms

  abbrev recs : List ℕ
  recs = records l (length before) (map record_body cs) ++ rest

  abbrev file : List ℕ
  file = file_of l OPEN_GATE head es ms cs ++ rest

  abbrev m8 : List ℕ
  m8 = to_le_bytes w64 m

  abbrev n8 : List ℕ
  n8 = to_le_bytes w64 head.n

  abbrev now8 : List ℕ
  now8 = to_le_bytes w64 head.now

  -- the first 24 bytes
  abbrev start : List ℕ
  start = OPEN_GATE ∷ mark ++ to_le_bytes w32 l.format ++ to_le_bytes w32 (profile_number l.profile) ++ to_le_bytes w64 head.generation

  abbrev tail : List ℕ
  tail = img ++ (digest ++ recs)

  long_96 : length (OPEN_GATE ∷ head_bytes l head m) ≡ 96
  long_96 = omega (
    arith,
    is.id,
    is.secret,
    length-append (start ++ head.id ++ head.secret ++ m8 ++ n8) now8,
    length-append (start ++ head.id ++ head.secret ++ m8) n8,
    length-append (start ++ head.id ++ head.secret) m8,
    length-append (start ++ head.id) head.secret,
    length-append start head.id,
  )

  long_digest : length digest ≡ (if has_digests l then 32 else 0)
  long_digest = digest_long (has_digests l) (front l head es ms)

  at_records : file ≡ before ++ recs
  at_records = append_assoc before (records l (length before) (map record_body cs)) rest

  at_digest : file ≡ (OPEN_GATE ∷ front l head es ms) ++ (digest ++ recs)
  at_digest = at_records ∙ append_assoc (OPEN_GATE ∷ front l head es ms) digest recs

  at_image : file ≡ (OPEN_GATE ∷ head_bytes l head m) ++ tail
  at_image = at_digest ∙ append_assoc (OPEN_GATE ∷ head_bytes l head m) img (digest ++ recs)

  at_now : file ≡ (start ++ head.id ++ head.secret ++ m8 ++ n8) ++ (now8 ++ tail)
  at_now = at_image ∙ append_assoc (start ++ head.id ++ head.secret ++ m8 ++ n8) now8 tail

  at_n : file ≡ (start ++ head.id ++ head.secret ++ m8) ++ (n8 ++ (now8 ++ tail))
  at_n = at_now ∙ append_assoc (start ++ head.id ++ head.secret ++ m8) n8 (now8 ++ tail)

  at_m : file ≡ (start ++ head.id ++ head.secret) ++ (m8 ++ (n8 ++ (now8 ++ tail)))
  at_m = at_n ∙ append_assoc (start ++ head.id ++ head.secret) m8 (n8 ++ (now8 ++ tail))

  at_secret : file ≡ (start ++ head.id) ++ (head.secret ++ (m8 ++ (n8 ++ (now8 ++ tail))))
  at_secret = at_m ∙ append_assoc (start ++ head.id) head.secret (m8 ++ (n8 ++ (now8 ++ tail)))

  at_id : file ≡ start ++ (head.id ++ (head.secret ++ (m8 ++ (n8 ++ (now8 ++ tail)))))
  at_id = at_secret ∙ append_assoc start head.id (head.secret ++ (m8 ++ (n8 ++ (now8 ++ tail))))

  format_is : format_of file ≡ l.format
  format_is = ap (λ (x : List ℕ). format_of x) at_id ∙ from_le_bytes-to_le_bytes_4 l.format (format_small k l.format is.format)

  profile_is : profile_of file ≡ profile_number l.profile
  profile_is = ap (λ (x : List ℕ). profile_of x) at_id ∙ from_le_bytes-to_le_bytes_4 (profile_number l.profile) (profile_small l.profile)

  pub generation_is : generation_of file ≡ head.generation
  generation_is = ap (λ (x : List ℕ). generation_of x) at_id ∙ from_le_bytes-to_le_bytes_8 head.generation (omega (arith, is.numbers.last))

  mark_is : slice_range file 1 8 ≡ mark
  mark_is = ap (λ (x : List ℕ). slice_range x 1 8) at_id

  id_is : id_of file ≡ head.id
  id_is = ap (λ (x : List ℕ). id_of x) at_id ∙ part_at start head.id (head.secret ++ (m8 ++ (n8 ++ (now8 ++ tail)))) 24 16 refl is.id

  secret_is : secret_of file ≡ head.secret
  secret_is = ap (λ (x : List ℕ). secret_of x) at_secret
      ∙ part_at (start ++ head.id) head.secret (m8 ++ (n8 ++ (now8 ++ tail))) 40 32 (omega (arith, is.id, length-append start head.id)) is.secret

  long_72 : length (start ++ head.id ++ head.secret) ≡ 72
  long_72 = omega (arith, is.id, is.secret, length-append (start ++ head.id) head.secret, length-append start head.id)

  m_is : image_length file ≡ m
  m_is = ap (λ (x : List ℕ). image_length x) at_m
      ∙ ap (λ (b : List ℕ). from_le_bytes w64 b) (part_at (start ++ head.id ++ head.secret) m8 (n8 ++ (now8 ++ tail)) 72 8 long_72 refl)
      ∙ from_le_bytes-to_le_bytes_8 m is.long

  n_is : number_of file ≡ head.n
  n_is = ap (λ (x : List ℕ). number_of x) at_n
      ∙ ap (λ (b : List ℕ). from_le_bytes w64 b) (part_at (start ++ head.id ++ head.secret ++ m8) n8 (now8 ++ tail) 80 8 (omega (arith, long_72, length-append (start ++ head.id ++ head.secret) m8)) refl)
      ∙ from_le_bytes-to_le_bytes_8 head.n (omega (arith, is.numbers.n))

  now_is : moment_in file ≡ head.now
  now_is = ap (λ (x : List ℕ). moment_in x) at_now
      ∙ ap (λ (b : List ℕ). from_le_bytes w64 b) (part_at (start ++ head.id ++ head.secret ++ m8 ++ n8) now8 tail 88 8
      (omega (arith, long_72, length-append (start ++ head.id ++ head.secret ++ m8) n8, length-append (start ++ head.id ++ head.secret) m8)) refl)
      ∙ from_le_bytes-to_le_bytes_8 head.now (omega (arith, is.numbers.now))

  pub layout_is : layout_of file ≡ l
  layout_is = (λ i. record { format = format_is i; profile = profile_at (profile_is i) }) ∙ ap (λ (p : Profile). (let x : Layout = record { format = l.format; profile = p } in x)) (profile_back l.profile)

  bounds_is : bounds_of file ≡ bounds l.profile (state_of head es ms)
  bounds_is = (λ i. record { profile = profile_at (profile_is i); n = n_is i; now = now_is i })
      ∙ ap (λ (p : Profile). (let x : Bounds = record { profile = p; n = head.n; now = head.now } in x)) (profile_back l.profile)

  end_is : image_end file ≡ 96 + m
  end_is = ap (λ (n : ℕ). 96 + n) m_is

  pub long_front : length (OPEN_GATE ∷ front l head es ms) ≡ 96 + m
  long_front = omega (arith, long_96, length-append (OPEN_GATE ∷ head_bytes l head m) img)

  gate_by : (h : Bool) (d : List ℕ) (e : ℕ) → length d ≡ (if h then 32 else 0) → (if h then e + 32 else e) ≡ e + length d
  gate_by true d e long = omega (arith, long)
  gate_by false d e long = omega (arith, long)

  pub gate_is : first_gate file ≡ length before
  gate_is = (λ i. if has_digests (layout_is i) then end_is i + 32 else end_is i) ∙ gate_by (has_digests l) digest (96 + m) long_digest
      ∙ omega (arith, long_front, length-append (OPEN_GATE ∷ front l head es ms) digest)

  -- ---- what stands behind it

  image_part : slice_range file 96 (image_end file) ≡ img
  image_part = ap (λ (n : ℕ). slice_range file 96 n) end_is ∙ ap (λ (x : List ℕ). slice_range x 96 (96 + m)) at_image
      ∙ part_at (OPEN_GATE ∷ head_bytes l head m) img (digest ++ recs) 96 (96 + m - 96) long_96 (omega arith)

  front_part : slice_range file 1 (image_end file) ≡ front l head es ms
  front_part = ap (λ (n : ℕ). slice_range file 1 n) end_is ∙ ap (λ (x : List ℕ). slice_range x 1 (96 + m)) at_digest
      ∙ take_at (front l head es ms) (digest ++ recs) (96 + m - 1) (omega (arith, long_front))

  digest_part : slice_range file (image_end file) (first_gate file) ≡ digest
  digest_part = (λ i. slice_range file (end_is i) (gate_is i)) ∙ ap (λ (x : List ℕ). slice_range x (96 + m) (length before)) at_digest
      ∙ part_at (OPEN_GATE ∷ front l head es ms) digest recs (96 + m) (length before - (96 + m)) long_front (omega (arith, long_front, length-append (OPEN_GATE ∷ front l head es ms) digest))

  its : has_its_digest file ≡ true
  its = (λ i. bytes_eq (digest_part i) (front_digest (layout_is i) (front_part i))) ∙ (bytes_eq-Decides digest digest).1 refl

  image_read : image_of (bounds_of file) (slice_range file 96 (image_end file)) ≡ Ok (es, ms)
  image_read = (λ i. image_of (bounds_is i) (image_part i)) ∙ spelled_is_image (bounds l.profile (state_of head es ms)) es ms (omega (arith, is.numbers.n)) is.stands is.fits

  base_is : base_of file es ms ≡ state_of head es ms
  base_is i = record { number = n_is i; moment = now_is i; entries = es; messages = ms }

  pub scan_is : scanned_at l (length before) file ≡ record { bodies = map record_body cs; place = length before + (length (records l (length before) (map record_body cs)) - 1); end = at_closed }
  scan_is = ap (λ (x : List ℕ). scanned l (length before) (drop (length before) x)) at_records
      ∙ ap (λ (x : List ℕ). scanned l (length before) x) (drop_at before recs (length before) refl)
      ∙ scans l (length before) (map record_body cs) rest (bodies_short l.profile cs is.bodies)

  module _ (write_of : WriteOf) (reads : ReadsWrites write_of) (which : ℕ) where
    commits_are : commits_in write_of l (state_of head es ms) (length before) file ≡ Ok cs
    commits_are =
        ap (λ (s : Scan). settled s.end s.place (replayed write_of l (state_of head es ms) [] (length before) s.bodies)) scan_is
        ∙ ap (λ (r : Result (List Commit) ℕ). settled at_closed (length before + (length (records l (length before) (map record_body cs)) - 1)) r)
        (replay_all write_of reads l (state_of head es ms) cs [] (length before) is.commits is.bodies is.legal)

    pub file_read : from_file write_of which file ≡ found (found_of l head es ms cs)
    file_read =
        ap (λ (v : Bool). if not v then damaged which (image_end file) else from_image write_of which file (image_of (bounds_of file) (slice_range file 96 (image_end file)))) its
        ∙ ap (λ (r : Result (List Entry × List Message) ℕ). from_image write_of which file r) image_read
        ∙ (λ i. from_records which file (base_is i) (commits_in write_of (layout_is i) (base_is i) (gate_is i) file))
        ∙ ap (λ (r : Result (List Commit) ℕ). from_records which file (state_of head es ms) r) commits_are
        ∙ (λ i. (let r : Recovery = found (record { base = state_of head es ms; commits = cs; id = id_is i; secret = secret_is i; layout = layout_is i }) in r))

  -- ---- it stands

  positive : (bodies : List (List ℕ)) (p : ℕ) → 1 ≤ length (records l p bodies)
  positive [] p = omega arith
  positive (body ∷ bodies) p = omega arith

  long_file : length before < length file
  long_file = omega (arith, ap length at_records, length-append before recs, length-append (records l (length before) (map record_body cs)) rest, positive (map record_body cs) (length before))

  pub stands : Stands k file
  stands =
      let long : nat_le 96 (length file) ≡ true = le-leb 96 (length file) (omega (arith, long_file, long_front, length-append (OPEN_GATE ∷ front l head es ms) digest)) in
      let opened : is_open file ≡ true = ap (λ (v : Bool). v && true) long in
      let numbers : number_fault k file ≡ None = (λ i. first_some (
      unless (bytes_eq (mark_is i) mark) 1
      ∷ unless (is_known_format k (format_is i)) 8
      ∷ unless (is_known_profile k (profile_is i)) 12
      ∷ unless (nat_le 1 (generation_is i) && nat_lt (generation_is i) (2 ^ 63)) 16
      ∷ unless (nat_lt (n_is i) (2 ^ 63)) 80
      ∷ unless (nat_le (now_is i) MAX_MOMENT) 88
      ∷ []))
      ∙ (λ i. first_some (
      None
      ∷ unless (is.format i) 8
      ∷ unless (is.profile i) 12
      ∷ unless (le-leb 1 head.generation is.numbers.first i && lt-ltb head.generation (2 ^ 63) is.numbers.last i) 16
      ∷ unless (lt-ltb head.n (2 ^ 63) is.numbers.n i) 80
      ∷ unless (le-leb head.now MAX_MOMENT is.numbers.now i) 88
      ∷ [])) in
      let room : nat_lt (first_gate file) (length file) ≡ true = lt-ltb (first_gate file) (length file) (omega (arith, gate_is, long_file)) in
      let none : head_fault k file ≡ None = (λ i. option_or (numbers i) (unless (room i) 72)) in
      (opened, ap (λ (v : Bool). if v then head_fault k file else None) opened ∙ none)

pub file_is_read : (k : Known) (write_of : WriteOf) → FileIsRead k write_of
file_is_read k write_of reads which l head es ms cs rest is = (stands k l head es ms cs rest is, file_read k l head es ms cs rest is write_of reads which)
