-- What is read as a commit is its record body, and each record body is read.
use Rattle.std.proofs.Common.{◌≡◌, refl, sym, ◌∙◌, ap, subst, ℕ, ◌^◌, ◌<◌, ◌≤◌, Bool, true, false, ◌==◌, List, length, drop, Option, Some, None, Ok, Err, Result, arith, length-append}
use Rattle.std.specs.Prelude.{slice_index, option_map, bytes_eq, if◌then◌else◌}
use Rattle.std.specs.Result.{result_ok}
use Rattle.std.specs.Option.{option_and_then}
use Rattle.std.proofs.lemmas.Nat.{from_le_bytes-to_le_bytes_4, from_le_bytes-to_le_bytes_8}
use Rattle.std.proofs.lemmas.Option.{cond_some, option_and_then_some}
use Rattle.std.proofs.lemmas.Slice.Eq.{bytes_eq-Decides}
use Rattle.dkv_base.specs.declared.types.AtomicWrite.{AtomicWrite}
use Rattle.dkv_base.specs.declared.types.Commit.{Commit}
use Rattle.dkv_base.specs.declared.types.Commit.TheVariants as commit
use Rattle.dkv_base.specs.Spelling.{record_body, record_length, record_head, spell_write}
use Rattle.dkv_record.specs.declared.read.RecordError.{RecordError}
use Rattle.dkv_record.specs.declared.read.RecordError.TheVariants as error
use Rattle.dkv_record.specs.Records.{IsLikely, commit_of, likely, exactly, who_in, at_in, id_in, WriteOf}
use Rattle.dkv_base.specs.declared.types.MsgId.{MsgId}
use Rattle.dkv_base.specs.Fits.{AreBytes, FitsCommit, FitsHead, FitsId}
use Rattle.dkv_record.specs.Laws.{ReadsWrites, CommitIsSpelled, SpelledIsCommit, OneBody}
use Rattle.dkv_base.proofs.ByteLists.{below_drop, below_take, number_4, number_8, bytes_drop, mapped}

same_body : (c : Commit) → exactly (record_body c) c ≡ Some c
same_body c = ap (λ (b : Bool). if b then Some c else None) ((bytes_eq-Decides (record_body c) (record_body c)).1 refl)

module _ (write_of : WriteOf) where
  pub wrote_back : (who at : ℕ) (w : AtomicWrite) → FitsHead who at → write_of (spell_write w) ≡ Ok w → commit_of write_of (record_body (commit.Wrote who at w)) ≡ Some (commit.Wrote who at w)
  wrote_back who at w fits reads =
      let body = record_body (commit.Wrote who at w) in
      ap (λ (r : Result AtomicWrite ℕ). option_and_then (exactly body) (option_map (λ v. commit.Wrote (who_in body) (at_in body) v) (result_ok r))) reads
      ∙ ap (λ (n : ℕ). exactly body (commit.Wrote n (at_in body) w)) (from_le_bytes-to_le_bytes_4 who fits.caller)
      ∙ ap (λ (n : ℕ). exactly body (commit.Wrote who n w)) (from_le_bytes-to_le_bytes_8 at fits.moment)
      ∙ same_body (commit.Wrote who at w)

  pub acked_back : (who at : ℕ) (id : MsgId) → FitsHead who at → FitsId id → commit_of write_of (record_body (commit.Acked who at id)) ≡ Some (commit.Acked who at id)
  acked_back who at id head fits =
      let body = record_body (commit.Acked who at id) in
      ap (λ (n : ℕ). exactly body (commit.Acked n (at_in body) (id_in body))) (from_le_bytes-to_le_bytes_4 who head.caller)
      ∙ ap (λ (n : ℕ). exactly body (commit.Acked who n (id_in body))) (from_le_bytes-to_le_bytes_8 at head.moment)
      ∙ ap (λ (n : ℕ). exactly body (commit.Acked who at (record { commit = n; index = (id_in body).index }))) (from_le_bytes-to_le_bytes_8 id.commit fits.commit)
      ∙ ap (λ (n : ℕ). exactly body (commit.Acked who at (record { commit = id.commit; index = n }))) (from_le_bytes-to_le_bytes_4 id.index fits.index)
      ∙ same_body (commit.Acked who at id)

  pub failed_back : (who at : ℕ) (id : MsgId) → FitsHead who at → FitsId id → commit_of write_of (record_body (commit.Failed who at id)) ≡ Some (commit.Failed who at id)
  failed_back who at id head fits =
      let body = record_body (commit.Failed who at id) in
      ap (λ (n : ℕ). exactly body (commit.Failed n (at_in body) (id_in body))) (from_le_bytes-to_le_bytes_4 who head.caller)
      ∙ ap (λ (n : ℕ). exactly body (commit.Failed who n (id_in body))) (from_le_bytes-to_le_bytes_8 at head.moment)
      ∙ ap (λ (n : ℕ). exactly body (commit.Failed who at (record { commit = n; index = (id_in body).index }))) (from_le_bytes-to_le_bytes_8 id.commit fits.commit)
      ∙ ap (λ (n : ℕ). exactly body (commit.Failed who at (record { commit = id.commit; index = n }))) (from_le_bytes-to_le_bytes_4 id.index fits.index)
      ∙ same_body (commit.Failed who at id)

module _ (write_of : WriteOf) (reads : ReadsWrites write_of) where
  pub spelled : (c : Commit) → FitsCommit c → record_length c < 2 ^ 63 → commit_of write_of (record_body c) ≡ Some c
  spelled (commit.Wrote who at w) fits long =
      wrote_back write_of who at w fits.0 (reads.again w fits.1 (omega (arith, long, length-append (record_head 1 who at) (spell_write w))))
  spelled (commit.Acked who at id) fits long = acked_back write_of who at id fits.0 fits.1
  spelled (commit.Failed who at id) fits long = failed_back write_of who at id fits.0 fits.1

  module _ (body : List ℕ) (are : AreBytes body) where
    caller : who_in body < 2 ^ 32
    caller = number_4 _ (below_take 4 _ (below_drop 1 body are.each))

    moment : at_in body < 2 ^ 64
    moment = number_8 _ (below_take 8 _ (below_drop 5 body are.each))

    id_commit : (id_in body).commit < 2 ^ 64
    id_commit = number_8 _ (below_take 8 _ (below_drop 13 body are.each))

    id_index : (id_in body).index < 2 ^ 32
    id_index = number_4 _ (below_take 4 _ (below_drop 21 body are.each))

    write_fits : (c : Commit) → option_map (λ w. commit.Wrote (who_in body) (at_in body) w) (result_ok (write_of (drop 13 body))) ≡ Some c → FitsCommit c
    write_fits c is =
        let from = mapped (λ w. commit.Wrote (who_in body) (at_in body) w) (write_of (drop 13 body)) c is in
        subst FitsCommit from.2 (record { caller = caller; moment = moment }, reads.fits (drop 13 body) from.0 (bytes_drop 13 body are) from.1)

    acked_fits : (c : Commit) → Some (commit.Acked (who_in body) (at_in body) (id_in body)) ≡ Some c → FitsCommit c
    acked_fits c is = subst FitsCommit (cond_some true _ c is).1 (record { caller = caller; moment = moment }, record { commit = id_commit; index = id_index })

    failed_fits : (c : Commit) → Some (commit.Failed (who_in body) (at_in body) (id_in body)) ≡ Some c → FitsCommit c
    failed_fits c is = subst FitsCommit (cond_some true _ c is).1 (record { caller = caller; moment = moment }, record { commit = id_commit; index = id_index })

    likely_fits : (c : Commit) → likely write_of body ≡ Some c → FitsCommit c
    likely_fits c is =
        elim (slice_index body 0 == 1) as (λ b. (if b then option_map (λ w. commit.Wrote (who_in body) (at_in body) w) (result_ok (write_of (drop 13 body)))
        else if slice_index body 0 == 2 then Some (commit.Acked (who_in body) (at_in body) (id_in body))
        else if slice_index body 0 == 3 then Some (commit.Failed (who_in body) (at_in body) (id_in body)) else None) ≡ Some c → FitsCommit c) [
          | true ↦ write_fits c
          | false ↦ elim (slice_index body 0 == 2) as (λ b. (if b then Some (commit.Acked (who_in body) (at_in body) (id_in body))
              else if slice_index body 0 == 3 then Some (commit.Failed (who_in body) (at_in body) (id_in body)) else None) ≡ Some c → FitsCommit c) [
                | true ↦ acked_fits c
                | false ↦ elim (slice_index body 0 == 3) as (λ b. (if b then Some (commit.Failed (who_in body) (at_in body) (id_in body)) else None) ≡ Some c → FitsCommit c) [
                  | true ↦ failed_fits c
                  | false ↦ λ none. absurd (cc none)
                ]
              ]
        ] is

    pub read : (c : Commit) → commit_of write_of body ≡ Some c → FitsCommit c × (body ≡ record_body c)
    read c is = option_and_then_some (exactly body) (likely write_of body) c is (λ x found same.
        let kept = cond_some (bytes_eq (record_body x) body) x c same in
        (subst FitsCommit kept.1 (likely_fits x found), sym ((bytes_eq-Decides (record_body x) body).0 kept.0) ∙ ap record_body kept.1))

pub commit_is_spelled : (write_of : WriteOf) → ReadsWrites write_of → CommitIsSpelled write_of
commit_is_spelled write_of reads body c are is = read write_of reads body are c is

pub spelled_is_commit : (write_of : WriteOf) → ReadsWrites write_of → SpelledIsCommit write_of
spelled_is_commit write_of reads c fits long = spelled write_of reads c fits long

pub same_commit : (write_of : WriteOf) → ReadsWrites write_of → OneBody
same_commit write_of reads c d fits also long is =
    let first = spelled write_of reads c fits long in
    let second = spelled write_of reads d also (omega (arith, long, ap length is)) in
    (cond_some true c d (sym first ∙ ap (commit_of write_of) is ∙ second)).1

-- ---- bodies that are no commit's

unlike : (b : Bool) (body : List ℕ) (c : Commit) → bytes_eq (record_body c) body ≡ b → length body < length (record_body c) → (if b then Some c else None) ≡ None
unlike true body c is lt = absurd (omega (arith, lt, ap length ((bytes_eq-Decides (record_body c) body).0 is)))
unlike false body c is lt = refl

longer : (body : List ℕ) (c : Commit) → length body < length (record_body c) → exactly body c ≡ None
longer body c lt = unlike (bytes_eq (record_body c) body) body c refl lt

at_least : (c : Commit) → 13 ≤ length (record_body c)
at_least (commit.Wrote who at w) = omega (arith, length-append (record_head 1 who at) (spell_write w))
at_least (commit.Acked who at id) = omega arith
at_least (commit.Failed who at id) = omega arith

all_longer : (body : List ℕ) (found : Option Commit) → length body < 13 → option_and_then (exactly body) found ≡ None
all_longer body None lt = refl
all_longer body (Some c) lt = longer body c (omega (arith, lt, at_least c))

-- shorter than the kind, the caller and the moment
pub short_head : (write_of : WriteOf) (body : List ℕ) → length body < 13 → commit_of write_of body ≡ None
short_head write_of body lt = all_longer body (likely write_of body) lt

-- the commit of a body, by its kind
abbrev by_kind : WriteOf → List ℕ → Bool → Bool → Bool → Option Commit
by_kind write_of body wrote acked failed =
    option_and_then (exactly body) (if wrote then option_map (λ w. commit.Wrote (who_in body) (at_in body) w) (result_ok (write_of (drop 13 body)))
    else if acked then Some (commit.Acked (who_in body) (at_in body) (id_in body))
    else if failed then Some (commit.Failed (who_in body) (at_in body) (id_in body)) else None)

settles : (write_of : WriteOf) (body : List ℕ) (a b d : Bool) → length body < 25 → a ≡ false → by_kind write_of body a b d ≡ None
settles write_of body true b d lt is = absurd (cc is)
settles write_of body false true d lt is = longer body (commit.Acked (who_in body) (at_in body) (id_in body)) (omega (arith, lt))
settles write_of body false false true lt is = longer body (commit.Failed (who_in body) (at_in body) (id_in body)) (omega (arith, lt))
settles write_of body false false false lt is = refl

-- none of the three kinds
pub other_kind : (write_of : WriteOf) (body : List ℕ) → (slice_index body 0 == 1) ≡ false → (slice_index body 0 == 2) ≡ false → (slice_index body 0 == 3) ≡ false → commit_of write_of body ≡ None
other_kind write_of body wrote acked failed = λ i. by_kind write_of body (wrote i) (acked i) (failed i)

-- no write, and shorter than a settlement
pub short_rest : (write_of : WriteOf) (body : List ℕ) → length body < 25 → (slice_index body 0 == 1) ≡ false → commit_of write_of body ≡ None
short_rest write_of body lt is = settles write_of body (slice_index body 0 == 1) (slice_index body 0 == 2) (slice_index body 0 == 3) lt is

-- what isn't read is no commit's body
pub not_spelled : (write_of : WriteOf) (reads : ReadsWrites write_of) (body : List ℕ) → AreBytes body → commit_of write_of body ≡ None → (c : Commit) → FitsCommit c → body ≡ record_body c → ⊥
not_spelled write_of reads body are none c fits is =
    let again = spelled write_of reads c fits (omega (arith, are.count, ap length is)) in
    cc (again, none, ap (commit_of write_of) is)

-- what the comparison of the spelling with the body says
pub compared : (write_of : WriteOf) (body bytes : List ℕ) (c : Commit) (b : Bool) → likely write_of body ≡ Some c → bytes ≡ record_body c → b ≡ bytes_eq bytes body → commit_of write_of body ≡ (if b then Some c else None)
compared write_of body bytes c b found is same =
    ap (option_and_then (exactly body)) found ∙ ap (λ (xs : List ℕ). if bytes_eq xs body then Some c else None) (sym is) ∙ ap (λ (v : Bool). if v then Some c else None) (sym same)

pub is_none : (write_of : WriteOf) (body : List ℕ) (e : RecordError) → IsLikely write_of body (Err e) → ◌≡◌ {A = Result Commit RecordError} (Err e) (Err error.NotARecord) → commit_of write_of body ≡ None
is_none write_of body error.NotARecord is same = is
is_none write_of body error.NoMemory is same = absurd (cc same)
