-- Bodies of requests and replies, and what they read as.
use Rattle.std.proofs.Common.{◌≡◌, [], ◌∷◌, Ok, Err, Some, pos, negsuc, refl}
use Rattle.dkv_wire.specs.Reading.{varint_in, varint_at, text_at, content_at, field_at}
use Rattle.dkv_wire.specs.FieldLists.{fields_in, bad_in, varints_in, are_varints_in}
use Rattle.dkv_msgs.specs.Readings.{reads_snapshot_read, reads_atomic_write, reads_atomic_write_output, reads_watch}

-- no bytes are a read of no ranges
no_bytes_are_no_ranges : reads_snapshot_read [] ≡ Ok (record { ranges = [] })
unfolding fields_in bad_in field_at varint_at varint_in
no_bytes_are_no_ranges = refl

-- a tag alone, and a length past the end
tag_alone_is_refused : reads_snapshot_read (0x0A ∷ []) ≡ Err 0
unfolding fields_in bad_in field_at varint_at varint_in content_at text_at
tag_alone_is_refused = refl

length_past_the_end_is_refused : reads_snapshot_read (0x0A ∷ 0x02 ∷ 0x18 ∷ []) ≡ Err 0
unfolding fields_in bad_in field_at varint_at varint_in content_at text_at
length_past_the_end_is_refused = refl

-- inside a range, counted from the start of the body
place_inside_a_range : reads_snapshot_read (0x0A ∷ 0x01 ∷ 0x18 ∷ []) ≡ Err 2
unfolding fields_in bad_in field_at varint_at varint_in content_at text_at
place_inside_a_range = refl

-- behind a whole range comes a group, which is refused
group_is_refused : reads_snapshot_read (0x0A ∷ 0x02 ∷ 0x18 ∷ 0x05 ∷ 0x0B ∷ []) ≡ Err 4
unfolding fields_in bad_in field_at varint_at varint_in content_at text_at
group_is_refused = refl

-- the number 0, packed and not
packed_numbers : reads_atomic_write_output (0x22 ∷ 0x01 ∷ 0x00 ∷ []) ≡ Ok (record { status = pos 0; versionstamp = []; failed_checks = 0 ∷ [] })
unfolding fields_in bad_in field_at varint_at varint_in content_at text_at varints_in are_varints_in
packed_numbers = refl

one_number : reads_atomic_write_output (0x20 ∷ 0x00 ∷ []) ≡ Ok (record { status = pos 0; versionstamp = []; failed_checks = 0 ∷ [] })
unfolding fields_in bad_in field_at varint_at varint_in content_at text_at varints_in are_varints_in
one_number = refl

-- packed numbers that are cut short are refused at their field
cut_packed_numbers_are_refused : reads_atomic_write_output (0x08 ∷ 0x01 ∷ 0x22 ∷ 0x01 ∷ 0x80 ∷ []) ≡ Err 2
unfolding fields_in bad_in field_at varint_at varint_in content_at text_at varints_in are_varints_in
cut_packed_numbers_are_refused = refl

-- an eleventh byte of a number
eleventh_byte_is_refused : reads_atomic_write_output (0x08 ∷ 0x80 ∷ 0x80 ∷ 0x80 ∷ 0x80 ∷ 0x80 ∷ 0x80 ∷ 0x80 ∷ 0x80 ∷ 0x80 ∷ 0x80 ∷ 0x01 ∷ []) ≡ Err 0
unfolding fields_in bad_in field_at varint_at varint_in content_at text_at varints_in are_varints_in
eleventh_byte_is_refused = refl

-- the last of a number counts, a field of another type and an unknown one are skipped, and -1 has ten bytes
last_number_counts : reads_atomic_write_output (0x08 ∷ 0x05 ∷ 0x0A ∷ 0x01 ∷ 0x61 ∷ 0x38 ∷ 0x07 ∷ 0x08 ∷ 0xFF ∷ 0xFF ∷ 0xFF ∷ 0xFF ∷ 0xFF ∷ 0xFF ∷ 0xFF ∷ 0xFF ∷ 0xFF ∷ 0x01 ∷ [])
    ≡ Ok (record { status = negsuc 0; versionstamp = []; failed_checks = [] })
unfolding fields_in bad_in field_at varint_at varint_in content_at text_at varints_in are_varints_in
last_number_counts = refl

-- a value in two pieces is the value in one
two_pieces_are_one : reads_atomic_write (0x12 ∷ 0x10 ∷ 0x0A ∷ 0x03 ∷ 0x02 ∷ 0x61 ∷ 0x00 ∷ 0x12 ∷ 0x03 ∷ 0x0A ∷ 0x01 ∷ 0x78 ∷ 0x12 ∷ 0x02 ∷ 0x10 ∷ 0x03 ∷ 0x18 ∷ 0x01 ∷ [])
    ≡ reads_atomic_write (0x12 ∷ 0x0E ∷ 0x0A ∷ 0x03 ∷ 0x02 ∷ 0x61 ∷ 0x00 ∷ 0x12 ∷ 0x05 ∷ 0x0A ∷ 0x01 ∷ 0x78 ∷ 0x10 ∷ 0x03 ∷ 0x18 ∷ 0x01 ∷ [])
unfolding fields_in bad_in field_at varint_at varint_in content_at text_at varints_in are_varints_in
two_pieces_are_one = refl

value_in_one_piece : reads_atomic_write (0x12 ∷ 0x0E ∷ 0x0A ∷ 0x03 ∷ 0x02 ∷ 0x61 ∷ 0x00 ∷ 0x12 ∷ 0x05 ∷ 0x0A ∷ 0x01 ∷ 0x78 ∷ 0x10 ∷ 0x03 ∷ 0x18 ∷ 0x01 ∷ [])
    ≡ Ok (record {
      checks = [];
      mutations = (record { key = 0x02 ∷ 0x61 ∷ 0x00 ∷ []; value = Some (record { bytes = 0x78 ∷ []; encoding = pos 3 }); kind = pos 1; expire_at_ms = pos 0 }) ∷ [];
      enqueues = [];
    })
unfolding fields_in bad_in field_at varint_at varint_in content_at text_at varints_in are_varints_in
value_in_one_piece = refl

-- a key that is given, and one that is not
watched_keys : reads_watch (0x0A ∷ 0x03 ∷ 0x0A ∷ 0x01 ∷ 0x6B ∷ 0x0A ∷ 0x00 ∷ []) ≡ Ok (record { keys = (0x6B ∷ []) ∷ [] ∷ [] })
unfolding fields_in bad_in field_at varint_at varint_in content_at text_at varints_in are_varints_in
watched_keys = refl
