-- What the fields 1 to 4 of a flat message hold, gathered in one walk.
--     ArePartsAfter old new fs      what is gathered behind these fields, where something was before them
--     AreParts parts fs      what is gathered of these fields alone
--     value_of parts, entry_of parts      the message that is made of what was gathered
use Rattle.std.specs.Prelude.{◌≡◌, List}
use Rattle.dkv_wire.specs.Wire.{Item}
use Rattle.dkv_base.specs.declared.types.Value.{Value}
use Rattle.dkv_msgs.specs.ByField.{held_by, number_in, last_or, last_bytes, last_number, payloads, int32}
use Rattle.dkv_msgs.specs.declared.read_parts.Parts.{Parts}
use Rattle.dkv_msgs.specs.declared.types.KvEntry.{KvEntry}

-- the last in each field, or what was there before ("Last One Wins")
pub record ArePartsAfter (old new : Parts) (fs : List Item) : Type 0 where
  pub bytes1 : new.bytes1.now ≡ last_or old.bytes1.now (payloads 1 fs)
  pub bytes2 : new.bytes2.now ≡ last_or old.bytes2.now (payloads 2 fs)
  pub bytes4 : new.bytes4.now ≡ last_or old.bytes4.now (payloads 4 fs)
  pub number1 : new.number1 ≡ last_or old.number1 (held_by number_in 1 fs)
  pub number2 : new.number2 ≡ last_or old.number2 (held_by number_in 2 fs)
  pub number3 : new.number3 ≡ last_or old.number3 (held_by number_in 3 fs)
  pub number4 : new.number4 ≡ last_or old.number4 (held_by number_in 4 fs)

-- the last in each field, or the default ("Last One Wins")
pub record AreParts (parts : Parts) (fs : List Item) : Type 0 where
  pub bytes1 : parts.bytes1.now ≡ last_bytes 1 fs
  pub bytes2 : parts.bytes2.now ≡ last_bytes 2 fs
  pub bytes4 : parts.bytes4.now ≡ last_bytes 4 fs
  pub number1 : parts.number1 ≡ last_number 1 fs
  pub number2 : parts.number2 ≡ last_number 2 fs
  pub number3 : parts.number3 ≡ last_number 3 fs
  pub number4 : parts.number4 ≡ last_number 4 fs

-- KvValue: data 1, encoding 2
abbrev pub value_of : Parts → Value
value_of parts = record { bytes = parts.bytes1.now; encoding = int32 parts.number2 }

-- KvEntry: key 1, value 2, encoding 3, versionstamp 4
abbrev pub entry_of : Parts → KvEntry
entry_of parts = record {
  key = parts.bytes1.now;
  value = parts.bytes2.now;
  encoding = int32 parts.number3;
  versionstamp = parts.bytes4.now;
}
