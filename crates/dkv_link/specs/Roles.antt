-- What a held link has yet to do with its flag after a call.
use Rattle.dkv_link.specs.declared.held_link.Role.{Role}
use Rattle.dkv_link.specs.declared.held_link.Role.TheVariants.{Sets, Awaits, Free}

-- one that awaits the flag does so in one read
abbrev pub after_read : Role → Role
after_read Sets = Sets
after_read Awaits = Free
after_read Free = Free

-- one that sets the flag does so in one write
abbrev pub after_write : Role → Role
after_write Sets = Free
after_write Awaits = Awaits
after_write Free = Free
